-- Answering line by line: the entries of a round, and its end.
use Rattle.std.proofs.Common.{◌≡◌, ◌+◌, ℕ, Bool, true, false, List, [], ◌∷◌, ◌++◌, length, map, filter, if◌then◌else◌, is_some, nat_lt, refl, ap, sym, ◌∙◌, subst}
use Rattle.uni_table.specs.Commands.{next, refuses}
use Rattle.uni_table.specs.Contents.{ended}
use Rattle.reply_text.specs.declared.answer.Answer.{Answer}
use Rattle.reply_text.specs.Printed.{answers_text}
use Rattle.script_rounds.specs.Entries.{Entry, change, publish, ask, compact, stats, refused, fault, query_fault}
use Rattle.script_rounds.specs.Terms.{Terms}
use Rattle.unicorn_round.specs.declared.stacks.StackCover.{StackCover}
use Rattle.unicorn_round.specs.Answers.{Standing, opening_standing, after_entry, after_entries, after_rounds, at_end, answers, entry_answers, entries_answers, round_answers, replies}
use Rattle.round_feed.specs.Feeds.{Feed, made, fed_one}
use Rattle.unicorn_round.specs.Marks.{Mark, lacks, RoundRecord}
use Rattle.unicorn_round.specs.Plain.{plain_mark}
use Rattle.unicorn_round.specs.SerialState.{SerialState, StandsFor, Answered, AllAnswered, RoundsAnswered, IsLater, filled, filled_at, opening_serial, serial_terms}
use Rattle.unicorn_round.specs.Stacks.{is_due, tidy, tidy_answer, tidy_answers}
use Rattle.unicorn_round.proofs.LineByLine.{none_done, one_more_done, marks_each, round_more_done}
use Rattle.unicorn_round.proofs.Lists.{map_append}
use Rattle.unicorn_round.proofs.JournalSteps.{later-refl, later-trans}
use Rattle.round_feed.proofs.Steps.{after-snoc, given-snoc}
use Rattle.unicorn_round.proofs.Texts.{answers_text-append}

-- an entry leaves a journal as it is, or makes it longer
fed_later : (terms : Terms) (feed : Feed) (entry : Entry) (marked : Bool) → IsLater feed.journal (fed_one terms feed entry marked).journal
fed_later terms feed (change line command) true = later-refl feed.journal
fed_later terms feed (change line command) false = by (is_some (refuses terms.schema terms.limits feed.table command))
  where
    by : (b : Bool)
        → IsLater feed.journal (if b then feed else record { journal = feed.journal; batch = feed.batch ++ command ∷ []; table = next terms.schema feed.table command }).journal
    by true = later-refl feed.journal
    by false = later-refl feed.journal
fed_later terms feed (publish line) true = later-refl feed.journal
fed_later terms feed (publish line) false = by (nat_lt (made feed) terms.limits.publishes)
  where
    by : (b : Bool)
        → IsLater feed.journal (if b then record { journal = feed.journal ++ feed.batch ∷ []; batch = []; table = ended feed.table (made feed + 1) } else feed).journal
    by true = (feed.batch ∷ [], refl)
    by false = later-refl feed.journal
fed_later terms feed (ask line session viewer limit query) marked = later-refl feed.journal
fed_later terms feed (compact line vertical shard replica) marked = later-refl feed.journal
fed_later terms feed (stats line) marked = later-refl feed.journal
fed_later terms feed (refused line code) marked = later-refl feed.journal
fed_later terms feed (fault line code) marked = later-refl feed.journal
fed_later terms feed (query_fault line code column) marked = later-refl feed.journal

pub entry_later : (terms : Terms) (s : Standing) (entry : Entry) (mark : Mark) → IsLater s.feed.journal (after_entry terms s entry mark).feed.journal
entry_later terms s entry mark = fed_later terms s.feed entry (lacks mark)

-- no entry yet
pub none_answered : (serving : SerialState) (s : Standing) → StandsFor serving s → AllAnswered serving.terms s [] serving []
none_answered serving s st = record { marks = []; done = none_done StandsFor serving.terms s serving st; answers = λ end later. refl }

-- and one more
pub one_more_answered : (terms : Terms) (s : Standing) (entries : List Entry) (entry : Entry) (mid after : SerialState) (drafts more : List Answer) (a : AllAnswered terms s entries mid drafts)
    → Answered terms (after_entries terms s entries a.marks) entry after more → AllAnswered terms s (entries ++ entry ∷ []) after (drafts ++ more)
one_more_answered terms s entries entry mid after drafts more a b = record {
  marks = a.marks ++ mark ∷ [];
  done = one_more_done StandsFor terms s entries a.marks entry mid after b.lacks a.done b.marked b.stands;
  answers = λ end later.
      map_append (filled end) drafts more
      ∙ ap (λ xs. xs ++ map (filled end) more) (a.answers end (earlier end later))
      ∙ ap (λ xs. entries_answers terms (replies terms.schema) end s entries a.marks ++ xs) (b.answers end (earlier end later))
      ∙ sym (given-snoc (after_entry terms) (λ at. entry_answers terms (replies terms.schema) end at.feed) s entries a.marks entry mark one_each);
}
  where
    now : Standing
    now = after_entries terms s entries a.marks

    mark : Mark
    mark = plain_mark (made now.feed) entry b.lacks

    one_each : length a.marks ≡ length entries
    one_each = marks_each StandsFor terms s entries a.marks mid a.done

    last : after_entries terms s (entries ++ entry ∷ []) (a.marks ++ mark ∷ []) ≡ after_entry terms now entry mark
    last = after-snoc (after_entry terms) s entries a.marks entry mark one_each

    earlier : (end : Standing) → IsLater (after_entries terms s (entries ++ entry ∷ []) (a.marks ++ mark ∷ [])).feed.journal end.feed.journal
        → IsLater now.feed.journal end.feed.journal
    earlier end later =
        later-trans now.feed.journal (after_entry terms now entry mark).feed.journal end.feed.journal (entry_later terms now entry mark)
        (subst (λ (at : Standing). IsLater at.feed.journal end.feed.journal) last later)

-- the answers of stacks at a round's end stay as they are
tidied_filled : (end : Standing) (number : ℕ) (covers : List StackCover) → map (filled end) (tidy_answers number [] covers) ≡ tidy_answers number [] covers
tidied_filled end number [] = refl
tidied_filled end number (cover ∷ covers) = by (tidied_filled end number covers) (is_due number cover)
  where
    by : map (filled end) (tidy_answers number [] covers) ≡ tidy_answers number [] covers
        → (b : Bool) → map (filled end) (map (tidy_answer number []) (if b then cover ∷ filter (is_due number) covers else filter (is_due number) covers))
        ≡ map (tidy_answer number []) (if b then cover ∷ filter (is_due number) covers else filter (is_due number) covers)
    by rest true = ap (λ others. tidy_answer number [] cover ∷ others) rest
    by rest false = rest

-- nothing was answered yet
pub no_rounds : (terms : Terms) → RoundsAnswered terms [] (opening_serial terms) []
no_rounds terms = record {
  is_under = refl;
  lacks = [];
  one_each = refl;
  told = [];
  is = refl;
  is_record = tt;
  there = record { pending = refl; batch = refl; published = refl; publishes = refl; covers = refl; feed = record { table = refl; accepted = refl } };
  writes = refl;
}

-- a round's end
pub round_more : (terms : Terms) (rounds : List (List Entry)) (entries : List Entry) (before mid after : SerialState) (drafts : List Answer) (text more : List ℕ)
    (r : RoundsAnswered terms rounds before text) → AllAnswered terms (after_rounds terms (opening_standing terms) rounds r.told) entries mid drafts → mid.terms ≡ terms
    → after ≡ record mid { covers = map (tidy mid.publishes []) mid.covers }
    → more ≡ answers_text terms.schema (map (filled_at after.publishes after.covers) (drafts ++ tidy_answers mid.publishes [] mid.covers))
    → RoundsAnswered terms (rounds ++ entries ∷ []) after (text ++ more)
round_more terms rounds entries before mid after drafts text more r a under is writes =
    round_more_done StandsFor terms serial_terms answers_text (answers_text-append terms.schema) rounds entries a.marks before mid after text more r a.done
    (ap (λ (n : SerialState). n.terms) is ∙ under) ended_stands (writes ∙ ap (answers_text terms.schema) (filled_is ∙ round_is))
  where
    now : Standing
    now = after_rounds terms (opening_standing terms) rounds r.told

    one : RoundRecord
    one = record { marks = a.marks; untidied = [] }

    last : Standing
    last = after_entries terms now entries a.marks

    at_last : StandsFor mid last
    at_last = a.done.there

    covers_are : map (tidy mid.publishes []) mid.covers ≡ map (tidy (made last.feed) []) last.covers
    covers_are = ap (λ n. map (tidy n []) mid.covers) at_last.publishes ∙ ap (map (tidy (made last.feed) [])) at_last.covers

    ended_stands : StandsFor after (at_end one last)
    ended_stands = subst (λ n. StandsFor n (at_end one last)) (sym is) (record {
      pending = at_last.pending;
      batch = at_last.batch;
      published = at_last.published;
      publishes = at_last.publishes;
      covers = covers_are;
      feed = at_last.feed;
    })

    filled_is : map (filled_at after.publishes after.covers) (drafts ++ tidy_answers mid.publishes [] mid.covers)
        ≡ map (filled (at_end one last)) (drafts ++ tidy_answers (made last.feed) [] last.covers)
    filled_is =
        ap (λ (n : SerialState). map (filled_at n.publishes n.covers) (drafts ++ tidy_answers mid.publishes [] mid.covers)) is
        ∙ ap (λ n. map (filled_at n (map (tidy mid.publishes []) mid.covers)) (drafts ++ tidy_answers mid.publishes [] mid.covers)) at_last.publishes
        ∙ ap (λ cs. map (filled_at (made last.feed) cs) (drafts ++ tidy_answers mid.publishes [] mid.covers)) covers_are
        ∙ ap (λ n. map (filled (at_end one last)) (drafts ++ tidy_answers n [] mid.covers)) at_last.publishes
        ∙ ap (λ cs. map (filled (at_end one last)) (drafts ++ tidy_answers (made last.feed) [] cs)) at_last.covers

    round_is : map (filled (at_end one last)) (drafts ++ tidy_answers (made last.feed) [] last.covers) ≡ round_answers terms (replies terms.schema) now entries one
    round_is =
        map_append (filled (at_end one last)) drafts (tidy_answers (made last.feed) [] last.covers)
        ∙ ap (λ xs. xs ++ map (filled (at_end one last)) (tidy_answers (made last.feed) [] last.covers)) (a.answers (at_end one last) (later-refl last.feed.journal))
        ∙ ap (λ xs. entries_answers terms (replies terms.schema) (at_end one last) now entries a.marks ++ xs) (tidied_filled (at_end one last) (made last.feed) last.covers)
