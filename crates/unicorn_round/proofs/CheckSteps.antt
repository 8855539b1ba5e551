-- Checking line by line.
use Rattle.std.proofs.Common.{◌≡◌, ◌+◌, ◌<◌, ◌≤◌, ℕ, Bool, true, false, List, [], ◌∷◌, ◌++◌, map, filter, None, Some, is_some, if◌then◌else◌, nat_lt, refl, ap, sym, ◌∙◌, subst, arith, append-nil, length-append}
use Rattle.std.proofs.lemmas.List.Elements.{filter-append}
use Rattle.uni_schema.specs.Schema.{Declarations}
use Rattle.uni_table.specs.declared.command.Command.{Command}
use Rattle.uni_table.specs.declared.refusal.FeedRefusal.{FeedRefusal}
use Rattle.uni_table.specs.Commands.{next, refuses}
use Rattle.uni_table.specs.Contents.{ended}
use Rattle.uni_table.specs.Journals.{fold_of, first}
use Rattle.uni_table.specs.Refusals.{code_of}
use Rattle.query_check.specs.Plan.{Plan}
use Rattle.uni_meaning.specs.Replies.{reply_of}
use Rattle.uni_meaning.specs.declared.reply.Hit.{Hit}
use Rattle.reply_text.specs.declared.answer.Answer.{Answer}
use Rattle.reply_text.specs.declared.answer.Answer.TheVariants.{Published, Refused, Fault, QueryFault, Memory}
use Rattle.reply_text.specs.declared.answer.StackRow.{StackRow}
use Rattle.reply_text.specs.Lines.{text_of}
use Rattle.reply_text.specs.Printed.{hit_line, stack_line, lines_of_answers, answers_text}
use Rattle.script_rounds.specs.Entries.{Entry, change, publish, ask, compact, stats, refused, fault, query_fault, reads_query, line_of}
use Rattle.script_rounds.specs.Terms.{Terms}
use Rattle.unicorn_round.specs.declared.stacks.StackCover.{StackCover}
use Rattle.unicorn_round.specs.Answers.{Standing, opening_standing, after_entry, after_entries, after_rounds, at_end, entry_answers, entries_answers, round_answers, replies}
use Rattle.unicorn_round.specs.Checking.{is_checked, checked_lines, checked_text}
use Rattle.unicorn_round.specs.CheckState.{CheckState, ChecksFor, EntryChecked, EntriesChecked, RoundsChecked, check_terms, opening_check}
use Rattle.round_feed.specs.Feeds.{made, changed, published, publish_answers, refusal_answers, too_many_publishes}
use Rattle.unicorn_round.specs.Marks.{Mark, lacking, RoundRecord}
use Rattle.unicorn_round.specs.Plain.{plain_mark}
use Rattle.unicorn_round.specs.Records.{IsMarked}
use Rattle.unicorn_round.specs.Stacks.{is_due, rows_of, tidy_answer, tidy_answers}
use Rattle.unicorn_round.proofs.LineByLine.{none_done, one_more_done, marks_each, round_more_done}
use Rattle.unicorn_round.proofs.SerialSteps.{lt_true, lt_false, after_lacking, reading_lacks, reading_may}
use Rattle.round_feed.proofs.Steps.{given-snoc}
use Rattle.unicorn_round.proofs.Texts.{text_of-append, lines_of_answers-append}

-- the lines of hits, of stacks and of what a round's end does are none that `check` writes
hits_unchecked : (schema : Declarations) (hits : List Hit) → filter is_checked (map (hit_line schema) hits) ≡ []
hits_unchecked schema [] = refl
hits_unchecked schema (hit ∷ hits) = hits_unchecked schema hits

rows_unchecked : (schema : Declarations) (rows : List StackRow) → filter is_checked (map (stack_line schema) rows) ≡ []
rows_unchecked schema [] = refl
rows_unchecked schema (row ∷ rows) = rows_unchecked schema rows

tidied_unchecked : (schema : Declarations) (number : ℕ) (covers : List StackCover) → checked_lines schema (tidy_answers number [] covers) ≡ []
tidied_unchecked schema number [] = refl
tidied_unchecked schema number (cover ∷ covers) = by (tidied_unchecked schema number covers) (is_due number cover)
  where
    by : checked_lines schema (tidy_answers number [] covers) ≡ []
        → (b : Bool) → checked_lines schema (map (tidy_answer number []) (if b then cover ∷ filter (is_due number) covers else filter (is_due number) covers)) ≡ []
    by rest true = rest
    by rest false = rest

reply_unchecked : (schema : Declarations) (journal : List (List Command)) (line viewer limit : ℕ) (query : Plan) (number : ℕ) → checked_lines schema (replies schema journal line viewer limit query number) ≡ []
reply_unchecked schema journal line viewer limit query number =
    let hits = (reply_of schema (fold_of schema (first journal number)) number query viewer limit).hits in
    ap (filter is_checked) (append-nil (map (hit_line schema) hits)) ∙ hits_unchecked schema hits

-- lines in two parts
pub checked_lines-append : (schema : Declarations) (xs ys : List Answer) → checked_lines schema (xs ++ ys) ≡ checked_lines schema xs ++ checked_lines schema ys
checked_lines-append schema xs ys = ap (filter is_checked) (lines_of_answers-append schema xs ys) ∙ filter-append is_checked (lines_of_answers schema xs) (lines_of_answers schema ys)

pub checked_text-append : (schema : Declarations) (xs ys : List Answer) → checked_text schema (xs ++ ys) ≡ checked_text schema xs ++ checked_text schema ys
checked_text-append schema xs ys = ap text_of (checked_lines-append schema xs ys) ∙ text_of-append (checked_lines schema xs) (checked_lines schema ys)

-- an entry that has no effect
stays : (state : CheckState) (s : Standing) → ChecksFor state s → ChecksFor state (record { feed = s.feed; covers = s.covers })
stays state s st = record { table = st.table; publishes = st.publishes }

-- a change that is taken
pub check_changed : (old new : CheckState) (s : Standing) (line : ℕ) (command : Command) → ChecksFor old s → refuses old.terms.schema old.terms.limits old.table command ≡ None
    → new ≡ record old { table = next old.terms.schema old.table command } → EntryChecked old.terms s (change line command) new []
check_changed old new s line command st none is =
    subst (λ n. EntryChecked old.terms s (change line command) n []) (sym is) (record {
      lacks = false;
      marked = tt;
      stands = subst (λ f. ChecksFor (record old { table = next old.terms.schema old.table command }) (record { feed = f; covers = s.covers })) (sym taken)
          (record { table = ap (λ t. next old.terms.schema t command) st.table; publishes = st.publishes });
      lines = λ end. ap (λ r. checked_lines old.terms.schema (refusal_answers line r)) here;
    })
  where
    here : refuses old.terms.schema old.terms.limits s.feed.table command ≡ None
    here = ap (λ t. refuses old.terms.schema old.terms.limits t command) (sym st.table) ∙ none

    taken : changed old.terms s.feed command ≡ record { journal = s.feed.journal; batch = s.feed.batch ++ command ∷ []; table = next old.terms.schema s.feed.table command }
    taken =
        ap (λ r. if is_some r then s.feed else record { journal = s.feed.journal; batch = s.feed.batch ++ command ∷ []; table = next old.terms.schema s.feed.table command }) here

-- a change that is refused, with its code
pub check_refused : (state : CheckState) (s : Standing) (line : ℕ) (command : Command) (refusal : FeedRefusal) (code : ℕ) → ChecksFor state s
    → refuses state.terms.schema state.terms.limits state.table command ≡ Some refusal → code_of refusal ≡ Some code
    → EntryChecked state.terms s (change line command) state (Refused line code ∷ [])
check_refused state s line command refusal code st some is = record {
  lacks = false;
  marked = tt;
  stands = subst (λ f. ChecksFor state (record { feed = f; covers = s.covers })) (sym same) (stays state s st);
  lines = λ end. ap (checked_lines state.terms.schema) (ap (refusal_answers line) here ∙ coded);
}
  where
    here : refuses state.terms.schema state.terms.limits s.feed.table command ≡ Some refusal
    here = ap (λ t. refuses state.terms.schema state.terms.limits t command) (sym st.table) ∙ some

    same : changed state.terms s.feed command ≡ s.feed
    same =
        ap (λ r. if is_some r then s.feed else record { journal = s.feed.journal; batch = s.feed.batch ++ command ∷ []; table = next state.terms.schema s.feed.table command }) here

    coded : refusal_answers line (Some refusal) ≡ Refused line code ∷ []
    coded = rw is refl

-- an entry for which memory was wanting
pub check_lacking : (state : CheckState) (s : Standing) (entry : Entry) → ChecksFor state s → IsMarked entry lacking → plain_mark (made s.feed) entry true ≡ lacking
    → EntryChecked state.terms s entry state (Memory (line_of entry) ∷ [])
check_lacking state s entry st able may = record {
  lacks = true;
  marked = subst (IsMarked entry) (sym may) able;
  stands = subst (λ m. ChecksFor state (after_entry state.terms s entry m)) (sym may) (subst (ChecksFor state) (sym (after_lacking state.terms s entry)) st);
  lines = λ end. ap (λ m. checked_lines state.terms.schema (entry_answers state.terms (replies state.terms.schema) end s.feed entry m)) may;
}

-- a query that was read without memory
pub check_unread : (state : CheckState) (s : Standing) (entry : Entry) (line : ℕ) → ChecksFor state s → (reads_query entry ≡ true) × (line_of entry ≡ line)
    → EntryChecked state.terms s entry state (Memory line ∷ [])
check_unread state s entry line st is =
    subst (λ l. EntryChecked state.terms s entry state (Memory l ∷ [])) is.1 (check_lacking state s entry st (reading_lacks entry is.0) (reading_may (made s.feed) entry is.0))

-- a publish
pub check_published : (old new : CheckState) (s : Standing) (line : ℕ) → ChecksFor old s → old.publishes < old.terms.limits.publishes
    → new ≡ record old { table = ended old.table (old.publishes + 1); publishes = old.publishes + 1 } → EntryChecked old.terms s (publish line) new []
check_published old new s line st fewer is =
    subst (λ n. EntryChecked old.terms s (publish line) n []) (sym is) (record {
      lacks = false;
      marked = tt;
      stands = subst (λ f. ChecksFor (record old { table = ended old.table (old.publishes + 1); publishes = old.publishes + 1 }) (record { feed = f; covers = s.covers })) (sym feed_is) (record {
        table = ap (λ t. ended t (old.publishes + 1)) st.table ∙ ap (λ n. ended s.feed.table (n + 1)) st.publishes;
        publishes = omega (arith, st.publishes, length-append s.feed.journal (s.feed.batch ∷ []));
      });
      lines = λ end. ap (checked_lines old.terms.schema) answers_is;
    })
  where
    room : nat_lt (made s.feed) old.terms.limits.publishes ≡ true
    room = lt_true (made s.feed) old.terms.limits.publishes (omega (arith, fewer, st.publishes))

    feed_is : published old.terms s.feed ≡ record { journal = s.feed.journal ++ s.feed.batch ∷ []; batch = []; table = ended s.feed.table (made s.feed + 1) }
    feed_is = ap (λ b. if b then record { journal = s.feed.journal ++ s.feed.batch ∷ []; batch = []; table = ended s.feed.table (made s.feed + 1) } else s.feed) room

    answers_is : publish_answers old.terms s.feed line ≡ Published line (made s.feed + 1) ∷ []
    answers_is = ap (λ b. if b then Published line (made s.feed + 1) ∷ [] else Refused line too_many_publishes ∷ []) room

-- a publish at the limit
pub check_full : (state : CheckState) (s : Standing) (line : ℕ) → ChecksFor state s → state.terms.limits.publishes ≤ state.publishes
    → EntryChecked state.terms s (publish line) state (Refused line too_many_publishes ∷ [])
check_full state s line st full = record {
  lacks = false;
  marked = tt;
  stands = subst (λ f. ChecksFor state (record { feed = f; covers = s.covers })) (sym feed_is) (stays state s st);
  lines = λ end. ap (checked_lines state.terms.schema) answers_is;
}
  where
    room : nat_lt (made s.feed) state.terms.limits.publishes ≡ false
    room = lt_false (made s.feed) state.terms.limits.publishes (omega (arith, full, st.publishes))

    feed_is : published state.terms s.feed ≡ s.feed
    feed_is = ap (λ b. if b then record { journal = s.feed.journal ++ s.feed.batch ∷ []; batch = []; table = ended s.feed.table (made s.feed + 1) } else s.feed) room

    answers_is : publish_answers state.terms s.feed line ≡ Refused line too_many_publishes ∷ []
    answers_is = ap (λ b. if b then Published line (made s.feed + 1) ∷ [] else Refused line too_many_publishes ∷ []) room

-- lines of which `check` writes nothing
pub check_asked : (state : CheckState) (s : Standing) (line session viewer limit : ℕ) (query : Plan) → ChecksFor state s → EntryChecked state.terms s (ask line session viewer limit query) state []
check_asked state s line session viewer limit query st = record {
  lacks = false;
  marked = tt;
  stands = stays state s st;
  lines = λ end. reply_unchecked state.terms.schema end.feed.journal line viewer limit query (made s.feed);
}

pub check_compacted : (state : CheckState) (s : Standing) (line vertical shard replica : ℕ) → ChecksFor state s → EntryChecked state.terms s (compact line vertical shard replica) state []
check_compacted state s line vertical shard replica st = record {
  lacks = false;
  marked = tt;
  stands = record { table = st.table; publishes = st.publishes };
  lines = λ end. refl;
}

pub check_counted : (state : CheckState) (s : Standing) (line : ℕ) → ChecksFor state s → EntryChecked state.terms s (stats line) state []
check_counted state s line st = record {
  lacks = false;
  marked = refl;
  stands = stays state s st;
  lines = λ end.
      let rows = rows_of (made end.feed) end.covers in
      ap (filter is_checked) (append-nil (map (stack_line state.terms.schema) rows)) ∙ rows_unchecked state.terms.schema rows;
}

-- lines that are wrong by their form
pub check_bad : (state : CheckState) (s : Standing) (line code : ℕ) → ChecksFor state s → EntryChecked state.terms s (refused line code) state (Refused line code ∷ [])
check_bad state s line code st = record { lacks = false; marked = refl; stands = stays state s st; lines = λ end. refl }

pub check_fault : (state : CheckState) (s : Standing) (line code : ℕ) → ChecksFor state s → EntryChecked state.terms s (fault line code) state (Fault line code ∷ [])
check_fault state s line code st = record { lacks = false; marked = refl; stands = stays state s st; lines = λ end. refl }

pub check_query : (state : CheckState) (s : Standing) (line code column : ℕ) → ChecksFor state s → EntryChecked state.terms s (query_fault line code column) state (QueryFault line code column ∷ [])
check_query state s line code column st = record { lacks = false; marked = tt; stands = stays state s st; lines = λ end. refl }

-- no entry yet
pub none_checked : (state : CheckState) (s : Standing) → ChecksFor state s → EntriesChecked state.terms s [] state []
none_checked state s st = record { marks = []; done = none_done ChecksFor state.terms s state st; writes = λ end. refl }

-- and one more
pub one_more_checked : (terms : Terms) (s : Standing) (entries : List Entry) (entry : Entry) (mid after : CheckState) (text : List ℕ) (shown : List Answer) (a : EntriesChecked terms s entries mid text)
    → EntryChecked terms (after_entries terms s entries a.marks) entry after shown → EntriesChecked terms s (entries ++ entry ∷ []) after (text ++ answers_text terms.schema shown)
one_more_checked terms s entries entry mid after text shown a b = record {
  marks = a.marks ++ mark ∷ [];
  done = one_more_done ChecksFor terms s entries a.marks entry mid after b.lacks a.done b.marked b.stands;
  writes = λ end.
      ap (λ t. t ++ answers_text terms.schema shown) (a.writes end)
      ∙ ap (λ ls. checked_text terms.schema (entries_answers terms (replies terms.schema) end s entries a.marks) ++ text_of ls) (sym (b.lines end))
      ∙ sym (checked_text-append terms.schema (entries_answers terms (replies terms.schema) end s entries a.marks) (entry_answers terms (replies terms.schema) end now.feed entry mark))
      ∙ ap (checked_text terms.schema) (sym (given-snoc (after_entry terms) (λ at. entry_answers terms (replies terms.schema) end at.feed) s entries a.marks entry mark (marks_each ChecksFor terms s entries a.marks mid a.done)));
}
  where
    now : Standing
    now = after_entries terms s entries a.marks

    mark : Mark
    mark = plain_mark (made now.feed) entry b.lacks

-- no round yet
pub no_rounds_checked : (terms : Terms) → RoundsChecked terms [] (opening_check terms) []
no_rounds_checked terms = record { is_under = refl; lacks = []; one_each = refl; told = []; is = refl; is_record = tt; there = record { table = refl; publishes = refl }; writes = refl }

-- and one more
pub round_checked : (terms : Terms) (rounds : List (List Entry)) (entries : List Entry) (before after : CheckState) (text more : List ℕ)
    (r : RoundsChecked terms rounds before text) → EntriesChecked terms (after_rounds terms (opening_standing terms) rounds r.told) entries after more → after.terms ≡ terms
    → RoundsChecked terms (rounds ++ entries ∷ []) after (text ++ more)
round_checked terms rounds entries before after text more r a under =
    round_more_done ChecksFor terms check_terms checked_text (checked_text-append terms.schema) rounds entries a.marks before after after text more r a.done under
    (record { table = a.done.there.table; publishes = a.done.there.publishes }) (a.writes (at_end one last) ∙ sym round_is)
  where
    now : Standing
    now = after_rounds terms (opening_standing terms) rounds r.told

    one : RoundRecord
    one = record { marks = a.marks; untidied = [] }

    last : Standing
    last = after_entries terms now entries a.marks

    lines : List Answer
    lines = entries_answers terms (replies terms.schema) (at_end one last) now entries a.marks

    round_is : checked_text terms.schema (round_answers terms (replies terms.schema) now entries one) ≡ checked_text terms.schema lines
    round_is =
        ap text_of (checked_lines-append terms.schema lines (tidy_answers (made last.feed) [] last.covers)
        ∙ ap (λ ls. checked_lines terms.schema lines ++ ls) (tidied_unchecked terms.schema (made last.feed) last.covers)
        ∙ append-nil (checked_lines terms.schema lines))
