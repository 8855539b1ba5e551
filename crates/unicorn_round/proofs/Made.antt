-- What rounds publish is a journal.
use Rattle.std.proofs.Common.{◌≡◌, ◌+◌, ◌≤◌, Bool, true, false, List, [], ◌∷◌, ◌++◌, Option, None, Some, is_some, if◌then◌else◌, nat_lt, refl, ap, sym, ◌∙◌, arith, length-append}
use Rattle.std.proofs.lemmas.Bool.Decides.{nat_tests}
use Rattle.uni_table.specs.declared.refusal.FeedRefusal.{FeedRefusal}
use Rattle.uni_table.specs.Commands.{next, refuses}
use Rattle.uni_table.specs.Contents.{ended, empty}
use Rattle.uni_table.specs.Journals.{IsJournal, fold_of}
use Rattle.script_rounds.specs.Entries.{Entry, change, publish, ask, compact, stats, refused, fault, query_fault}
use Rattle.script_rounds.specs.Terms.{Terms}
use Rattle.unicorn_round.specs.Answers.{Standing, opening_standing, after_entry, after_entries, after_round, after_rounds}
use Rattle.round_feed.specs.Feeds.{Feed, made, fed_one}
use Rattle.unicorn_round.specs.Laws.{RoundsMakeJournals}
use Rattle.unicorn_round.specs.Marks.{Mark, lacks, Record}
use Rattle.unicorn_round.specs.SerialState.{IsFeed}
use Rattle.unicorn_round.proofs.JournalSteps.{after_commands-snoc, accepts_commands-snoc, accepts_batches-snoc, fold_of-snoc}

-- a feed that is one, whose journal is accepted and not too long
record IsMade (terms : Terms) (feed : Feed) : Type 0 where
  pub is : IsFeed terms feed
  pub journal : IsJournal terms.schema terms.limits feed.journal
  pub few : made feed ≤ terms.limits.publishes

module _ (terms : Terms) where
  fed_made : (feed : Feed) (entry : Entry) (marked : Bool) → IsMade terms feed → IsMade terms (fed_one terms feed entry marked)
  fed_made feed (change line command) true m = m
  fed_made feed (change line command) false m = by (refuses terms.schema terms.limits feed.table command) refl
    where
      by : (o : Option FeedRefusal) → refuses terms.schema terms.limits feed.table command ≡ o
          → IsMade terms (if is_some o then feed else record { journal = feed.journal; batch = feed.batch ++ command ∷ []; table = next terms.schema feed.table command })
      by None none = record {
        is = record {
          table = ap (λ t. next terms.schema t command) m.is.table ∙ sym (after_commands-snoc terms.schema (fold_of terms.schema feed.journal) feed.batch command);
          accepted = accepts_commands-snoc terms.schema terms.limits (fold_of terms.schema feed.journal) feed.batch command m.is.accepted
              (ap (λ t. refuses terms.schema terms.limits t command) (sym m.is.table) ∙ none);
        };
        journal = m.journal;
        few = m.few;
      }
      by (Some refusal) some = m
  fed_made feed (publish line) true m = m
  fed_made feed (publish line) false m = by (nat_lt (made feed) terms.limits.publishes) refl
    where
      by : (b : Bool) → nat_lt (made feed) terms.limits.publishes ≡ b
          → IsMade terms (if b then record { journal = feed.journal ++ feed.batch ∷ []; batch = []; table = ended feed.table (made feed + 1) } else feed)
      by true room = record {
        is = record {
          table = ap (λ t. ended t (made feed + 1)) m.is.table ∙ sym (fold_of-snoc terms.schema feed.journal feed.batch);
          accepted = refl;
        };
        journal = accepts_batches-snoc terms.schema terms.limits empty 0 feed.journal feed.batch m.journal m.is.accepted;
        few =
            let below : made feed + 1 ≤ terms.limits.publishes = grind (arith, nat_tests) in
            omega (arith, below, length-append feed.journal (feed.batch ∷ []));
      }
      by false full = m
  fed_made feed (ask line session viewer limit query) marked m = m
  fed_made feed (compact line vertical shard replica) marked m = m
  fed_made feed (stats line) marked m = m
  fed_made feed (refused line code) marked m = m
  fed_made feed (fault line code) marked m = m
  fed_made feed (query_fault line code column) marked m = m

  entries_made : (s : Standing) (entries : List Entry) (marks : List Mark) → IsMade terms s.feed → IsMade terms (after_entries terms s entries marks).feed
  entries_made s [] marks m = m
  entries_made s (entry ∷ entries) [] m = m
  entries_made s (entry ∷ entries) (mark ∷ marks) m = entries_made (after_entry terms s entry mark) entries marks (fed_made s.feed entry (lacks mark) m)

  rounds_made : (s : Standing) (rounds : List (List Entry)) (told : Record) → IsMade terms s.feed → IsMade terms (after_rounds terms s rounds told).feed
  rounds_made s [] told m = m
  rounds_made s (round ∷ rounds) [] m = m
  rounds_made s (round ∷ rounds) (one ∷ told) m = rounds_made (after_round terms s round one) rounds told (entries_made s round one.marks m)

  all_made : (rounds : List (List Entry)) (told : Record) → IsMade terms (after_rounds terms (opening_standing terms) rounds told).feed
  all_made rounds told =
      rounds_made (opening_standing terms) rounds told (record { is = record { table = refl; accepted = refl }; journal = refl; few = omega arith })

pub rounds_make_journals : RoundsMakeJournals
rounds_make_journals = record {
  journal = λ terms rounds told. (all_made terms rounds told).journal;
  few = λ terms rounds told. (all_made terms rounds told).few;
}
