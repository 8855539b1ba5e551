-- What compactions do to what the stacks of a record cover.
use Rattle.std.specs.Prelude.{ℕ, Bool, true, ◌≡◌, ◌≤◌, if◌then◌else◌, List, map, max, ⊤}
use Rattle.std.specs.List.{AllByRecursion}
use Rattle.script_rounds.specs.Entries.{Entry, compact}
use Rattle.script_rounds.specs.Terms.{Terms}
use Rattle.round_feed.specs.Feeds.{made}
use Rattle.round_feed.specs.Steps.{Each}
use Rattle.unicorn_round.specs.declared.stacks.StackCover.{StackCover}
use Rattle.unicorn_round.specs.Answers.{Standing, after_entry, after_round}
use Rattle.unicorn_round.specs.Marks.{Mark, at, RoundRecord}
use Rattle.unicorn_round.specs.Stacks.{covering, is_stack}

-- a stack, which covers the greater of so many publishes and of what it covered where it is the one of these numbers
abbrev pub raised : ℕ → ℕ → ℕ → ℕ → StackCover → StackCover
raised vertical shard replica number cover = if is_stack vertical shard replica cover then record cover { covers = max cover.covers number } else cover

-- the stack of these numbers covers at most so many publishes
abbrev pub CoversAtMost : ℕ → ℕ → ℕ → ℕ → List StackCover → Type 0
CoversAtMost vertical shard replica number covers = AllByRecursion (λ cover. is_stack vertical shard replica cover ≡ true → cover.covers ≤ number) covers

-- A compaction that is answered at a number: that is at least what its stack covered, and at most what is made by the end
-- of its round. So the stack then covers the greater of both, as it does where the core of versions installs.
pub record Raises (end : ℕ) (covers : List StackCover) (vertical shard replica number : ℕ) : Type 0 where
  pub from : CoversAtMost vertical shard replica number covers
  pub to : number ≤ end
  pub greater : covering vertical shard replica number covers ≡ map (raised vertical shard replica number) covers

abbrev pub EntryRaises : ℕ → Standing → Entry → Mark → Type 0
EntryRaises end s (compact line vertical shard replica) (at number) = Raises end s.covers vertical shard replica number
EntryRaises end s entry mark = ⊤

-- each compaction of a round does so, and no stack covers more at the round's end than was made by then
pub record RoundRaises (terms : Terms) (s : Standing) (entries : List Entry) (told : RoundRecord) : Type 0 where
  pub compactions : Each (after_entry terms) (EntryRaises (made (after_round terms s entries told).feed)) s entries told.marks
  pub within : AllByRecursion (λ cover. cover.covers ≤ made (after_round terms s entries told).feed) (after_round terms s entries told).covers
