-- Which records there are of a script's rounds.
use Rattle.std.specs.Prelude.{◌≡◌, List, ⊤}
use Rattle.script_rounds.specs.Entries.{Entry, change, publish, ask, compact, stats, refused, fault, query_fault}
use Rattle.script_rounds.specs.Terms.{Terms}
use Rattle.unicorn_round.specs.Answers.{Standing, opening_standing, after_entries, after_round}
use Rattle.round_feed.specs.Feeds.{made}
use Rattle.unicorn_round.specs.Marks.{Mark, plain, lacking, at, RoundRecord, Record}
use Rattle.unicorn_round.specs.Stacks.{due_untidied}
use Rattle.round_feed.specs.Steps.{Each}

-- nothing is said of a line, or memory was wanting for it
abbrev pub IsPlainOrLacking : Mark → Type 0
IsPlainOrLacking plain = ⊤
IsPlainOrLacking lacking = ⊤
IsPlainOrLacking (at number) = ⊥

-- a line has a number, or memory was wanting for it
abbrev pub IsNumberOrLacking : Mark → Type 0
IsNumberOrLacking plain = ⊥
IsNumberOrLacking lacking = ⊤
IsNumberOrLacking (at number) = ⊤

-- An entry has a mark: an `ask` and a `compact` a number; a change, a publish and a query at fault nothing;
-- for each of these memory may have been wanting. Of any other entry nothing is said.
abbrev pub IsMarked : Entry → Mark → Type 0
IsMarked (change line command) mark = IsPlainOrLacking mark
IsMarked (publish line) mark = IsPlainOrLacking mark
IsMarked (ask line session viewer limit query) mark = IsNumberOrLacking mark
IsMarked (compact line vertical shard replica) mark = IsNumberOrLacking mark
IsMarked (stats line) mark = mark ≡ plain
IsMarked (refused line code) mark = mark ≡ plain
IsMarked (fault line code) mark = mark ≡ plain
IsMarked (query_fault line code column) mark = IsPlainOrLacking mark

-- the entries of a round have marks, one each
abbrev pub AreMarked : List Entry → List Mark → Type 0
AreMarked entries marks = Each {S = Unit {0}} (λ none entry mark. none) (λ none. IsMarked) tt entries marks

-- of a round: its marks, and as untidied stacks some of those that are due at its end, each once and in
-- their order
pub record IsRoundRecord (terms : Terms) (s : Standing) (entries : List Entry) (told : RoundRecord) : Type 0 where
  pub marked : AreMarked entries told.marks
  pub untidied :
      told.untidied ≡ due_untidied (made (after_entries terms s entries told.marks).feed) told.untidied (after_entries terms s entries told.marks).covers

-- of rounds, from where the script stands
abbrev pub IsRecordFrom : Terms → Standing → List (List Entry) → Record → Type 0
IsRecordFrom terms s rounds told = Each (after_round terms) (IsRoundRecord terms) s rounds told

-- IsRecord: of the rounds of a script
abbrev pub IsRecord : Terms → List (List Entry) → Record → Type 0
IsRecord terms rounds told = IsRecordFrom terms (opening_standing terms) rounds told
