-- What a record may state.
use Rattle.std.specs.Prelude.{ℕ, Bool, ◌≤◌, ◌&&◌, ◌==◌, false, if◌then◌else◌, List, [], ◌∷◌, ◌++◌, ⊤}
use Rattle.script_rounds.specs.Entries.{Entry, ask, compact}
use Rattle.script_rounds.specs.Terms.{Terms}
use Rattle.unicorn_round.specs.Answers.{Standing, opening_standing, after_round}
use Rattle.round_feed.specs.Feeds.{made}
use Rattle.unicorn_round.specs.Marks.{Mark, plain, lacking, at, RoundRecord, Record}
use Rattle.round_feed.specs.Steps.{Each}

-- each number is from low to high
abbrev pub AreWithin : ℕ → ℕ → List Mark → Type 0
AreWithin low high [] = ⊤
AreWithin low high (plain ∷ marks) = AreWithin low high marks
AreWithin low high (lacking ∷ marks) = AreWithin low high marks
AreWithin low high (at number ∷ marks) = (low ≤ number) × (number ≤ high) × AreWithin low high marks

-- each number of a round is at least the publishes that were made before the round, and at most those that
-- were made up to its end
abbrev pub IsMade : Terms → Standing → List Entry → RoundRecord → Type 0
IsMade terms s round told = AreWithin (made s.feed) (made (after_round terms s round told).feed) told.marks

abbrev pub AreMade : Terms → Standing → List (List Entry) → Record → Type 0
AreMade terms s rounds told = Each (after_round terms) (IsMade terms) s rounds told

-- the numbers of the entries that pass a test, in the order of lines
abbrev pub numbers_in : (Entry → Bool) → List Entry → List Mark → List ℕ
numbers_in test [] marks = []
numbers_in test (entry ∷ entries) [] = []
numbers_in test (entry ∷ entries) (plain ∷ marks) = numbers_in test entries marks
numbers_in test (entry ∷ entries) (lacking ∷ marks) = numbers_in test entries marks
numbers_in test (entry ∷ entries) (at number ∷ marks) =
    if test entry then number ∷ numbers_in test entries marks else numbers_in test entries marks

abbrev pub all_numbers : (Entry → Bool) → List (List Entry) → Record → List ℕ
all_numbers test [] told = []
all_numbers test (round ∷ rounds) [] = []
all_numbers test (round ∷ rounds) (one ∷ told) = numbers_in test round one.marks ++ all_numbers test rounds told

-- whether a line is an `ask` of a session, and whether it compacts a stack
abbrev pub asks_in : ℕ → Entry → Bool
asks_in session (ask line s viewer limit query) = s == session
asks_in session entry = false

abbrev pub compacts : ℕ → ℕ → ℕ → Entry → Bool
compacts vertical shard replica (compact line v s r) = (v == vertical) && (s == shard) && (r == replica)
compacts vertical shard replica entry = false

-- no number is below one before it
abbrev pub NoneFalls : List ℕ → Type 0
NoneFalls [] = ⊤
NoneFalls (n ∷ []) = ⊤
NoneFalls (n ∷ m ∷ ns) = (n ≤ m) × NoneFalls (m ∷ ns)

-- numbers that do not fall, the first of them at least low, and the last at most high
abbrev pub Between : ℕ → ℕ → List ℕ → Type 0
Between low high [] = low ≤ high
Between low high (n ∷ ns) = (low ≤ n) × Between n high ns

-- Legal: the numbers of each round are within its bounds, and those of one session, and those of one stack,
-- do not fall from line to line
pub record Legal (terms : Terms) (rounds : List (List Entry)) (told : Record) : Type 0 where
  pub made : AreMade terms (opening_standing terms) rounds told
  pub sessions : (session : ℕ) → NoneFalls (all_numbers (asks_in session) rounds told)
  pub stacks : (vertical shard replica : ℕ) → NoneFalls (all_numbers (compacts vertical shard replica) rounds told)
