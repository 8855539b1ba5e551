-- What a record of a script's answers holds.
use Rattle.std.specs.Prelude.{ℕ, Bool, true, false, List}

-- a mark of a line: nothing is said of it; memory was wanting for it; it was answered at a number of
-- publishes
pub data Mark : Type 0 where
  plain : Mark
  lacking : Mark
  at : (number : ℕ) → Mark

-- whether memory was wanting for a line
abbrev pub lacks : Mark → Bool
lacks plain = false
lacks lacking = true
lacks (at number) = false

-- a stack by the numbers of its vertical, shard and replica
pub record StackName : Type 0 where
  pub vertical : ℕ
  pub shard : ℕ
  pub replica : ℕ

-- of a round: a mark for each of its entries, in their order, and the stacks that were due at its end and
-- were left as they were
pub record RoundRecord : Type 0 where
  pub marks : List Mark
  pub untidied : List StackName

-- a record of a script's answers, round by round
abbrev pub Record : Type 0
Record = List RoundRecord
