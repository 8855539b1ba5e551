-- How often the operands of a cursor are moved.
use Rattle.std.specs.Prelude.{ℕ, ◌+◌, ◌-◌, ◌*◌, ◌≤◌, ◌<◌, List, [], length, slice_index_or}
use Rattle.uni_base.specs.declared.entity.DocKey.{DocKey}

-- how many moves of so many operands a leap takes at most in which one of them passes so many keys
abbrev pub most_moves : ℕ → ℕ → ℕ
most_moves operands passed = operands * (2 * passed + 3)

-- a count of moves rose by no more than that, whichever operand is looked at: also the one that passes the
-- fewest keys
abbrev pub AreFew : ℕ → ℕ → List (List DocKey) → List (List DocKey) → Type 0
AreFew before after olds news = (i : ℕ) → i < length olds
    → after ≤ before + most_moves (length olds) (length (slice_index_or olds i []) - length (slice_index_or news i []))
