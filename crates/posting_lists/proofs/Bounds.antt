-- The bound on comparisons at some numbers.
use Rattle.std.proofs.Common.{◌≡◌, ℕ, ◌≤◌, ◌<◌, refl, arith}
use Rattle.std.proofs.lemmas.Int.Digits.{length-digits_of-le}
use Rattle.posting_lists.specs.Search.{most_comparisons}

pub at_nothing : most_comparisons 0 ≡ 16
at_nothing = refl

pub over_a_block : most_comparisons 128 ≡ 32
over_a_block = refl

pub within_a_million : (passed : ℕ) → passed < 1000000 → most_comparisons passed ≤ 56
within_a_million passed small = omega (arith, length-digits_of-le 2 20 passed (omega arith) (omega arith))
