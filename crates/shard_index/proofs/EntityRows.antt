-- Layers of entities.
use Rattle.std.proofs.Common.{◌≡◌, length, ap, ◌∙◌}
use Rattle.std.specs.Prelude.{T, List, [], ℕ}
use Rattle.std.specs.Ordering.{nat_cmp}
use Rattle.std.specs.FinMap as finite
use Rattle.std.specs.FinMap.{is_sorted}
use Rattle.std.proofs.lemmas.Map.Lookups.{exact_unsigned}
use Rattle.layer_base.specs.Layers.{TellsApart}

pub id_apart : TellsApart nat_cmp
id_apart = exact_unsigned

pub len-from_sorted : {V : Type 0} (rows : List (ℕ × V)) → T (is_sorted nat_cmp rows) → finite.len (finite.from_sorted {R = nat_cmp} rows) ≡ length rows
len-from_sorted rows sorted = finite.len-entries (finite.from_sorted {R = nat_cmp} rows) ∙ ap length (finite.entries-from_sorted nat_cmp rows sorted)

-- a map of no rows
pub none_sorted : {V : Type 0} → finite.from_sorted {X = V} {R = nat_cmp} [] ≡ finite.empty
none_sorted {V} = finite.empty_of_len (finite.from_sorted {X = V} {R = nat_cmp} []) (len-from_sorted [] tt)
