-- Rows in the order in which they came, seen as the entries of an ordered map.
use Rattle.std.specs.Prelude.{Bool, List, [], ◌∷◌, Option, None, Some, if◌then◌else◌}
use Rattle.std.specs.Option.{option_map, option_map_or, option_and_then}
use Rattle.std.specs.BTreeMap.{insert_entry}
use Rattle.std.specs.declared.cmp.Ordering.{Ordering}

-- the rows that live, each at its key, in the order of the keys
abbrev pub ordered : {K X : Type 0} → (K → K → Ordering) → List (K × Option X) → List (K × X)
ordered cmp [] = []
ordered cmp (e ∷ es) = option_map_or (insert_entry cmp (ordered cmp es) e.0) e.1 (ordered cmp es)

-- a row with its key, if it lives
abbrev pub living : {K X : Type 0} → K × Option X → Option (K × X)
living e = option_map (λ x. (e.0, x)) e.1

-- a row that lives only where it passes a test
abbrev pub kept_if : {K X : Type 0} → (K × X → Bool) → K × Option X → K × Option X
kept_if test e = (e.0, option_and_then (λ x. if test (e.0, x) then Some x else None) e.1)
