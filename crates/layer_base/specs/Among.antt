-- Keys among the rows of a list.
use Rattle.std.specs.Prelude.{◌≡◌, Bool, List, T, is_some}
use Rattle.std.specs.declared.cmp.Ordering.{Ordering}
use Rattle.std.specs.FinMap.{find, is_sorted}

-- whether a row of a list is at a key
abbrev pub is_among : {K X : Type 0} → (K → K → Ordering) → K → List (K × X) → Bool
is_among R key rows = is_some (find R key rows)

-- the key of a row, alone
abbrev pub bare : {K X : Type 0} → K × X → K × Unit {0}
bare e = (e.0, tt)

-- the keys that pass a test, in order, each once
pub record AreExactly {K : Type 0} (R : K → K → Ordering) (test : K → Bool) (keys : List (K × Unit {0})) : Type 0 where
  pub sorted : T (is_sorted R keys)
  pub exact : (key : K) → is_among R key keys ≡ test key
