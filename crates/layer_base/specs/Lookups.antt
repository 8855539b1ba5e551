-- Answers of look-ups, the newer before the older, and the places at which rows are looked up.
use Rattle.std.specs.Prelude.{◌≡◌, ℕ, ◌-◌, ◌<◌, ◌≤◌, ◌==◌, ◌&&◌, ◌||◌, Bool, true, false, not, List, length, Option, None, Some, slice_get}
use Rattle.std.specs.declared.cmp.Ordering.{Ordering}
use Rattle.std.specs.List.Sorted.{IsPartitionPoint}
use Rattle.std.specs.Ordering.{is_lt, is_gt}

-- the first answer, or else the second
abbrev pub either : {X : Type 0} → Option X → Option X → Option X
either None other = other
either (Some x) other = Some x

module _ {K X : Type 0} (R : K → K → Ordering) (key : K) where
  -- whether there is a row, and it comes before the key
  abbrev pub comes_before : Option (K × X) → Bool
  comes_before None = false
  comes_before (Some row) = is_lt (R row.0 key)

  -- whether the rows about a place tell that the key stands there, or would stand
  abbrev pub is_place : List (K × X) → ℕ → Bool
  is_place rows at = ((at == 0) || comes_before (slice_get rows (at - 1))) && not (comes_before (slice_get rows at))

  -- where the key stands among rows in order, or would stand: the rows before the place are those that come before it
  abbrev pub IsPlaceOf : List (K × X) → ℕ → Type 0
  IsPlaceOf rows at = IsPartitionPoint (λ row. is_lt (R row.0 key) ≡ true) (λ row. is_lt (R row.0 key) ≡ false) rows at

  -- whether there is a row, and it comes after the key
  abbrev pub comes_after : Option (K × X) → Bool
  comes_after None = false
  comes_after (Some row) = is_gt (R row.0 key)

  -- from one place on, the first at which a row comes after the key, if one does
  pub record IsFirstAfter (rows : List (K × X)) (from at : ℕ) : Type 0 where
    pub before : (i : ℕ) → from ≤ i → i < at → comes_after (slice_get rows i) ≡ false
    pub there : at < length rows → comes_after (slice_get rows at) ≡ true
