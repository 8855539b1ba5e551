-- What clauses say of halves.
use Rattle.std.specs.Prelude.{◌≡◌, ℕ, List, []}
use Rattle.atomic_table.specs.Seated.{TableId}
use Rattle.atomic_table.specs.declared.shared.Seat.{Seat}
use Rattle.twin_list.specs.declared.half.Half.{Half}
use Rattle.twin_list.specs.declared.law.Part.TheVariants.{One}
use Rattle.twin_list.specs.declared.law.View.{View}
use Rattle.twin_list.specs.declared.list.TwinList.{TwinList}

module _ {E : Type 0} where
  -- which list it is, and of which list a half is
  abbrev pub list_id : TwinList E → TableId
  list_id twin = twin.table.shared.table_id

  abbrev pub half_id : Half E → TableId
  half_id half = half.place.table_id

  -- it is a half of this list
  abbrev pub IsHalfOf : TwinList E → Half E → Type 0
  IsHalfOf twin half = half_id half ≡ list_id twin

  -- the list that a half knows
  abbrev pub half_list : Half E → List E
  half_list half = half.place.me.0.list

  -- a place is at the table of this list, and has one half
  abbrev pub IsPlaceOf : TwinList E → Seat ℕ (View E) → Type 0
  IsPlaceOf twin place = place.table_id ≡ list_id twin

  abbrev pub IsHalf : Seat ℕ (View E) → Type 0
  IsHalf place = (place.me.0.part ≡ One) × (place.me.1 ≡ [])
