-- The rule of a list in two halves, over the views of all who hold or held one.
use Rattle.std.specs.Prelude.{◌≡◌, ℕ, List, [], sum_by}
use mathlib.Core.Option.{some}
use lib.ListN.{get_elem?}
use Rattle.atomic_table.specs.Table.{State}
use Rattle.twin_list.specs.declared.law.Part.{Part}
use Rattle.twin_list.specs.declared.law.Part.TheVariants.{Spent, One, Both}
use Rattle.twin_list.specs.declared.law.View.{View}

-- how many halves that is
abbrev pub halves : Part → ℕ
halves Spent = 0
halves One = 1
halves Both = 2

module _ {E : Type 0} where
  -- what the rule says of a view, where `log` is the list: with a half it knows the list, and with both each half did
  abbrev pub PartFits : List E → Part → List E → List E → Type 0
  PartFits log Spent list other = Unit {0}
  PartFits log One list other = list ≡ log
  PartFits log Both list other = (list ≡ log) × (other ≡ log)

  abbrev pub Fits : List E → View E → Type 0
  Fits log v = PartFits log v.part v.list v.other

  -- how many halves a view has
  abbrev pub halves_of : View E → ℕ
  halves_of v = halves v.part

  -- the rule: there are two halves, and each knows the list
  pub record Kept (s : State ℕ (View E)) : Type 0 where
    pub log : List E
    pub two : sum_by halves_of s.views ≡ 2
    pub each : (j : ℕ) (v : View E) → get_elem? s.views j ≡ some v → Fits log v

  -- at the start both halves are together, and know the empty list
  abbrev pub opening_view : View E
  opening_view = record { part = Both; list = []; other = [] }
