-- Forward records, and what a stack of layers stands for.
use Rattle.std.specs.Prelude.{◌≡◌, ℕ, List, [], ◌∷◌, map, Option, None, Some}
use Rattle.std.specs.declared.cmp.Ordering.{Ordering}
use Rattle.std.specs.Ordering.{nat_cmp, ordering_then}
use Rattle.std.specs.Option.{unwrap_or}
use Rattle.std.specs.FinMap as finite
use Rattle.layer_base.specs.Changes.{after}
use Rattle.forward_data.specs.declared.record.ForwardItem.{ForwardItem}
use Rattle.forward_data.specs.declared.record.RecordKey.{RecordKey}

abbrev pub record_key : ℕ → ℕ → RecordKey
record_key type_no id = record { type_no = type_no; id = id }

-- by type number, then by entity
abbrev pub record_cmp : RecordKey → RecordKey → Ordering
record_cmp a b = ordering_then (nat_cmp a.type_no b.type_no) (nat_cmp a.id b.id)

-- a record at each of some keys
abbrev pub Records : Type 0
Records = finite.FinMap record_cmp (List ForwardItem)

-- the record that a list leaves: none where it is empty
abbrev pub left_by : List ForwardItem → Option (List ForwardItem)
left_by [] = None
left_by (item ∷ items) = Some (item ∷ items)

-- what a record of rows leaves, or else what is under it
abbrev pub under : Option (List ForwardItem) → Option (List ForwardItem) → Option (List ForwardItem)
under None older = older
under (Some items) older = left_by items

-- a record of a layer as a change
abbrev pub replacing : RecordKey × List ForwardItem → RecordKey × Option (List ForwardItem)
replacing row = (row.0, left_by row.1)

-- records under a layer, each of whose records stands in place of the older one
abbrev pub records_over : Records → Records → Records
records_over records layer = after records (map replacing (finite.entries layer))

abbrev pub records_from : Records → List Records → Records
records_from records [] = records
records_from records (layer ∷ layers) = records_from (records_over records layer) layers

-- the records that a stack stands for, from the oldest layer to the newest; none of them is empty
abbrev pub records_of : List Records → Records
records_of = records_from finite.empty

-- the record at a key, empty where there is none
abbrev pub record_of : RecordKey → List Records → List ForwardItem
record_of key layers = unwrap_or (finite.get (records_of layers) key) []

-- none of the records is empty
abbrev pub AreFull : Records → Type 0
AreFull records = (key : RecordKey) → finite.get records key ≡ Some [] → ⊥
