-- What the oldest layers of a stack of records put together, record by record.
use Rattle.std.specs.Prelude.{◌≡◌, ℕ, ◌+◌, ◌-◌, T, Bool, false, cond, Option, None, Some, List, [], ◌∷◌, is_some, All}
use Rattle.std.specs.List.{list_any}
use Rattle.std.specs.FinMap as finite
use Rattle.std.specs.FinMap.{is_sorted}
use Rattle.std.specs.Option.{unwrap_or}
use Rattle.layer_base.specs.Among as among
use Rattle.forward_data.specs.declared.record.ForwardItem.{ForwardItem}
use Rattle.forward_data.specs.declared.record.RecordKey.{RecordKey}
use Rattle.forward_data.specs.Records.{Records, record_cmp, record_of, records_over}

-- whether a key is among those of a list
abbrev pub is_among : {X : Type 0} → RecordKey → List (RecordKey × X) → Bool
is_among = among.is_among record_cmp

-- whether one of the layers has a record at a key
abbrev pub is_changed : RecordKey → List Records → Bool
is_changed key layers = list_any (λ layer. is_some (finite.get layer key)) layers

-- keys in order, such that the layers have a record at no other one
pub record AreChanged (layers : List Records) (keys : List (RecordKey × Unit {0})) : Type 0 where
  pub sorted : T (is_sorted record_cmp keys)
  pub others : (key : RecordKey) → is_among key keys ≡ false → is_changed key layers ≡ false

-- with a record put, if it is not empty
abbrev pub putting_record : RecordKey → List ForwardItem → Records → Records
putting_record key [] records = records
putting_record key (item ∷ items) records = finite.insert records key (item ∷ items)

-- with the records put that layers stand for at some keys
abbrev pub putting_records : List Records → List (RecordKey × Unit {0}) → Records → Records
putting_records layers [] records = records
putting_records layers (e ∷ es) records = putting_records layers es (putting_record e.0 (record_of e.0 layers) records)

-- rows in order that are what layers stand for, at each key that is not among the changed ones
pub record StandAlone (changed : List (RecordKey × Unit {0})) (rows : List (RecordKey × List ForwardItem)) (layers : List Records) : Type 0 where
  pub each : All (λ e. is_among e.0 changed ≡ false → e.1 ≡ record_of e.0 layers) rows
  pub none : (k : RecordKey) → is_among k changed ≡ false → is_among k rows ≡ false → record_of k layers ≡ []

-- at each key that is not among the changed ones, records have what layers stand for
abbrev pub AreAlone : List (RecordKey × Unit {0}) → Records → List Records → Type 0
AreAlone changed records layers = (key : RecordKey) → is_among key changed ≡ false → record_of key layers ≡ unwrap_or (finite.get records key) []

-- none of the records of rows is empty
abbrev pub are_kept : List (RecordKey × List ForwardItem) → Type 0
are_kept rows = All (λ e. e.1 ≡ [] → ⊥) rows

-- what a layer has by rows, over a base if there is one: at a key that the rows have they stand alone, and at any other one the base does
abbrev pub layer_of : Records → Option Records → Records
layer_of rows None = rows
layer_of rows (Some base) = records_over base rows

-- records that have what layers stand for at exactly the changed keys, empty where there is none
abbrev pub IsPatch : List (RecordKey × Unit {0}) → List Records → Records → Type 0
IsPatch changed layers patch = (key : RecordKey) → finite.get patch key ≡ cond (is_among key changed) (Some (record_of key layers)) None

-- how many records there are after one is replaced, which is known or not, among so many
abbrev pub counted : Bool → List ForwardItem → ℕ → ℕ
counted known [] count = cond known (count - 1) count
counted known (item ∷ items) count = cond known count (count + 1)
