-- The records of edges, and their keys.
use Rattle.std.proofs.Common.{◌≡◌, Bool, true, false, if◌then◌else◌, List, None, Some, refl, sym, ◌∙◌, ap}
use Rattle.std.specs.List.{filter_map}
use Rattle.std.specs.Option.{option_map}
use Rattle.uni_base.specs.declared.edge.Held.{Held}
use Rattle.uni_base.specs.declared.edge.Key.{Key}
use Rattle.uni_base.specs.declared.edge.Key.TheVariants.{Id, Word}
use Rattle.uni_schema.specs.Schema.{Declarations, source_of}
use Rattle.uni_table.specs.Shards.{is_indexed}
use Rattle.layer_base.specs.Layers.{from_log}
use Rattle.forward_data.specs.declared.record.RecordKey.{RecordKey}
use Rattle.forward_data.specs.Records.{Records, record_key, record_cmp}
use Rattle.shard_index.specs.Shards.{record_of_edge, record_row}

module _ (schema : Declarations) (all : List Held) where
  -- the map of the records of some edges
  abbrev pub records_in : List Held → Records
  records_in held = from_log {R = record_cmp} (filter_map (record_row schema all) held)

  -- the key of a record is the type and the key of its edges
  pub record Keyed (h : Held) (key : RecordKey) : Type 0 where
    pub types : key.type_no ≡ h.edge.type_no
    pub keys : Id key.id ≡ h.edge.key

  pub keyed : (h : Held) (key : RecordKey) → record_of_edge schema h ≡ Some key → Keyed h key
  keyed h key is = by (is_indexed schema h) (h.edge.key) refl is
    where
      by : (b : Bool) (k : Key) → h.edge.key ≡ k → (if b then None else option_map (λ id. record_key h.edge.type_no id) (source_of k)) ≡ Some key → Keyed h key
      by true k at e = cc
      by false (Word text) at e = cc
      by false (Id n) at e =
          let same : record_key h.edge.type_no n ≡ key = cc in
          record { types = ap (λ (k : RecordKey). k.type_no) (sym same); keys = ap (λ (k : RecordKey). Id k.id) (sym same) ∙ sym at }
