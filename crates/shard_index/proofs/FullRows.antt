-- None of the records of edges is empty.
use Rattle.std.proofs.Common.{◌≡◌, Bool, true, false, cond, List, [], ◌∷◌, map, filter, reverse, Option, None, Some, refl, sym, ◌∙◌, ap}
use Rattle.std.specs.FinMap as finite
use Rattle.std.specs.List.{filter_map, cons_option, AllByRecursion}
use Rattle.std.specs.Ordering.{eq_by_cmp}
use Rattle.std.specs.Option.{option_map, unwrap_or}
use Rattle.uni_base.specs.declared.edge.Held.{Held}
use Rattle.uni_base.specs.declared.edge.Key.TheVariants.{Id}
use Rattle.uni_schema.specs.Schema.{Declarations}
use Rattle.uni_table.specs.Contents.{starts_at}
use Rattle.forward_data.specs.declared.record.ForwardItem.{ForwardItem}
use Rattle.forward_data.specs.declared.record.RecordKey.{RecordKey}
use Rattle.forward_data.specs.Records.{record_cmp, AreFull}
use Rattle.forward_data.proofs.Order.{record_total}
use Rattle.shard_index.specs.Begun.{starts_as}
use Rattle.shard_index.specs.Shards.{item_of, items_from, record_of_edge, record_row}
use Rattle.shard_index.proofs.LoggedMaps.{all-reverse}
use Rattle.shard_index.proofs.RecordRows.{keyed, records_in}
use Rattle.shard_index.proofs.Squeezed.{starts_itself}

abbrev pub IsFullRow : RecordKey × List ForwardItem → Type 0
IsFullRow row = row.1 ≡ [] → ⊥

-- ---- the map of rows

full_entries : (es : List (RecordKey × List ForwardItem)) → AllByRecursion IsFullRow es → AreFull (finite.from_entries {R = record_cmp} es)
full_entries [] all q e = let missing = finite.get-empty {X = List ForwardItem} record_cmp q in absurd cc
full_entries (x ∷ es) all q e = by (eq_by_cmp record_cmp q x.0) (sym (finite.get-insert record_total (finite.from_entries es) x.0 x.1 q) ∙ e) (full_entries es all.1 q) all.0
  where
    by : (b : Bool) → cond b (Some x.1) (finite.get (finite.from_entries {R = record_cmp} es) q) ≡ Some [] → (finite.get (finite.from_entries {R = record_cmp} es) q ≡ Some [] → ⊥) → (x.1 ≡ [] → ⊥) → ⊥
    by true at rest full = full (ap (λ o. unwrap_or o x.1) at)
    by false at rest full = rest at

-- ---- each edge is in its record

abbrev pub Holds : List Held → Held → Type 0
Holds all h = filter (starts_as h) all ≡ [] → ⊥

holds_more : (x h : Held) (all : List Held) → Holds all h → Holds (x ∷ all) h
holds_more x h all holds e = by (starts_as h x) e
  where
    by : (b : Bool) → cond b (x ∷ filter (starts_as h) all) (filter (starts_as h) all) ≡ [] → ⊥
    by true f = absurd cc
    by false f = holds f

each_more : (x : Held) (all sub : List Held) → AllByRecursion (Holds all) sub → AllByRecursion (Holds (x ∷ all)) sub
each_more x all [] each = tt
each_more x all (h ∷ sub) each = (holds_more x h all each.0, each_more x all sub each.1)

holds_itself : (x : Held) (all : List Held) → Holds (x ∷ all) x
holds_itself x all e = let itself = sym (ap (λ b. cond b (x ∷ filter (starts_as x) all) (filter (starts_as x) all)) (starts_itself x)) ∙ e in absurd cc

pub each_holds : (all : List Held) → AllByRecursion (Holds all) all
each_holds [] = tt
each_holds (x ∷ all) = (holds_itself x all, each_more x all all (each_holds all))

map_nil : (xs : List Held) → map item_of xs ≡ [] → xs ≡ []
map_nil [] e = refl
map_nil (x ∷ xs) e = absurd cc

module _ (schema : Declarations) (all : List Held) where
  row_full : (h : Held) (key : RecordKey) → record_of_edge schema h ≡ Some key → Holds all h → items_from all key ≡ [] → ⊥
  row_full h key is holds e =
      let at = keyed schema all h key is in
      holds ((λ i. filter (λ x. starts_at (sym at.types i) (sym at.keys i) x.edge) all) ∙ map_nil (filter (λ x. starts_at key.type_no (Id key.id) x.edge) all) e)

  pub rows_full : (sub : List Held) → AllByRecursion (Holds all) sub → AllByRecursion IsFullRow (filter_map (record_row schema all) sub)
  rows_full [] each = tt
  rows_full (h ∷ sub) each = by (record_of_edge schema h) refl (rows_full sub each.1) each.0
    where
      by : (o : Option RecordKey) → record_of_edge schema h ≡ o → AllByRecursion IsFullRow (filter_map (record_row schema all) sub) → Holds all h
          → AllByRecursion IsFullRow (cons_option (option_map (λ key. (key, items_from all key)) o) (filter_map (record_row schema all) sub))
      by None is later holds = later
      by (Some key) is later holds = (row_full h key is holds, later)

  pub records_full : AreFull (records_in schema all all)
  records_full = full_entries (reverse (filter_map (record_row schema all) all)) (all-reverse IsFullRow (filter_map (record_row schema all) all) (rows_full all (each_holds all)))
