-- A layer has no more records than those that differ.
use Rattle.std.proofs.Common.{◌≡◌, ◌≤◌, ◌&&◌, ◌||◌, ℕ, Bool, true, false, not, if◌then◌else◌, List, [], ◌∷◌, map, filter, length, Option, None, Some, is_some, refl, sym, ◌∙◌, ap}
use Rattle.std.proofs.lemmas.Bool.{and_parts}
use Rattle.std.proofs.lemmas.List.Elements.{All-contains_itself, recursion_from_All}
use Rattle.std.proofs.lemmas.Map.Lookups.{exact_unsigned}
use Rattle.std.specs.FinMap as finite
use Rattle.std.specs.FinMap.Entries.{find}
use Rattle.std.specs.List.{AllByRecursion, Contains}
use Rattle.std.specs.Option.{unwrap_or}
use Rattle.std.specs.Ordering.{nat_cmp, eq_by_cmp}
use Rattle.std.specs.Set.{is_member}
use Rattle.uni_base.specs.declared.edge.Audience.{Audience}
use Rattle.uni_base.specs.declared.edge.EdgeRef.{EdgeRef}
use Rattle.uni_base.specs.declared.edge.Key.TheVariants.{Id}
use Rattle.uni_base.specs.declared.limits.Limits.{Limits}
use Rattle.uni_schema.specs.Schema.{Declarations}
use Rattle.uni_table.specs.Contents.{Contents, audience_at, starts_at}
use Rattle.uni_table.specs.Lists.{held_of}
use Rattle.uni_table.specs.declared.change.EdgeChange.{EdgeChange}
use Rattle.uni_table.specs.declared.command.EdgeRow.{EdgeRow}
use Rattle.forward_data.specs.declared.record.ForwardItem.{ForwardItem}
use Rattle.forward_data.specs.declared.record.RecordKey.{RecordKey}
use Rattle.forward_data.specs.Records.{Records, record_cmp, left_by}
use Rattle.forward_data.proofs.Order.{record_total, record_apart}
use Rattle.shard_index.specs.Batches.{AreAllChanges}
use Rattle.shard_index.specs.ChangedRows.{same_audience, same_audiences, audience_of, record_within, changed_record, is_record, is_among, items_of, AreShardRecords}
use Rattle.shard_index.specs.Rows.{record_at}
use Rattle.shard_index.specs.Shards.{item_of, shard_rows}
use Rattle.shard_index.specs.Touched.{same_items, moved_records}
use Rattle.shard_index.proofs.ChangedPostings.{exact_audience, audience_itself}
use Rattle.shard_index.proofs.ChangedRecords.{is_own, own, own_starts, present}
use Rattle.shard_index.proofs.Counted.{few_keys, of_first, of_second}
use Rattle.shard_index.proofs.LoggedMaps.{equal_of}
use Rattle.shard_index.proofs.ReachedItems.{as_row, row_found, named as named_edge}
use Rattle.shard_index.proofs.RecordsNoted.{same_record}

exact_items : (xs ys : List ForwardItem) → same_items xs ys ≡ true → xs ≡ ys
exact_items [] [] t = refl
exact_items [] (y ∷ ys) t = cc
exact_items (x ∷ xs) [] t = cc
exact_items (x ∷ xs) (y ∷ ys) t =
    let first = and_parts (eq_by_cmp nat_cmp x.target y.target) (same_audience x.audience y.audience && same_items xs ys) t in
    let second = and_parts (same_audience x.audience y.audience) (same_items xs ys) first.1 in
    λ i. record { target = exact_unsigned x.target y.target (equal_of (nat_cmp x.target y.target) first.0) i; audience = exact_audience x.audience y.audience second.0 i } ∷ exact_items xs ys second.1 i

-- ---- what a record says of a target

abbrev item_row : ForwardItem → ℕ × Audience
item_row item = (item.target, item.audience)

rows_again : (es : List (EdgeRef × EdgeRow)) → map item_row (map item_of (map held_of es)) ≡ map as_row es
rows_again [] = refl
rows_again (e ∷ es) = ap (λ rows. as_row e ∷ rows) (rows_again es)

-- the audience of an edge that starts where a record does, by the record
audience_read : (table : Contents) (q : RecordKey) (edge : EdgeRef) → starts_at q.type_no (Id q.id) edge ≡ true → find nat_cmp edge.target (map item_row (items_of table q)) ≡ audience_at table edge
audience_read table q edge starts =
    ap (find nat_cmp edge.target) (rows_again (filter (λ e. starts_at q.type_no (Id q.id) e.0) table.edges))
    ∙ row_found q.type_no (Id q.id) edge.target table.edges ∙ ap (audience_at table) (named_edge q.type_no (Id q.id) edge starts)

-- ---- the records of a shard

module _ (schema : Declarations) (limits : Limits) (old new : Contents) (vertical shard : ℕ) (cs : List EdgeChange) (are : AreAllChanges old new cs) where
  pub record IsMoved (q : RecordKey) : Type 0 where
    edge : EdgeRef
    starts : starts_at q.type_no (Id q.id) edge ≡ true
    own_is : is_own schema vertical shard q ≡ true
    differs : same_audiences (audience_at old edge) (audience_at new edge) ≡ false

  of_change : (q : RecordKey) (c : EdgeChange) → Contains cs c → changed_record schema vertical shard c ≡ Some q → IsMoved q
  of_change q c there is = by (same_audiences (audience_of c.before) (audience_of c.after)) refl is
    where
      by : (b : Bool) → same_audiences (audience_of c.before) (audience_of c.after) ≡ b → (if b then None else record_within schema vertical shard c.edge) ≡ Some q → IsMoved q
      by true t e = cc
      by false t e =
          let known = (are c).0 there in
          record {
            edge = c.edge;
            starts = own_starts schema vertical shard c.edge q e;
            own_is = own schema vertical shard c.edge q e;
            differs = (λ i. same_audiences (audience_of (sym known.0 i)) (audience_of (sym known.1 i))) ∙ t;
          }

  moved : (q : RecordKey) (ds : List EdgeChange) → AllByRecursion (Contains cs) ds → is_among schema vertical shard ds q ≡ true → IsMoved q
  moved q [] all t = cc
  moved q (c ∷ ds) all t = by (changed_record schema vertical shard c) refl t (moved q ds all.1)
    where
      next : (key : RecordKey) → changed_record schema vertical shard c ≡ Some key → (b : Bool) → eq_by_cmp record_cmp q key ≡ b → (b || is_among schema vertical shard ds q) ≡ true → (is_among schema vertical shard ds q ≡ true → IsMoved q) → IsMoved q
      next key is true here f later = of_change q c all.0 (is ∙ ap Some (sym (same_record q key here)))
      next key is false here f later = later f

      by : (o : Option RecordKey) → changed_record schema vertical shard c ≡ o → (is_record q o || is_among schema vertical shard ds q) ≡ true → (is_among schema vertical shard ds q ≡ true → IsMoved q) → IsMoved q
      by None is f later = later f
      by (Some key) is f later = next key is (eq_by_cmp record_cmp q key) refl f later

  -- a record that is read as a list
  read : (table : Contents) (q : RecordKey) → is_own schema vertical shard q ≡ true → record_at (shard_rows schema table vertical shard) q ≡ items_of table q
  read table q t = ap (λ o. unwrap_or o []) (present schema vertical shard table q t) ∙ by (items_of table q)
    where
      by : (items : List ForwardItem) → unwrap_or (left_by items) [] ≡ items
      by [] = refl
      by (i ∷ items) = refl

  -- a record with an edge is one of the shard's
  has : (table : Contents) (q : RecordKey) → is_own schema vertical shard q ≡ true → (edge : EdgeRef) → starts_at q.type_no (Id q.id) edge ≡ true → is_some (audience_at table edge) ≡ true
      → is_member (eq_by_cmp record_cmp) (finite.keys (shard_rows schema table vertical shard).records) q ≡ true
  has table q t edge starts some =
      sym (finite.contains_key-keys (shard_rows schema table vertical shard).records q) ∙ ap is_some (present schema vertical shard table q t)
      ∙ by (items_of table q) (ap is_some (audience_read table q edge starts) ∙ some)
    where
      by : (items : List ForwardItem) → is_some (find nat_cmp edge.target (map item_row items)) ≡ true → is_some (left_by items) ≡ true
      by [] f = f
      by (i ∷ items) f = refl

  -- it differs
  pub unlike : (q : RecordKey) (is : IsMoved q) → not (same_items (record_at (shard_rows schema old vertical shard) q) (record_at (shard_rows schema new vertical shard) q)) ≡ true
  unlike q is = by (same_items (record_at (shard_rows schema old vertical shard) q) (record_at (shard_rows schema new vertical shard) q)) refl
    where
      alike : (a : Option Audience) → same_audiences a a ≡ true
      alike None = refl
      alike (Some a) = audience_itself a

      by : (b : Bool) → same_items (record_at (shard_rows schema old vertical shard) q) (record_at (shard_rows schema new vertical shard) q) ≡ b → not b ≡ true
      by false t = refl
      by true t =
          let items : items_of old q ≡ items_of new q = sym (read old q is.own_is) ∙ exact_items (record_at (shard_rows schema old vertical shard) q) (record_at (shard_rows schema new vertical shard) q) t ∙ read new q is.own_is in
          let audiences : audience_at old is.edge ≡ audience_at new is.edge =
          sym (audience_read old q is.edge is.starts) ∙ ap (λ xs. find nat_cmp is.edge.target (map item_row xs)) items ∙ audience_read new q is.edge is.starts in
          let clash : true ≡ false = sym (alike (audience_at new is.edge)) ∙ ap (λ a. same_audiences a (audience_at new is.edge)) (sym audiences) ∙ is.differs in absurd cc

  listed : (q : RecordKey) → IsMoved q → is_member (eq_by_cmp record_cmp) (moved_records schema old new vertical shard) q ≡ true
  listed q is = by (audience_at old is.edge) (audience_at new is.edge) refl refl is.differs
    where
      by : (o n : Option Audience) → audience_at old is.edge ≡ o → audience_at new is.edge ≡ n → same_audiences o n ≡ false → is_member (eq_by_cmp record_cmp) (moved_records schema old new vertical shard) q ≡ true
      by None None e f g = cc
      by (Some a) n e f g =
          of_first record_total record_apart (λ key. not (same_items (record_at (shard_rows schema old vertical shard) key) (record_at (shard_rows schema new vertical shard) key)))
          (finite.keys (shard_rows schema old vertical shard).records) (finite.keys (shard_rows schema new vertical shard).records) q (unlike q is) (has old q is.own_is is.edge is.starts (ap is_some e))
      by None (Some b) e f g =
          of_second record_total record_apart (λ key. not (same_items (record_at (shard_rows schema old vertical shard) key) (record_at (shard_rows schema new vertical shard) key)))
          (finite.keys (shard_rows schema old vertical shard).records) (finite.keys (shard_rows schema new vertical shard).records) q (unlike q is) (has new q is.own_is is.edge is.starts (ap is_some f))

  -- a record that the layer replaces is one that moved
  pub replaced : (layer : Records) → AreShardRecords schema vertical shard new cs layer → (q : RecordKey) → finite.contains_key layer q ≡ true → IsMoved q
  replaced layer is q t = moved q cs (recursion_from_All (Contains cs) cs (All-contains_itself cs)) (by q (is_among schema vertical shard cs q) refl t)
    where
      by : (q : RecordKey) (b : Bool) → is_among schema vertical shard cs q ≡ b → finite.contains_key layer q ≡ true → is_among schema vertical shard cs q ≡ true
      by q true e t = e
      by q false e t =
          let none : finite.contains_key layer q ≡ false = ap is_some (is q ∙ ap (λ b. if b then Some (items_of new q) else None) e) in
          let clash : true ≡ false = sym t ∙ none in absurd cc

  pub few_records : (layer : Records) → AreShardRecords schema vertical shard new cs layer → finite.len layer ≤ length (moved_records schema old new vertical shard)
  few_records layer is =
      few_keys record_total record_total record_apart layer (λ q. q) (moved_records schema old new vertical shard)
      (λ q t. listed q (replaced layer is q t))
      (λ j k s t e. e)
