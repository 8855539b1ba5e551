-- The layers of what is noted of a batch take the rows of their shards to what they are now.
use Rattle.std.proofs.Common.{◌≡◌, ◌⊎◌, inl, inr, ◌<◌, true, false, List, [], ◌∷◌, map, length, replicate, Option, None, Some, refl, sym, ◌∙◌, ap, subst}
use Rattle.std.proofs.lemmas.List.Elements.{All-contains, All-contains_itself, All-weaker}
use Rattle.std.proofs.lemmas.List.Sums.{AllPass-from_list_all}
use Rattle.std.proofs.lemmas.Map.Views.{Contains-from_lookup}
use Rattle.std.proofs.lemmas.Option.{slice_get_within}
use Rattle.std.specs.FinMap as finite
use Rattle.std.specs.List.{All, AllZip, Contains}
use Rattle.std.specs.Option.{option_map_or, IsSome}
use Rattle.std.specs.Ordering.{eq_by_cmp}
use Rattle.uni_base.specs.declared.edge.EdgeRef.{EdgeRef}
use Rattle.uni_base.specs.declared.limits.Limits.{Limits}
use Rattle.uni_base.specs.EdgeOrder.{edge_cmp}
use Rattle.uni_schema.specs.declared.schema.TypeDef.{TypeDef}
use Rattle.uni_schema.specs.Schema.{Declarations, type_at}
use Rattle.uni_table.specs.Changes.{rank_at, AreEntityChanges, IsEdgeChange}
use Rattle.uni_table.specs.Contents.{Contents, edge_at, key_stands, source_stands}
use Rattle.uni_table.specs.GraphKeys.{exact_edges}
use Rattle.uni_table.specs.TableState.{TableState, IsKept}
use Rattle.uni_table.specs.declared.change.EdgeChange.{EdgeChange}
use Rattle.uni_table.specs.declared.change.EntityChange.{EntityChange}
use Rattle.uni_table.specs.declared.command.EdgeRow.{EdgeRow}
use Rattle.layer_base.specs.Layers.{layer_over as table_over}
use Rattle.forward_data.specs.Records.{record_cmp, records_over}
use Rattle.shard_index.specs.declared.batch.notes.ShardNotes.{ShardNotes}
use Rattle.shard_index.specs.Batches.{AreAllChanges, ShardPlace, all_shards, TakesOver, TakeFrom}
use Rattle.shard_index.specs.ChangedRows.{shard_entities}
use Rattle.shard_index.specs.Notes.{no_notes, noted_layer, IsNoted, AreNoted}
use Rattle.shard_index.specs.Rows.{ShardRows, ShardChanges, layer_over}
use Rattle.shard_index.specs.Shards.{shard_rows}
use Rattle.shard_index.proofs.ChangedEntities.{entities_turned}
use Rattle.shard_index.proofs.ChangedPostings.{postings_turned}
use Rattle.shard_index.proofs.ChangedRecords.{records_turned}
use Rattle.shard_index.proofs.FewEntries.{few_entries, FromChanges}
use Rattle.shard_index.proofs.LoggedMaps.{equal_of}
use Rattle.shard_index.proofs.OnlyChanged.{changes_only}

-- ---- the types of edges that changed are declared

module _ (schema : Declarations) where
  pub declared_there : (limits : Limits) (table : Contents) → IsKept schema limits table → (edge : EdgeRef) (row : EdgeRow) → edge_at table edge ≡ Some row → edge.type_no < length schema.types
  declared_there limits table kept edge row at =
      let among : Contains table.edges (edge, row) = Contains-from_lookup {eq = eq_by_cmp edge_cmp} (λ x y t. exact_edges x y (equal_of (edge_cmp x y) t)) edge row table.edges at in
      by (type_at schema edge.type_no) refl (All-contains (λ (e : EdgeRef × EdgeRow). key_stands schema table e.0 ≡ true) table.edges (edge, row) (AllPass-from_list_all (λ (e : EdgeRef × EdgeRow). key_stands schema table e.0) table.edges kept.keys) among)
    where
      by : (o : Option TypeDef) → type_at schema edge.type_no ≡ o → option_map_or (λ (d : TypeDef). source_stands table d.origin edge.key) o false ≡ true → edge.type_no < length schema.types
      by None e t = cc
      by (Some d) e t = slice_get_within schema.types edge.type_no d e

  pub changes_declared : (limits : Limits) (old new : Contents) → IsKept schema limits old → IsKept schema limits new → (cs : List EdgeChange) → AreAllChanges old new cs → All (λ (c : EdgeChange). c.edge.type_no < length schema.types) cs
  changes_declared limits old new old_kept new_kept cs are =
      All-weaker (Contains cs) (λ (c : EdgeChange). c.edge.type_no < length schema.types) (λ c among. one c ((are c).0 among)) cs (All-contains_itself cs)
    where
      one : (c : EdgeChange) → IsEdgeChange old new c → c.edge.type_no < length schema.types
      one c known = by (edge_at old c.edge) (edge_at new c.edge) refl refl
        where
          neither : c.before ≡ None → c.after ≡ None → (c.before ≡ c.after → ⊥) ⊎ (IsSome c.after × (rank_at old c.edge.target ≡ rank_at new c.edge.target → ⊥)) → c.edge.type_no < length schema.types
          neither b a (inl differ) = absurd (differ (b ∙ sym a))
          neither b a (inr moved) = absurd (none (subst IsSome a moved.0))
            where
              nothing : Option EdgeRow
              nothing = None

              none : IsSome nothing → ⊥
              none x = cc

          by : (o n : Option EdgeRow) → edge_at old c.edge ≡ o → edge_at new c.edge ≡ n → c.edge.type_no < length schema.types
          by (Some o) n e f = declared_there limits old old_kept c.edge o e
          by None (Some n) e f = declared_there limits new new_kept c.edge n f
          by None None e f = neither (known.0 ∙ e) (known.1 ∙ f) known.2

-- ---- a layer by its three parts

pub record ThreeParts (old new : ShardRows) (layer : ShardChanges) : Type 0 where
  pub entities : table_over old.entities layer.entities ≡ new.entities
  pub postings : table_over old.postings layer.postings ≡ new.postings
  pub records : records_over old.records layer.records ≡ new.records

pub parts_take : (old new : ShardRows) (layer : ShardChanges) → ThreeParts old new layer → layer_over old layer ≡ new
unfolding layer_over
parts_take old new layer parts = λ i. record { entities = parts.entities i; postings = parts.postings i; records = parts.records i }

-- ---- a layer of what was noted

module _ (table : TableState) (old : Contents) (old_kept : IsKept table.schema table.limits old) (kept : IsKept table.schema table.limits table.contents) (es : List EntityChange) (changed : AreEntityChanges old table.contents es) (cs : List EdgeChange) (are : AreAllChanges old table.contents cs) where
  noted_takes : (place : ShardPlace) (notes : ShardNotes) → IsNoted table es es cs place notes → TakesOver table.schema old table.contents place (noted_layer notes)
  noted_takes place notes noted =
      let schema = table.schema in let new = table.contents in let v = place.vertical in let s = place.shard in
      let entities : notes.entities ≡ shard_entities schema v s es = λ i. record { deletes = noted.removals i; puts = noted.puts i } in
      let from : FromChanges schema old new v s es cs (noted_layer notes) = record { entities = entities; postings = noted.postings; records = noted.records } in
      record {
        rows = parts_take (shard_rows schema old v s) (shard_rows schema new v s) (noted_layer notes) (record {
          entities = ap (table_over (shard_rows schema old v s).entities) entities ∙ entities_turned old new es changed schema table.limits v s old_kept kept;
          postings = ap (table_over (shard_rows schema old v s).postings) noted.postings ∙ postings_turned schema table.limits old new v s old_kept kept cs are;
          records = records_turned schema v s table.limits old new old_kept kept cs are notes.records noted.records;
        });
        only = changes_only schema table.limits old new v s old_kept kept cs are es changed (noted_layer notes) from;
        few = few_entries schema table.limits old new v s old_kept kept es changed cs are (noted_layer notes) from;
      }

  all_take : (places : List ShardPlace) (notes : List ShardNotes) → AllZip (IsNoted table es es cs) places notes → TakeFrom table.schema old table.contents places (map noted_layer notes)
  all_take [] [] all = tt
  all_take [] (n ∷ notes) all = absurd all
  all_take (p ∷ places) [] all = absurd all
  all_take (p ∷ places) (n ∷ notes) all = (noted_takes p n all.0, all_take places notes all.1)

  pub batch_taken : (notes : List ShardNotes) → AreNoted table es es cs notes → TakeFrom table.schema old table.contents (all_shards table.schema) (map noted_layer notes)
  batch_taken notes all = all_take (all_shards table.schema) notes all

-- nothing is noted at first
pub none_noted : (table : TableState) → AreNoted table [] [] [] (replicate (length (all_shards table.schema)) no_notes)
none_noted table = each (all_shards table.schema)
  where
    each : (places : List ShardPlace) → AllZip (IsNoted table [] [] []) places (replicate (length places) no_notes)
    each [] = tt
    each (p ∷ places) = (record { removals = refl; puts = refl; postings = refl; records = λ q. finite.get-empty record_cmp q; last = λ key e. cc }, each places)
