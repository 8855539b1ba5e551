-- The public laws of stacks of a shard's layers.
use Rattle.std.proofs.Common.{◌≡◌, ℕ, List, [], ◌∷◌, ◌++◌, map, take, drop, refl, sym, ◌∙◌, ap, subst}
use Rattle.std.specs.Cmp.{nat_cmp_total}
use Rattle.std.specs.FinMap as finite
use Rattle.std.proofs.lemmas.List.{take-append-drop, take-map}
use Rattle.layer_base.specs.Layers.{layer_over as table_over, stack_over as table_stack_over, stack_table}
use Rattle.layer_stack.specs.Postings.{putting_all}
use Rattle.layer_stack.proofs.Order.{place_total, place_apart}
use Rattle.forward_data.specs.Records.{records_over, records_from, records_of, AreFull}
use Rattle.forward_data.proofs.Newest.{full_of}
use Rattle.shard_index.specs.Entities.{putting_entities}
use Rattle.shard_index.specs.Rows.{ShardRows, ShardChanges, no_rows, empty_layer, layer_over, stack_over, stack_rows}
use Rattle.shard_index.proofs.EntityRows.{id_apart}
use Rattle.shard_index.proofs.MergedTables.{over_nothing, over_unchanged}
use Rattle.shard_index.proofs.FullRecords.{records_over_nothing, records_unchanged}

-- the empty layer changes nothing
pub layer_over-empty : (rows : ShardRows) → layer_over rows empty_layer ≡ rows
unfolding layer_over
layer_over-empty rows = λ i. record {
  entities = over_unchanged nat_cmp_total id_apart rows.entities i;
  postings = over_unchanged place_total place_apart rows.postings i;
  records = records_unchanged rows.records i;
}

-- stacks put together
pub stack_over-append : (rows : ShardRows) (older newer : List ShardChanges) → stack_over rows (older ++ newer) ≡ stack_over (stack_over rows older) newer
stack_over-append rows [] newer = refl
stack_over-append rows (layer ∷ older) newer = stack_over-append (layer_over rows layer) older newer

-- one layer more at the end
pub stack_over-snoc : (rows : ShardRows) (layers : List ShardChanges) (layer : ShardChanges) → stack_over rows (layers ++ layer ∷ []) ≡ layer_over (stack_over rows layers) layer
stack_over-snoc rows layers layer = stack_over-append rows layers (layer ∷ [])

-- a layer that by itself stands for the first layers of a stack, in their place
pub stack_rows-front : (layers : List ShardChanges) (n : ℕ) (layer : ShardChanges) → layer_over no_rows layer ≡ stack_rows (take n layers) → stack_rows (layer ∷ drop n layers) ≡ stack_rows layers
stack_rows-front layers n layer is =
    ap (λ rows. stack_over rows (drop n layers)) is ∙ sym (stack_over-append no_rows (take n layers) (drop n layers)) ∙ ap stack_rows (take-append-drop n layers)

-- a stack stands for its three parts
pub stack_parts : (rows : ShardRows) (layers : List ShardChanges) → stack_over rows layers ≡ record {
  entities = table_stack_over rows.entities (map (λ l. l.entities) layers);
  postings = table_stack_over rows.postings (map (λ l. l.postings) layers);
  records = records_from rows.records (map (λ l. l.records) layers);
}
unfolding layer_over
stack_parts rows [] = refl
stack_parts rows (layer ∷ layers) = stack_parts (layer_over rows layer) layers

-- the parts of what a stack stands for
pub entities_of-stack : (layers : List ShardChanges) → (stack_rows layers).entities ≡ stack_table (map (λ l. l.entities) layers)
entities_of-stack layers = ap (λ (rows : ShardRows). rows.entities) (stack_parts no_rows layers)

pub postings_of-stack : (layers : List ShardChanges) → (stack_rows layers).postings ≡ stack_table (map (λ l. l.postings) layers)
postings_of-stack layers = ap (λ (rows : ShardRows). rows.postings) (stack_parts no_rows layers)

pub records_of-stack : (layers : List ShardChanges) → (stack_rows layers).records ≡ records_of (map (λ l. l.records) layers)
records_of-stack layers = ap (λ (rows : ShardRows). rows.records) (stack_parts no_rows layers)

-- a layer that puts rows and deletes nothing, where none of its records is empty
pub record IsBase (layer : ShardChanges) (rows : ShardRows) : Type 0 where
  pub entities : layer.entities ≡ putting_entities rows.entities
  pub postings : layer.postings ≡ putting_all rows.postings
  pub records : layer.records ≡ rows.records
  pub full : AreFull rows.records

-- by itself it stands for the rows
pub base_stands : (layer : ShardChanges) (rows : ShardRows) → IsBase layer rows → layer_over no_rows layer ≡ rows
unfolding layer_over
base_stands layer rows base = λ i. record {
  entities = (ap (table_over finite.empty) base.entities ∙ over_nothing nat_cmp_total id_apart rows.entities) i;
  postings = (ap (table_over finite.empty) base.postings ∙ over_nothing place_total place_apart rows.postings) i;
  records = (ap (records_over finite.empty) base.records ∙ records_over_nothing rows.records base.full) i;
}

-- the merges of the three parts of the first layers of a stack are a layer that by itself stands for them
pub merged_stands : (layers : List ShardChanges) (n : ℕ) (layer : ShardChanges) → layer.entities ≡ putting_entities (stack_table (take n (map (λ l. l.entities) layers)))
    → layer.postings ≡ putting_all (stack_table (take n (map (λ l. l.postings) layers))) → layer.records ≡ records_of (take n (map (λ l. l.records) layers)) → layer_over no_rows layer ≡ stack_rows (take n layers)
merged_stands layers n layer entities postings records =
    base_stands layer (stack_rows (take n layers)) (record {
      entities = entities ∙ ap (λ es. putting_entities (stack_table es)) (take-map (λ (l : ShardChanges). l.entities) n layers) ∙ ap putting_entities (sym (entities_of-stack (take n layers)));
      postings = postings ∙ ap (λ ps. putting_all (stack_table ps)) (take-map (λ (l : ShardChanges). l.postings) n layers) ∙ ap putting_all (sym (postings_of-stack (take n layers)));
      records = records ∙ ap records_of (take-map (λ (l : ShardChanges). l.records) n layers) ∙ sym (records_of-stack (take n layers));
      full = subst AreFull (sym (records_of-stack (take n layers))) (full_of (map (λ (l : ShardChanges). l.records) (take n layers)));
    })
