-- Versions that stand for tables.
use Rattle.std.proofs.Common.{◌≡◌, ℕ, zero, suc, ◌+◌, ◌<◌, List, [], ◌∷◌, ◌++◌, map, length, get_or, replicate, Some, refl, sym, ◌∙◌, ap, arith, slice_get, take, append_assoc}
use Rattle.std.proofs.lemmas.List.{length-map, map-append}
use Rattle.std.specs.List.{flat_map, range_with_len}
use Rattle.std.specs.Option.{option_map_or}
use Rattle.uni_schema.specs.Schema.{Declarations}
use Rattle.uni_table.specs.Contents.{Contents, empty}
use Rattle.layer_base.proofs.Frozen.{slice_get-map}
use Rattle.shard_index.specs.Places.{StackPlace, stack_place, shard_places, vertical_places, places_from, places_in, stack_places, stack_count}
use Rattle.shard_index.specs.Rows.{ShardRows, ShardChanges, no_rows, empty_layer, layer_over, stack_rows}
use Rattle.shard_index.specs.Shards.{shard_rows}
use Rattle.shard_index.specs.Versions.{rows_at, AreStacks}
use Rattle.shard_index.proofs.StackLaws.{layer_over-empty}
use Rattle.shard_index.proofs.StackPlaces.{count_is, shard_more, vertical_more, found_below}

-- the empty table has no rows
pub shard_rows-none : (schema : Declarations) (vertical shard : ℕ) → shard_rows schema empty vertical shard ≡ no_rows
unfolding shard_rows
shard_rows-none schema vertical shard = refl

made_at : {X Y : Type 0} (f : X → Y) (xs : List X) (i : ℕ) (d : X) (y : Y) → slice_get (map f xs) i ≡ Some y → f (get_or xs i d) ≡ y
made_at f [] i d y e = cc
made_at f (x ∷ xs) zero d y e = cc
made_at f (x ∷ xs) (suc i) d y e = made_at f xs i d y e

module _ (schema : Declarations) (table : Contents) (stacks : List (List ShardChanges)) (stand : map stack_rows stacks ≡ map (rows_at schema table) (stack_places schema)) where
  -- the stack at a place stands for the rows of its shard
  pub stands_at : (i : ℕ) (p : StackPlace) → slice_get (stack_places schema) i ≡ Some p → stack_rows (get_or stacks i []) ≡ rows_at schema table p
  stands_at i p at = made_at stack_rows stacks i [] (rows_at schema table p) (ap (λ rows. slice_get rows i) stand ∙ slice_get-map (rows_at schema table) (stack_places schema) i p at)

  -- stacks that stand for a table are those of a version
  pub are_stacks : AreStacks schema stacks
  are_stacks = record {
    count = sym (length-map stacks stack_rows) ∙ ap length stand ∙ length-map (stack_places schema) (rows_at schema table) ∙ count_is schema;
    alike = λ i j p q at other verticals shards. stands_at i p at ∙ (λ k. shard_rows schema table (verticals k) (shards k)) ∙ sym (stands_at j q other);
  }

-- stacks of the empty layer stand for the empty table
alike_all : {X Y Z : Type 0} (f : X → Z) (g : Y → Z) (x : X) (n : ℕ) (ys : List Y) → ((y : Y) → f x ≡ g y) → length ys ≡ n → map f (replicate n x) ≡ map g ys
alike_all f g x zero [] same long = refl
alike_all f g x zero (y ∷ ys) same long = absurd (omega arith)
alike_all f g x (suc n) [] same long = absurd (omega arith)
alike_all f g x (suc n) (y ∷ ys) same long = (λ i. same y i ∷ alike_all f g x n ys same (omega arith) i)

pub empty_stands : (schema : Declarations) → map stack_rows (replicate (stack_count schema) (empty_layer ∷ [])) ≡ map (rows_at schema empty) (stack_places schema)
empty_stands schema =
    alike_all stack_rows (rows_at schema empty) (empty_layer ∷ []) (stack_count schema) (stack_places schema)
    (λ p. layer_over-empty no_rows ∙ sym (shard_rows-none schema p.vertical p.shard)) (count_is schema)

-- the replicas of a shard share a layer that stands for its rows
pub replicas_stand : (schema : Declarations) (table : Contents) (v s replicas : ℕ) (layer : ShardChanges) → layer_over no_rows layer ≡ shard_rows schema table v s
    → map stack_rows (replicate replicas (layer ∷ [])) ≡ map (rows_at schema table) (map (stack_place v s) (range_with_len 0 replicas))
replicas_stand schema table v s replicas layer is =
    alike_places 0 replicas
  where
    alike_places : (a n : ℕ) → map stack_rows (replicate n (layer ∷ [])) ≡ map (rows_at schema table) (map (stack_place v s) (range_with_len a n))
    alike_places a zero = refl
    alike_places a (suc n) = λ i. is i ∷ alike_places (a + 1) n i

module _ (schema : Declarations) (table : Contents) where
  -- the stacks of one shard more
  pub shard_added : (v replicas n : ℕ) (layer : ShardChanges) (old new : List (List ShardChanges)) (start : List ShardRows) → layer_over no_rows layer ≡ shard_rows schema table v n → new ≡ old ++ replicate replicas (layer ∷ [])
      → map stack_rows old ≡ start ++ map (rows_at schema table) (flat_map (shard_places v replicas) (range_with_len 0 n))
      → map stack_rows new ≡ start ++ map (rows_at schema table) (flat_map (shard_places v replicas) (range_with_len 0 (n + 1)))
  shard_added v replicas n layer old new start is added so_far =
      let before = flat_map (shard_places v replicas) (range_with_len 0 n) in
      ap (map stack_rows) added ∙ map-append stack_rows old (replicate replicas (layer ∷ [])) ∙ (λ i. so_far i ++ replicas_stand schema table v n replicas layer is i)
      ∙ append_assoc start (map (rows_at schema table) before) (map (rows_at schema table) (shard_places v replicas n))
      ∙ ap (λ rows. start ++ rows) (sym (ap (map (rows_at schema table)) (shard_more v replicas n) ∙ map-append (rows_at schema table) before (shard_places v replicas n)))

  -- the stacks of one vertical more
  pub vertical_added : (i : ℕ) (old new : List ShardRows) → i < length schema.verticals → new ≡ old ++ map (rows_at schema table) (places_in schema i) → old ≡ map (rows_at schema table) (places_from 0 (take i schema.verticals))
      → new ≡ map (rows_at schema table) (places_from 0 (take (i + 1) schema.verticals))
  vertical_added i old new below added so_far =
      let found = found_below schema.verticals i below in
      let places : places_in schema i ≡ vertical_places i found.0 = ap (λ o. option_map_or (vertical_places i) o []) found.1 in
      added ∙ (λ j. so_far j ++ map (rows_at schema table) (places j))
      ∙ sym (ap (map (rows_at schema table)) (vertical_more schema.verticals i found.0 found.1) ∙ map-append (rows_at schema table) (places_from 0 (take i schema.verticals)) (vertical_places i found.0))
