-- One layer for each stack, from one for each shard.
use Rattle.std.proofs.Common.{◌≡◌, ℕ, zero, suc, ◌+◌, ◌<◌, ◌≤◌, List, [], ◌∷◌, ◌++◌, map, length, take, drop, get_or, set, replicate, slice_get, Some, refl, sym, ◌∙◌, ap, subst, arith, append_assoc, length-append, length-drop, drop-cons}
use Rattle.std.proofs.lemmas.Option.{get_or_from_slice_get, slice_get_within}
use Rattle.std.proofs.lemmas.List.{set_split}
use Rattle.std.proofs.lemmas.List.FromFn.{length-map-range_with_len}
use Rattle.std.specs.List.{AllZip, flat_map, range_with_len}
use Rattle.uni_schema.specs.declared.schema.VerticalDef.{VerticalDef}
use Rattle.uni_schema.specs.Schema.{Declarations}
use Rattle.shard_index.specs.Batches.{ShardPlace, shard_place, shards_of, shards_from, all_shards}
use Rattle.shard_index.specs.Places.{StackPlace, stack_place, shard_places, vertical_places, places_from, stack_places}
use Rattle.shard_index.specs.Rows.{ShardChanges, empty_layer}
use Rattle.version_catalog.specs.Spread.{spread_over, spread, with_layers}
use Rattle.version_catalog.proofs.Paired.{AllZip-append, AllZip-parts}

pub length_shards : (v : ℕ) (declared : VerticalDef) → length (shards_of v declared) ≡ declared.shards
length_shards v declared = length-map-range_with_len (shard_place v) 0 declared.shards

-- what holds of the layer of each shard holds of that of each stack
module _ (R : ShardPlace → ShardChanges → Type 0) where
  abbrev OfShard : StackPlace → ShardChanges → Type 0
  OfShard place layer = R (shard_place place.vertical place.shard) layer

  replicas_fit : (v s a n : ℕ) (layer : ShardChanges) → R (shard_place v s) layer → AllZip OfShard (map (stack_place v s) (range_with_len a n)) (replicate n layer)
  replicas_fit v s a zero layer fits = tt
  replicas_fit v s a (suc n) layer fits = (fits, replicas_fit v s (a + 1) n layer fits)

  shards_fit : (v replicas : ℕ) (ns : List ℕ) (layers : List ShardChanges) → AllZip R (map (shard_place v) ns) layers → AllZip OfShard (flat_map (shard_places v replicas) ns) (flat_map (replicate replicas) layers)
  shards_fit v replicas [] [] fit = tt
  shards_fit v replicas [] (layer ∷ layers) fit = absurd fit
  shards_fit v replicas (n ∷ ns) [] fit = absurd fit
  shards_fit v replicas (n ∷ ns) (layer ∷ layers) fit =
      AllZip-append OfShard (shard_places v replicas n) (replicate replicas layer) (flat_map (shard_places v replicas) ns) (flat_map (replicate replicas) layers)
      (replicas_fit v n 0 replicas layer fit.0) (shards_fit v replicas ns layers fit.1)

  places_fit : (v : ℕ) (verticals : List VerticalDef) (layers : List ShardChanges) → AllZip R (shards_from v verticals) layers → AllZip OfShard (places_from v verticals) (spread_over verticals layers)
  places_fit v [] layers fit = tt
  places_fit v (declared ∷ verticals) layers fit =
      let parts = AllZip-parts R (shards_of v declared) (shards_from (v + 1) verticals) layers fit in
      let long = length_shards v declared in
      AllZip-append OfShard (vertical_places v declared) (flat_map (replicate declared.replicas) (take declared.shards layers)) (places_from (v + 1) verticals) (spread_over verticals (drop declared.shards layers))
      (shards_fit v declared.replicas (range_with_len 0 declared.shards) (take declared.shards layers) (subst (λ n. AllZip R (shards_of v declared) (take n layers)) long parts.0))
      (places_fit (v + 1) verticals (drop declared.shards layers) (subst (λ n. AllZip R (shards_from (v + 1) verticals) (drop n layers)) long parts.1))

  pub spread_fits : (schema : Declarations) (layers : List ShardChanges) → AllZip R (all_shards schema) layers → AllZip (λ (place : StackPlace) (layer : ShardChanges). R (shard_place place.vertical place.shard) layer) (stack_places schema) (spread schema layers)
  spread_fits schema layers fit = places_fit 0 schema.verticals layers fit

-- ---- one layer more on each stack

pub length-with_layers : (stacks : List (List ShardChanges)) (layers : List ShardChanges) → length layers ≡ length stacks → length (with_layers stacks layers) ≡ length stacks
length-with_layers [] layers long = refl
length-with_layers (stack ∷ stacks) [] long = absurd (omega (arith, long))
length-with_layers (stack ∷ stacks) (layer ∷ layers) long = ap suc (length-with_layers stacks layers (omega (arith, long)))

pub with_layers-at : (stacks : List (List ShardChanges)) (layers : List ShardChanges) (i : ℕ) → length layers ≡ length stacks → i < length stacks
    → get_or (with_layers stacks layers) i [] ≡ get_or stacks i [] ++ get_or layers i empty_layer ∷ []
with_layers-at [] layers i long below = absurd (omega (arith, below))
with_layers-at (stack ∷ stacks) [] i long below = absurd (omega (arith, long))
with_layers-at (stack ∷ stacks) (layer ∷ layers) zero long below = refl
with_layers-at (stack ∷ stacks) (layer ∷ layers) (suc i) long below = with_layers-at stacks layers i (omega (arith, long)) (omega (arith, below))

-- ---- one vertical more

next_of : {X : Type 0} (xs : List X) (i : ℕ) (x : X) → slice_get xs i ≡ Some x → drop i xs ≡ x ∷ drop (i + 1) xs
next_of xs i x at =
    let one : suc i ≡ i + 1 = omega arith in
    drop-cons xs i x (slice_get_within xs i x at) ∙ (λ k. get_or_from_slice_get xs i x x at k ∷ drop (one k) xs)

pub spread_more : (verticals : List VerticalDef) (v : ℕ) (declared : VerticalDef) (shares own others rest : List ShardChanges) → slice_get verticals v ≡ Some declared → own ≡ take declared.shards rest → others ≡ drop declared.shards rest
    → (shares ++ flat_map (replicate declared.replicas) own) ++ spread_over (drop (v + 1) verticals) others ≡ shares ++ spread_over (drop v verticals) rest
spread_more verticals v declared shares own others rest at owns leaves =
    append_assoc shares (flat_map (replicate declared.replicas) own) (spread_over (drop (v + 1) verticals) others)
    ∙ (λ i. shares ++ (flat_map (replicate declared.replicas) (owns i) ++ spread_over (drop (v + 1) verticals) (leaves i)))
    ∙ ap (λ ds. shares ++ spread_over ds rest) (sym (next_of verticals v declared at))

pub shards_more : (verticals : List VerticalDef) (v : ℕ) (declared : VerticalDef) (rest : List ShardChanges) → slice_get verticals v ≡ Some declared → length rest ≡ length (shards_from v (drop v verticals))
    → (declared.shards ≤ length rest) × (length (drop declared.shards rest) ≡ length (shards_from (v + 1) (drop (v + 1) verticals)))
shards_more verticals v declared rest at long =
    let all : length rest ≡ declared.shards + length (shards_from (v + 1) (drop (v + 1) verticals)) =
    long ∙ ap (λ ds. length (shards_from v ds)) (next_of verticals v declared at) ∙ length-append (shards_of v declared) (shards_from (v + 1) (drop (v + 1) verticals))
    ∙ ap (λ n. n + length (shards_from (v + 1) (drop (v + 1) verticals))) (length_shards v declared) in
    (omega (arith, all), omega (arith, all, length-drop declared.shards rest))

-- ---- stacks one by one

pub with_more : (stacks : List (List ShardChanges)) (layers : List ShardChanges) (longer : List (List ShardChanges)) (i : ℕ) (stack : List ShardChanges) (layer : ShardChanges) → slice_get stacks i ≡ Some stack → slice_get layers i ≡ Some layer
    → (longer ++ (stack ++ layer ∷ []) ∷ []) ++ with_layers (drop (i + 1) stacks) (drop (i + 1) layers) ≡ longer ++ with_layers (drop i stacks) (drop i layers)
with_more stacks layers longer i stack layer at there =
    append_assoc longer ((stack ++ layer ∷ []) ∷ []) (with_layers (drop (i + 1) stacks) (drop (i + 1) layers))
    ∙ sym (λ k. longer ++ with_layers (next_of stacks i stack at k) (next_of layers i layer there k))

-- ---- one stack changed

pub one_changed : {X : Type 0} (xs : List X) (i : ℕ) (x : X) → i < length xs → (take i xs ++ x ∷ []) ++ drop (i + 1) xs ≡ set xs i x
one_changed xs i x below =
    let one : i + 1 ≡ suc i = omega arith in
    append_assoc (take i xs) (x ∷ []) (drop (i + 1) xs) ∙ ap (λ n. take i xs ++ x ∷ drop n xs) one ∙ sym (set_split xs i x below)
