-- Items by the shards that they concern.
use Rattle.std.specs.Prelude.{ℕ, Bool, false, ◌==◌, List, [], ◌∷◌, ◌++◌, map, filter, Option, None, Some, get_or, slice_set}
use Rattle.std.specs.declared.vec.Vec.{Vec}
use Rattle.std.specs.Global.{Global}
use Rattle.std.specs.List.{range_with_len}
use Rattle.std.specs.Option.{option_map_or}

-- whether a shard is the one
abbrev pub is_shard : ℕ → Option ℕ → Bool
is_shard shard found = option_map_or (λ n. n == shard) found false

-- lists with one more item in one of them, if there is one
abbrev pub with_item : {X : Type 0} → List (List X) → Option ℕ → X → List (List X)
with_item lists None item = lists
with_item lists (Some n) item = slice_set lists n (get_or lists n [] ++ item ∷ [])

-- items by the shards that they concern
abbrev pub split_by : {X : Type 0} → (X → Option ℕ) → ℕ → List X → List (List X)
split_by concerns shards items = map (λ shard. filter (λ x. is_shard shard (concerns x)) items) (range_with_len 0 shards)

-- the lists of vectors
abbrev pub lists_of : {X : Type 0} → List (Vec X Global) → List (List X)
lists_of vectors = map (λ v. v.items) vectors

-- so many empty lists
abbrev pub empty_lists_of : {X : Type 0} → ℕ → List (List X)
empty_lists_of count = map (λ shard. []) (range_with_len 0 count)
