-- Tables that are stacks of layers, over any order of keys. A table has at most one value at each
-- key; a layer deletes keys and puts values.
use Rattle.std.specs.Prelude.{◌≡◌, not, List, [], ◌∷◌, reverse}
use Rattle.std.specs.declared.cmp.Ordering.{Ordering}
use Rattle.std.specs.declared.cmp.Ordering.TheVariants.{Equal}
use Rattle.std.specs.FinMap as map

-- only equal keys are at the same place in an order
abbrev pub TellsApart : {K : Type 0} → (K → K → Ordering) → Type 0
TellsApart {K} R = (x y : K) → R x y ≡ Equal → x ≡ y

-- what a layer changes: the keys that it deletes, with nothing at each, and the values that it puts
pub record Changes {K : Type 0} (R : K → K → Ordering) (X : Type 0) : Type 0 where
  pub deletes : map.FinMap R (Unit {0})
  pub puts : map.FinMap R X

module _ {K X : Type 0} {R : K → K → Ordering} where
  -- a map of what a log says of each key: its last word counts
  abbrev pub from_log : List (K × X) → map.FinMap R X
  from_log log = map.from_entries {R = R} (reverse log)

  -- a table with values added, each in place of one at the same key
  abbrev pub put_all : List (K × X) → map.FinMap R X → map.FinMap R X
  put_all [] table = table
  put_all (e ∷ es) table = map.insert (put_all es table) e.0 e.1

  -- a table under a layer: what the layer deletes is dropped, and then what it puts is added
  abbrev pub layer_over : map.FinMap R X → Changes R X → map.FinMap R X
  layer_over table layer = put_all (map.entries layer.puts) (map.retain_keys table (λ k. not (map.contains_key layer.deletes k)))

  -- a table under a stack of layers, from the oldest to the newest
  abbrev pub stack_over : map.FinMap R X → List (Changes R X) → map.FinMap R X
  stack_over table [] = table
  stack_over table (layer ∷ layers) = stack_over (layer_over table layer) layers

  -- what a stack of layers stands for
  abbrev pub stack_table : List (Changes R X) → map.FinMap R X
  stack_table = stack_over map.empty
