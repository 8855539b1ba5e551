-- Tables after changes at their keys, one after another.
use Rattle.std.specs.Prelude.{List, [], ◌∷◌, ◌++◌, map, Option, None, Some}
use Rattle.std.specs.declared.cmp.Ordering.{Ordering}
use Rattle.std.specs.FinMap as finite
use Rattle.layer_base.specs.Layers.{Changes}

module _ {K X : Type 0} {R : K → K → Ordering} where
  -- a table with a value at a key, in place of any other, or with nothing there
  abbrev pub set_at : finite.FinMap R X → K → Option X → finite.FinMap R X
  set_at table k None = finite.remove table k
  set_at table k (Some v) = finite.insert table k v

  -- a table after changes, from the first to the last
  abbrev pub after : finite.FinMap R X → List (K × Option X) → finite.FinMap R X
  after table [] = table
  after table (c ∷ changes) = after (set_at table c.0 c.1) changes

abbrev pub deleted : {K X : Type 0} → K × Unit {0} → K × Option X
deleted e = (e.0, None)

abbrev pub put : {K X : Type 0} → K × X → K × Option X
put e = (e.0, Some e.1)

-- the changes of a layer in their turn: what it deletes, and then what it puts
abbrev pub in_turn : {K X : Type 0} {R : K → K → Ordering} → Changes R X → List (K × Option X)
in_turn layer = map deleted (finite.entries layer.deletes) ++ map put (finite.entries layer.puts)
