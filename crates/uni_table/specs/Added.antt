-- Items that are added to a list.
use Rattle.std.specs.Prelude.{◌≡◌, ◌++◌, List}
use Rattle.std.specs.List.Sorted.{IsPermutation}

-- the second list is the first with these items after it, in some order
pub record Adds {X : Type 0} (old new items : List X) : Type 0 where
  pub added : List X
  pub is : new ≡ old ++ added
  pub same : IsPermutation items added
