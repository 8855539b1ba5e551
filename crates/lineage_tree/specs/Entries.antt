-- Books of lineage trees, in which a tree may name earlier ones.
use Rattle.std.specs.Prelude.{ℕ, ◌+◌, Bool, true, ◌&&◌, nat_lt, List, [], ◌∷◌, ◌++◌}
use Rattle.uni_base.specs.declared.edge.Held.{Held}
use Rattle.lineage_tree.specs.Lists.{lists_of}
use Rattle.lineage_tree.specs.Tree.{Tree, edge, all_of, any_of, entry, Forest, no_members, with_member}

-- whether a tree names only entries below a number
abbrev mutual
  pub names_below : ℕ → Tree → Bool
  names_below count (edge held) = true
  names_below count (all_of members) = all_name_below count members
  names_below count (any_of members) = all_name_below count members
  names_below count (entry number) = nat_lt number count

  pub all_name_below : ℕ → Forest → Bool
  all_name_below count no_members = true
  all_name_below count (with_member tree members) = names_below count tree && all_name_below count members

-- whether each of the trees that follow `count` others names only earlier ones
abbrev pub name_earlier : ℕ → List Tree → Bool
name_earlier count [] = true
name_earlier count (tree ∷ trees) = names_below count tree && name_earlier (count + 1) trees

-- a value of each of the trees of a book, given the values of those before it
abbrev pub each_after : {X : Type 0} → (List X → Tree → X) → List X → List Tree → List X
each_after value done [] = done
each_after value done (tree ∷ trees) = each_after value (done ++ value done tree ∷ []) trees

-- what the trees of a book stand for, each by those before it
abbrev pub entries_of : List Tree → List (List (List Held))
entries_of trees = each_after lists_of [] trees
