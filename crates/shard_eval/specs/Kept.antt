-- What an operator over operands finds.
use Rattle.std.specs.Prelude.{ℕ, ◌≤◌, Bool, false, nat_le, Option, None, Some, List, [], ◌∷◌, map, take}
use Rattle.query_tree.specs.declared.kind.ListKind.{ListKind}
use Rattle.query_tree.specs.declared.kind.ListKind.TheVariants.{And, Or, Difference, WeakAnd, StrongOr}
use Rattle.query_tree.specs.declared.query.Mark.{Mark}
use Rattle.query_tree.specs.declared.query.Mark.TheVariants as marks
use Rattle.uni_base.specs.declared.entity.DocKey.{DocKey}
use Rattle.uni_base.specs.KeySets.{united}
use Rattle.uni_base.specs.Walks.{Quota, Unmarked, Count, Weight, weak_walk, strong_walk}
use Rattle.uni_meaning.specs.Hits.{quota_of}
use Rattle.weak_strong.specs.Rules.{walkers}
use Rattle.set_cursors.specs.Filters.{common, difference}
use Rattle.lineage_tree.specs.Tree.{Tree, all_of, any_of, no_members, forest_of}
use Rattle.shard_eval.specs.Found.{Found, found_keys, trees_at}

-- a mark that is a weight is a share: 1 to 1000 thousandths at most, and no more than the whole
abbrev pub IsShare : Mark → Type 0
IsShare marks.Plain = Unit {0}
IsShare (marks.Hits left) = Unit {0}
IsShare (marks.Weight n d) = (1 ≤ n) × (n ≤ d) × (d ≤ 1000)

-- for a weak walk an operand without a mark is one that no hit may lack
abbrev pub bare : Quota → Quota
bare Unmarked = Count 0
bare (Count left) = Count left
bare (Weight n d) = Weight n d

-- and in a strong walk weights alone count
abbrev pub weight_alone : Quota → Quota
weight_alone Unmarked = Unmarked
weight_alone (Count left) = Unmarked
weight_alone (Weight n d) = Weight n d

-- what the operands' marks let a walk count, as it begins
abbrev pub counters : List Mark → List (Quota × ℕ)
counters = map (λ mark. (quota_of mark, 0))

-- the keys of the first list that no other has
abbrev pub alone : List (List DocKey) → List DocKey
alone [] = []
alone (keys ∷ lists) = difference keys (united lists)

-- the keys that an operator keeps of its operands' keys
abbrev pub kept : ListKind → List Mark → List (List DocKey) → List DocKey
kept And marks lists = common lists
kept Or marks lists = united lists
kept Difference marks lists = alone lists
kept WeakAnd marks lists = weak_walk 0 (walkers lists (counters marks)) (united lists)
kept StrongOr marks lists = strong_walk 0 (walkers lists (counters marks)) (united lists)

-- the first of some trees
abbrev pub first_tree : List Tree → Tree
first_tree [] = any_of no_members
first_tree (tree ∷ trees) = tree

-- a tree of the trees under the operands that have an entity: all of them, any of them, or the first
abbrev pub tree_by : ListKind → List Tree → Tree
tree_by And trees = all_of (forest_of trees)
tree_by Or trees = any_of (forest_of trees)
tree_by Difference trees = first_tree trees
tree_by WeakAnd trees = all_of (forest_of trees)
tree_by StrongOr trees = any_of (forest_of trees)

-- a key that an operator keeps, with its tree
abbrev pub found_at : ListKind → List (List Found) → DocKey → Found
found_at kind lists k = record { key = k; tree = tree_by kind (trees_at lists k) }

-- what an operator finds over what its operands find
abbrev pub found_list : ListKind → List Mark → List (List Found) → List Found
found_list kind marks lists = map (found_at kind lists) (kept kind marks (map found_keys lists))

-- as many as a limit says, or all
abbrev pub up_to : {X : Type 0} → Option ℕ → List X → List X
up_to None xs = xs
up_to (Some limit) xs = take limit xs

-- no more than a limit says
abbrev pub IsWithin : ℕ → Option ℕ → Type 0
IsWithin count None = Unit {0}
IsWithin count (Some limit) = count ≤ limit

-- whether so many are as many as a limit says
abbrev pub is_full : ℕ → Option ℕ → Bool
is_full count None = false
is_full count (Some limit) = nat_le limit count
