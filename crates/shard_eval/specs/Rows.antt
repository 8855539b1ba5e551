-- Keys with their trees under the operands that have them.
use Rattle.std.specs.Prelude.{List, [], ◌∷◌, ◌++◌, Option, None, Some, map}
use Rattle.query_tree.specs.declared.kind.ListKind.{ListKind}
use Rattle.uni_base.specs.declared.entity.DocKey.{DocKey}
use Rattle.lineage_tree.specs.Tree.{Tree, tree_of}
use Rattle.shard_eval.specs.declared.trees.TreeRow.{TreeRow}
use Rattle.shard_eval.specs.Found.{Found, tree_at, trees_at}
use Rattle.shard_eval.specs.Kept.{tree_by}

-- a key and its trees
abbrev pub row_of : TreeRow → DocKey × List Tree
row_of row = (row.key, map tree_of row.trees.items)

-- keys without trees
abbrev pub rows_of : List DocKey → List (DocKey × List Tree)
rows_of = map (λ k. (k, []))

abbrev pub keys_of_rows : List (DocKey × List Tree) → List DocKey
keys_of_rows = map (λ row. row.0)

-- a row with one tree more, if there is one
abbrev pub and_tree : DocKey × List Tree → Option Tree → DocKey × List Tree
and_tree row None = row
and_tree row (Some tree) = (row.0, row.1 ++ tree ∷ [])

-- a row with the tree that one more operand has of its key
abbrev pub with_found : List Found → DocKey × List Tree → DocKey × List Tree
with_found fs row = and_tree row (tree_at fs row.0)

-- keys with their trees under all operands that have them
abbrev pub with_all : List (List Found) → List DocKey → List (DocKey × List Tree)
with_all lists = map (λ k. (k, trees_at lists k))

-- rows as what an operator finds
abbrev pub found_row : ListKind → DocKey × List Tree → Found
found_row kind row = record { key = row.0; tree = tree_by kind row.1 }

abbrev pub found_rows : ListKind → List (DocKey × List Tree) → List Found
found_rows kind = map (found_row kind)
