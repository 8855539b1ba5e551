-- A query as a plain tree, which every definition speaks of.
use Rattle.std.specs.Prelude.{ℕ, List, [], ◌∷◌, map}
use Rattle.query_tree.specs.declared.kind.ListKind.{ListKind}
use Rattle.query_tree.specs.declared.kind.ListKind.TheVariants.{And, Or, Difference, WeakAnd, StrongOr}
use Rattle.query_tree.specs.declared.kind.TermKind.{TermKind}
use Rattle.query_tree.specs.declared.kind.TermKind.TheVariants as terms
use Rattle.query_tree.specs.declared.kind.JoinKind.{JoinKind}
use Rattle.query_tree.specs.declared.kind.JoinKind.TheVariants.{Apply, Extract}
use Rattle.query_tree.specs.declared.query.Mark.{Mark}
use Rattle.query_tree.specs.declared.query.Operand.{Operand}
use Rattle.query_tree.specs.declared.query.ListNode.{ListNode}
use Rattle.query_tree.specs.declared.query.JoinNode.{JoinNode}
use Rattle.query_tree.specs.declared.query.TermNode.{TermNode}
use Rattle.query_tree.specs.declared.query.Query.{Query}
use Rattle.query_tree.specs.declared.query.Query.TheOpen.{Query-F, JoinNode-F, ListNode-F, Operand-F}
use Rattle.query_tree.specs.declared.query.Query.TheFolds.{fold-Query, fold-JoinNode, fold-ListNode, fold-Operand}

-- A term has its column, whether its key is whole or a prefix, type name and key; a list its column, operator and operands; a join its
-- column, operator, type name with its column, limit and inner query. Operands have their marks.
mutual
  pub data Tree : Type 0 where
    term_at : ℕ → TermKind → List ℕ → List ℕ → Tree
    list_at : ℕ → ListKind → Forest → Tree
    join_at : ℕ → JoinKind → ℕ → List ℕ → ℕ → Tree → Tree

  pub data Forest : Type 0 where
    no_operands : Forest
    with_operand : Tree → Mark → Forest → Forest

-- what a join and an operand are before their operators are known
pub record Joined : Type 0 where
  pub column : ℕ
  pub type_column : ℕ
  pub type_name : List ℕ
  pub limit : ℕ
  pub node : Tree

pub record Listed : Type 0 where
  pub column : ℕ
  pub operands : Forest

pub record Marked : Type 0 where
  pub node : Tree
  pub mark : Mark

-- operands in their order
abbrev pub forest_of : List Marked → Forest
forest_of [] = no_operands
forest_of (operand ∷ operands) = with_operand operand.node operand.mark (forest_of operands)

abbrev pub termed : TermKind → TermNode → Tree
termed kind node = term_at node.column kind node.type_name node.key

abbrev pub listed : ListKind → Listed → Tree
listed kind node = list_at node.column kind node.operands

abbrev pub joined : JoinKind → Joined → Tree
joined kind node = join_at node.column kind node.type_column node.type_name node.limit node.node

-- one layer of the code's tree, with the plain trees of what lies below
abbrev pub tree_step : Query-F Tree Joined Listed Marked → Tree
tree_step (Query-F.Term node) = termed terms.Whole node
tree_step (Query-F.Prefix node) = termed terms.Prefix node
tree_step (Query-F.And node) = listed And node
tree_step (Query-F.Or node) = listed Or node
tree_step (Query-F.Difference node) = listed Difference node
tree_step (Query-F.WeakAnd node) = listed WeakAnd node
tree_step (Query-F.StrongOr node) = listed StrongOr node
tree_step (Query-F.Apply node) = joined Apply node
tree_step (Query-F.Extract node) = joined Extract node

abbrev pub join_step : JoinNode-F Tree Joined Listed Marked → Joined
join_step node =
    record {
      column = node.column;
      type_column = node.type_column;
      type_name = node.type_name;
      limit = node.limit;
      node = node.node.value;
    }

abbrev pub list_step : ListNode-F Tree Joined Listed Marked → Listed
list_step node = record { column = node.column; operands = forest_of node.operands.items }

abbrev pub operand_step : Operand-F Tree Joined Listed Marked → Marked
operand_step operand = record { node = operand.node; mark = operand.mark }

-- the plain tree of a query: its variants, numbers and items
abbrev pub tree_of : Query → Tree
tree_of = fold-Query Tree Joined Listed Marked tree_step join_step list_step operand_step

abbrev pub joined_of : JoinNode → Joined
joined_of = fold-JoinNode Tree Joined Listed Marked tree_step join_step list_step operand_step

abbrev pub listed_of : ListNode → Listed
listed_of = fold-ListNode Tree Joined Listed Marked tree_step join_step list_step operand_step

abbrev pub marked_of : Operand → Marked
marked_of = fold-Operand Tree Joined Listed Marked tree_step join_step list_step operand_step

-- the same of several operands
abbrev pub operands_of : List Operand → Forest
operands_of operands = forest_of (map marked_of operands)
