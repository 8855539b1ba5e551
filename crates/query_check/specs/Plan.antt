-- A checked query as a plain tree, which every definition speaks of.
use Rattle.std.specs.Prelude.{ℕ, List, [], ◌∷◌, ◌++◌, map}
use Rattle.uni_base.specs.declared.edge.Key.{Key}
use Rattle.query_tree.specs.declared.kind.ListKind.{ListKind}
use Rattle.query_tree.specs.declared.kind.ListKind.TheVariants as lists
use Rattle.query_tree.specs.declared.kind.JoinKind.{JoinKind}
use Rattle.query_tree.specs.declared.kind.JoinKind.TheVariants as joins
use Rattle.query_tree.specs.declared.query.Mark.{Mark}
use Rattle.query_check.specs.declared.checked.Checked.{Checked}
use Rattle.query_check.specs.declared.checked.CheckedNode.{CheckedNode}
use Rattle.query_check.specs.declared.checked.CheckedOperand.{CheckedOperand}
use Rattle.query_check.specs.declared.checked.CheckedNode.TheOpen.{CheckedNode-F, Checked-F, CheckedOperand-F}
use Rattle.query_check.specs.declared.checked.CheckedNode.TheFolds.{fold-CheckedNode, fold-Checked, fold-CheckedOperand}

-- A term has its type's number and its key, a prefix term its type's number and the beginning of its
-- keys; a list its operator and operands; a join its operator, type's number, limit and inner plan.
-- Operands have their marks. Verticals follow from the types.
mutual
  pub data Plan : Type 0 where
    term_plan : ℕ → Key → Plan
    prefix_plan : ℕ → List ℕ → Plan
    list_plan : ListKind → Plans → Plan
    join_plan : JoinKind → ℕ → ℕ → Plan → Plan

  pub data Plans : Type 0 where
    no_plans : Plans
    with_plan : Plan → Mark → Plans → Plans

-- a plan and the vertical that is stated with it
pub record Stated : Type 0 where
  pub plan : Plan
  pub vertical : ℕ

-- a node: its plan, and what is stated of the inner queries of the joins in it
pub record Seen : Type 0 where
  pub plan : Plan
  pub inner : List Stated

pub record SeenQuery : Type 0 where
  pub stated : Stated
  pub inner : List Stated

pub record SeenOperand : Type 0 where
  pub node : Seen
  pub mark : Mark

-- operands in their order
abbrev pub plans_of : List SeenOperand → Plans
plans_of [] = no_plans
plans_of (operand ∷ operands) = with_plan operand.node.plan operand.mark (plans_of operands)

abbrev pub all_inner : List SeenOperand → List Stated
all_inner [] = []
all_inner (operand ∷ operands) = operand.node.inner ++ all_inner operands

abbrev pub seen_list : ListKind → List SeenOperand → Seen
seen_list kind operands = record { plan = list_plan kind (plans_of operands); inner = all_inner operands }

abbrev pub seen_join : JoinKind → ℕ → ℕ → SeenQuery → Seen
seen_join kind type_no limit query =
    record { plan = join_plan kind type_no limit query.stated.plan; inner = query.stated ∷ query.inner }

-- one layer of the code's tree, with what is seen below it
abbrev pub node_step : CheckedNode-F Seen SeenQuery SeenOperand → Seen
node_step (CheckedNode-F.Term type_no key) = record { plan = term_plan type_no key; inner = [] }
node_step (CheckedNode-F.Prefix type_no from) = record { plan = prefix_plan type_no from; inner = [] }
node_step (CheckedNode-F.And operands) = seen_list lists.And operands.items
node_step (CheckedNode-F.Or operands) = seen_list lists.Or operands.items
node_step (CheckedNode-F.Difference operands) = seen_list lists.Difference operands.items
node_step (CheckedNode-F.WeakAnd operands) = seen_list lists.WeakAnd operands.items
node_step (CheckedNode-F.StrongOr operands) = seen_list lists.StrongOr operands.items
node_step (CheckedNode-F.Apply type_no limit node) = seen_join joins.Apply type_no limit node.value
node_step (CheckedNode-F.Extract type_no limit node) = seen_join joins.Extract type_no limit node.value

abbrev pub query_step : Checked-F Seen SeenQuery SeenOperand → SeenQuery
query_step query =
    record { stated = record { plan = query.node.plan; vertical = query.vertical }; inner = query.node.inner }

abbrev pub operand_step : CheckedOperand-F Seen SeenQuery SeenOperand → SeenOperand
operand_step operand = record { node = operand.node; mark = operand.mark }

abbrev pub seen : Checked → SeenQuery
seen = fold-Checked Seen SeenQuery SeenOperand node_step query_step operand_step

abbrev pub seen_node : CheckedNode → Seen
seen_node = fold-CheckedNode Seen SeenQuery SeenOperand node_step query_step operand_step

abbrev pub seen_operand : CheckedOperand → SeenOperand
seen_operand = fold-CheckedOperand Seen SeenQuery SeenOperand node_step query_step operand_step

-- the same of several operands
abbrev pub operands_seen : List CheckedOperand → List SeenOperand
operands_seen operands = map seen_operand operands

-- the plan of a checked query, with its vertical
abbrev pub stated_of : Checked → Stated
stated_of query = (seen query).stated

-- what it states of the inner queries of its joins
abbrev pub inner_of : Checked → List Stated
inner_of query = (seen query).inner
