-- What is seen of leaves and joins.
use Rattle.std.proofs.Common.{◌≡◌, ℕ, ◌+◌, List, [], Box, Vec, Global, rules}
use Rattle.uni_base.specs.declared.edge.Key.{Key}
use Rattle.query_tree.specs.declared.kind.JoinKind.TheVariants.{Apply, Extract}
use Rattle.query_tree.specs.declared.kind.ListKind.TheVariants.{And, Or, Difference, WeakAnd, StrongOr}
use Rattle.query_check.specs.declared.checked.Checked.{Checked}
use Rattle.query_check.specs.declared.checked.CheckedOperand.{CheckedOperand}
use Rattle.query_check.specs.declared.checked.CheckedNode as nodes
use Rattle.query_check.specs.declared.checked.CheckedNode.TheFolds.{fold-roll-CheckedNode, fold_out-CheckedNode}
use Rattle.query_check.specs.declared.checked.CheckedNode.TheViews.{the_lemmas}
use Rattle.query_check.specs.Plan.{Plan, Plans, Seen, SeenQuery, SeenOperand, node_step, query_step, operand_step, operands_seen, seen, seen_join, seen_list, seen_node, term_plan, prefix_plan, list_plan, join_plan, no_plans, with_plan}

pub seen_term : (number : ℕ) (key : Key) → seen_node (nodes.Term number key) ≡ record { plan = term_plan number key; inner = [] }
unfolding nodes.out-CheckedNode denote.Hole.Carrier.out
seen_term number key = fold_out-CheckedNode Seen SeenQuery SeenOperand node_step query_step operand_step (nodes.Term number key)

pub seen_prefix : (number : ℕ) (from : List ℕ) → seen_node (nodes.Prefix number from) ≡ record { plan = prefix_plan number from; inner = [] }
unfolding nodes.out-CheckedNode denote.Hole.Carrier.out
seen_prefix number from = fold_out-CheckedNode Seen SeenQuery SeenOperand node_step query_step operand_step (nodes.Prefix number from)

pub seen_apply : (number limit : ℕ) (node : Box Checked Global) → seen_node (nodes.Apply number limit node) ≡ seen_join Apply number limit (seen node.value)
unfolding nodes.out-CheckedNode denote.Hole.Carrier.out
seen_apply number limit node = fold_out-CheckedNode Seen SeenQuery SeenOperand node_step query_step operand_step (nodes.Apply number limit node)

pub seen_extract : (number limit : ℕ) (node : Box Checked Global) → seen_node (nodes.Extract number limit node) ≡ seen_join Extract number limit (seen node.value)
unfolding nodes.out-CheckedNode denote.Hole.Carrier.out
seen_extract number limit node = fold_out-CheckedNode Seen SeenQuery SeenOperand node_step query_step operand_step (nodes.Extract number limit node)

pub seen_and : (operands : Vec CheckedOperand Global) → seen_node (nodes.And operands) ≡ seen_list And (operands_seen operands.items)
seen_and operands = search (rules, the_lemmas, fold-roll-CheckedNode, fold_out-CheckedNode)

pub seen_or : (operands : Vec CheckedOperand Global) → seen_node (nodes.Or operands) ≡ seen_list Or (operands_seen operands.items)
seen_or operands = search (rules, the_lemmas, fold-roll-CheckedNode, fold_out-CheckedNode)

pub seen_difference : (operands : Vec CheckedOperand Global) → seen_node (nodes.Difference operands) ≡ seen_list Difference (operands_seen operands.items)
seen_difference operands = search (rules, the_lemmas, fold-roll-CheckedNode, fold_out-CheckedNode)

pub seen_weak_and : (operands : Vec CheckedOperand Global) → seen_node (nodes.WeakAnd operands) ≡ seen_list WeakAnd (operands_seen operands.items)
seen_weak_and operands = search (rules, the_lemmas, fold-roll-CheckedNode, fold_out-CheckedNode)

pub seen_strong_or : (operands : Vec CheckedOperand Global) → seen_node (nodes.StrongOr operands) ≡ seen_list StrongOr (operands_seen operands.items)
seen_strong_or operands = search (rules, the_lemmas, fold-roll-CheckedNode, fold_out-CheckedNode)

-- how large a plan is
abbrev mutual
  pub plan_size : Plan → ℕ
  plan_size (term_plan number key) = 1
  plan_size (prefix_plan number from) = 1
  plan_size (list_plan kind plans) = 1 + plans_size plans
  plan_size (join_plan kind number limit plan) = 1 + plan_size plan

  pub plans_size : Plans → ℕ
  plans_size no_plans = 0
  plans_size (with_plan plan mark others) = plan_size plan + plans_size others
