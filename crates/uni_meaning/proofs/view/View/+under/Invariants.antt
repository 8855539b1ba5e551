use Rattle.std.proofs.Common.{◌≡◌, ◌+◌, ◌*◌, map, take}
use Rattle.query_check.specs.Plan.{operands_seen, plans_of, seen_node, stated_of}
use Rattle.uni_meaning.specs.Standings.{columns_of, seen_column}
use Rattle.uni_meaning.proofs.SeenNodes.{plan_size, plans_size}
use Rattle.uni_meaning.proofs.view.View.+under.Given as goal

abbrev pub decreases-cut : goal.decreases-cut
decreases-cut l = 4 * plan_size (stated_of l.query.now).plan + 1

abbrev pub decreases-under : goal.decreases-under
decreases-under l = 4 * plan_size (seen_node l.node.now).plan

abbrev pub decreases-under_query : goal.decreases-under_query
decreases-under_query l = 4 * plan_size (stated_of l.query.now).plan + 2

abbrev pub decreases-under_list : goal.decreases-under_list
decreases-under_list l = 4 * plans_size (plans_of (operands_seen l.operands.now.items)) + 2

abbrev pub decreases-columns : goal.decreases-columns
decreases-columns l = 4 * plans_size (plans_of (operands_seen l.operands.now.items)) + 1

abbrev pub invariant-columns-loop-operand : goal.invariant-columns-loop-operand
invariant-columns-loop-operand l = map seen_column l.columns.items ≡ columns_of l.self (operands_seen (take l.operand-index l.operand-items)) l.places
