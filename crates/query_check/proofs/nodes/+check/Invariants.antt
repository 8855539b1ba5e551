use Rattle.std.proofs.Common.{◌≡◌, None, drop}
use Rattle.query_tree.specs.Tree.{operands_of}
use Rattle.query_check.specs.Verticals.{AreStated}
use Rattle.query_check.specs.Plan.{all_inner, operands_seen, plans_of}
use Rattle.query_check.specs.Typing.{operands_typed}
use Rattle.query_check.proofs.Operands.{after_plans}
use Rattle.query_check.proofs.nodes.+check.Given as goal

abbrev pub invariant-check_operands-loop-operand : goal.invariant-check_operands-loop-operand
invariant-check_operands-loop-operand l = record {
  read :
      operands_typed l.schema l.joins l.around None (operands_of l.operand-items)
      ≡ after_plans (plans_of (operands_seen l.operands.items))
      (operands_typed l.schema l.joins l.around l.vertical (operands_of (drop l.operand-index l.operand-items)));
  stated : AreStated l.schema (all_inner (operands_seen l.operands.items));
}
