use Rattle.std.proofs.Common.{◌≡◌, ◌++◌, drop}
use Rattle.query_tree.specs.Tree.{operands_of}
use Rattle.query_tree.specs.Text.{operands_text}
use Rattle.query_tree.proofs.print.+print.Given as goal

abbrev pub invariant-print_list-loop-operand : goal.invariant-print_list-loop-operand
invariant-print_list-loop-operand l =
    l.out ++ operands_text (operands_of (drop l.operand-index l.operand-items))
    ≡ l.initial.out ++ operands_text (operands_of l.operand-items)
