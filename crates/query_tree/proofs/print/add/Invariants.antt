use Rattle.std.proofs.Common.{◌≡◌, ◌++◌, drop}
use Rattle.query_tree.proofs.print.add.Given as goal

abbrev pub invariant-loop-byte : goal.invariant-loop-byte
invariant-loop-byte l = l.out ++ drop l.byte-index l.text ≡ l.fn.out ++ l.text
