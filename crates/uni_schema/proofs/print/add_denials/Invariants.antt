use Rattle.std.proofs.Common.{◌≡◌, ◌++◌, take}
use Rattle.uni_base.specs.Lines.{lined}
use Rattle.uni_schema.specs.Print.{deny_lines}
use Rattle.uni_schema.proofs.print.add_denials.Given as goal

abbrev pub invariant-loop-no : goal.invariant-loop-no
invariant-loop-no l = l.text ≡ l.initial.text ++ lined (deny_lines (take l.no l.schema.types))
