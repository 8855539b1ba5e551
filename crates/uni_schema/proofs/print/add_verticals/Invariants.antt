use Rattle.std.proofs.Common.{◌≡◌, ◌++◌, map, take}
use Rattle.uni_base.specs.Lines.{lined}
use Rattle.uni_schema.specs.Print.{vertical_line}
use Rattle.uni_schema.proofs.print.add_verticals.Given as goal

abbrev pub invariant-loop-no : goal.invariant-loop-no
invariant-loop-no l = l.text ≡ l.initial.text ++ lined (map vertical_line (take l.no l.schema.verticals))
