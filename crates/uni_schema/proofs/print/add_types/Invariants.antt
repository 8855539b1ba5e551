use Rattle.std.proofs.Common.{◌≡◌, ◌++◌, map, take}
use Rattle.uni_base.specs.Lines.{lined}
use Rattle.uni_schema.specs.Print.{type_line}
use Rattle.uni_schema.proofs.print.add_types.Given as goal

abbrev pub invariant-loop-no : goal.invariant-loop-no
invariant-loop-no l = l.text ≡ l.initial.text ++ lined (map (type_line l.schema) (take l.no l.schema.types))
