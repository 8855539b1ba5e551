use Rattle.std.proofs.Common.{◌≡◌}
use Rattle.uni_table.specs.Contents.{without_leaving}
use Rattle.uni_table.proofs.table.gone.remove_leaving.Given as goal

abbrev pub invariant-loop-type_no : goal.invariant-loop-type_no
invariant-loop-type_no l = l.graph ≡ record l.fn.graph { contents = without_leaving l.fn.graph.contents l.type_no l.id }
