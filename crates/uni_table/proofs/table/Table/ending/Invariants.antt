use Rattle.std.proofs.Common.{◌≡◌, map, take}
use Rattle.uni_table.specs.declared.graph.Ending.{Ending}
use Rattle.uni_table.proofs.table.Table.ending.Given as goal

abbrev pub invariant-loop-ending : goal.invariant-loop-ending
invariant-loop-ending l = l.edges ≡ map (λ (e : Ending). e.edge) (take l.ending-index l.ending-items)
