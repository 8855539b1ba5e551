use Rattle.std.proofs.Common.{◌≡◌, map, take}
use Rattle.uni_table.specs.Targets.{held_to}
use Rattle.uni_table.proofs.table.Table.held.Given as goal

abbrev pub invariant-loop-target : goal.invariant-loop-target
invariant-loop-target l = l.held ≡ map (held_to l.type_no l.key) (take l.target-index l.targets)
