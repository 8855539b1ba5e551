use Rattle.std.proofs.Common.{◌≡◌, take}
use Rattle.std.specs.List.{filter_map}
use Rattle.uni_table.specs.Targets.{target_of}
use Rattle.uni_table.proofs.table.Table.targets.Given as goal

abbrev pub invariant-loop-held : goal.invariant-loop-held
invariant-loop-held l = l.targets.items ≡ filter_map (target_of l.self.contents) (take l.held-index l.held)
