use Rattle.std.proofs.Common.{◌≡◌, ◌++◌, take}
use Rattle.std.specs.List.{filter_map}
use Rattle.uni_table.specs.GraphSources.{led_to}
use Rattle.uni_table.proofs.graph.rows.Rows.add_targets.Given as goal

abbrev pub invariant-loop-end : goal.invariant-loop-end
invariant-loop-end l = l.targets.items ≡ l.fn.targets.items ++ filter_map (led_to l.self) (take l.end-index l.ends)
