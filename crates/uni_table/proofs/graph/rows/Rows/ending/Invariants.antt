use Rattle.std.proofs.Common.{◌≡◌, ◌++◌}
use Rattle.std.specs.List.{filter_map}
use Rattle.uni_table.specs.GraphRows.{ending_no}
use Rattle.uni_table.proofs.graph.rows.Rows.ending.Given as goal

abbrev pub invariant-loop-entry : goal.invariant-loop-entry
invariant-loop-entry l = l.endings.items ++ filter_map (ending_no l.self l.publish) l.entry-iterator ≡ filter_map (ending_no l.self l.publish) l.initial.entry-iterator
