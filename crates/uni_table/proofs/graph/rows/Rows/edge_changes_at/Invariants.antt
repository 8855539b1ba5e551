use Rattle.std.proofs.Common.{◌≡◌, take}
use Rattle.std.specs.List.{filter_map}
use Rattle.uni_table.specs.GraphOrder.{placed_change}
use Rattle.uni_table.proofs.graph.rows.Rows.edge_changes_at.Given as goal

abbrev pub invariant-loop-i : goal.invariant-loop-i
invariant-loop-i l = l.changes.items ≡ filter_map (placed_change l.self) (take l.i l.edges)
