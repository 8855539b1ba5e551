use Rattle.std.proofs.Common.{◌≡◌, take, map}
use Rattle.uni_table.specs.GraphOrder.{standing_at}
use Rattle.uni_table.proofs.graph.rows.Rows.standing.Given as goal

abbrev pub invariant-loop-edge : goal.invariant-loop-edge
invariant-loop-edge l = l.standing.items ≡ map (standing_at l.self) (take l.edge-index l.edges)
