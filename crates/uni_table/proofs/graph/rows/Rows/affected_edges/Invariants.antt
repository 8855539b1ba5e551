use Rattle.std.proofs.Common.{◌≡◌, ◌++◌, [], List, take}
use Rattle.std.specs.List.{filter_map}
use Rattle.uni_table.specs.GraphOrder.{affected_at, AddsMoved}
use Rattle.uni_table.specs.declared.graph.order.PlacedEdge.{PlacedEdge}
use Rattle.uni_table.proofs.graph.rows.Rows.affected_edges.Given as goal

abbrev pub invariant-loop-place : goal.invariant-loop-place
invariant-loop-place l = (moved : List PlacedEdge) × AddsMoved l.self [] moved × (l.edges.items ≡ moved ++ filter_map (affected_at l.self) (take l.place-index l.place-items))
