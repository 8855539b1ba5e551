use Rattle.std.proofs.Common.{◌≡◌, take, map}
use Rattle.uni_table.specs.GraphOrder.{ranks_standing}
use Rattle.uni_table.proofs.graph.rows.Rows.target_ranks.Given as goal

abbrev pub invariant-loop-edge : goal.invariant-loop-edge
invariant-loop-edge l = l.ranks.items ≡ map (ranks_standing l.self) (take l.edge-index l.standing)
