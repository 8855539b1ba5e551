use Rattle.std.proofs.Common.{◌≡◌, drop, length}
use Rattle.std.specs.List.{filter_map}
use Rattle.uni_table.specs.GraphRows.{held_at}
use Rattle.uni_table.proofs.GraphWalks.{IsAlong}
use Rattle.uni_table.proofs.graph.rows.Rows.count_at.Given as goal

abbrev pub invariant-loop-number : goal.invariant-loop-number
invariant-loop-number l =
    record {
      along : IsAlong l.self l.side l.index l.number;
      done : l.count ≡ length (filter_map (held_at l.self l.side l.index) (drop l.number l.self.edges.entries));
    }

abbrev pub decreases-loop-number : goal.decreases-loop-number
decreases-loop-number l = l.number
