use Rattle.std.proofs.Common.{◌≡◌, ◌++◌, reverse, drop}
use Rattle.std.specs.List.{filter_map}
use Rattle.uni_table.specs.GraphSources.{end_at}
use Rattle.uni_table.specs.declared.graph.numbers.Side.TheVariants.{Source as From}
use Rattle.uni_table.proofs.GraphWalks.{IsAlong}
use Rattle.uni_table.proofs.graph.rows.Rows.add_ends.Given as goal

abbrev pub invariant-loop-number : goal.invariant-loop-number
invariant-loop-number l =
    record {
      along : IsAlong l.self From l.index l.number;
      done : l.ends.items ≡ l.fn.ends.items ++ reverse (filter_map (end_at l.index) (drop l.number l.self.edges.entries));
    }

abbrev pub decreases-loop-number : goal.decreases-loop-number
decreases-loop-number l = l.number
