use Rattle.std.proofs.Common.{◌≡◌}
use Rattle.chained_rows.specs.Chains.{changed_from}
use Rattle.uni_table.specs.GraphRows.{IsRows, gone_at, published_of}
use Rattle.uni_table.proofs.GraphWalks.{IsAlong}
use Rattle.uni_table.proofs.graph.rows.Rows.remove_at.Given as goal

abbrev pub invariant-loop-number : goal.invariant-loop-number
invariant-loop-number l =
    record {
      kept : IsRows l.self;
      published : published_of l.self ≡ published_of l.fn.self;
      along : IsAlong l.self l.side l.index l.number;
      ids : l.self.ids ≡ l.fn.self.ids;
      sources : l.self.sources ≡ l.fn.self.sources;
      done : l.self.edges.entries ≡ changed_from (gone_at l.side l.index) l.number l.fn.self.edges.entries;
    }

abbrev pub decreases-loop-number : goal.decreases-loop-number
decreases-loop-number l = l.number
