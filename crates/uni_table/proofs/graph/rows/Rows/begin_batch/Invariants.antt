use Rattle.std.proofs.Common.{◌≡◌, [], length}
use Rattle.uni_table.specs.GraphRows.{contents_of, IsRows}
use Rattle.uni_table.proofs.graph.rows.Rows.begin_batch.Given as goal

abbrev pub invariant-loop : goal.invariant-loop
invariant-loop l =
    record {
      kept : IsRows l.self;
      same : contents_of l.self ≡ contents_of l.fn.self;
    }

abbrev pub decreases-loop : goal.decreases-loop
decreases-loop l = length l.self.touched_edges.items

abbrev pub invariant-loop-2 : goal.invariant-loop-2
invariant-loop-2 l =
    record {
      kept : IsRows l.self;
      same : contents_of l.self ≡ contents_of l.fn.self;
      edges : l.self.touched_edges.items ≡ [];
    }

abbrev pub decreases-loop-2 : goal.decreases-loop-2
decreases-loop-2 l = length l.self.touched_ids.items
