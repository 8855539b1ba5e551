use Rattle.std.proofs.Common.{◌≡◌, length}
use Rattle.uni_table.specs.Contents.{ended}
use Rattle.uni_table.specs.GraphRows.{IsRows, contents_of, published_of}
use Rattle.uni_table.proofs.graph.rows.Rows.end.Given as goal

abbrev pub invariant-loop-number : goal.invariant-loop-number
invariant-loop-number l =
    record {
      kept : IsRows l.self;
      published : published_of l.self ≡ published_of l.fn.self;
      same : ended (contents_of l.self) l.publish ≡ ended (contents_of l.fn.self) l.publish;
    }

abbrev pub decreases-loop-number : goal.decreases-loop-number
decreases-loop-number l = length l.self.ends.keys
