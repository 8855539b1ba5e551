use Rattle.std.proofs.Common.{sym}
use Rattle.shard_index.proofs.IndexParts.{parts_of}
use Rattle.shard_index.proofs.index.ShardIndex.forward_stack.Goals as goal

pub returns : goal.returns
returns c =
    let parts = parts_of c.self.inside.entities c.self.inside.postings c.self.inside.forward c.args.self.now c.self.invariant c.self.view_is in
    sym parts.records
