use Rattle.std.proofs.Common.{subst}
use Rattle.uni_table.specs.Changes.{AreEdgeChanges}
use Rattle.shard_index.specs.BatchEdges.{AreOfBatch}
use Rattle.shard_index.proofs.BatchShards.{changes_declared}
use Rattle.shard_index.proofs.batch.batch_edges.BatchEdges.note.Goals as goal

pub note_changes-requires-clause-declared : goal.note_changes-requires-clause-declared
note_changes-requires-clause-declared c =
    let table = c.args.table.now in
    let are : AreEdgeChanges table.published table.contents c.in-Changed.changes = subst (AreOfBatch table) c.in-Changed.is c.requires.edges in
    changes_declared table.schema table.limits table.published table.contents c.requires.kept.1 c.requires.kept.0 c.in-Changed.changes are.exact
