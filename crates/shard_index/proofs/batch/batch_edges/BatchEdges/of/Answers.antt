use Rattle.std.proofs.Common.{rules, arith, ◌≡◌, length}
use Rattle.shard_index.proofs.FullEdges.{holds_nothing}
use Rattle.shard_index.proofs.batch.batch_edges.BatchEdges.of.Goals as goal

pub returns-then-published_entities-eq0 : goal.returns-then-published_entities-eq0
returns-then-published_entities-eq0 c =
    let table = c.args.table.now in
    let none : length table.published.entities ≡ 0 = search (rules, arith) in
    (holds_nothing table.schema table.limits table.published c.requires.1 none, c.in_ok-edge_sources.ensures {u = tt})
