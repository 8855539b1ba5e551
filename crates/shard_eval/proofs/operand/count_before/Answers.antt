use Rattle.std.proofs.Common.{rules}
use Rattle.std.proofs.lemmas.Fn.{always_returns_same}
use Rattle.uni_base.specs.Cursors.{is_before}
use Rattle.lineage_tree.specs.declared.lineage.RawHit.{RawHit}
use Rattle.shard_eval.proofs.HitKeys.{hits_parted, parted_from}
use Rattle.shard_eval.proofs.operand.count_before.Goals as goal

pub returns-clause-value : goal.returns-clause-value
returns-clause-value c =
    let hits = c.args.hits.now in
    let key = c.args.key.now in
    let parts = c.partition_point.ensures.partitioned (λ (hit : RawHit). is_before hit.key key) (always_returns_same _ _ _ (λ a r f k. search rules)) (hits_parted hits key c.requires) in
    parted_from hits key c.partition_point.result c.requires c.partition_point.ensures.bound parts
