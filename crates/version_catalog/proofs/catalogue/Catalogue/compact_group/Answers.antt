use Rattle.std.proofs.Common.{arith, ◌≡◌, Some, length, get_or, slice_get}
use Rattle.turn_lock.proofs.Prefixes.{prefix_trans}
use Rattle.version_catalog.specs.Seats.{settings_of, compactor_journal, compactor_installs}
use Rattle.version_catalog.specs.declared.stack_id.StackId.{StackId}
use Rattle.version_catalog.proofs.SoleLayers.{bases_later}
use Rattle.version_catalog.proofs.Told.{read_at, one_among, raises_also}
use Rattle.version_catalog.proofs.catalogue.Catalogue.compact_group.Goals as goal

pub loop-at-preserved : goal.loop-at-preserved
loop-at-preserved g c =
    let start = compactor_journal c.args.compactor.now in
    let before = compactor_journal c.loop-at.compactor in
    let after = compactor_journal c.install_base-found.new.compactor in
    let was = c.loop-at.invariant in
    let now = c.install_base-found.ensures in
    let stack : StackId = get_or c.args.stacks.now c.loop-at.at record { vertical = 0; shard = 0; replica = 0 } in
    let at : slice_get c.args.stacks.now c.loop-at.at ≡ Some stack = read_at c.args.stacks.now c.loop-at.at record { vertical = 0; shard = 0; replica = 0 } (omega (arith, c.loop-at-test.true, c.requires.within.1)) in
    record {
      of = now.of;
      turns = omega (arith, now.turns, was.turns, c.loop-at.auto.at);
      later = prefix_trans start before after was.later now.later;
      low = was.low;
      raises = raises_also c.args.stacks.now (length start) c.publishes-covers.result stack (compactor_installs c.args.compactor.now) (compactor_installs c.loop-at.compactor) (compactor_installs c.install_base-found.new.compactor)
          (one_among c.args.stacks.now c.loop-at.at stack at) was.low was.raises now.raises;
      bases = bases_later (settings_of c.args.self.now).schema before after _ _ now.later was.bases;
    }
