use Rattle.std.proofs.Common.{length}
use Rattle.version_catalog.specs.Seats.{compactor_installs, compactor_journal}
use Rattle.round_feed.specs.Seats.{terms_of}
use Rattle.round_feed.proofs.Compacting.{compacted_next, installs_next}
use Rattle.round_feed.specs.Fits.{CompactFits}
use Rattle.round_feed.proofs.Items.{item_fits}
use Rattle.round_feed.proofs.Seated.{compacted_more}
use Rattle.round_feed.proofs.compactions.compact_round.Goals as goal

pub compact_line-answer-requires-clause-fits : goal.compact_line-answer-requires-clause-fits
compact_line-answer-requires-clause-fits g c =
    item_fits (CompactFits (terms_of c.args.catalogue.now)) c.args.items.now c.as_slice-item-items.result.now c.loop-item.item-index c.item-item.result c.as_slice-item-items.ensures c.requires.fit
    c.loop-item-test.true c.item-item.is

pub loop-item-preserved : goal.loop-item-preserved
loop-item-preserved g c =
    let old = c.args.compactor.now in
    let now = c.loop-item.compactor in
    let new = c.compact_line-answer.new.compactor in
    record {
      taken = compacted_more c.args.catalogue.now c.loop-item.item-index old now new c.loop-item.invariant.taken c.compact_line-answer.ensures.taken;
      compacted = compacted_next (compactor_journal old) (compactor_journal now) (compactor_journal new) c.args.items.now c.as_slice-item-items.result.now c.loop-item.item-index
          c.item-item.result c.loop-item.answers c.add_answer.new.answers c.compact_line-answer.result c.as_slice-item-items.ensures c.loop-item-test.true c.item-item.is
          (c.in_ok-add_answer.ensures {u = tt}) c.loop-item.invariant.taken.later c.compact_line-answer.ensures.taken.later c.loop-item.invariant.compacted
          c.compact_line-answer.ensures.compacted;
      installed = installs_next (length (compactor_journal old)) (length (compactor_journal now)) (compactor_installs old) (compactor_installs now) (compactor_installs new) c.args.items.now c.as_slice-item-items.result.now c.loop-item.item-index
          c.item-item.result c.loop-item.answers c.add_answer.new.answers c.compact_line-answer.result c.as_slice-item-items.ensures c.loop-item-test.true c.item-item.is
          (c.in_ok-add_answer.ensures {u = tt}) c.loop-item.invariant.compacted c.loop-item.invariant.installed c.compact_line-answer.ensures.installed;
    }
