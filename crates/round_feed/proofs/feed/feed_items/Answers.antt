use Rattle.round_feed.specs.Seats.{feed_of, terms_of}
use Rattle.round_feed.proofs.Feeding.{is_fed_next}
use Rattle.round_feed.specs.Fits.{FeedFits}
use Rattle.round_feed.proofs.Items.{item_fits}
use Rattle.round_feed.proofs.Seated.{fed_more}
use Rattle.round_feed.proofs.feed.feed_items.Goals as goal

pub feed_line-answer-requires-clause-fits : goal.feed_line-answer-requires-clause-fits
feed_line-answer-requires-clause-fits g c =
    item_fits (FeedFits (terms_of c.args.catalogue.now)) c.args.items.now c.as_slice-item-items.result.now c.loop-item.item-index c.item-item.result c.as_slice-item-items.ensures c.requires.fit
    c.loop-item-test.true c.item-item.is

pub loop-item-preserved : goal.loop-item-preserved
loop-item-preserved g c =
    let old = c.args.feeder.now in
    let now = c.loop-item.feeder in
    let new = c.feed_line-answer.new.feeder in
    record {
      taken = fed_more c.args.catalogue.now c.loop-item.item-index old now new c.loop-item.invariant.taken c.feed_line-answer.ensures.taken;
      fed = is_fed_next (terms_of c.args.catalogue.now) (feed_of old) (feed_of now) (feed_of new) c.args.items.now c.as_slice-item-items.result.now c.loop-item.item-index c.item-item.result
          c.loop-item.answers c.add_answer.new.answers c.feed_line-answer.result c.as_slice-item-items.ensures c.loop-item-test.true c.item-item.is (c.in_ok-add_answer.ensures {u = tt})
          c.loop-item.invariant.fed c.feed_line-answer.ensures.fed;
    }
