-- the lines so far were taken, with these answers
use Rattle.std.proofs.Common.{take}
use Rattle.round_feed.specs.Fed.{IsFed}
use Rattle.round_feed.specs.Seats.{HasFed, feed_of, terms_of}
use Rattle.round_feed.proofs.feed.feed_items.Given as goal

abbrev pub invariant-loop-item : goal.invariant-loop-item
invariant-loop-item g l = record {
  taken : HasFed l.catalogue l.item-index l.fn.feeder l.feeder;
  fed : IsFed (terms_of l.catalogue) (feed_of l.fn.feeder) (take l.item-index l.items) l.answers (feed_of l.feeder);
}
