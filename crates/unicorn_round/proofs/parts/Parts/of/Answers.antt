use Rattle.std.proofs.Common.{subst}
use Rattle.unicorn_round.specs.Parted.{AddsLine}
use Rattle.unicorn_round.proofs.PartedSteps.{parted_more, slots_more}
use Rattle.unicorn_round.proofs.parts.Parts.of.Goals as goal

pub loop-item-preserved : goal.loop-item-preserved
loop-item-preserved c =
    let old = c.loop-item.parts in let new = c.add.new.self in
    let adds = subst (λ n. AddsLine n c.in-Some.item old new) c.loop-item.invariant.parted.count (c.in_ok-add.ensures {u = tt}) in
    record {
      parted = parted_more c.args.sessions c.in-Some.item old new adds c.loop-item.yielded c.loop-item.invariant.slots c.loop-item.invariant.parted;
      slots = slots_more c.args.sessions c.in-Some.item old new adds c.loop-item.yielded c.loop-item.invariant.slots;
    }
