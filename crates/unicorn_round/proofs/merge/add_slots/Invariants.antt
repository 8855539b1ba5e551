-- the answers of the slots so far, and those of the rest
use Rattle.std.proofs.Common.{◌≡◌, ◌++◌, List}
use Rattle.unicorn_round.specs.Queues.{answers_at, shown_by}
use Rattle.unicorn_round.specs.Weaving.{merged}
use Rattle.unicorn_round.specs.declared.slot.Slot.{Slot}
use Rattle.unicorn_round.proofs.merge.add_slots.Given as goal

abbrev pub invariant-loop-slot : goal.invariant-loop-slot
invariant-loop-slot l =
    (rest : List Slot) → l.fn.slots.items ≡ l.yielded ++ rest
    → l.told.items ++ merged (shown_by l.made l.stacks) rest l.queues.fed (answers_at l.queues.asked) l.queues.compacted
    ≡ l.fn.told.items ++ merged (shown_by l.made l.stacks) l.fn.slots.items l.fn.queues.fed (answers_at l.fn.queues.asked) l.fn.queues.compacted
