-- the slots of the lines so far
use Rattle.std.proofs.Common.{◌≡◌, map, take}
use Rattle.unicorn_round.specs.Weaving.{slot_of}
use Rattle.unicorn_round.proofs.parts.slots_of.Given as goal

abbrev pub invariant-loop-item : goal.invariant-loop-item
invariant-loop-item l = l.slots.items ≡ map slot_of (take l.item-index l.items)
