-- the lines so far are parted, and their slots are kept
use Rattle.std.proofs.Common.{◌≡◌, map}
use Rattle.unicorn_round.specs.Parted.{IsParted}
use Rattle.unicorn_round.specs.Weaving.{slot_of}
use Rattle.unicorn_round.proofs.parts.Parts.of.Given as goal

abbrev pub invariant-loop-item : goal.invariant-loop-item
invariant-loop-item l = record {
  parted : IsParted l.sessions l.yielded l.parts;
  slots : l.parts.slots.items ≡ map slot_of l.yielded;
}
