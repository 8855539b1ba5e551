use Rattle.std.proofs.Common.{◌≡◌, map, take}
use Rattle.unicorn_round.specs.Told.{id_of}
use Rattle.unicorn_round.proofs.tidy.ids_of.Given as goal

abbrev pub invariant-loop-stack : goal.invariant-loop-stack
invariant-loop-stack l = l.ids.items ≡ map id_of (take l.stack-index l.stacks)
