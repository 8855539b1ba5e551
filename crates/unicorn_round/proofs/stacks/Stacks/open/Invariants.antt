-- the stacks of the verticals so far, and those of the rest
use Rattle.std.proofs.Common.{◌≡◌, ◌++◌, drop}
use Rattle.unicorn_round.specs.Stacks.{opening_stacks, stacks_from}
use Rattle.unicorn_round.proofs.stacks.Stacks.open.Given as goal

abbrev pub invariant-loop-vertical : goal.invariant-loop-vertical
invariant-loop-vertical l = l.covers.items ++ stacks_from l.vertical (drop l.vertical l.schema.verticals) ≡ opening_stacks l.schema
