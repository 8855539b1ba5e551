-- the stacks so far that have more than one layer, and those of the rest
use Rattle.std.proofs.Common.{◌≡◌, ◌++◌, drop, filter}
use Rattle.unicorn_round.specs.SchemaStacks.{is_layered}
use Rattle.unicorn_round.proofs.tidy.layered_in.Given as goal

abbrev pub invariant-loop-stack : goal.invariant-loop-stack
invariant-loop-stack g l = l.layered.items ++ filter (is_layered l.version) (drop l.stack-index l.stacks) ≡ filter (is_layered l.version) l.stacks
