-- the due stacks so far, and those of the rest
use Rattle.std.proofs.Common.{◌≡◌, ◌++◌, drop, filter}
use Rattle.unicorn_round.specs.Stacks.{is_due}
use Rattle.unicorn_round.proofs.stacks.Stacks.due.Given as goal

abbrev pub invariant-loop-cover : goal.invariant-loop-cover
invariant-loop-cover l = l.due.items ++ filter (is_due l.made) (drop l.cover-index l.self) ≡ filter (is_due l.made) l.self
