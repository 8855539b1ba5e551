-- the rows so far, and those of the rest
use Rattle.std.proofs.Common.{◌≡◌, ◌++◌, drop}
use Rattle.unicorn_round.specs.Stacks.{rows_of}
use Rattle.unicorn_round.proofs.stacks.Stacks.rows.Given as goal

abbrev pub invariant-loop-cover : goal.invariant-loop-cover
invariant-loop-cover l = l.rows ++ rows_of l.made (drop l.cover-index l.self) ≡ rows_of l.made l.self
