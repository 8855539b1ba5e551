-- the stacks so far are changed
use Rattle.std.proofs.Common.{◌≡◌, ◌++◌, map, take, drop}
use Rattle.unicorn_round.specs.Told.{read_in}
use Rattle.unicorn_round.proofs.stacks.read_all.Given as goal

abbrev pub invariant-loop-cover : goal.invariant-loop-cover
invariant-loop-cover l = l.covers ≡ map (read_in l.version) (take l.cover-index l.initial.covers) ++ drop l.cover-index l.initial.covers
