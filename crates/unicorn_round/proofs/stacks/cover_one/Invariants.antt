-- the stacks so far are changed
use Rattle.std.proofs.Common.{◌≡◌, ◌++◌, map, take, drop}
use Rattle.unicorn_round.specs.Stacks.{covered}
use Rattle.unicorn_round.proofs.stacks.cover_one.Given as goal

abbrev pub invariant-loop-cover : goal.invariant-loop-cover
invariant-loop-cover l = l.covers ≡ map (covered l.vertical l.shard l.replica l.number) (take l.cover-index l.initial.covers) ++ drop l.cover-index l.initial.covers
