-- the stacks so far are changed
use Rattle.std.proofs.Common.{◌≡◌, ◌++◌, map, take, drop}
use Rattle.unicorn_round.specs.Stacks.{name_of, tidy}
use Rattle.unicorn_round.proofs.stacks.tidy_all.Given as goal

abbrev pub invariant-loop-cover : goal.invariant-loop-cover
invariant-loop-cover l = l.covers ≡ map (tidy l.made (map name_of l.untidied)) (take l.cover-index l.initial.covers) ++ drop l.cover-index l.initial.covers
