-- the stacks so far, and those of the rest
use Rattle.std.proofs.Common.{◌≡◌, ◌++◌, drop, map}
use Rattle.unicorn_round.specs.Stacks.{due_untidied, name_of}
use Rattle.unicorn_round.proofs.stacks.Stacks.due_among.Given as goal

abbrev pub invariant-loop-cover : goal.invariant-loop-cover
invariant-loop-cover l = map name_of l.among.items ++ due_untidied l.made (map name_of l.missed) (drop l.cover-index l.self) ≡ due_untidied l.made (map name_of l.missed) l.self
