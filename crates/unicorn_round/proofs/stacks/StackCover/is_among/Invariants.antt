-- none of the stacks so far is it
use Rattle.std.proofs.Common.{◌≡◌, drop, map}
use Rattle.unicorn_round.specs.Stacks.{is_untidied, name_of}
use Rattle.unicorn_round.proofs.stacks.StackCover.is_among.Given as goal

abbrev pub invariant-loop-stack : goal.invariant-loop-stack
invariant-loop-stack l = is_untidied (map name_of (drop l.stack-index l.untidied)) l.self ≡ is_untidied (map name_of l.untidied) l.self
