-- the queues so far
use Rattle.std.proofs.Common.{◌≡◌, map}
use Rattle.unicorn_round.proofs.merge.Queues.of.Given as goal

abbrev pub invariant-loop-list : goal.invariant-loop-list
invariant-loop-list l = map (λ queue. queue.items) l.asked.items ≡ l.yielded
