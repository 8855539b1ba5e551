use Rattle.std.proofs.Common.{◌<◌, length, arith}
use Rattle.unicorn_round.proofs.Queues.{popped_queue}
use Rattle.unicorn_round.proofs.merge.Queues.next_asked.Goals as goal

pub returns-clause-rest : goal.returns-clause-rest
returns-clause-rest c = λ other.
    let below : c.args.place < length c.self.inside.asked.items = omega (arith, c.if-place-len.false, c.len.ensures, c.self.inside.asked.ok.0) in
    rw (← c.self.view_is) (popped_queue (λ queue. queue.items) c.self.inside.asked.items c.args.place other c.index_mut.result.now c.pop_front.new.self below c.index_mut.ensures.value c.pop_front.ensures.rest)
