use Rattle.std.proofs.Common.{rules, ap, ◌∙◌}
use Rattle.turn_lock.proofs.Steps.{finds}
use Rattle.turn_lock.proofs.lock.TurnLock.wait.Goals as goal

pub load-serving-requires : goal.load-serving-requires
load-serving-requires g c = (search rules, search rules, finds g.S.Recorded.stands_for _ _ _ c.args.ticket (ap (λ m. m.0.stage) c.loop.invariant.2 ∙ c.requires.waits))
