use Rattle.std.proofs.Common.{rules, ap, Some}
use Rattle.turn_lock.proofs.Steps.{draws, looks, slot_found}
use Rattle.turn_lock.proofs.lock.TurnLock.take.Goals as goal

pub fetch_add-ticket-requires : goal.fetch_add-ticket-requires
fetch_add-ticket-requires g c = (
  search rules,
  search rules,
  draws g.S.Recorded.stands_for _ _ _ c.requires.ready.0.0 c.requires.ready.1.0 c.requires.ready.1.1,
)

pub load-requires : goal.load-requires
load-requires g c = (search rules, search rules, looks g.S.Recorded.stands_for _ _ _)

pub exchange-requires : goal.exchange-requires
exchange-requires g c =
    let served = c.wait.ensures.served in
    (search rules, (Some served.0, slot_found c.load.new.seat.me.1 c.wait.new.place.me _ (0, Some served.0) _ (ap (λ m. m.1) c.load.ensures.2.0) served.5))
