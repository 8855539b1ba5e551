use Rattle.std.proofs.Common.{rules}
use Rattle.turn_lock.proofs.Steps.{leaves}
use Rattle.turn_lock.proofs.lock.TurnLock.give_back.Goals as goal

pub fetch_add-requires : goal.fetch_add-requires
fetch_add-requires g c = (search rules, search rules, leaves g.S.Recorded.stands_for _ _ _ c.requires.turn.2.0 c.requires.turn.0 c.requires.turn.1 c.args.value (search rules) (search rules) c.requires.turn.3)
