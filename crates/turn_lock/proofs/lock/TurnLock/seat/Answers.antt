use Rattle.std.proofs.Common.{rules}
use Rattle.turn_lock.proofs.Tokens.{seats}
use Rattle.turn_lock.proofs.lock.TurnLock.seat.Goals as goal

pub split_seat-place-requires : goal.split_seat-place-requires
split_seat-place-requires g c = (search rules, search rules, seats g.S.Recorded.stands_for _ _ c.args.from.now.role (search rules))
