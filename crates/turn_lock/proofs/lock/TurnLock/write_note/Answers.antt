use Rattle.std.proofs.Common.{rules}
use Rattle.turn_lock.proofs.Tokens.{notes}
use Rattle.turn_lock.proofs.lock.TurnLock.write_note.Goals as goal

pub split_seat-requires : goal.split_seat-requires
split_seat-requires g c = (search rules, search rules, notes g.S.Recorded.stands_for _ _)
