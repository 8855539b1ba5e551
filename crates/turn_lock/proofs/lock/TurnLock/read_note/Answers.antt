use Rattle.std.proofs.Common.{rules}
use Rattle.turn_lock.proofs.Tokens.{joins}
use Rattle.turn_lock.proofs.Steps.{looks}
use Rattle.turn_lock.proofs.lock.TurnLock.read_note.Goals as goal

pub join_seat-requires : goal.join_seat-requires
join_seat-requires g c = (
  search rules,
  search rules,
  search rules,
  search rules,
  joins g.S.Recorded.stands_for _ _ _ _ c.args.note.role c.args.note.rests.0,
)

pub load-requires : goal.load-requires
load-requires g c = (search rules, search rules, looks g.S.Recorded.stands_for _ _ _)
