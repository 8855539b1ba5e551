use Rattle.unicorn_round.proofs.RoundSeats.{told_by}
use Rattle.unicorn_round.proofs.notes.+tell_sessions.Goals as goal

pub returns-clause-told : goal.returns-clause-told
returns-clause-told t c =
    (c.tell_session.ensures.told, told_by c.args.feeder.now c.tell_session.new.feeder c.tell_session.ensures.feeder.feed c.tell_sessions.new.sessions c.tell_sessions.ensures.told)
