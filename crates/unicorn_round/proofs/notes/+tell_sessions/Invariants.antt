use Rattle.std.proofs.Common.{length}
use Rattle.unicorn_round.proofs.notes.+tell_sessions.Given as goal

-- one session fewer
abbrev pub decreases-tell_sessions : goal.decreases-tell_sessions
decreases-tell_sessions l = length l.sessions.now
