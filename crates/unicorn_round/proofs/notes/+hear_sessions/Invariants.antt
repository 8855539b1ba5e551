use Rattle.std.proofs.Common.{length}
use Rattle.unicorn_round.proofs.notes.+hear_sessions.Given as goal

-- one session fewer
abbrev pub decreases-hear_sessions : goal.decreases-hear_sessions
decreases-hear_sessions l = length l.sessions.now
