use Rattle.std.proofs.Common.{◌+◌, ◌-◌, ◌*◌, length}
use Rattle.session_asks.proofs.sessions.+parts.Given as goal

abbrev pub decreases-ask_parts : goal.decreases-ask_parts
decreases-ask_parts g l = 3 * length l.asks.now

abbrev pub decreases-ask_both : goal.decreases-ask_both
decreases-ask_both g l = 3 * (length l.front_asks.now + length l.back_asks.now) - 1

abbrev pub decreases-ask_both-fork_both+arg2 : goal.decreases-ask_both-fork_both+arg2
decreases-ask_both-fork_both+arg2 g l = 3 * length l.front_asks.now + 1

abbrev pub decreases-ask_both-fork_both+arg3 : goal.decreases-ask_both-fork_both+arg3
decreases-ask_both-fork_both+arg3 g l = 3 * length l.back_asks.now + 1
