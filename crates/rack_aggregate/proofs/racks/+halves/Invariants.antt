use Rattle.std.proofs.Common.{◌+◌, ◌-◌, ◌*◌}
use Rattle.rack_aggregate.proofs.racks.+halves.Given as goal

abbrev pub decreases-run_among : goal.decreases-run_among
decreases-run_among g l = 3 * l.count

abbrev pub decreases-run_both : goal.decreases-run_both
decreases-run_both g l = 3 * l.count - 1

abbrev pub decreases-run_both-join+arg2 : goal.decreases-run_both-join+arg2
decreases-run_both-join+arg2 g l = 3 * l.low + 1

abbrev pub decreases-run_both-join+arg3 : goal.decreases-run_both-join+arg3
decreases-run_both-join+arg3 g l = 3 * l.high + 1
