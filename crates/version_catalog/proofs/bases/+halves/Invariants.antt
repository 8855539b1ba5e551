use Rattle.std.proofs.Common.{◌+◌, ◌-◌, ◌*◌}
use Rattle.version_catalog.proofs.bases.+halves.Given as goal

abbrev pub decreases-bases_among : goal.decreases-bases_among
decreases-bases_among g l = 3 * l.count

abbrev pub decreases-bases_both : goal.decreases-bases_both
decreases-bases_both g l = 3 * l.count - 1

abbrev pub decreases-bases_both-join+arg2 : goal.decreases-bases_both-join+arg2
decreases-bases_both-join+arg2 g l = 3 * l.low + 1

abbrev pub decreases-bases_both-join+arg3 : goal.decreases-bases_both-join+arg3
decreases-bases_both-join+arg3 g l = 3 * l.high + 1
