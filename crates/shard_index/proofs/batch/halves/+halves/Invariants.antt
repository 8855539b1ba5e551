use Rattle.std.proofs.Common.{◌+◌, ◌-◌, ◌*◌}
use Rattle.shard_index.proofs.batch.halves.+halves.Given as goal

abbrev pub decreases-note_among : goal.decreases-note_among
decreases-note_among g l = 3 * (l.to - l.from) + 1

abbrev pub decreases-note_both : goal.decreases-note_both
decreases-note_both g l = 3 * (l.to - l.from)

abbrev pub decreases-note_both-fork_both+arg2 : goal.decreases-note_both-fork_both+arg2
decreases-note_both-fork_both+arg2 g l = 3 * (l.middle - l.from) + 2

abbrev pub decreases-note_both-fork_both+arg3 : goal.decreases-note_both-fork_both+arg3
decreases-note_both-fork_both+arg3 g l = 3 * (l.to - l.middle) + 2
