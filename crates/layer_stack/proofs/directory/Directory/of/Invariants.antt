use Rattle.std.proofs.Common.{◌+◌, ◌-◌, length}
use Rattle.layer_stack.proofs.Directories.{IsJoined}
use Rattle.layer_stack.proofs.directory.Directory.of.Given as goal

abbrev pub invariant-loop-joined : goal.invariant-loop-joined
invariant-loop-joined l = IsJoined l.spans.entries l.puts l.put l.deletes l.deleted

abbrev pub decreases-loop-joined : goal.decreases-loop-joined
decreases-loop-joined l = (length l.puts - l.put) + (length l.deletes - l.deleted)
