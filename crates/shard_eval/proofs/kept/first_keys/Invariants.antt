-- what is kept so far, and what is left, are the keys of the cursor
use Rattle.std.proofs.Common.{◌≡◌, ◌++◌, length}
use Rattle.shard_eval.specs.Kept.{IsWithin}
use Rattle.shard_eval.proofs.kept.first_keys.Given as goal

abbrev pub invariant-loop-key : goal.invariant-loop-key
invariant-loop-key g l = (l.keys ++ g.C.DocCursor.remaining l.cursor ≡ g.C.DocCursor.remaining l.initial.cursor) × IsWithin (length l.keys) l.limit

abbrev pub decreases-loop-key : goal.decreases-loop-key
decreases-loop-key g l = length (g.C.DocCursor.remaining l.cursor)
