use Rattle.std.proofs.Common.{◌≡◌, ◌-◌, ◌≤◌, length, drop}
use Rattle.uni_base.specs.MemoryStreams.{unread, current, cut}
use Rattle.uni_base.proofs.memory_source.Pieces.pass_empty.Given as goal

abbrev pub invariant-loop-piece : goal.invariant-loop-piece
invariant-loop-piece l =
    (unread (cut l.self-inside.at (drop l.self-inside.place l.self-inside.all.items))
    ≡ unread (cut l.initial.self-inside.at (drop l.initial.self-inside.place l.initial.self-inside.all.items)))
    × (l.self-inside.place ≤ length l.self-inside.all.items)
    × (l.self-inside.at ≤ length (current (drop l.self-inside.place l.self-inside.all.items)))

abbrev pub decreases-loop-piece : goal.decreases-loop-piece
decreases-loop-piece l = length l.self-inside.all.items - l.self-inside.place
