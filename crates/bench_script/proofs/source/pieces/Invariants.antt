-- the pieces so far are those of the text from a place on
use Rattle.std.proofs.Common.{◌≡◌, ◌≤◌, length, drop}
use Rattle.bench_script.specs.Pieces.{joined_back, ArePieces}
use Rattle.bench_script.proofs.source.pieces.Given as goal

abbrev pub invariant-loop-end : goal.invariant-loop-end
invariant-loop-end l = record {
  within : l.end ≤ length l.text;
  joined : joined_back l.pieces.items ≡ drop l.end l.text;
  some : ArePieces l.pieces.items;
}

abbrev pub decreases-loop-end : goal.decreases-loop-end
decreases-loop-end l = l.end
