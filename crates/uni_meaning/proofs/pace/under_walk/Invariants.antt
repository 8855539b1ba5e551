use Rattle.std.proofs.Common.{◌≡◌, ◌++◌, drop, length}
use Rattle.uni_meaning.specs.Walking.{IsPace, before_all, pace_of, walk_standings}
use Rattle.uni_meaning.proofs.pace.under_walk.Given as goal

abbrev pub invariant-loop-i : goal.invariant-loop-i
invariant-loop-i l = record {
  going : IsPace (length l.columns) l.i (pace_of l.pace);
  told : l.standings.items ++ walk_standings l.kind l.columns (pace_of l.pace) l.i (drop l.i l.places) ≡ walk_standings l.kind l.columns before_all 0 l.places;
}
