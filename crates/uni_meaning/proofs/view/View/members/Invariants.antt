use Rattle.std.proofs.Common.{◌≡◌, ◌++◌, drop}
use Rattle.uni_meaning.specs.Standings.{found_members}
use Rattle.uni_meaning.proofs.view.View.members.Given as goal

abbrev pub invariant-loop-i : goal.invariant-loop-i
invariant-loop-i l = l.members.items ++ found_members (drop l.i l.places) (drop l.i l.standings) ≡ found_members l.places l.standings
