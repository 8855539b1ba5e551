use Rattle.std.proofs.Common.{◌≡◌}
use Rattle.std.specs.List.{filter_map}
use Rattle.uni_meaning.specs.Standings.{shown_member}
use Rattle.uni_meaning.proofs.answer.shown_hits.Given as goal

abbrev pub invariant-loop-member : goal.invariant-loop-member
invariant-loop-member l = l.hits ≡ filter_map shown_member l.yielded
