use Rattle.std.proofs.Common.{◌≡◌, map, take}
use Rattle.uni_meaning.specs.Standings.{under_prefix}
use Rattle.uni_meaning.proofs.view.View.under_prefixes.Given as goal

abbrev pub invariant-loop-place : goal.invariant-loop-place
invariant-loop-place l = l.standings.items ≡ map (λ p. under_prefix l.self l.type_no l.from p.doc) (take l.place-index l.places)
