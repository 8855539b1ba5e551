use Rattle.std.proofs.Common.{◌≡◌, map, take}
use Rattle.uni_meaning.specs.Standings.{under_term}
use Rattle.uni_meaning.proofs.view.View.under_terms.Given as goal

abbrev pub invariant-loop-place : goal.invariant-loop-place
invariant-loop-place l = l.standings.items ≡ map (λ p. under_term l.self l.type_no l.key p.doc) (take l.place-index l.places)
