use Rattle.std.proofs.Common.{◌≡◌, ℕ, map, take}
use Rattle.uni_meaning.specs.Standings.{arrival, either, first_of, gathered_at}
use Rattle.uni_meaning.proofs.view.View.gather.Given as goal

abbrev pub invariant-loop-held : goal.invariant-loop-held
invariant-loop-held l =
    (id : ℕ) → gathered_at l.gathered.entries id ≡ either (gathered_at l.fn.gathered.entries id) (first_of (map (arrival l.self l.member id) (take l.held-index l.held-items)))
