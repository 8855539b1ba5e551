use Rattle.std.proofs.Common.{◌≡◌, ℕ, map, take}
use Rattle.uni_base.specs.declared.edge.Key.TheVariants.{Id}
use Rattle.uni_table.specs.Ranked.{reached_of}
use Rattle.uni_meaning.specs.Standings.{arrival, first_of, gathered_at, under_join}
use Rattle.uni_meaning.proofs.view.View.under_join.Given as goal

abbrev pub invariant-loop-member : goal.invariant-loop-member
invariant-loop-member l =
    (id : ℕ) → gathered_at l.gathered.entries id
    ≡ first_of (map (λ m. first_of (map (arrival l.self m id) (reached_of l.self.schema l.self.contents l.type_no (Id m.key.id)))) (take l.member-index l.members))

abbrev pub invariant-loop-place : goal.invariant-loop-place
invariant-loop-place l = l.standings.items ≡ map (λ p. under_join l.self l.type_no l.members p.doc) (take l.place-index l.places)
