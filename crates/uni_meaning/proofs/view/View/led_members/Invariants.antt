use Rattle.std.proofs.Common.{◌≡◌, take}
use Rattle.std.specs.List.{filter_map}
use Rattle.uni_base.specs.declared.edge.Held.{Held}
use Rattle.uni_meaning.specs.Standings.{led_member}
use Rattle.uni_meaning.proofs.view.View.led_members.Given as goal

abbrev pub invariant-loop-held : goal.invariant-loop-held
invariant-loop-held l = l.members.items ≡ filter_map (λ (held : Held). led_member l.self l.type_no l.key held.edge.target) (take l.held-index l.reached)
