use Rattle.std.proofs.Common.{List, ◌∙◌, ap, map}
use Rattle.uni_base.specs.Walks.{Quota}
use Rattle.weak_strong.proofs.Counting.{fresh_counters}
use Rattle.weak_strong.proofs.walking.Parts.into_both.Goals as goal

pub returns-clause-counters : goal.returns-clause-counters
returns-clause-counters g c =
    fresh_counters c.self.inside.counters.items c.self.invariant.1 ∙ ap (λ (v : List g.row.C.Denot × List Quota). map (λ (q : Quota). (q, 0)) v.1) c.self.view_is
