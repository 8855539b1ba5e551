use Rattle.std.proofs.Common.{not, ◌∙◌, ap, subst, slice_get}
use Rattle.uni_base.specs.Cursors.{IsRanked}
use Rattle.uni_base.specs.KeySets.{has_key}
use Rattle.uni_base.proofs.RankedLemmas.{IsRanked-filter}
use Rattle.set_cursors.specs.Filters.{difference}
use Rattle.set_cursors.proofs.Differences.{first_clear}
use Rattle.set_cursors.proofs.difference.DifferenceCursorDocCursor.peek.Goals as goal

pub returns-clause-first : goal.returns-clause-first
returns-clause-first g c =
    let view = g.C.DocCursor.remaining in
    c.peek.ensures.first ∙ first_clear (view c.self.inside.first) (view c.self.inside.second) c.self.invariant
    ∙ ap (λ (p : g.row.C.Denot × g.row.C.Denot). slice_get (difference (view p.0) (view p.1)) 0) c.self.view_is

pub returns-clause-ranked : goal.returns-clause-ranked
returns-clause-ranked g c =
    let view = g.C.DocCursor.remaining in
    subst (λ (p : g.row.C.Denot × g.row.C.Denot). IsRanked (difference (view p.0) (view p.1))) c.self.view_is
    (IsRanked-filter (λ k. not (has_key (view c.self.inside.second) k)) (view c.self.inside.first) c.peek.ensures.ranked)
