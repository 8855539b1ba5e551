use Rattle.std.proofs.Common.{◌≡◌, List, [], ◌∙◌, ap, subst, sym, get_or, slice_get, map}
use Rattle.uni_base.specs.KeySets.{united}
use Rattle.std.proofs.lemmas.List.{get_or-map}
use Rattle.uni_base.specs.Cursors.{IsRanked}
use Rattle.set_cursors.specs.Firsts.{is_first}
use Rattle.set_cursors.proofs.FirstKeys.{first_in}
use Rattle.set_cursors.proofs.or.OrCursorOperatorCursor.matches.Goals as goal

pub returns-in-Some-clause-holds : goal.returns-in-Some-clause-holds
returns-in-Some-clause-holds g c =
    let view = g.C.DocCursor.remaining in
    let lists = map view c.args.self.now in
    let at : view c.index.result.now ≡ get_or lists c.args.i [] =
    ap view (c.index.ensures ∙ ap (λ (xs : List g.row.C.Denot). get_or xs c.args.i c.index.result.now) c.self.view_is)
    ∙ sym (get_or-map view c.args.self.now c.args.i c.index.result.now [] c.requires) in
    first_in c.in-Some.key lists c.args.i c.is_at.result (ap (λ (xs : List g.row.C.Denot). slice_get (united (map view xs)) 0) (sym c.self.view_is) ∙ sym c.self.invariant ∙ c.in-Some.is) (subst IsRanked at c.is_at.ensures.ranked)
    (c.is_at.ensures.value ∙ ap (is_first c.in-Some.key) at)
