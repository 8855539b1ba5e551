use Rattle.std.proofs.Common.{arith, ◌≡◌, List, length, ap, ◌∙◌, sym, subst}
use Rattle.uni_base.specs.declared.entity.DocKey.{DocKey}
use Rattle.posting_lists.specs.Postings.{keys_of}
use Rattle.posting_lists.specs.Search.{RisesWithin, IsFirstFrom}
use Rattle.posting_lists.proofs.Joined.{length-joined, keys_of-joined}
use Rattle.posting_lists.proofs.columns.PostingColumns.place_from.Goals as goal

pub place_from-requires-clause-within : goal.place_from-requires-clause-within
place_from-requires-clause-within g c =
    let same : length c.args.self.now ≡ length c.self.inside.keys.items = ap length (sym c.self.view_is) ∙ length-joined c.self.inside.keys.items c.self.inside.audiences c.self.invariant.0 in
    let value : c.deref.result.now ≡ c.self.inside.keys.items = c.deref.ensures.value in
    (c.requires.within.0, omega (arith, same, ap length value, c.requires.within.1))

pub place_from-requires-clause-rises : goal.place_from-requires-clause-rises
place_from-requires-clause-rises g c =
    let is : keys_of c.args.self.now ≡ c.self.inside.keys.items = ap keys_of (sym c.self.view_is) ∙ keys_of-joined c.self.inside.keys.items c.self.inside.audiences c.self.invariant.0 in
    subst (λ (keys : List DocKey). RisesWithin keys c.args.at c.args.end) (is ∙ sym c.deref.ensures.value) c.requires.rises

pub returns-clause-found : goal.returns-clause-found
returns-clause-found g c =
    let is : keys_of c.args.self.now ≡ c.self.inside.keys.items = ap keys_of (sym c.self.view_is) ∙ keys_of-joined c.self.inside.keys.items c.self.inside.audiences c.self.invariant.0 in
    subst (λ (keys : List DocKey). IsFirstFrom c.args.from.now keys c.args.at c.args.end c.place_from.result) (c.deref.ensures.value ∙ sym is) c.place_from.ensures.found
