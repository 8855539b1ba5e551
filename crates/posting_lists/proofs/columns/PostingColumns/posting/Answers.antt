use Rattle.std.proofs.Common.{rules, arith, ◌≡◌, length, ap, ◌∙◌, sym, slice_get}
use Rattle.posting_lists.proofs.Joined.{length-joined, slice_get-joined}
use Rattle.posting_lists.proofs.columns.PostingColumns.posting.Goals as goal

pub index-requires : goal.index-requires
index-requires c =
    let same : length c.args.self.now ≡ length c.self.inside.keys.items = ap length (sym c.self.view_is) ∙ length-joined c.self.inside.keys.items c.self.inside.audiences c.self.invariant.0 in
    search (rules, arith, same)

pub get-requires : goal.get-requires
get-requires c =
    let same : length c.args.self.now ≡ length c.self.inside.keys.items = ap length (sym c.self.view_is) ∙ length-joined c.self.inside.keys.items c.self.inside.audiences c.self.invariant.0 in
    omega (arith, same, c.self.invariant.0, c.requires)

pub returns : goal.returns
returns c =
    let keys = c.self.inside.keys.items in
    let same : length c.args.self.now ≡ length keys = ap length (sym c.self.view_is) ∙ length-joined keys c.self.inside.audiences c.self.invariant.0 in
    ap (λ ps. slice_get ps c.args.i) (sym c.self.view_is) ∙ slice_get-joined keys c.self.inside.audiences c.args.i c.index.result.now c.get.result (omega (arith, same, c.requires)) c.index.ensures c.get.ensures
