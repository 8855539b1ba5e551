use Rattle.std.proofs.Common.{rules, arith, ◌≡◌, length, ap, ◌∙◌, sym, refl, Some, slice_get}
use Rattle.std.proofs.lemmas.Option.{slice_get_read}
use Rattle.posting_lists.specs.Postings.{keys_of}
use Rattle.posting_lists.proofs.Joined.{length-joined, keys_of-joined}
use Rattle.posting_lists.proofs.columns.PostingColumns.key.Goals as goal

pub index-requires : goal.index-requires
index-requires c =
    let same : length c.args.self.now ≡ length c.self.inside.keys.items = ap length (sym c.self.view_is) ∙ length-joined c.self.inside.keys.items c.self.inside.audiences c.self.invariant.0 in
    search (rules, arith, same)

pub returns : goal.returns
returns c =
    let keys = c.self.inside.keys.items in
    let same : length c.args.self.now ≡ length keys = ap length (sym c.self.view_is) ∙ length-joined keys c.self.inside.audiences c.self.invariant.0 in
    let is : keys_of c.args.self.now ≡ keys = ap keys_of (sym c.self.view_is) ∙ keys_of-joined keys c.self.inside.audiences c.self.invariant.0 in
    let read : slice_get keys c.args.i ≡ Some c.index.result.now = slice_get_read keys (length keys) c.args.i c.index.result.now refl (omega (arith, same, c.requires)) c.index.ensures in
    ap (λ ks. slice_get ks c.args.i) is ∙ read
