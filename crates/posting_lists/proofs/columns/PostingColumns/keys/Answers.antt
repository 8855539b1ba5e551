use Rattle.std.proofs.Common.{◌≡◌, ap, ◌∙◌, sym}
use Rattle.posting_lists.specs.Postings.{keys_of}
use Rattle.posting_lists.proofs.Joined.{keys_of-joined}
use Rattle.posting_lists.proofs.columns.PostingColumns.keys.Goals as goal

pub returns : goal.returns
returns c =
    let is : keys_of c.args.self.now ≡ c.self.inside.keys.items = ap keys_of (sym c.self.view_is) ∙ keys_of-joined c.self.inside.keys.items c.self.inside.audiences c.self.invariant.0 in
    c.deref.ensures.value ∙ sym is
