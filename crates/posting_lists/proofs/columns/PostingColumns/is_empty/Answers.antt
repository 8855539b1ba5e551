use Rattle.std.proofs.Common.{rules, ◌≡◌, length, ap, ◌∙◌, sym}
use Rattle.posting_lists.proofs.Joined.{length-joined}
use Rattle.posting_lists.proofs.columns.PostingColumns.is_empty.Goals as goal

pub returns : goal.returns
returns c =
    let same : length c.args.self.now ≡ length c.self.inside.keys.items = ap length (sym c.self.view_is) ∙ length-joined c.self.inside.keys.items c.self.inside.audiences c.self.invariant.0 in
    search (rules, same)
