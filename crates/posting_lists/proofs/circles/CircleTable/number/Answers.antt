use Rattle.std.proofs.Common.{Some, ap, sym, ◌∙◌}
use Rattle.posting_lists.proofs.Keys.{same_circle}
use Rattle.posting_lists.proofs.circles.CircleTable.number.Goals as goal

pub returns-clause-number : goal.returns-clause-number
returns-clause-number c =
    let stored = c.in_ok-number.ensures.stored in
    stored.1 ∙ ap Some (sym (same_circle c.args.circle.now stored.0 stored.2))
