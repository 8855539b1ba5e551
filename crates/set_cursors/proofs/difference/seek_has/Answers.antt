use Rattle.std.proofs.Common.{◌∙◌}
use Rattle.set_cursors.proofs.Differences.{at_sought}
use Rattle.set_cursors.proofs.difference.seek_has.Goals as goal

pub returns-clause-value : goal.returns-clause-value
returns-clause-value g c =
    c.is_at.ensures.value ∙ at_sought c.args.key.now (g.C.DocCursor.remaining c.args.operand.now) (g.C.DocCursor.remaining c.seek.new.self) c.seek.ensures c.is_at.ensures.ranked
