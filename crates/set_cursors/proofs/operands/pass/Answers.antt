use Rattle.std.proofs.Common.{◌∙◌, sym}
use Rattle.set_cursors.proofs.FirstKeys.{without-first, without-other}
use Rattle.set_cursors.proofs.operands.pass.Goals as goal

pub returns-then-is_at-clause-passes : goal.returns-then-is_at-clause-passes
returns-then-is_at-clause-passes g c = c.step.ensures ∙ without-first c.args.key (g.C.DocCursor.remaining c.args.operand.now) c.is_at.ensures.ranked (sym c.is_at.ensures.value ∙ c.if-is_at.true)

pub returns-else-is_at-clause-passes : goal.returns-else-is_at-clause-passes
returns-else-is_at-clause-passes g c =
    without-other c.args.key (g.C.DocCursor.remaining c.args.operand.now) c.is_at.ensures.ranked (c.requires c.is_at.ensures.ranked) (sym c.is_at.ensures.value ∙ c.if-is_at.false)
