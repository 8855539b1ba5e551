use Rattle.std.proofs.Common.{sym, ◌∙◌}
use Rattle.uni_table.proofs.GraphEnds.{nothing-ended, none-ended}
use Rattle.uni_table.proofs.graph.rows.Rows.end.Goals as goal

pub returns-clause-ended : goal.returns-clause-ended
returns-clause-ended c =
    let now = c.loop-number.self in
    let kept = c.loop-number.invariant.kept in
    sym (nothing-ended c.args.publish now kept (none-ended c.args.publish now kept c.in_default.ensures)) ∙ c.loop-number.invariant.same

pub returns-clause-published : goal.returns-clause-published
returns-clause-published c = c.loop-number.invariant.published
