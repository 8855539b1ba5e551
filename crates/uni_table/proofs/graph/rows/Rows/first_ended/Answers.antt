use Rattle.std.proofs.Common.{arith}
use Rattle.uni_table.proofs.GraphEnds.{not-later}
use Rattle.uni_table.proofs.graph.rows.Rows.first_ended.Goals as goal

pub returns-then-entry-publish : goal.returns-then-entry-publish
returns-then-entry-publish c = λ q has. omega (arith, not-later c.in-Some.entry.now q (c.in-Some.ensures.least q has))
