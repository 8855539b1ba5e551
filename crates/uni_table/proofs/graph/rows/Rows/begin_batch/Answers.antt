use Rattle.std.proofs.Common.{ap, ◌∙◌}
use Rattle.uni_table.proofs.GraphSettled.{all-settled}
use Rattle.uni_table.proofs.graph.rows.Rows.begin_batch.Goals as goal

pub loop-2-init : goal.loop-2-init
loop-2-init c = record { kept = c.settle_edge.ensures.kept; same = c.settle_edge.ensures.same ∙ c.loop.invariant.same; edges = c.loop-test.ensures.settled.1 }

pub returns-clause-published : goal.returns-clause-published
returns-clause-published c =
    all-settled c.settle_id.new.self c.settle_id.ensures.kept c.loop-2-test.ensures.settled.1 (ap (λ ps. ps.items) c.settle_id.ensures.edges ∙ c.loop-2.invariant.edges)
    ∙ c.settle_id.ensures.same ∙ c.loop-2.invariant.same
