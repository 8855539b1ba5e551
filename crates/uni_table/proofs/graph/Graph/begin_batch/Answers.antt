use Rattle.std.proofs.Common.{ap, sym, ◌∙◌, length}
use Rattle.uni_table.proofs.GraphEntities.{entities-counted}
use Rattle.uni_table.proofs.graph.Graph.begin_batch.Goals as goal

pub invariant_of-self : goal.invariant_of-self
invariant_of-self c = (c.begin_batch.ensures.kept, entities-counted c.self.inside.rows c.self.invariant.0 ∙ ap (λ table. length table.entities) (sym c.begin_batch.ensures.published))
