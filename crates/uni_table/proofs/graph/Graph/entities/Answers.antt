use Rattle.std.proofs.Common.{ap, ◌∙◌, length}
use Rattle.uni_table.proofs.GraphEntities.{entities-counted}
use Rattle.uni_table.proofs.graph.Graph.entities.Goals as goal

pub returns : goal.returns
returns c = entities-counted c.self.inside.rows c.self.invariant.0 ∙ ap (λ table. length table.contents.entities) c.self.view_is
