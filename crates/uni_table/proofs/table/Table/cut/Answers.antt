use Rattle.uni_table.proofs.Kept.{cut_keeps}
use Rattle.uni_table.proofs.table.Table.cut.Goals as goal

pub invariant_of-self : goal.invariant_of-self
invariant_of-self c = rw c.remove_edge.ensures (record { contents = cut_keeps c.self.inside.schema.value c.self.inside.limits c.self.inside.graph.contents c.self.invariant.contents _; published = c.self.invariant.published })
