use Rattle.uni_table.proofs.Steps.{ends_keep}
use Rattle.uni_table.proofs.table.Table.end.Goals as goal

pub invariant_of-self : goal.invariant_of-self
invariant_of-self c = rw c.end.ensures (record { contents = ends_keep c.self.inside.schema.value c.self.inside.limits c.self.inside.graph.contents c.args.publish c.self.invariant.contents; published = c.self.invariant.published })
