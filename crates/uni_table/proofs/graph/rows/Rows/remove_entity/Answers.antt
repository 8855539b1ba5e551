use Rattle.std.proofs.Common.{sym}
use Rattle.uni_table.proofs.GraphEntities.{entity-missing}
use Rattle.uni_table.proofs.graph.rows.Rows.remove_entity.Goals as goal

pub returns-in_default-clause-removed : goal.returns-in_default-clause-removed
returns-in_default-clause-removed c = sym (entity-missing c.args.self.now c.requires c.args.id c.in_default.ensures)
