use Rattle.std.proofs.Common.{subst}
use Rattle.uni_base.specs.declared.edge.EdgeRef.{EdgeRef}
use Rattle.uni_table.specs.GraphRows.{IsPlaceOf}
use Rattle.uni_table.proofs.graph.rows.Rows.find.Goals as goal

pub returns : goal.returns
returns c = subst (λ (edge : EdgeRef). IsPlaceOf c.args.self.now edge c.found.result.place) c.found.ensures.edge c.found.ensures.found.place
