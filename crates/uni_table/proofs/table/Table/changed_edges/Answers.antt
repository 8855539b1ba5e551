use Rattle.std.proofs.Common.{subst}
use Rattle.std.proofs.lemmas.Result.{IfOk-weaker}
use Rattle.uni_table.specs.Changes.{AreEdgeChanges}
use Rattle.uni_table.specs.TableState.{TableState}
use Rattle.uni_table.proofs.table.Table.changed_edges.Goals as goal

pub returns : goal.returns
returns c = IfOk-weaker c.edge_changes.result _ _ (λ changes are. subst (λ (t : TableState). AreEdgeChanges t.published t.contents changes) c.self.view_is are) c.edge_changes.ensures
