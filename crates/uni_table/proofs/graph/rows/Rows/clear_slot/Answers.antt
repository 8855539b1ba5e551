use Rattle.std.proofs.Common.{refl}
use Rattle.uni_table.proofs.Results.{at_ok}
use Rattle.uni_table.proofs.graph.rows.Rows.clear_slot.Goals as goal

pub returns-clause-edges : goal.returns-clause-edges
returns-clause-edges c = λ n slot at. at_ok c.set_slot-is_written.result (c.set_slot-is_written.ensures.gone refl refl) (c.set_slot-is_written.ensures.edges n slot at)

pub returns-clause-set : goal.returns-clause-set
returns-clause-set c = λ n slot at. at_ok c.set_slot-is_written.result (c.set_slot-is_written.ensures.gone refl refl) (c.set_slot-is_written.ensures.set n slot at)
