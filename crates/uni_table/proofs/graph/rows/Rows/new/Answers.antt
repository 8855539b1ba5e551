use Rattle.std.proofs.Common.{refl}
use Rattle.uni_table.specs.declared.graph.rows.Rows.{Rows}
use Rattle.uni_table.proofs.GraphNames.{empty-kept}
use Rattle.uni_table.proofs.graph.rows.Rows.new.Goals as goal

pub returns-clause-kept : goal.returns-clause-kept
returns-clause-kept c =
    let new : Rows = record { ids = c.new.result; sources = c.new-2.result; starts = c.new-3.result; edges = c.new-4.result; ends = c.new-5.result; entity_count = 0; edge_count = 0; touched_ids = c.new-6.result; touched_edges = c.new-7.result } in
    empty-kept new c.new.ensures.empty c.new-2.ensures.empty c.new-4.ensures.empty refl refl c.new.ensures.unique c.new-2.ensures.unique c.new-6.ensures.items c.new-7.ensures.items
