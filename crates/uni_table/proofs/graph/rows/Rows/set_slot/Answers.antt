use Rattle.std.proofs.Common.{ap, arith, sym, ◌∙◌, ◌++◌, ◌∷◌, [], if◌then◌else◌}
use Rattle.uni_table.specs.GraphRows.{is_same}
use Rattle.uni_table.proofs.TouchedRows.{touched-free}
use Rattle.chained_rows.specs.Counts.{one_if}
use Rattle.uni_table.specs.declared.graph.rows.Rows.{Rows}
use Rattle.uni_table.proofs.GraphPlaces.{entry-at}
use Rattle.uni_table.proofs.GraphEdges.{edge-kept, edge-set, edge-then, edge-counted, edges-few}
use Rattle.uni_table.proofs.graph.rows.Rows.set_slot.Goals as goal

pub recount-self-requires-clause-counted : goal.recount-self-requires-clause-counted
recount-self-requires-clause-counted c =
    let e = entry-at c.args.self.now.edges.entries c.args.index c.requires.index in
    omega (arith, ap one_if (c.in_ok-was.ensures.was e.0.0 e.0.1 e.1), edge-counted c.args.self.now c.requires.kept c.args.index e.0.0 e.0.1 e.1)

pub recount-self-requires-clause-few : goal.recount-self-requires-clause-few
recount-self-requires-clause-few c = omega (arith, edges-few c.args.self.now c.requires.kept)

pub returns-clause-kept : goal.returns-clause-kept
returns-clause-kept c =
    let old = c.args.self.now in
    let new : Rows = record old { edges = c.write_slot.new.edges; edge_count = c.recount-self.result; touched_edges = c.note_touched.new.touched } in
    let e = entry-at old.edges.entries c.args.index c.requires.index in
    edge-kept old new c.requires.kept c.args.index e.0.0 e.0.1 c.args.state c.args.end e.1 (c.in_ok-was.ensures.entries e.0.0 e.0.1 e.1) c.requires.circle c.requires.noted
    (omega (arith, ap one_if (c.in_ok-was.ensures.was e.0.0 e.0.1 e.1), ap one_if c.is_live.ensures, c.recount-self.ensures))
    (c.note_touched.ensures.items ∙ ap (λ b. if b then old.touched_edges.items ++ c.args.index ∷ [] else old.touched_edges.items) (c.is_untouched-is_first.ensures e.0.0 e.0.1 e.1))
    c.note_touched.ensures.room

pub returns-clause-set : goal.returns-clause-set
returns-clause-set c =
    let old = c.args.self.now in
    let new : Rows = record old { edges = c.write_slot.new.edges; edge_count = c.recount-self.result; touched_edges = c.note_touched.new.touched } in
    λ n slot at. edge-set old new c.requires.kept c.args.index n slot c.args.state c.args.end at (c.in_ok-was.ensures.entries n slot at)

pub note_touched-requires-clause-room : goal.note_touched-requires-clause-room
note_touched-requires-clause-room c =
    let old = c.args.self.now in
    let e = entry-at old.edges.entries c.args.index c.requires.index in
    λ first.
    touched-free (λ s. is_same s.before) old.edges.entries old.touched_edges.items old.touched_edges.cap c.requires.kept.touched_edges c.args.index e.0 e.1
    (sym (c.is_untouched-is_first.ensures e.0.0 e.0.1 e.1) ∙ first)

pub returns-clause-published : goal.returns-clause-published
returns-clause-published c =
    let old = c.args.self.now in
    let new : Rows = record old { edges = c.write_slot.new.edges; edge_count = c.recount-self.result; touched_edges = c.note_touched.new.touched } in
    let e = entry-at old.edges.entries c.args.index c.requires.index in
    edge-then old new c.requires.kept c.args.index e.0.0 e.0.1 c.args.state c.args.end e.1 (c.in_ok-was.ensures.entries e.0.0 e.0.1 e.1)
