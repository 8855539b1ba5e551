use Rattle.std.proofs.Common.{◌+◌, ◌<◌, ◌^◌, ◌∙◌, ◌++◌, ◌∷◌, [], refl, sym, ap, length, arith}
use Rattle.std.specs.Map.{keys_of}
use Rattle.indexmap.specs.Layout.{set_value_at}
use Rattle.indexmap.proofs.CallerLemmas.{insert_entry-new}
use Rattle.uni_table.specs.GraphRows.{row_of, with_edge_row}
use Rattle.uni_table.specs.declared.graph.numbers.Slot.{Slot}
use Rattle.uni_table.specs.declared.graph.numbers.Before.TheVariants as before
use Rattle.uni_table.specs.declared.graph.rows.Rows.{Rows}
use Rattle.uni_table.proofs.GraphAdded.{add-kept, add-set, add-then, unused-numbers, live-row}
use Rattle.uni_table.proofs.GraphCopied.{copy-kept}
use Rattle.uni_table.proofs.GraphEdges.{edges-few, quiet-room}
use Rattle.uni_table.proofs.GraphNames.{edge_no_eq}
use Rattle.uni_table.proofs.GraphPlaces.{entry-at}
use Rattle.uni_table.proofs.graph.rows.Rows.add_slot.Goals as goal

pub overflow_add-self : goal.overflow_add-self
overflow_add-self c = omega (arith, edges-few c.args.self.now c.requires.kept)

pub returns-clause-kept : goal.returns-clause-kept
returns-clause-kept c =
    let old = c.args.self.now in
    let n = c.args.number in
    let slot : Slot = record { state = c.args.state; end = c.args.end; before = before.Gone; next_into = c.last.result; next_from = c.last-2.result } in
    let new : Rows = record old { ids = c.write_last_into.new.ids; sources = c.write_last_from.new.sources; edges = c.insert.new.self; edge_count = old.edge_count + 1; touched_edges = c.note_touched.new.touched } in
    let t = entry-at old.ids.entries n.target c.requires.target in
    let s = entry-at old.sources.entries n.source c.requires.source in
    let few : length old.edges.entries + 1 < 2 ^ 32 = omega (arith, c.len-index.ensures.len) in
    add-kept old new c.requires.kept n slot t.0.0 t.0.1 s.0.0 s.0.1 t.1 s.1
    (c.write_last_into.ensures t.0.0 t.0.1 t.1 ∙ ap (λ m. set_value_at old.ids.entries n.target (record t.0.1 { last_edge = m + 1 })) c.len-index.ensures.len)
    (c.write_last_from.ensures s.0.0 s.0.1 s.1 ∙ ap (λ m. set_value_at old.sources.entries n.source (m + 1)) c.len-index.ensures.len)
    (c.in_ok-insert.ensures.entries ∙ ap (Rattle.indexmap.specs.IndexMap.insert_entry edge_no_eq old.edges.entries n) (c.in_ok-slot.ensures {u = tt}) ∙ insert_entry-new edge_no_eq old.edges n slot (unused-numbers (keys_of old.sources.entries) (keys_of old.ids.entries) n old.edges.entries c.requires.unused))
    c.requires.unused c.last.ensures c.last-2.ensures c.requires.source c.requires.target c.requires.circle c.requires.noted c.requires.live few refl refl
    (c.note_touched.ensures.items ∙ (λ j. c.in_ok-make_room.ensures.items j ++ c.len-index.ensures.len j ∷ []))
    (omega (arith, c.in_ok-make_room.ensures.room, c.note_touched.ensures.room)) (omega (arith, c.in_ok-make_room.ensures.ok, c.note_touched.ensures.room, c.len-index.ensures.len))

pub returns-clause-ok : goal.returns-clause-ok
returns-clause-ok c =
    let old = c.args.self.now in
    let n = c.args.number in
    let slot : Slot = record { state = c.args.state; end = c.args.end; before = before.Gone; next_into = c.last.result; next_from = c.last-2.result } in
    let new : Rows = record old { ids = c.write_last_into.new.ids; sources = c.write_last_from.new.sources; edges = c.insert.new.self; edge_count = old.edge_count + 1; touched_edges = c.note_touched.new.touched } in
    let t = entry-at old.ids.entries n.target c.requires.target in
    let s = entry-at old.sources.entries n.source c.requires.source in
    let r = live-row (keys_of old.sources.entries) c.args.state c.args.end c.requires.live in
    add-set old new c.requires.kept n slot t.0.0 t.0.1 s.0.0 s.0.1 t.1 s.1
    (c.write_last_into.ensures t.0.0 t.0.1 t.1 ∙ ap (λ m. set_value_at old.ids.entries n.target (record t.0.1 { last_edge = m + 1 })) c.len-index.ensures.len)
    (c.write_last_from.ensures s.0.0 s.0.1 s.1 ∙ ap (λ m. set_value_at old.sources.entries n.source (m + 1)) c.len-index.ensures.len)
    (c.in_ok-insert.ensures.entries ∙ ap (Rattle.indexmap.specs.IndexMap.insert_entry edge_no_eq old.edges.entries n) (c.in_ok-slot.ensures {u = tt}) ∙ insert_entry-new edge_no_eq old.edges n slot (unused-numbers (keys_of old.sources.entries) (keys_of old.ids.entries) n old.edges.entries c.requires.unused))
    c.requires.unused r.0 r.1
    ∙ sym (ap (with_edge_row (Rattle.uni_table.specs.GraphRows.contents_of old) (Rattle.uni_table.specs.GraphRows.edge_named (keys_of old.sources.entries) (keys_of old.ids.entries) n)) r.1)

pub returns-clause-published : goal.returns-clause-published
returns-clause-published c =
    let old = c.args.self.now in
    let n = c.args.number in
    let slot : Slot = record { state = c.args.state; end = c.args.end; before = before.Gone; next_into = c.last.result; next_from = c.last-2.result } in
    let new : Rows = record old { ids = c.write_last_into.new.ids; sources = c.write_last_from.new.sources; edges = c.insert.new.self; edge_count = old.edge_count + 1; touched_edges = c.note_touched.new.touched } in
    let t = entry-at old.ids.entries n.target c.requires.target in
    let s = entry-at old.sources.entries n.source c.requires.source in
    add-then old new c.requires.kept n slot t.0.0 t.0.1 s.0.0 s.0.1 t.1 s.1
    (c.write_last_into.ensures t.0.0 t.0.1 t.1 ∙ ap (λ m. set_value_at old.ids.entries n.target (record t.0.1 { last_edge = m + 1 })) c.len-index.ensures.len)
    (c.write_last_from.ensures s.0.0 s.0.1 s.1 ∙ ap (λ m. set_value_at old.sources.entries n.source (m + 1)) c.len-index.ensures.len)
    (c.in_ok-insert.ensures.entries ∙ ap (Rattle.indexmap.specs.IndexMap.insert_entry edge_no_eq old.edges.entries n) (c.in_ok-slot.ensures {u = tt}) ∙ insert_entry-new edge_no_eq old.edges n slot (unused-numbers (keys_of old.sources.entries) (keys_of old.ids.entries) n old.edges.entries c.requires.unused))
    c.requires.unused refl

pub returns-in_err-insert-clause-kept : goal.returns-in_err-insert-clause-kept
returns-in_err-insert-clause-kept c =
    let old = c.args.self.now in
    let kept = c.requires.kept in
    let new : Rows = record old { edges = c.insert.new.self; touched_edges = c.make_room.new.touched } in
    copy-kept old new refl refl c.in_err-insert.ensures.err refl refl refl refl kept.touched_ids.roomy c.in_ok-make_room.ensures.items (omega (arith, kept.touched_edges.roomy, c.in_ok-make_room.ensures.room)) kept

pub returns-in_err-make_room-clause-kept : goal.returns-in_err-make_room-clause-kept
returns-in_err-make_room-clause-kept c =
    let old = c.args.self.now in
    let new : Rows = record old { touched_edges = c.make_room.new.touched } in
    (quiet-room old new c.requires.kept refl (omega arith) c.in_err-make_room.ensures.items c.in_err-make_room.ensures.room).kept
