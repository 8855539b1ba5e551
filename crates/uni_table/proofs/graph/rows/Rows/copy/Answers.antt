use Rattle.std.proofs.Common.{refl, ◌∙◌, arith}
use Rattle.std.proofs.lemmas.List.Elements.{same_from_all_zip}
use Rattle.std.proofs.lemmas.Map.Entries.{entries_from_clone}
use Rattle.uni_table.specs.declared.graph.rows.Rows.{Rows}
use Rattle.uni_table.proofs.GraphCopied.{copy-kept, copy-same, copy-then}
use Rattle.uni_table.proofs.graph.rows.Rows.copy.Goals as goal

pub returns-clause-kept : goal.returns-clause-kept
returns-clause-kept c =
    let old = c.args.self.now in
    let new : Rows = record { ids = c.in_ok-clone.field-0; sources = c.in_ok-clone-2.field-0; starts = c.in_ok-clone-3.field-0; edges = c.in_ok-clone-4.field-0; ends = c.in_ok-clone-5.field-0; entity_count = old.entity_count; edge_count = old.edge_count; touched_ids = c.make_room.new.touched; touched_edges = c.make_room-2.new.touched } in
    copy-kept old new
    (entries_from_clone _ _ (λ x y h. h) (λ x y h. h) old.ids.entries c.in_ok-clone.field-0.entries c.in_ok-clone.ensures.cases)
    (entries_from_clone _ _ (λ x y h. h) (λ x y h. h) old.sources.entries c.in_ok-clone-2.field-0.entries c.in_ok-clone-2.ensures.cases)
    (entries_from_clone _ _ (λ x y h. h) (λ x y h. h) old.edges.entries c.in_ok-clone-4.field-0.entries c.in_ok-clone-4.ensures.cases)
    (same_from_all_zip _ old.ends.keys c.in_ok-clone-5.field-0.keys c.in_ok-clone-5.ensures.cases (λ x y h. λ j. (h.0 j, h.1 j)))
    refl refl
    (c.in_ok-make_room.ensures.items ∙ same_from_all_zip _ old.touched_ids.items c.in_ok-touched_ids.touched_ids.items c.in_ok-touched_ids.ensures.cases.0 (λ x y h. h))
    (omega (arith, c.in_ok-make_room.ensures.ok, c.len.ensures.len))
    (c.in_ok-make_room-2.ensures.items ∙ same_from_all_zip _ old.touched_edges.items c.in_ok-touched_edges.touched_edges.items c.in_ok-touched_edges.ensures.cases.0 (λ x y h. h))
    (omega (arith, c.in_ok-make_room-2.ensures.ok, c.len-2.ensures.len))
    c.requires

pub returns-clause-same : goal.returns-clause-same
returns-clause-same c =
    let old = c.args.self.now in
    let new : Rows = record { ids = c.in_ok-clone.field-0; sources = c.in_ok-clone-2.field-0; starts = c.in_ok-clone-3.field-0; edges = c.in_ok-clone-4.field-0; ends = c.in_ok-clone-5.field-0; entity_count = old.entity_count; edge_count = old.edge_count; touched_ids = c.make_room.new.touched; touched_edges = c.make_room-2.new.touched } in
    copy-same old new
    (entries_from_clone _ _ (λ x y h. h) (λ x y h. h) old.ids.entries c.in_ok-clone.field-0.entries c.in_ok-clone.ensures.cases)
    (entries_from_clone _ _ (λ x y h. h) (λ x y h. h) old.sources.entries c.in_ok-clone-2.field-0.entries c.in_ok-clone-2.ensures.cases)
    (entries_from_clone _ _ (λ x y h. h) (λ x y h. h) old.edges.entries c.in_ok-clone-4.field-0.entries c.in_ok-clone-4.ensures.cases)

pub returns-clause-published : goal.returns-clause-published
returns-clause-published c =
    let old = c.args.self.now in
    let new : Rows = record { ids = c.in_ok-clone.field-0; sources = c.in_ok-clone-2.field-0; starts = c.in_ok-clone-3.field-0; edges = c.in_ok-clone-4.field-0; ends = c.in_ok-clone-5.field-0; entity_count = old.entity_count; edge_count = old.edge_count; touched_ids = c.make_room.new.touched; touched_edges = c.make_room-2.new.touched } in
    copy-then old new
    (entries_from_clone _ _ (λ x y h. h) (λ x y h. h) old.ids.entries c.in_ok-clone.field-0.entries c.in_ok-clone.ensures.cases)
    (entries_from_clone _ _ (λ x y h. h) (λ x y h. h) old.sources.entries c.in_ok-clone-2.field-0.entries c.in_ok-clone-2.ensures.cases)
    (entries_from_clone _ _ (λ x y h. h) (λ x y h. h) old.edges.entries c.in_ok-clone-4.field-0.entries c.in_ok-clone-4.ensures.cases)
