use Rattle.std.proofs.Common.{◌≡◌, Some, sym, ap, ◌∙◌, ◌++◌, ◌∷◌, [], if◌then◌else◌, subst, arith}
use Rattle.chained_rows.specs.Counts.{one_if}
use Rattle.uni_table.specs.GraphRows.{is_entity, is_same_entity}
use Rattle.uni_table.proofs.TouchedRows.{touched-free}
use Rattle.uni_table.specs.declared.graph.rows.Rows.{Rows}
use Rattle.uni_table.proofs.GraphPlaces.{key-at, entry-at}
use Rattle.uni_table.proofs.GraphEntities.{entity-kept, entity-set, entity-then, entity-counted, entities-few}
use Rattle.uni_table.proofs.graph.rows.Rows.set_entity.Goals as goal

pub recount-self-requires-clause-counted : goal.recount-self-requires-clause-counted
recount-self-requires-clause-counted c =
    let e = entry-at c.args.self.now.ids.entries c.args.index c.requires.index in
    omega (arith, ap one_if (c.write_row-was.ensures.was e.0.0 e.0.1 e.1), entity-counted c.args.self.now c.requires.kept c.args.index e.0.0 e.0.1 e.1)

pub recount-self-requires-clause-few : goal.recount-self-requires-clause-few
recount-self-requires-clause-few c = entities-few c.args.self.now c.requires.kept

pub returns-clause-kept : goal.returns-clause-kept
returns-clause-kept c =
    let old = c.args.self.now in
    let new : Rows = record old { ids = c.write_row-was.new.ids; entity_count = c.recount-self.result; touched_ids = c.note_touched.new.touched } in
    let e = entry-at old.ids.entries c.args.index c.requires.index in
    entity-kept old new c.requires.kept c.args.index e.0.0 e.0.1 c.args.row e.1 (c.write_row-was.ensures.entries e.0.0 e.0.1 e.1)
    (omega (arith, ap one_if (c.write_row-was.ensures.was e.0.0 e.0.1 e.1), ap one_if c.is_some.ensures, c.recount-self.ensures))
    (c.note_touched.ensures.items ∙ ap (λ b. if b then old.touched_ids.items ++ c.args.index ∷ [] else old.touched_ids.items) (c.is_untouched_id-is_first.ensures e.0.0 e.0.1 e.1))
    c.note_touched.ensures.room

pub returns-clause-set : goal.returns-clause-set
returns-clause-set c =
    let old = c.args.self.now in
    let new : Rows = record old { ids = c.write_row-was.new.ids; entity_count = c.recount-self.result; touched_ids = c.note_touched.new.touched } in
    let e = entry-at old.ids.entries c.args.index c.requires.index in
    λ id at.
    let same : e.0.0 ≡ id = let both : Some e.0.0 ≡ Some id = sym (key-at old.ids.entries c.args.index e.0 e.1) ∙ at in cc in
    subst (λ k. Rattle.uni_table.specs.GraphRows.contents_of new ≡ Rattle.uni_table.specs.GraphRows.with_entity_row (Rattle.uni_table.specs.GraphRows.contents_of old) k c.args.row) same
    (entity-set old new c.requires.kept c.args.index e.0.0 e.0.1 c.args.row e.1 (c.write_row-was.ensures.entries e.0.0 e.0.1 e.1))

pub note_touched-requires-clause-room : goal.note_touched-requires-clause-room
note_touched-requires-clause-room c =
    let old = c.args.self.now in
    let e = entry-at old.ids.entries c.args.index c.requires.index in
    λ first.
    touched-free (λ n. is_same_entity n.before) old.ids.entries old.touched_ids.items old.touched_ids.cap c.requires.kept.touched_ids c.args.index e.0 e.1
    (sym (c.is_untouched_id-is_first.ensures e.0.0 e.0.1 e.1) ∙ first)

pub returns-clause-published : goal.returns-clause-published
returns-clause-published c =
    let old = c.args.self.now in
    let new : Rows = record old { ids = c.write_row-was.new.ids; entity_count = c.recount-self.result; touched_ids = c.note_touched.new.touched } in
    let e = entry-at old.ids.entries c.args.index c.requires.index in
    entity-then old new c.requires.kept c.args.index e.0.0 e.0.1 c.args.row e.1 (c.write_row-was.ensures.entries e.0.0 e.0.1 e.1)
