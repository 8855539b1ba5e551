use Rattle.std.proofs.Common.{Bool, refl, inl, None, sym, subst, arith, nat_eq}
use Rattle.uni_table.specs.GraphRows.{AreTouched, Grows, is_same_entity}
use Rattle.uni_table.specs.declared.graph.numbers.EntityBefore.TheVariants as entity_then
use Rattle.uni_table.specs.declared.graph.numbers.Node.{Node}
use Rattle.uni_table.proofs.GraphEdges.{quiet-room}
use Rattle.uni_table.proofs.GraphGrown.{quiet-grown}
use Rattle.uni_table.proofs.GraphPlaces.{index-none}
use Rattle.uni_table.proofs.TouchedRows.{touched-grown, touched-room}
use Rattle.uni_table.proofs.graph.rows.Rows.add_id.Goals as goal

pub add_key-requires-clause-new : goal.add_key-requires-clause-new
add_key-requires-clause-new c = index-none (nat_eq c.args.id) c.args.self.now.ids.entries c.requires.new

pub returns-clause-quiet : goal.returns-clause-quiet
returns-clause-quiet c =
    let old = c.args.self.now in
    let more = c.add_key.ensures in
    let grown = subst (Grows old.ids.entries c.add_key.new.map.entries c.args.id) c.of.ensures more.grown in
    let same : Node → Bool = λ n. is_same_entity n.before in
    let room = touched-room same old.ids.entries old.touched_ids.items old.touched_ids.cap c.requires.kept.touched_ids c.make_room.new.touched.cap c.in_ok-make_room.ensures.room in
    quiet-grown old (record old { ids = c.add_key.new.map; touched_ids = c.make_room.new.touched }) c.requires.kept c.args.id (record { row = None; before = entity_then.Same; last_edge = 0 }) refl refl refl grown
    (record { type_no = 0; key = Rattle.uni_base.specs.declared.edge.Key.TheVariants.Id 0 }) (inl refl) refl refl refl refl more.unique c.requires.kept.sources more.few c.requires.kept.few_sources
    (subst (λ ps. AreTouched same c.add_key.new.map.entries ps c.make_room.new.touched.cap) (sym c.in_ok-make_room.ensures.items)
    (touched-grown same old.ids.entries old.touched_ids.items c.make_room.new.touched.cap room c.add_key.new.map.entries c.args.id (record { row = None; before = entity_then.Same; last_edge = 0 }) refl
    (omega (arith, c.in_ok-make_room.ensures.ok, c.len.ensures.len)) grown))
    refl

pub returns-in_err-make_room-clause-quiet : goal.returns-in_err-make_room-clause-quiet
returns-in_err-make_room-clause-quiet c =
    let old = c.args.self.now in
    quiet-room old (record old { touched_ids = c.make_room.new.touched }) c.requires.kept c.in_err-make_room.ensures.items c.in_err-make_room.ensures.room refl (omega arith)
