use Rattle.std.proofs.Common.{◌≡◌, ◌++◌, ◌∷◌, [], slice_get, Some, sym, subst}
use Rattle.std.proofs.lemmas.List.Elements.{Contains-push}
use Rattle.std.specs.List.{Contains}
use Rattle.uni_table.specs.declared.graph.rows.Rows.{Rows}
use Rattle.uni_table.proofs.GraphSettled.{id-settled, id-settled-same}
use Rattle.uni_table.proofs.graph.rows.Rows.settle_id.Goals as goal

pub returns-clause-kept : goal.returns-clause-kept
returns-clause-kept c =
    let old = c.args.self.now in
    let new : Rows = record old { ids = c.settle_node.new.ids; touched_ids = c.pop.new.self } in
    let e = c.requires.touched_ids.marked c.in-Some.place (subst (λ ps. Contains ps c.in-Some.place) (sym c.in-Some.ensures.items) (Contains-push c.pop.new.self.items c.in-Some.place)) in
    id-settled old new c.requires c.pop.new.self.items c.in-Some.place e.0.0 e.0.1 e.1 (c.settle_node.ensures e.0.0 e.0.1 e.1) c.in-Some.ensures.items (Rattle.std.proofs.Common.refl) c.in-Some.ensures.capacity

pub returns-clause-same : goal.returns-clause-same
returns-clause-same c =
    let old = c.args.self.now in
    let new : Rows = record old { ids = c.settle_node.new.ids; touched_ids = c.pop.new.self } in
    let e = c.requires.touched_ids.marked c.in-Some.place (subst (λ ps. Contains ps c.in-Some.place) (sym c.in-Some.ensures.items) (Contains-push c.pop.new.self.items c.in-Some.place)) in
    id-settled-same old new c.requires c.pop.new.self.items c.in-Some.place e.0.0 e.0.1 e.1 (c.settle_node.ensures e.0.0 e.0.1 e.1)
