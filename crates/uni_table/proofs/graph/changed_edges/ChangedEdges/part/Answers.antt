use Rattle.std.proofs.Common.{ap, ◌-◌, ◌∙◌, drop, take}
use Rattle.std.specs.List.{filter_map}
use Rattle.uni_table.specs.GraphOrder.{placed_change}
use Rattle.uni_table.proofs.PickedParts.{part-picked}
use Rattle.uni_table.proofs.graph.changed_edges.ChangedEdges.part.Goals as goal

pub returns : goal.returns
returns c =
    let view = c.self.inside in
    let change = placed_change view.rows.now in
    let count = c.args.to - c.args.from in
    c.from_vec.ensures ∙ c.in_ok-changes.ensures ∙ ap (λ es. filter_map change (take count (drop c.args.from es))) c.deref.ensures.value
    ∙ part-picked change c.args.from count view.edges.items c.self.invariant.each ∙ ap (λ cs. take count (drop c.args.from cs)) c.self.view_is
