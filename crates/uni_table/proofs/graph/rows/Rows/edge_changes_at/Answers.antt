use Rattle.std.proofs.Common.{rules, arith, ◌++◌, ◌<◌, length, take, refl, sym, ap, ◌∙◌}
use Rattle.std.specs.List.{filter_map}
use Rattle.std.specs.Option.{option_to_list}
use Rattle.uni_table.specs.GraphOrder.{placed_change}
use Rattle.uni_table.proofs.Filters.{filter_map-more, listed-option}
use Rattle.uni_table.proofs.graph.rows.Rows.edge_changes_at.Goals as goal

pub loop-i-preserved : goal.loop-i-preserved
loop-i-preserved c =
    let edges = c.args.edges.now in
    let i = c.loop-i.i in
    let edge = c.index-edges-i.result in
    let f = placed_change c.args.self.now in
    let below : i < length edges = search (rules, arith) in
    c.in_ok-add_edge_change.ensures ∙ ap (λ cs. cs ++ option_to_list (f edge)) c.loop-i.invariant
    ∙ ap (λ ys. filter_map f (take i edges) ++ ys) (listed-option (f edge))
    ∙ sym (filter_map-more f edges i edge (f edge) below c.index-edges-i.is refl)
