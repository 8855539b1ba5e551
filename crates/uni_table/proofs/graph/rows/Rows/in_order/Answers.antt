use Rattle.std.proofs.Common.{◌≡◌, rules, Bool}
use Rattle.std.specs.Ordering.{is_lt}
use Rattle.std.proofs.lemmas.Fn.{always_returns_same}
use Rattle.std.proofs.lemmas.List.Sorted.{ranks_by}
use Rattle.uni_base.specs.EdgeOrder.{edge_cmp}
use Rattle.uni_table.specs.GraphKeys.{edge_total}
use Rattle.uni_table.specs.GraphOrder.{edge_told}
use Rattle.uni_table.specs.declared.graph.order.PlacedEdge.{PlacedEdge}
use Rattle.uni_table.proofs.graph.rows.Rows.in_order.Goals as goal

pub returns-clause-sorted : goal.returns-clause-sorted
returns-clause-sorted c =
    let rows = c.args.self.now in
    let before : PlacedEdge → PlacedEdge → Bool = λ x y. is_lt (edge_cmp (edge_told rows x) (edge_told rows y)) in
    c.sort_unstable_by.ensures.sorted before (ranks_by edge_total (edge_told rows))
    (always_returns_same _ (λ a r. is_lt r ≡ before a.0.now a.1.0.now) _ (λ a r f k. search rules))
