use Rattle.std.proofs.Common.{◌≡◌, rules, Bool, sym, subst}
use Rattle.std.specs.List.Sorted.{IsSortedByKey}
use Rattle.std.specs.Ordering.{is_lt}
use Rattle.std.proofs.lemmas.Fn.{always_returns_same}
use Rattle.std.proofs.lemmas.List.Sorted.{ranks_by}
use Rattle.uni_base.specs.declared.edge.Held.{Held}
use Rattle.uni_base.specs.EdgeOrder.{edge_cmp}
use Rattle.uni_table.specs.GraphKeys.{edge_total}
use Rattle.uni_table.proofs.table.lists.in_order.Goals as goal

pub returns-clause-sorted : goal.returns-clause-sorted
returns-clause-sorted c =
    let before : Held → Held → Bool = λ x y. is_lt (edge_cmp x.edge y.edge) in
    let up : IsSortedByKey (λ (h : Held). h.edge) edge_cmp c.sort_unstable_by.new.self.items =
    c.sort_unstable_by.ensures.sorted before (ranks_by edge_total (λ (h : Held). h.edge))
    (always_returns_same _ (λ a r. is_lt r ≡ before a.0.now a.1.0.now) _ (λ a r f k. search rules)) in
    subst (IsSortedByKey (λ (h : Held). h.edge) edge_cmp) (sym c.from_vec.ensures) up
