use Rattle.std.proofs.Common.{subst}
use Rattle.std.specs.List.Sorted.{IsPermutation}
use Rattle.uni_table.proofs.GraphOrdered.{changes-in-order, have-changes}
use Rattle.uni_table.proofs.graph.rows.Rows.edge_changes.Goals as goal

pub invariant_of-result : goal.invariant_of-result
invariant_of-result c =
    let found = c.in_ok-edges.ensures in
    have-changes c.args.self.now c.requires found.places c.in_order-edges.result.items (subst (λ es. IsPermutation es c.in_order-edges.result.items) found.picked c.in_order-edges.ensures.permutation)

pub returns : goal.returns
returns c =
    let found = c.in_ok-edges.ensures in
    changes-in-order c.args.self.now c.requires found.places found.apart found.whole c.in_order-edges.result.items
    (subst (λ es. IsPermutation es c.in_order-edges.result.items) found.picked c.in_order-edges.ensures.permutation) c.in_order-edges.ensures.sorted
