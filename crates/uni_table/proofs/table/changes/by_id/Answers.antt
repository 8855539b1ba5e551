use Rattle.std.proofs.Common.{rules, sym, subst}
use Rattle.std.proofs.lemmas.List.Sorted.{answers_always}
use Rattle.std.specs.List.Sorted.{IsSortedByKey}
use Rattle.std.specs.Ordering.{nat_cmp}
use Rattle.uni_table.specs.declared.change.EntityChange.{EntityChange}
use Rattle.uni_table.proofs.table.changes.by_id.Goals as goal

pub returns-clause-sorted : goal.returns-clause-sorted
returns-clause-sorted c =
    let up : IsSortedByKey (λ (x : EntityChange). x.id) nat_cmp c.sort_unstable_by_key.new.self.items =
    c.sort_unstable_by_key.ensures.sorted (λ (x : EntityChange). x.id) (answers_always _ _ _ (λ f a r g k. search rules)) in
    subst (IsSortedByKey (λ (x : EntityChange). x.id) nat_cmp) (sym c.from_vec.ensures) up
