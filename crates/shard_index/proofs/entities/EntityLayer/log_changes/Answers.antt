use Rattle.std.proofs.Common.{◌≡◌, ◌++◌, map, ap, ◌∙◌, sym, subst, append_assoc}
use Rattle.std.specs.FinMap as finite
use Rattle.std.specs.Ordering.{nat_cmp}
use Rattle.std.specs.Result.{OnOk}
use Rattle.layer_base.specs.Changes.{deleted, put, in_turn}
use Rattle.shard_index.proofs.entities.EntityLayer.log_changes.Goals as goal

pub returns : goal.returns
returns c =
    let old = c.args.log.now.items in let l = c.self.inside in
    let deletes = c.in_ok-log_deletes.ensures {u = tt} ∙ ap (λ rs. old ++ map deleted rs) (c.deref.ensures.value ∙ sym (finite.entries-from_sorted nat_cmp l.deletes.items c.self.invariant.deletes)) in
    let puts = ap (map put) (c.deref-2.ensures.value ∙ sym (finite.entries-from_sorted nat_cmp l.puts.items c.self.invariant.puts)) in
    subst (λ items. OnOk c.log_puts.result (c.log_puts.new.log.items ≡ items))
    ((λ i. deletes i ++ puts i) ∙ append_assoc old (map deleted (finite.entries (finite.from_sorted {R = nat_cmp} l.deletes.items))) (map put (finite.entries (finite.from_sorted {R = nat_cmp} l.puts.items))) ∙ ap (λ v. old ++ in_turn v) c.self.view_is) c.log_puts.ensures
