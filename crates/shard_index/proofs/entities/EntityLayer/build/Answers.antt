use Rattle.std.proofs.Common.{rules, arith, ◌≡◌, ◌≤◌, ◌^◌, length, ap, ◌∙◌, sym, subst}
use Rattle.std.specs.Prelude.{T}
use Rattle.std.specs.FinMap as finite
use Rattle.std.specs.FinMap.{is_sorted}
use Rattle.std.specs.Ordering.{nat_cmp}
use Rattle.layer_base.specs.Layers.{from_log}
use Rattle.layer_base.proofs.Tables.{from_sorted-entries}
use Rattle.shard_index.specs.Entities.{entity_changes}
use Rattle.shard_index.proofs.entities.EntityLayer.build.Goals as goal

pub invariant_of-result : goal.invariant_of-result
invariant_of-result c =
    let deletes : c.in_ok-deletes.deletes.items ≡ finite.entries (from_log {R = nat_cmp} c.delta.inside.deletes.items) = search rules in
    let puts : c.in_ok-puts.puts.items ≡ finite.entries (from_log {R = nat_cmp} c.delta.inside.puts.items) = search rules in
    let few_deletes : length c.in_ok-deletes.deletes.items ≤ 2 ^ 61 = omega (arith, c.in_ok-deletes.ensures.few, c.delta.invariant) in
    let few_puts : length c.in_ok-puts.puts.items ≤ 2 ^ 61 = omega (arith, c.in_ok-puts.ensures.few, c.delta.invariant) in
    record {
      deletes = subst (λ rs. T (is_sorted nat_cmp rs)) (sym deletes) (finite.entries_sorted (from_log {R = nat_cmp} c.delta.inside.deletes.items));
      puts = subst (λ rs. T (is_sorted nat_cmp rs)) (sym puts) (finite.entries_sorted (from_log {R = nat_cmp} c.delta.inside.puts.items));
      few_deletes = few_deletes;
      few_puts = few_puts;
    }

pub returns : goal.returns
returns c =
    let deletes : c.in_ok-deletes.deletes.items ≡ finite.entries (from_log {R = nat_cmp} c.delta.inside.deletes.items) = search rules in
    let puts : c.in_ok-puts.puts.items ≡ finite.entries (from_log {R = nat_cmp} c.delta.inside.puts.items) = search rules in
    let delete_side = ap (finite.from_sorted {R = nat_cmp}) deletes ∙ from_sorted-entries (from_log {R = nat_cmp} c.delta.inside.deletes.items) in
    let put_side = ap (finite.from_sorted {R = nat_cmp}) puts ∙ from_sorted-entries (from_log {R = nat_cmp} c.delta.inside.puts.items) in
    (λ i. entity_changes (delete_side i) (put_side i)) ∙ c.delta.view_is
