use Rattle.std.proofs.Common.{rules, arith, ◌≡◌, ◌+◌, ◌≤◌, ◌^◌, List, take, refl, ap, ◌∙◌, sym, subst}
use Rattle.std.specs.FinMap as finite
use Rattle.layer_base.specs.Layers.{stack_table}
use Rattle.layer_stack.specs.Based.{ArePutAlone, IsPatch, count_under, has_postings}
use Rattle.layer_stack.specs.Postings.{PostingChanges, putting_all}
use Rattle.layer_stack.proofs.Based.{count_laid, patch_has, patch_stands}
use Rattle.layer_stack.proofs.patch.patched.Goals as goal

pub over-requires : goal.over-requires
over-requires c =
    let table = stack_table (take c.args.count c.args.stack.now.0) in let changed = c.args.changed.now in
    let rows : PostingChanges = c.in_ok-rows-2.rows.value in let base : PostingChanges = c.in_ok-clone.field-0.value in let left = c.in-Some.left in
    let built : rows ≡ c.in_ok-delta.delta = search rules in
    let same : base ≡ c.args.base.now.value = search rules in
    let read = c.in_ok-front.ensures {u = tt} in
    let is : IsPatch changed table rows = subst (IsPatch changed table) (sym built) (subst (λ (layers : List PostingChanges). IsPatch changed (stack_table layers) c.in_ok-delta.delta) read (c.in_ok-delta.ensures {u = tt})) in
    let own : rows ≡ c.in_ok-rows.rows = search rules in
    let whole : left + count_under c.args.base.now.value.puts changed ≡ finite.len c.args.base.now.value.puts = search rules in
    let most : finite.len c.args.base.now.value.puts ≤ 2 ^ 61 = search (rules, arith) in
    let few : finite.len rows.puts ≤ 2 ^ 61 = search (rules, arith) in
    let none : c.args.base.now.value.deletes ≡ finite.empty = search rules in
    record {
      counted = count_laid base.puts rows changed left c.requires.sorted (patch_has changed table rows is) (subst (λ (b : PostingChanges). left + count_under b.puts changed ≡ finite.len b.puts) (sym same) whole);
      few = omega (arith, whole, most, few);
      deletes = ap (λ (b : PostingChanges). b.deletes) same ∙ none;
      words = λ t word has. ap (λ (r : PostingChanges). has_postings t r.puts) own ∙ c.if-not-keeps_words.ensures refl t (sym (patch_has changed table rows is t) ∙ has) word;
    }

pub returns : goal.returns
returns c =
    let table = stack_table (take c.args.count c.args.stack.now.0) in let changed = c.args.changed.now in
    let rows : PostingChanges = c.in_ok-rows-2.rows.value in let base : PostingChanges = c.in_ok-clone.field-0.value in
    let built : rows ≡ c.in_ok-delta.delta = search rules in
    let same : base ≡ c.args.base.now.value = search rules in
    let read = c.in_ok-front.ensures {u = tt} in
    let is : IsPatch changed table rows = subst (IsPatch changed table) (sym built) (subst (λ (layers : List PostingChanges). IsPatch changed (stack_table layers) c.in_ok-delta.delta) read (c.in_ok-delta.ensures {u = tt})) in
    c.over.ensures ∙ ap putting_all (patch_stands changed base table rows (subst (λ (b : PostingChanges). ArePutAlone changed b table) (sym same) c.requires.alone) is)
