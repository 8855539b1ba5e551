use Rattle.std.proofs.Common.{rules, arith, ◌≡◌, ◌≤◌, ◌^◌, ◌-◌, List, length, ap, ◌∙◌, sym, subst}
use Rattle.std.specs.FinMap as finite
use Rattle.layer_stack.specs.declared.directory.Span.{Span}
use Rattle.layer_stack.specs.declared.place.TermKey.{TermKey}
use Rattle.layer_stack.specs.Directories.{put_spans, delete_spans}
use Rattle.layer_stack.specs.Places.{place_cmp}
use Rattle.layer_stack.specs.Runs.{AreSettled}
use Rattle.layer_stack.specs.Spans.{put_rows, delete_rows, AreLaid, IsSpans}
use Rattle.layer_stack.proofs.Settled.{settled_laid, settled_map, spans_fit}
use Rattle.layer_stack.proofs.rows.Rows.build.Goals as goal

pub of-requires-clause-puts : goal.of-requires-clause-puts
of-requires-clause-puts c =
    let d = c.delta.inside in let puts = c.in_ok-puts.puts.items in let ps = c.in_ok-puts.postings in
    let settled : AreSettled (put_rows d.puts.items d.postings) (put_rows puts ps) puts (length ps) = c.in_ok-puts.ensures {u = tt} in
    let few : length ps ≤ (2 ^ 32 - 1) = omega (arith, c.if-len-gt-MOST_ROWS.false, c.len.ensures, ap length c.postings.view_is) in
    subst (λ (ss : List (TermKey × Span)). IsSpans (2 ^ 32 - 1) ss) (sym c.deref.ensures.value) (spans_fit (length ps) (2 ^ 32 - 1) puts settled.told few)

pub of-requires-clause-deletes : goal.of-requires-clause-deletes
of-requires-clause-deletes c =
    let d = c.delta.inside in let deletes = c.in_ok-deletes.deletes.items in let ks = c.in_ok-deletes.deleted.items in
    let settled : AreSettled (delete_rows d.deletes.items d.deleted.items) (delete_rows deletes ks) deletes (length ks) = c.in_ok-deletes.ensures {u = tt} in
    let count : c.len-else-len-gt-MOST_ROWS.result ≡ length ks = search rules in
    let few : length ks ≤ (2 ^ 32 - 1) = omega (arith, c.if-len-gt-MOST_ROWS-2.false, count) in
    subst (λ (ss : List (TermKey × Span)). IsSpans (2 ^ 32 - 1) ss) (sym c.deref-2.ensures.value) (spans_fit (length ks) (2 ^ 32 - 1) deletes settled.told few)

pub invariant_of-result : goal.invariant_of-result
invariant_of-result c =
    let d = c.delta.inside in
    let puts = c.in_ok-puts.puts.items in let ps = c.in_ok-puts.postings in let deletes = c.in_ok-deletes.deletes.items in let ks = c.in_ok-deletes.deleted.items in
    let put_settled : AreSettled (put_rows d.puts.items d.postings) (put_rows puts ps) puts (length ps) = c.in_ok-puts.ensures {u = tt} in
    let delete_settled : AreSettled (delete_rows d.deletes.items d.deleted.items) (delete_rows deletes ks) deletes (length ks) = c.in_ok-deletes.ensures {u = tt} in
    let put_few : length ps ≤ 2 ^ 61 = omega (arith, c.if-len-gt-MOST_ROWS.false, c.len.ensures, ap length c.postings.view_is) in
    let key_count : c.len-else-len-gt-MOST_ROWS.result ≡ length ks = search rules in
    let delete_few : length ks ≤ 2 ^ 61 = omega (arith, c.if-len-gt-MOST_ROWS-2.false, key_count) in
    let put_told : put_spans c.in_ok-of.field-0 ≡ puts = (c.in_ok-of.ensures {u = tt}).puts ∙ c.deref.ensures.value in
    let delete_told : delete_spans c.in_ok-of.field-0 ≡ deletes = (c.in_ok-of.ensures {u = tt}).deletes ∙ c.deref-2.ensures.value in (
      subst (λ (ss : List (TermKey × Span)). AreLaid (put_rows ss ps) ss (length ps)) (sym put_told) (settled_laid (put_rows d.puts.items d.postings) (put_rows puts ps) puts (length ps) put_settled put_few),
      subst (λ (ss : List (TermKey × Span)). AreLaid (delete_rows ss ks) ss (length ks)) (sym delete_told) (settled_laid (delete_rows d.deletes.items d.deleted.items) (delete_rows deletes ks) deletes (length ks) delete_settled delete_few),
    )

pub returns : goal.returns
returns c =
    let d = c.delta.inside in
    let puts = c.in_ok-puts.puts.items in let ps = c.in_ok-puts.postings in let deletes = c.in_ok-deletes.deletes.items in let ks = c.in_ok-deletes.deleted.items in
    let put_settled : AreSettled (put_rows d.puts.items d.postings) (put_rows puts ps) puts (length ps) = c.in_ok-puts.ensures {u = tt} in
    let delete_settled : AreSettled (delete_rows d.deletes.items d.deleted.items) (delete_rows deletes ks) deletes (length ks) = c.in_ok-deletes.ensures {u = tt} in
    let put_told : put_spans c.in_ok-of.field-0 ≡ puts = (c.in_ok-of.ensures {u = tt}).puts ∙ c.deref.ensures.value in
    let delete_told : delete_spans c.in_ok-of.field-0 ≡ deletes = (c.in_ok-of.ensures {u = tt}).deletes ∙ c.deref-2.ensures.value in
    let put_side = (λ i. finite.from_sorted {R = place_cmp} (put_rows (put_told i) ps)) ∙ settled_map (put_rows d.puts.items d.postings) (put_rows puts ps) puts (length ps) put_settled in
    let delete_side = (λ i. finite.from_sorted {R = place_cmp} (delete_rows (delete_told i) ks)) ∙ settled_map (delete_rows d.deletes.items d.deleted.items) (delete_rows deletes ks) deletes (length ks) delete_settled in
    (λ i. record { deletes = delete_side i; puts = put_side i }) ∙ c.delta.view_is
