use Rattle.std.proofs.Common.{rules, arith, ◌≡◌, ◌<◌, ◌≤◌, ◌+◌, ◌++◌, ◌∷◌, [], ◌-◌, length, drop, get_or, Bool, true, false, List, ℕ, ap, ◌∙◌, sym, subst}
use Rattle.std.specs.List.Sorted.{IsSortedByKey}
use Rattle.std.specs.Ordering.{is_lt, eq_by_cmp}
use Rattle.std.proofs.lemmas.List.{get_or_read}
use Rattle.std.proofs.lemmas.List.Elements.{All-take, All-drop}
use Rattle.std.proofs.lemmas.List.Sorted.{answers_always, ranks_by, All-permutation}
use Rattle.posting_lists.specs.Postings.{section}
use Rattle.layer_base.proofs.LastWords.{filter_ties}
use Rattle.layer_stack.specs.declared.arrange.Arrangement.{Arrangement}
use Rattle.layer_stack.specs.declared.directory.Span.{Span}
use Rattle.layer_stack.specs.declared.place.TermKey.{TermKey}
use Rattle.layer_stack.specs.Places.{term_cmp}
use Rattle.layer_stack.specs.Runs.{AreWithin, left_of, span_at}
use Rattle.layer_stack.proofs.Order.{term_total, term_apart}
use Rattle.layer_stack.proofs.Grouped.{IsGrouped, ComeBefore, group_start, group_on, group_closed, before_next, all_grouped}
use Rattle.layer_stack.proofs.arrange.arrange.Goals as goal
use Rattle.layer_stack.proofs.arrange.arrange.Goals.{then-i-len+in_ok-add_term, then-i-len-via-then-i-len, then-i-len-via-else-i-len+then-not-is_same, else-i-len+else-not-is_same}

pub add_term-requires : goal.add_term-requires
add_term-requires c =
    let keys = c.args.keys.now in let runs = c.sort_by.new.self.items in let from = c.loop-i.from in
    let within : AreWithin (length keys) runs = All-permutation (λ (r : TermKey × Span). (r.1.from < r.1.to) × (r.1.to ≤ length keys)) c.args.runs.items runs c.sort_by.ensures.permutation c.requires in
    let all : AreWithin (length keys) c.deref.result.now = subst (λ (rs : List (TermKey × Span)). AreWithin (length keys) rs) (sym c.deref.ensures.value) within in
    All-take (λ (r : TermKey × Span). (r.1.from < r.1.to) × (r.1.to ≤ length keys)) (c.loop-i.i + 1 - from) (drop from c.deref.result.now) (All-drop (λ (r : TermKey × Span). (r.1.from < r.1.to) × (r.1.to ≤ length keys)) from c.deref.result.now all)

pub loop-i-init : goal.loop-i-init
loop-i-init c = group_start c.sort_by.new.self.items c.args.keys.now c.in_ok-with_capacity.field-0.items c.in_ok-with_capacity-2.field-0.items c.in_ok-with_capacity.ensures.items c.in_ok-with_capacity-2.ensures.items

pub loop-i-preserved : goal.loop-i-preserved
loop-i-preserved c =
    let keys = c.args.keys.now in let runs = c.sort_by.new.self.items in let i = c.loop-i.i in let from = c.loop-i.from in
    let spans = c.loop-i.arrangement.spans.items in let rows = c.loop-i.arrangement.rows.items in let inv = c.loop-i.invariant in
    let told = c.if-i-len.arrangement.spans.items in let news = c.if-i-len.arrangement.rows.items in
    let key : TermKey × Span → TermKey = λ e. e.0 in
    let order : TermKey × Span → TermKey × Span → Bool = λ x y. is_lt (term_cmp x.0 y.0) in
    let ranks = ranks_by term_total key in
    let computes = answers_always _ (λ a r. is_lt r ≡ order a.0.now a.1.0.now) _ (λ f a r f' k. search rules) in
    let sorted : IsSortedByKey key term_cmp runs = c.in_ok-sort_by.ensures.sorted order ranks computes in
    let within : AreWithin (length keys) runs = All-permutation (λ (r : TermKey × Span). (r.1.from < r.1.to) × (r.1.to ≤ length keys)) c.args.runs.items runs c.sort_by.ensures.permutation c.requires in
    let fits : i < length runs = search (rules, arith) in
    let whole : c.len.result ≡ length runs = search rules in
    elim c.if-i-len.branch [
      | then-i-len+in_ok-add_term w ↦
          let x = w.index-then-i-len.result.now in
          let at : x ≡ get_or runs i x = w.index-then-i-len.ensures in
          let is : news ≡ rows ++ left_of (section from (i + 1) runs) keys =
          ap (λ (a : Arrangement). a.rows.items) w.arrangement-is ∙ w.in_ok-add_term.ensures.rows ∙ ap (λ (rs : List (TermKey × Span)). rows ++ left_of (section from (i + 1) rs) keys) w.deref.ensures.value in
          let are : told ≡ spans ++ (x.0, span_at (length rows) (length news)) ∷ [] =
          ap (λ (a : Arrangement). a.spans.items) w.arrangement-is ∙ w.in_ok-add_term.ensures.spans ∙ ap (λ (a : Arrangement). spans ++ (x.0, span_at (length rows) (length a.rows.items)) ∷ []) (sym w.arrangement-is) in
          let closed : ComeBefore runs (i + 1) told → IsGrouped runs keys c.if-i-len.from (i + 1) told news =
          λ before. subst (λ (n : ℕ). IsGrouped runs keys n (i + 1) told news) (sym w.from-is) (group_closed runs keys within from i spans told rows news x inv fits at is are before) in
          elim w.then-i-len.branch [
            | then-i-len-via-then-i-len v ↦ closed (λ d more. absurd (omega (arith, more, v.if-i-len.true, whole)))
            | then-i-len-via-else-i-len+then-not-is_same v ↦
                let y = v.index.result.now in let z = v.index-else-i-len.result.now in
                let more : i + 1 < length runs = omega (arith, v.if-i-len.false, whole, fits) in
                let same : z ≡ x = get_or_read runs i z fits v.index-else-i-len.ensures x ∙ sym at in
                let apart : eq_by_cmp term_cmp y.0 z.0 ≡ false = search rules in
                closed (subst (λ (ss : List (TermKey × Span)). ComeBefore runs (i + 1) ss) (sym are)
                (before_next runs from i x y spans (span_at (length rows) (length news)) sorted inv.before inv.one inv.from more at v.index.ensures (ap (λ (e : TermKey × Span). eq_by_cmp term_cmp y.0 e.0) (sym same) ∙ apart)))
          ]
      | else-i-len+else-not-is_same w ↦
          let x = w.index-else-i-len.result.now in let y = w.index.result.now in
          let more : i + 1 < length runs = omega (arith, w.if-i-len.false, whole, fits) in
          let equal : eq_by_cmp term_cmp y.0 x.0 ≡ true = search rules in
          let on : IsGrouped runs keys from (i + 1) spans rows = group_on runs keys within from i spans rows x y inv more w.index-else-i-len.ensures w.index.ensures equal in
          subst (λ (n : ℕ). IsGrouped runs keys n (i + 1) told news) (sym w.from-is)
          (subst (λ (a : Arrangement). IsGrouped runs keys from (i + 1) a.spans.items a.rows.items) (sym w.arrangement-is) on)
    ]

pub returns : goal.returns
returns c =
    let runs = c.sort_by.new.self.items in
    let key : TermKey × Span → TermKey = λ e. e.0 in
    let order : TermKey × Span → TermKey × Span → Bool = λ x y. is_lt (term_cmp x.0 y.0) in
    let ranks = ranks_by term_total key in
    let computes = answers_always _ (λ a r. is_lt r ≡ order a.0.now a.1.0.now) _ (λ f a r f' k. search rules) in
    let stable = c.in_ok-sort_by.ensures.stable order ranks computes in
    let none : Span = span_at 0 0 in
    let whole : c.loop-i.i ≡ length runs = search rules in
    all_grouped runs c.args.runs.items c.args.keys.now c.loop-i.from c.loop-i.i c.loop-i.arrangement.spans.items c.loop-i.arrangement.rows.items c.loop-i.invariant whole
    (λ t. sym (filter_ties term_cmp term_total term_apart t none runs) ∙ stable (t, none) ∙ filter_ties term_cmp term_total term_apart t none c.args.runs.items)
