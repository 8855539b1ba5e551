use Rattle.std.proofs.Common.{rules, ◌≡◌, T, List, ℕ, length, map, ap, ◌∙◌, sym, subst}
use Rattle.std.specs.FinMap.{is_sorted}
use Rattle.uni_base.specs.declared.entity.DocKey.{DocKey}
use Rattle.layer_stack.specs.declared.directory.Span.{Span}
use Rattle.layer_stack.specs.declared.place.TermKey.{TermKey}
use Rattle.layer_stack.specs.Places.{term_cmp}
use Rattle.layer_stack.specs.Runs.{AreInTurn, AreSettled, AreArranged}
use Rattle.layer_stack.specs.Spans.{delete_rows}
use Rattle.layer_stack.proofs.Settled.{keys_kept, keys_settled}
use Rattle.layer_stack.proofs.settle.settle_keys.Goals as goal

pub returns-then-are_in_turn : goal.returns-then-are_in_turn
returns-then-are_in_turn c =
    let rises : is_sorted term_cmp c.deref.result.now ≡ _ = sym c.rises.ensures ∙ c.if-rises.true in
    let sorted : T (is_sorted term_cmp c.args.runs.items) = subst (λ (runs : List (TermKey × Span)). T (is_sorted term_cmp runs)) c.deref.ensures.value (subst T (sym rises) tt) in
    let turn : AreInTurn c.deref-then-rises.result.now c.deref-then-rises-2.result.now = c.if-are_in_turn.ensures {u = tt} (search rules) in
    keys_kept c.args.runs.items c.args.keys.items sorted c.requires
    (subst (AreInTurn c.args.runs.items) c.deref-then-rises-2.ensures.value (subst (λ (runs : List (TermKey × Span)). AreInTurn runs c.deref-then-rises-2.result.now) c.deref-then-rises.ensures.value turn))

pub returns : goal.returns
returns c =
    let a = c.in_ok-arrangement.arrangement in let keys = c.args.keys.items in let runs = c.args.runs.items in
    let arranged : AreArranged runs keys a.spans.items a.rows.items =
    subst (λ (ks : List DocKey). AreArranged runs ks a.spans.items a.rows.items) c.deref-2.ensures.value (c.in_ok-arrangement.ensures {u = tt}) in
    let picked : c.in_ok-keys.keys.items ≡ map (λ (e : DocKey × ℕ). e.0) a.rows.items = c.in_ok-keys.ensures {u = tt} ∙ ap (map (λ (e : DocKey × ℕ). e.0)) c.deref-3.ensures.value in
    subst (λ xs. AreSettled (delete_rows runs keys) (delete_rows a.spans.items xs) a.spans.items (length xs)) (sym picked) (keys_settled runs keys a.spans.items a.rows.items arranged)
