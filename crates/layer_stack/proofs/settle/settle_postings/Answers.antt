use Rattle.std.proofs.Common.{rules, ◌≡◌, ◌<◌, T, All, List, length, map, ap, ◌∙◌, sym, subst}
use Rattle.std.specs.FinMap.{is_sorted}
use Rattle.uni_base.specs.declared.entity.DocKey.{DocKey}
use Rattle.posting_lists.specs.Postings.{keys_of}
use Rattle.layer_stack.specs.declared.directory.Span.{Span}
use Rattle.layer_stack.specs.declared.place.TermKey.{TermKey}
use Rattle.layer_stack.specs.Places.{term_cmp}
use Rattle.layer_stack.specs.Runs.{AreWithin, AreInTurn, AreSettled, AreArranged, posting_from}
use Rattle.layer_stack.specs.Spans.{put_rows}
use Rattle.layer_stack.proofs.Settled.{postings_kept, postings_settled, length-keys}
use Rattle.layer_stack.proofs.settle.settle_postings.Goals as goal

pub returns-then-are_in_turn : goal.returns-then-are_in_turn
returns-then-are_in_turn c =
    let rises : is_sorted term_cmp c.deref.result.now ≡ _ = sym c.rises.ensures ∙ c.if-rises.true in
    let sorted : T (is_sorted term_cmp c.args.runs.items) = subst (λ (runs : List (TermKey × Span)). T (is_sorted term_cmp runs)) c.deref.ensures.value (subst T (sym rises) tt) in
    let turn : AreInTurn c.deref-then-rises.result.now c.keys.result.now = c.if-are_in_turn.ensures {u = tt} (search rules) in
    postings_kept c.args.runs.items c.args.postings sorted c.requires
    (subst (AreInTurn c.args.runs.items) c.keys.ensures (subst (λ (runs : List (TermKey × Span)). AreInTurn runs c.keys.result.now) c.deref-then-rises.ensures.value turn))

pub arrange-requires : goal.arrange-requires
arrange-requires c = subst (λ n. AreWithin n c.args.runs.items) (sym (ap length c.keys-2.ensures ∙ length-keys c.args.postings)) c.requires

pub pick_postings-requires : goal.pick_postings-requires
pick_postings-requires c =
    let arranged = c.in_ok-arrangement.ensures {u = tt} in
    subst (λ (rows : List (DocKey × _)). All (λ e. e.1 < length c.args.postings) rows) (sym c.deref-2.ensures.value)
    (subst (λ n. All (λ e. e.1 < n) c.in_ok-arrangement.arrangement.rows.items) (ap length c.keys-2.ensures ∙ length-keys c.args.postings) arranged.within)

pub returns : goal.returns
returns c =
    let a = c.in_ok-arrangement.arrangement in let ps = c.args.postings in let runs = c.args.runs.items in
    let arranged : AreArranged runs (keys_of ps) a.spans.items a.rows.items =
    subst (λ (ks : List DocKey). AreArranged runs ks a.spans.items a.rows.items) c.keys-2.ensures (c.in_ok-arrangement.ensures {u = tt}) in
    let picked : c.in_ok-columns.columns ≡ map (posting_from ps) a.rows.items = c.in_ok-columns.ensures {u = tt} ∙ ap (map (posting_from ps)) c.deref-2.ensures.value in
    subst (λ xs. AreSettled (put_rows runs ps) (put_rows a.spans.items xs) a.spans.items (length xs)) (sym picked) (postings_settled runs ps a.spans.items a.rows.items arranged)
