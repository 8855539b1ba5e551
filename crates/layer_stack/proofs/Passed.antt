-- Terms that readers of layers have passed.
use Rattle.std.proofs.Common.{◌≡◌, false, ℕ, zero, suc, ◌+◌, ◌<◌, ◌≤◌, List, [], ◌∷◌, take, length, get_or, set, None, Some, slice_get, sym, ◌∙◌, ap, subst, arith, All, ◌⊎◌, inl, inr}
use Rattle.std.specs.Prelude.{T}
use Rattle.std.specs.FinMap.Entries.{find, is_sorted}
use Rattle.std.specs.declared.cmp.Ordering.TheVariants.{Less, Greater}
use Rattle.std.specs.Ordering.{is_eq, ordering_reverse}
use Rattle.std.proofs.lemmas.Bool.{cases_lt}
use Rattle.std.proofs.lemmas.List.{get_or-take, length-take-le, take_all}
use Rattle.std.proofs.lemmas.List.Elements.{All-more, All-weaker}
use Rattle.std.proofs.lemmas.Option.{get_or_from_slice_get, slice_get_within}
use Rattle.layer_base.proofs.Sorted.{sorted_at, find_none}
use Rattle.layer_stack.specs.declared.place.TermKey.{TermKey}
use Rattle.layer_stack.specs.declared.term_spans.TermSpans.{TermSpans}
use Rattle.layer_stack.specs.Places.{term_cmp}
use Rattle.layer_stack.specs.Readers.{AreBefore, ReaderValue, layers_read, StandBefore}
use Rattle.layer_stack.proofs.Order.{term_total}

module _ (t : TermKey) (es : List (TermKey × TermSpans)) (at : ℕ) where
  -- one term more
  pub before_more : (e : TermKey × TermSpans) → slice_get es at ≡ Some e → term_cmp e.0 t ≡ Less → AreBefore t (take at es) → AreBefore t (take (at + 1) es)
  before_more e is less before =
      All-more (λ (x : TermKey × TermSpans). term_cmp x.0 t ≡ Less) es at e (slice_get_within es at e is) before (ap (λ (x : TermKey × TermSpans). term_cmp x.0 t) (get_or_from_slice_get es at e e is) ∙ less)

  -- all terms are passed
  pub all_before : length es ≤ at → AreBefore t (take at es) → find term_cmp t es ≡ None
  all_before past before = find_none term_cmp term_total t es (λ k d fits. ap is_eq (whole k d fits))
    where
      whole : AreBefore t es
      whole = subst (AreBefore t) (take_all at es (omega (arith, past))) before

  -- the first term that is not passed comes after it
  pub next_after : T (is_sorted term_cmp es) → (e : TermKey × TermSpans) → slice_get es at ≡ Some e → term_cmp e.0 t ≡ Greater → AreBefore t (take at es) → find term_cmp t es ≡ None
  next_after sorted e is above before = find_none term_cmp term_total t es (λ k d fits. by k d fits (cases_lt k at))
    where
      fits_at : at < length es
      fits_at = slice_get_within es at e is

      read : (d : TermKey × TermSpans) → get_or es at d ≡ e
      read d = get_or_from_slice_get es at e d is

      under : term_cmp t e.0 ≡ Less
      under = term_total.antisymm t e.0 ∙ ap ordering_reverse above

      by : (k : ℕ) (d : TermKey × TermSpans) → k < length es → (k < at) ⊎ (at ≤ k) → is_eq (term_cmp (get_or es k d).0 t) ≡ false
      by k d fits (inl less) =
          ap (λ (x : TermKey × TermSpans). is_eq (term_cmp x.0 t)) (sym (get_or-take at es k d less)) ∙ ap is_eq (before k d (omega (arith, length-take-le at es (omega (arith, fits_at)), less)))
      by k d fits (inr more) = further (cases_lt at k)
        where
          further : (at < k) ⊎ (k ≤ at) → is_eq (term_cmp (get_or es k d).0 t) ≡ false
          further (inl less) =
              let rises : term_cmp e.0 (get_or es k d).0 ≡ Less = subst (λ (x : TermKey × TermSpans). term_cmp x.0 (get_or es k d).0 ≡ Less) (read d) (sorted_at term_cmp es at k d sorted less fits) in
              ap is_eq (term_total.antisymm (get_or es k d).0 t ∙ ap ordering_reverse (term_total.trans t e.0 (get_or es k d).0 under rises))
          further (inr less) =
              let same : k ≡ at = omega arith in
              ap (λ n. is_eq (term_cmp (get_or es n d).0 t)) same ∙ ap (λ (x : TermKey × TermSpans). is_eq (term_cmp x.0 t)) (read d) ∙ ap is_eq above

-- readers that stand before a term stand before a later one
pub before_later : (s t : TermKey) → term_cmp s t ≡ Less → (rs : List ReaderValue) → StandBefore s rs → StandBefore t rs
before_later s t less rs stand = All-weaker (λ (r : ReaderValue). AreBefore s r.1) (λ (r : ReaderValue). AreBefore t r.1) (λ r before. further r.1 before) rs stand
  where
    further : (es : List (TermKey × TermSpans)) → AreBefore s es → AreBefore t es
    further = All-weaker (λ (e : TermKey × TermSpans). term_cmp e.0 s ≡ Less) (λ (e : TermKey × TermSpans). term_cmp e.0 t ≡ Less) (λ e under. term_total.trans e.0 s t under less)

-- readers that have passed nothing
pub before_none : (t : TermKey) (rs : List ReaderValue) → All (λ r. r.1 ≡ []) rs → StandBefore t rs
before_none t rs start = All-weaker (λ (r : ReaderValue). r.1 ≡ []) (λ (r : ReaderValue). AreBefore t r.1) (λ r none. subst (AreBefore t) (sym none) (λ k d low. absurd (omega arith))) rs start

-- a reader that has moved reads the same layer
pub layers_set : (rs : List ReaderValue) (i : ℕ) (old new : ReaderValue) → i < length rs → old ≡ get_or rs i old → new.0 ≡ old.0 → layers_read (set rs i new) ≡ layers_read rs
layers_set [] i old new fits is same = absurd (omega (arith, fits))
layers_set (r ∷ rs) zero old new fits is same = ap (λ l. l ∷ layers_read rs) (same ∙ ap (λ (x : ReaderValue). x.0) is)
layers_set (r ∷ rs) (suc i) old new fits is same = ap (λ ls. r.0 ∷ ls) (layers_set rs i old new (omega (arith, fits)) is same)
