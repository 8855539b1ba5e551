-- The marks of the terms of a directory.
use Rattle.std.proofs.Common.{◌≡◌, ℕ, zero, suc, ◌+◌, Bool, true, false, true≢false, cond, List, [], ◌∷◌, ◌++◌, set, slice_get, Option, None, Some, refl, sym, ◌∙◌, ap, subst, All}
use Rattle.std.proofs.lemmas.List.Elements.{All-head, All-push, All-tail, All-weaker}
use Rattle.std.specs.Cmp.{Equal-is}
use Rattle.std.specs.FinMap.Entries.{find}
use Rattle.std.specs.Ordering.{eq_by_cmp}
use Rattle.layer_stack.specs.declared.place.TermKey.{TermKey}
use Rattle.layer_stack.specs.declared.term_spans.TermSpans.{TermSpans}
use Rattle.layer_stack.specs.Marks.{is_ruled_out, is_unset, mark_of, AreMarked}
use Rattle.layer_stack.specs.Places.{term_cmp}
use Rattle.layer_stack.proofs.Order.{term_apart}

-- a mark that is set more leaves the others as they are
set_elsewhere : (marks : List Bool) (i j : ℕ) → is_unset (slice_get marks j) ≡ false → is_unset (slice_get (set marks i true) j) ≡ false
set_elsewhere [] i j set_there = set_there
set_elsewhere (m ∷ marks) zero zero set_there = refl
set_elsewhere (m ∷ marks) zero (suc j) set_there = set_there
set_elsewhere (m ∷ marks) (suc i) zero set_there = set_there
set_elsewhere (m ∷ marks) (suc i) (suc j) set_there = set_elsewhere marks i j set_there

set_here : (marks : List Bool) (i : ℕ) → is_unset (slice_get (set marks i true) i) ≡ false
set_here [] i = refl
set_here (m ∷ marks) zero = refl
set_here (m ∷ marks) (suc i) = set_here marks i

-- one term more is marked
pub one_marked : (marks : List Bool) (es : List (TermKey × TermSpans)) (e : TermKey × TermSpans) → AreMarked marks es → AreMarked (set marks (mark_of e.0) true) (es ++ e ∷ [])
one_marked marks es e are =
    All-push (λ (x : TermKey × TermSpans). is_ruled_out (set marks (mark_of e.0) true) x.0 ≡ false) es e
    (All-weaker (λ (x : TermKey × TermSpans). is_ruled_out marks x.0 ≡ false) (λ (x : TermKey × TermSpans). is_ruled_out (set marks (mark_of e.0) true) x.0 ≡ false)
    (λ x kept. set_elsewhere marks (mark_of e.0) (mark_of x.0) kept) es are)
    (set_here marks (mark_of e.0))

-- where there are no marks no term is ruled out
pub none_marked : (es : List (TermKey × TermSpans)) → AreMarked [] es
none_marked es = λ k d low. refl

module _ (marks : List Bool) (t : TermKey) (out : is_ruled_out marks t ≡ true) where
  -- a directory lacks a term that is ruled out
  pub lacks : (es : List (TermKey × TermSpans)) → AreMarked marks es → find term_cmp t es ≡ None
  lacks [] are = refl
  lacks (e ∷ es) are = by (eq_by_cmp term_cmp t e.0) refl (lacks es (All-tail (λ (x : TermKey × TermSpans). is_ruled_out marks x.0 ≡ false) e es are))
    where
      by : (b : Bool) → eq_by_cmp term_cmp t e.0 ≡ b → find term_cmp t es ≡ None → cond b (Some e.1) (find term_cmp t es) ≡ None
      by true eq later =
          let at : t ≡ e.0 = term_apart t e.0 ((Equal-is (term_cmp t e.0)).0 eq) in
          absurd (true≢false (sym out ∙ ap (is_ruled_out marks) at ∙ All-head (λ (x : TermKey × TermSpans). is_ruled_out marks x.0 ≡ false) e es are))
      by false eq later = later
