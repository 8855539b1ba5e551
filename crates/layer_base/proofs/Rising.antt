-- Rows whose keys strictly rise are what their log leaves.
use Rattle.std.proofs.Common.{◌≡◌, ℕ, suc, ◌+◌, ◌<◌, Bool, true, false, cond, List, [], ◌∷◌, length, get_or, reverse, Option, None, Some, refl, sym, ◌∙◌, ap, subst, arith}
use Rattle.std.proofs.lemmas.List.{reverse-append}
use Rattle.std.specs.Cmp.{IsTotalOrder, Equal-is}
use Rattle.std.specs.Prelude.{T}
use Rattle.std.specs.declared.cmp.Ordering.{Ordering}
use Rattle.std.specs.declared.cmp.Ordering.TheVariants.{Less}
use Rattle.std.specs.Ordering.{eq_by_cmp}
use Rattle.std.specs.FinMap as map
use Rattle.std.specs.FinMap.Entries.{find, is_sorted, below_all, same_entries}
use Rattle.layer_base.specs.Layers.{from_log, TellsApart}
use Rattle.layer_base.specs.Lookups.{either}
use Rattle.layer_base.proofs.Changes.{find-append}
use Rattle.layer_base.proofs.Sorted.{both, first, second, less_from, lt_from, find_below}

pub holds_true : (b : Bool) → T b → b ≡ true
holds_true true t = refl
holds_true false t = absurd t

-- before a place, each key comes before the next
abbrev pub RisesTo : {K X : Type 0} → (K → K → Ordering) → List (K × X) → ℕ → Type 0
RisesTo {K} {X} R es n = (j : ℕ) (d : K × X) → j + 1 < n → R (get_or es j d).0 (get_or es (j + 1) d).0 ≡ Less

module _ {K X : Type 0} (R : K → K → Ordering) (o : IsTotalOrder R) where
  below_less : (x y : K) (es : List (K × X)) → R x y ≡ Less → T (below_all R y es) → T (below_all R x es)
  below_less x y [] less below = tt
  below_less x y (e ∷ es) less below =
      both _ _ (lt_from _ (o.trans x y e.0 less (less_from _ (first _ _ below)))) (below_less x y es less (second _ _ below))

  pub rises_sorted : (es : List (K × X)) → RisesTo R es (length es) → T (is_sorted R es)
  rises_sorted [] rises = tt
  rises_sorted (e ∷ []) rises = tt
  rises_sorted (e ∷ f ∷ es) rises =
      let less : R e.0 f.0 ≡ Less = rises 0 e (omega arith) in
      let rest : T (is_sorted R (f ∷ es)) = rises_sorted (f ∷ es) later in
      both _ _ (both _ _ (lt_from _ less) (below_less e.0 f.0 es less (first _ _ rest))) rest
    where
      later : RisesTo R (f ∷ es) (length (f ∷ es))
      later j d fits =
          let next : suc (j + 1) ≡ suc j + 1 = omega arith in
          ap (λ n. R (get_or (f ∷ es) j d).0 (get_or (e ∷ f ∷ es) n d).0) next ∙ rises (suc j) d (omega arith)

module _ {K X : Type 0} (R : K → K → Ordering) (o : IsTotalOrder R) (apart : TellsApart R) where
  find-reverse : (q : K) (es : List (K × X)) → T (is_sorted R es) → find R q (reverse es) ≡ find R q es
  find-reverse q [] sorted = refl
  find-reverse q (e ∷ es) sorted =
      ap (find R q) (reverse-append (e ∷ []) es) ∙ find-append R q (reverse es) (e ∷ [])
      ∙ ap (λ f. either f (cond (eq_by_cmp R q e.0) (Some e.1) None)) (find-reverse q es (second _ _ sorted)) ∙ by (eq_by_cmp R q e.0) refl
    where
      nothing_after : (f : Option X) → either f None ≡ f
      nothing_after None = refl
      nothing_after (Some x) = refl

      by : (b : Bool) → eq_by_cmp R q e.0 ≡ b → either (find R q es) (cond b (Some e.1) None) ≡ cond b (Some e.1) (find R q es)
      by true t =
          let is : q ≡ e.0 = apart q e.0 ((Equal-is (R q e.0)).0 t) in
          ap (λ f. either f (Some e.1)) (find_below R q es (subst (λ (k : K). T (below_all R k es)) (sym is) (first _ _ sorted)))
      by false t = nothing_after (find R q es)

  -- a log whose keys strictly rise says one word on each
  pub log_sorted : (log : List (K × X)) → T (is_sorted R log) → log ≡ map.entries (from_log {R = R} log)
  log_sorted log sorted =
      same_entries R o apart log (map.entries (from_log {R = R} log)) sorted (map.entries_sorted (from_log {R = R} log))
      (λ q. sym (find-reverse q log sorted) ∙ sym (map.get-from_entries o (reverse log) q) ∙ map.get-entries (from_log {R = R} log) q)
