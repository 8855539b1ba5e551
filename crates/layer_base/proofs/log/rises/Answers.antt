use Rattle.std.proofs.Common.{rules, arith, ◌≡◌, ◌+◌, ◌-◌, ◌<◌, ◌≤◌, Bool, true, false, get_or, refl, sym, ◌∙◌, ap, subst, ◌⊎◌, inl, inr}
use Rattle.std.specs.Prelude.{T}
use Rattle.std.specs.declared.cmp.Ordering.TheVariants.{Less}
use Rattle.std.specs.FinMap.{is_sorted}
use Rattle.std.specs.Ordering.{is_lt}
use Rattle.std.proofs.lemmas.Bool.{cases_lt}
use Rattle.std.proofs.lemmas.List.{get_or_read}
use Rattle.layer_base.proofs.Sorted.{sorted_at, less_from}
use Rattle.layer_base.proofs.Rising.{rises_sorted, holds_true}
use Rattle.layer_base.proofs.log.rises.Goals as goal

pub loop-i-preserved : goal.loop-i-preserved
loop-i-preserved g c j d fits = by (cases_lt (j + 1) c.loop-i.i)
  where
    by : (j + 1 < c.loop-i.i) ⊎ (c.loop-i.i ≤ j + 1) → g.K.Ord.cmp (get_or c.args.rows.now j d).0 (get_or c.args.rows.now (j + 1) d).0 ≡ Less
    by (inl before) = c.loop-i.invariant j d before
    by (inr here) =
        let R = g.K.Ord.cmp in let rows = c.args.rows.now in let i = c.loop-i.i in
        let x = c.index-rows-i.result in let y = c.index-rows-i-in-loop-i.result in
        let one : j ≡ i - 1 = omega arith in
        let other : j + 1 ≡ i = omega arith in
        let first : get_or rows j d ≡ x = ap (λ n. get_or rows n d) one ∙ sym (get_or_read rows (i - 1) x (omega (arith, c.loop-i-test.true)) c.index-rows-i.is d) in
        let second : get_or rows (j + 1) d ≡ y = ap (λ n. get_or rows n d) other ∙ sym (get_or_read rows i y (omega (arith, c.loop-i-test.true)) c.index-rows-i-in-loop-i.is d) in
        let less : is_lt (R x.0 y.0) ≡ true = search rules in
        (λ k. R (first k).0 (second k).0) ∙ less_from (R x.0 y.0) (subst T (sym less) tt)

pub returns-then-not-is_lt : goal.returns-then-not-is_lt
returns-then-not-is_lt g c = by (is_sorted g.K.Ord.cmp c.args.rows.now) refl
  where
    by : (b : Bool) → is_sorted g.K.Ord.cmp c.args.rows.now ≡ b → false ≡ b
    by true sorted =
        let R = g.K.Ord.cmp in let rows = c.args.rows.now in let i = c.loop-i.i in
        let x = c.index-rows-i.result in let y = c.index-rows-i-in-loop-i.result in
        let less : R (get_or rows (i - 1) x).0 (get_or rows i x).0 ≡ Less = sorted_at R rows (i - 1) i x (subst T (sym sorted) tt) (omega (arith, c.loop-i.auto)) (omega (arith, c.loop-i-test.true)) in
        let second : y ≡ get_or rows i x = get_or_read rows i y (omega (arith, c.loop-i-test.true)) c.index-rows-i-in-loop-i.is x in
        let at : R x.0 y.0 ≡ Less = (λ k. R (c.index-rows-i.is k).0 (second k).0) ∙ less in
        let not : is_lt (R x.0 y.0) ≡ false = search rules in
        sym not ∙ ap is_lt at
    by false sorted = refl

pub returns : goal.returns
returns g c =
    let rows = c.args.rows.now in
    sym (holds_true (is_sorted g.K.Ord.cmp rows) (rises_sorted g.K.Ord.cmp g.met.K.Ord.total rows (λ j d fits. c.loop-i.invariant j d (omega (arith, c.loop-i-test.false, c.loop-i.auto)))))
