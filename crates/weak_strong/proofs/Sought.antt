-- A seek that walks, one key after the other.
use Rattle.std.proofs.Common.{◌≡◌, Bool, true, false, not, ◌&&◌, List, [], ◌∷◌, Some, refl, sym, ◌∙◌, ap, subst, drop, map, slice_get}
use Rattle.std.specs.declared.cmp.Ordering.{Ordering}
use Rattle.std.specs.declared.cmp.Ordering.TheVariants.{Less, Equal, Greater}
use Rattle.std.specs.Ordering.{is_ge}
use Rattle.uni_base.specs.declared.entity.DocKey.{DocKey}
use Rattle.uni_base.specs.RankOrder.{doc_cmp}
use Rattle.uni_base.specs.Cursors.{is_before, is_less, IsRanked, keys_from}
use Rattle.uni_base.specs.KeySets.{has_key, KeepsKeys}
use Rattle.uni_base.proofs.RankedLemmas.{has_key-keys_from, keys_from-before}
use Rattle.uni_base.proofs.UnitedLemmas.{KeepsKeys_trans}
use Rattle.set_cursors.specs.Passed.{HavePassed}
use Rattle.weak_strong.specs.declared.rule.Rule.{Rule}
use Rattle.weak_strong.specs.Walking.{walk_of}
use Rattle.weak_strong.proofs.Passing.{SameOn, passed_on, passed_same, same_on}
use Rattle.weak_strong.proofs.Settled.{IsRanked-walk_of, has_key-drop}
use Rattle.weak_strong.proofs.Whole.{Whole}

-- a key that is not at or after another comes before it
pub before-not_ge : (a b : DocKey) (p : Ordering) (r : Bool) → p ≡ doc_cmp a b → r ≡ is_ge p → r ≡ false → is_before a b ≡ true
before-not_ge a b p r e f h = ap is_less (sym e) ∙ by p (sym f ∙ h)
  where
    by : (q : Ordering) → is_ge q ≡ false → is_less q ≡ true
    by Less g = refl
    by Equal g = absurd cc
    by Greater g = absurd cc

sought_drop : (from key : DocKey) (keys : List DocKey) → Some key ≡ slice_get keys 0 → is_before key from ≡ true → keys_from from (drop 1 keys) ≡ keys_from from keys
sought_drop from key [] first late = cc
sought_drop from key (x ∷ xs) first late = let s : key ≡ x = cc in sym (keys_from-before from x xs (subst (λ (y : DocKey). is_before y from ≡ true) s late))

-- the walk as it began, as it is, and as it is after one move
module _ {C : Type 0} (view : C → List DocKey) (rule : Rule) (from : DocKey) (init now new : Whole C) (stays : now.0 ≡ rule) where
  abbrev keys_by : Rule → Whole C → List DocKey
  keys_by r w = walk_of r (map view w.1) w.2 w.3

  ranked : (w : Whole C) → IsRanked (keys_by rule w)
  ranked w = IsRanked-walk_of rule (map view w.1) w.2 w.3

  -- a key is passed
  module _ (stepped : keys_by now.0 new ≡ drop 1 (keys_by now.0 now)) where
    step_keys : keys_by rule new ≡ drop 1 (keys_by rule now)
    step_keys = subst (λ (r : Rule). keys_by r new ≡ drop 1 (keys_by r now)) stays stepped

    step_within : (k : DocKey) → has_key (keys_by rule new) k ≡ true → has_key (keys_by rule now) k ≡ true
    step_within k has = has_key-drop (keys_by rule now) k (ap (λ (ks : List DocKey). has_key ks k) (sym step_keys) ∙ has)

    pub step_walk : (key : DocKey) → Some key ≡ slice_get (keys_by now.0 now) 0 → is_before key from ≡ true → keys_from from (keys_by rule now) ≡ keys_from from (keys_by rule init)
        → keys_from from (keys_by rule new) ≡ keys_from from (keys_by rule init)
    step_walk key first late walk =
        ap (keys_from from) step_keys ∙ sought_drop from key (keys_by rule now) (subst (λ (r : Rule). Some key ≡ slice_get (keys_by r now) 0) stays first) late ∙ walk

    pub step_operands : KeepsKeys (keys_by now.0 new) (map view now.1) (map view new.1) → KeepsKeys (keys_by rule now) (map view init.1) (map view now.1) → KeepsKeys (keys_by rule new) (map view init.1) (map view new.1)
    step_operands keeps before =
        KeepsKeys_trans (keys_by rule now) (keys_by rule new) (map view init.1) (map view now.1) (map view new.1) step_within before
        (subst (λ (r : Rule). KeepsKeys (keys_by r new) (map view now.1) (map view new.1)) stays keeps)

    pub step_same : HavePassed (keys_by now.0 new) (map view now.1) (map view new.1) → SameOn (keys_by rule now) (map view init.1) (map view now.1) → SameOn (keys_by rule new) (map view init.1) (map view new.1)
    step_same passed same =
        same_on (keys_by rule now) (keys_by rule new) (map view init.1) (map view now.1) (map view new.1) (ranked now) step_within same
        (subst (λ (r : Rule). HavePassed (keys_by r new) (map view now.1) (map view new.1)) stays passed)

  -- it leaps
  pub leap_passed : keys_by now.0 new ≡ keys_from from (keys_by now.0 now) → HavePassed (keys_by now.0 new) (map view now.1) (map view new.1) → SameOn (keys_by rule now) (map view init.1) (map view now.1)
      → HavePassed (keys_by rule new) (map view init.1) (map view new.1)
  leap_passed leapt passed same =
      passed_on (keys_by rule now) (keys_by rule new) (map view init.1) (map view now.1) (map view new.1) (ranked now) within same
      (subst (λ (r : Rule). HavePassed (keys_by r new) (map view now.1) (map view new.1)) stays passed)
    where
      left : (a b : Bool) → (a && b) ≡ true → a ≡ true
      left true b e = refl
      left false b e = absurd cc

      within : (k : DocKey) → has_key (keys_by rule new) k ≡ true → has_key (keys_by rule now) k ≡ true
      within k has =
          left (has_key (keys_by rule now) k) (not (is_before k from))
          (sym (has_key-keys_from from (keys_by rule now) k) ∙ ap (λ (ks : List DocKey). has_key ks k) (sym (subst (λ (r : Rule). keys_by r new ≡ keys_from from (keys_by r now)) stays leapt)) ∙ has)

  -- it stays
  pub here_passed : HavePassed (keys_by now.0 now) (map view now.1) (map view now.1) → SameOn (keys_by rule now) (map view init.1) (map view now.1) → HavePassed (keys_by rule now) (map view init.1) (map view now.1)
  here_passed stands same =
      passed_same (keys_by rule now) (map view init.1) (map view now.1) (subst (λ (r : Rule). HavePassed (keys_by r now) (map view now.1) (map view now.1)) stays stands) same
