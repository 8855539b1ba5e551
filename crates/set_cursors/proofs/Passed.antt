-- Operands that have passed what comes before a key.
use Rattle.std.proofs.Common.{◌≡◌, Bool, true, false, not, ◌&&◌, ◌||◌, cond, List, [], ◌∷◌, Some, refl, sym, ◌∙◌, ap, subst, drop, map, slice_get}
use Rattle.std.proofs.lemmas.List.Elements.{filter_agree}
use Rattle.std.specs.List.{list_any}
use Rattle.std.specs.Ordering.{is_eq}
use Rattle.uni_base.specs.declared.entity.DocKey.{DocKey}
use Rattle.uni_base.specs.RankOrder.{doc_cmp}
use Rattle.uni_base.specs.Cursors.{is_before, IsRanked, keys_from}
use Rattle.uni_base.specs.KeySets.{has_key, united, without}
use Rattle.uni_base.proofs.RankedLemmas.{filter_filter, has_key-keys_from, has_key-not_before, is_eq_self, IsBeforeAll-head, keys_from-keys_from, same_from_is_eq}
use Rattle.uni_base.proofs.UnitedLemmas.{has_key-united, IsRanked-united}
use Rattle.set_cursors.specs.Passed.{HasMoved, HavePassed}

-- the first key of the rest comes after the first
pub later_head : (keys : List DocKey) (key k : DocKey) → IsRanked keys → Some key ≡ slice_get keys 0 → slice_get (drop 1 keys) 0 ≡ Some k → is_before key k ≡ true
later_head [] key k ranked first next = cc
later_head (x ∷ []) key k ranked first next = cc
later_head (x ∷ y ∷ ys) key k ranked first next =
    let s : x ≡ key = cc in
    let t : y ≡ k = cc in
    subst (λ (z : DocKey). is_before z k ≡ true) s (subst (λ (z : DocKey). is_before x z ≡ true) t (IsBeforeAll-head x y ys ranked.0))

-- a key that comes before makes no difference
pub from_without : (key k : DocKey) (ks : List DocKey) → is_before key k ≡ true → keys_from k (without key ks) ≡ keys_from k ks
from_without key k ks later =
    filter_filter (λ x. not (is_before x k)) (λ x. not (is_eq (doc_cmp key x))) ks
    ∙ filter_agree (λ x. not (is_eq (doc_cmp key x)) && not (is_before x k)) (λ x. not (is_before x k)) (λ x. by x (is_eq (doc_cmp key x)) refl) ks
  where
    by : (x : DocKey) (b : Bool) → is_eq (doc_cmp key x) ≡ b → (not (is_eq (doc_cmp key x)) && not (is_before x k)) ≡ not (is_before x k)
    by x true e =
        let s = same_from_is_eq key x e in
        let t : is_before x k ≡ true = subst (λ (z : DocKey). is_before z k ≡ true) s later in
        ap (λ b. not b && not (is_before x k)) e ∙ sym (ap not t)
    by x false e = ap (λ b. not b && not (is_before x k)) e

-- a list without keys before one
pub from_all : (k : DocKey) (ks : List DocKey) → ((x : DocKey) → has_key ks x ≡ true → is_before x k ≡ false) → keys_from k ks ≡ ks
from_all k [] none = refl
from_all k (x ∷ xs) none =
    ap (λ b. cond (not b) (x ∷ keys_from k xs) (keys_from k xs)) (none x (ap (λ b. b || has_key xs x) (is_eq_self x)))
    ∙ ap (λ (ks : List DocKey). x ∷ ks) (from_all k xs (λ y has. none y (more (is_eq (doc_cmp x y)) (has_key xs y) has)))
  where
    more : (a b : Bool) → b ≡ true → (a || b) ≡ true
    more true b e = refl
    more false b e = e

-- each of several lists is moved alike, where that makes no difference from a key on, and none has a key before it
pub moved_lists : (k : DocKey) (f : List DocKey → List DocKey) (olds : List (List DocKey)) → ((ks : List DocKey) → keys_from k (f ks) ≡ keys_from k ks) → slice_get (united (map f olds)) 0 ≡ Some k
    → map f olds ≡ map (keys_from k) olds
moved_lists k f olds same first = by olds (λ x has. none (united (map f olds)) (IsRanked-united (map f olds)) first x (has_key-united (map f olds) x ∙ has))
  where
    none : (keys : List DocKey) → IsRanked keys → slice_get keys 0 ≡ Some k → (x : DocKey) → has_key keys x ≡ true → is_before x k ≡ false
    none [] ranked e x has = cc
    none (y ∷ ys) ranked e x has = let s : y ≡ k = cc in subst (λ (z : DocKey). is_before x z ≡ false) s (has_key-not_before y ys x ranked has)

    left : (a b : Bool) → a ≡ true → (a || b) ≡ true
    left a b e = ap (λ c. c || b) e

    right : (a b : Bool) → b ≡ true → (a || b) ≡ true
    right true b e = refl
    right false b e = e

    by : (lists : List (List DocKey)) → ((x : DocKey) → list_any (λ keys. has_key keys x) (map f lists) ≡ true → is_before x k ≡ false) → map f lists ≡ map (keys_from k) lists
    by [] before = refl
    by (ks ∷ lists) before =
        let here = sym (from_all k (f ks) (λ x has. before x (left (has_key (f ks) x) (list_any (λ keys. has_key keys x) (map f lists)) has))) ∙ same ks in
        ap (λ (xs : List DocKey). xs ∷ map f lists) here
        ∙ ap (λ (ls : List (List DocKey)). keys_from k ks ∷ ls) (by lists (λ x has. before x (right (has_key (f ks) x) (list_any (λ keys. has_key keys x) (map f lists)) has)))

-- a key that is left after a key is sought does not come before it
pub sought_late : (from k : DocKey) (keys : List DocKey) → slice_get (keys_from from keys) 0 ≡ Some k → is_before k from ≡ false
sought_late from k keys first = by (has_key keys k) (is_before k from) (sym (has_key-keys_from from keys k) ∙ has (keys_from from keys) first)
  where
    has : (ks : List DocKey) → slice_get ks 0 ≡ Some k → has_key ks k ≡ true
    has [] e = cc
    has (x ∷ xs) e = let s : x ≡ k = cc in subst (λ (y : DocKey). has_key (x ∷ xs) y ≡ true) s (ap (λ b. b || has_key xs x) (is_eq_self x))

    by : (a b : Bool) → (a && not b) ≡ true → b ≡ false
    by true true e = absurd cc
    by true false e = refl
    by false b e = absurd cc

-- ---- the cursor over all keys

module _ {C : Type 0} (view : C → List DocKey) (news olds was : List C) (is : was ≡ olds) where
  pub united-sought-passed : (from : DocKey) → map view news ≡ map (keys_from from) (map view was) → united (map view news) ≡ keys_from from (united (map view olds)) → HavePassed (united (map view news)) (map view olds) (map view news)
  united-sought-passed from moves after k first =
      let moved = moves ∙ ap (λ (xs : List C). map (keys_from from) (map view xs)) is in
      let late = sought_late from k (united (map view olds)) (ap (λ (ks : List DocKey). slice_get ks 0) (sym after) ∙ first) in
      moved ∙ moved_lists k (keys_from from) (map view olds) (λ ks. keys_from-keys_from from k ks late) (ap (λ (ls : List (List DocKey)). slice_get (united ls) 0) (sym moved) ∙ first)

  pub united-passed-passed : (key : DocKey) → Some key ≡ slice_get (united (map view olds)) 0 → map view news ≡ map (without key) (map view was) → united (map view news) ≡ drop 1 (united (map view olds))
      → HavePassed (united (map view news)) (map view olds) (map view news)
  united-passed-passed key here moves after k first =
      let moved = moves ∙ ap (λ (xs : List C). map (without key) (map view xs)) is in
      let later = later_head (united (map view olds)) key k (IsRanked-united (map view olds)) here (ap (λ (ks : List DocKey). slice_get ks 0) (sym after) ∙ first) in
      moved ∙ moved_lists k (without key) (map view olds) (λ ks. from_without key k ks later) (ap (λ (ls : List (List DocKey)). slice_get (united ls) 0) (sym moved) ∙ first)

-- a cursor that is at its end stays
pub moved_nowhere : (keys : List (List DocKey) → List DocKey) (lists : List (List DocKey)) → ((k : DocKey) → slice_get (keys lists) 0 ≡ Some k → ⊥) → HasMoved keys (drop 1 (keys lists)) lists lists
moved_nowhere keys lists ended = record { after = by (keys lists) ended; operands = record { count = refl; holders_stay = λ k has. refl }; passed = λ k e. absurd (ended k e) }
  where
    by : (ks : List DocKey) → ((k : DocKey) → slice_get ks 0 ≡ Some k → ⊥) → ks ≡ drop 1 ks
    by [] none = refl
    by (x ∷ xs) none = absurd (none x refl)
