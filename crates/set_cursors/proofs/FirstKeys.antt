-- The first key of lists that are put together.
use Rattle.std.proofs.Common.{◌≡◌, ℕ, zero, suc, get_or, drop, Bool, true, false, ◌||◌, List, [], ◌∷◌, ◌++◌, Some, refl, sym, ◌∙◌, ap, subst, cond, slice_get}
use Rattle.std.specs.List.{list_any}
use Rattle.std.specs.Ordering.{is_eq}
use Rattle.uni_base.specs.declared.entity.DocKey.{DocKey}
use Rattle.uni_base.specs.RankOrder.{doc_cmp}
use Rattle.uni_base.specs.Cursors.{is_before, IsRanked}
use Rattle.uni_base.specs.KeySets.{has_key, has_first, united, without}
use Rattle.uni_base.proofs.RankedLemmas.{Standing, before, same, after, standing, is_eq_same, same_from_is_eq, has_key-before, IsBeforeAll-cons, IsBeforeAll-ranked, is_eq_self, is_before_back, is_before_self, is_before_trans_left, has_key-not_before, least_is_head, same_from_keys, or_assoc}
use Rattle.uni_base.proofs.UnitedLemmas.{without-head, without-before, has_key-united, IsRanked-united}
use Rattle.set_cursors.specs.Firsts.{sooner_of, is_first}

pub or_true : (b : Bool) → (b || true) ≡ true
or_true true = refl
or_true false = refl

pub or_false : (b : Bool) → (b || false) ≡ b
or_false true = refl
or_false false = refl

pub list_any-append : {X : Type 0} (p : X → Bool) (xs ys : List X) → list_any p (xs ++ ys) ≡ (list_any p xs || list_any p ys)
list_any-append p [] ys = refl
list_any-append p (x ∷ xs) ys = ap (λ b. p x || b) (list_any-append p xs ys) ∙ sym (or_assoc (p x) (list_any p xs) (list_any p ys))

-- a list with the keys of two begins with the sooner of their first keys
pub first_of_both : (xs ys zs : List DocKey) → IsRanked xs → IsRanked ys → IsRanked zs → ((k : DocKey) → has_key zs k ≡ (has_key xs k || has_key ys k))
    → slice_get zs 0 ≡ sooner_of (slice_get xs 0) (slice_get ys 0)
first_of_both [] ys zs p q r both = ap (λ (ks : List DocKey). slice_get ks 0) (same_from_keys zs ys r q both)
first_of_both (x ∷ xs) [] zs p q r both = ap (λ (ks : List DocKey). slice_get ks 0) (same_from_keys zs (x ∷ xs) r p (λ k. both k ∙ or_false (has_key (x ∷ xs) k)))
first_of_both (x ∷ xs) (y ∷ ys) zs p q r both = by (is_before y x) refl
  where
    has_x : has_key (x ∷ xs) x ≡ true
    has_x = ap (λ b. b || has_key xs x) (is_eq_self x)

    has_y : has_key (y ∷ ys) y ≡ true
    has_y = ap (λ b. b || has_key ys y) (is_eq_self y)

    -- no key of either list comes before one that comes before neither head
    least : (k : DocKey) → is_before x k ≡ false → is_before y k ≡ false → (z : DocKey) → has_key zs z ≡ true → is_before z k ≡ false
    least k bx by' z has = split (has_key (x ∷ xs) z) (has_key (y ∷ ys) z) refl refl (sym (both z) ∙ has)
      where
        below : (a : DocKey) → is_before z a ≡ false → is_before a k ≡ false → is_before z k ≡ false
        below a za ak = apart (is_before z k) refl
          where
            apart : (b : Bool) → is_before z k ≡ b → b ≡ false
            apart true e = absurd (let f = is_before_trans_left a z k za e in cc)
            apart false e = refl

        split : (a b : Bool) → has_key (x ∷ xs) z ≡ a → has_key (y ∷ ys) z ≡ b → (a || b) ≡ true → is_before z k ≡ false
        split true b e f t = below x (has_key-not_before x xs z p e) bx
        split false true e f t = below y (has_key-not_before y ys z q f) by'
        split false false e f t = absurd cc

    by : (b : Bool) → is_before y x ≡ b → slice_get zs 0 ≡ cond b (Some y) (Some x)
    by true e = least_is_head zs y r (both y ∙ ap (λ b. has_key (x ∷ xs) y || b) has_y ∙ or_true (has_key (x ∷ xs) y)) (least y (is_before_back y x e) (is_before_self y))
    by false e = least_is_head zs x r (both x ∙ ap (λ b. b || has_key (y ∷ ys) x) has_x) (least x (is_before_self x) e)

-- one list more
pub first_more : (lists : List (List DocKey)) (ks : List DocKey) → IsRanked ks → slice_get (united (lists ++ ks ∷ [])) 0 ≡ sooner_of (slice_get (united lists) 0) (slice_get ks 0)
first_more lists ks ranked =
    first_of_both (united lists) ks (united (lists ++ ks ∷ [])) (IsRanked-united lists) ranked (IsRanked-united (lists ++ ks ∷ []))
    (λ k. has_key-united (lists ++ ks ∷ []) k ∙ list_any-append (λ xs. has_key xs k) lists (ks ∷ []) ∙ ap (λ b. list_any (λ xs. has_key xs k) lists || b) (or_false (has_key ks k))
    ∙ ap (λ b. b || has_key ks k) (sym (has_key-united lists k)))

-- passing a key that a list begins with, and that it has nothing before
pub without-first : (k : DocKey) (ks : List DocKey) → IsRanked ks → is_first k ks ≡ true → drop 1 ks ≡ without k ks
without-first k [] ranked at = cc
without-first k (x ∷ xs) ranked at =
    let is = same_from_is_eq x k at in
    sym (subst (λ (y : DocKey). without y (x ∷ xs) ≡ xs) is (without-head x xs ranked))

-- a key that a list does not begin with, and that it has nothing before, it does not have
pub without-other : (k : DocKey) (ks : List DocKey) → IsRanked ks → ((x : DocKey) → has_key ks x ≡ true → is_before x k ≡ false) → is_first k ks ≡ false → ks ≡ without k ks
without-other k [] ranked least at = refl
without-other k (x ∷ xs) ranked least at = by (standing k x)
  where
    by : Standing k x → x ∷ xs ≡ without k (x ∷ xs)
    by (before p _ _ _) = sym (without-before k (x ∷ xs) (IsBeforeAll-cons k x xs p (IsBeforeAll-ranked k x xs ranked (is_before_back k x p))))
    by (same e) = absurd (let f = is_eq_same x k (sym e) in cc)
    by (after p _ _ _) = absurd (let f = least x (ap (λ b. b || has_key xs x) (is_eq_self x)) in cc)

-- a ranked list that has nothing before a key has it exactly if it begins with it
pub is_first-has_key : (k : DocKey) (ks : List DocKey) → IsRanked ks → ((x : DocKey) → has_key ks x ≡ true → is_before x k ≡ false) → is_first k ks ≡ has_key ks k
is_first-has_key k [] ranked least = refl
is_first-has_key k (x ∷ xs) ranked least = by (standing k x)
  where
    by : Standing k x → is_eq (doc_cmp x k) ≡ has_key (x ∷ xs) k
    by (before p _ _ q) = q ∙ sym (has_key-before k (x ∷ xs) (IsBeforeAll-cons k x xs p (IsBeforeAll-ranked k x xs ranked (is_before_back k x p))))
    by (same e) = let f = is_eq_same x k (sym e) in f ∙ sym (ap (λ b. b || has_key xs k) f)
    by (after p _ _ _) = absurd (let f = least x (ap (λ b. b || has_key xs x) (is_eq_self x)) in cc)

-- what one of several lists has is among their keys
pub has_key-among : (lists : List (List DocKey)) (i : ℕ) (x : DocKey) → has_key (get_or lists i []) x ≡ true → has_key (united lists) x ≡ true
has_key-among lists i x has = has_key-united lists x ∙ among lists i has
  where
    among : (lists : List (List DocKey)) (i : ℕ) → has_key (get_or lists i []) x ≡ true → list_any (λ ks. has_key ks x) lists ≡ true
    among [] i h = h
    among (ks ∷ lists) zero h = ap (λ b. b || list_any (λ ls. has_key ls x) lists) h
    among (ks ∷ lists) (suc i) h = ap (λ b. has_key ks x || b) (among lists i h) ∙ or_true (has_key ks x)

-- a list among others has nothing before the first of all keys
pub least_in : (k : DocKey) (lists : List (List DocKey)) (i : ℕ) → slice_get (united lists) 0 ≡ Some k → (x : DocKey) → has_key (get_or lists i []) x ≡ true → is_before x k ≡ false
least_in k lists i first x has = by (united lists) refl (IsRanked-united lists) first
  where
    by : (ks : List DocKey) → united lists ≡ ks → IsRanked ks → slice_get (united lists) 0 ≡ Some k → is_before x k ≡ false
    by [] e ranked f = absurd (let g : slice_get [] 0 ≡ Some k = subst (λ (ls : List DocKey). slice_get ls 0 ≡ Some k) e f in cc)
    by (y ∷ ys) e ranked f =
        let g : slice_get (y ∷ ys) 0 ≡ Some k = subst (λ (ls : List DocKey). slice_get ls 0 ≡ Some k) e f in
        let is : y ≡ k = cc in
        let here : has_key (y ∷ ys) x ≡ true = ap (λ (ls : List DocKey). has_key ls x) (sym e) ∙ has_key-among lists i x has in
        subst (λ (z : DocKey). is_before x z ≡ false) is (has_key-not_before y ys x ranked here)

-- where an operand is at the first of all keys, or not
pub first_in : (k : DocKey) (lists : List (List DocKey)) (i : ℕ) (answer : Bool) → slice_get (united lists) 0 ≡ Some k → IsRanked (get_or lists i []) → answer ≡ is_first k (get_or lists i [])
    → answer ≡ has_first (get_or lists i []) (united lists)
first_in k lists i answer first ranked is = is ∙ is_first-has_key k (get_or lists i []) ranked (least_in k lists i first) ∙ by (united lists) first
  where
    by : (all : List DocKey) → slice_get all 0 ≡ Some k → has_key (get_or lists i []) k ≡ has_first (get_or lists i []) all
    by [] e = absurd cc
    by (x ∷ xs) e = let f : x ≡ k = cc in ap (λ (y : DocKey). has_key (get_or lists i []) y) (sym f)

-- a list that begins with a key
pub is_first-slice_get : (k : DocKey) (ks : List DocKey) → is_first k ks ≡ true → slice_get ks 0 ≡ Some k
is_first-slice_get k [] at = cc
is_first-slice_get k (x ∷ xs) at = ap Some (same_from_is_eq x k at)
