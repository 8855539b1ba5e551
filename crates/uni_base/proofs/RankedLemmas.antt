-- Rank order, lists in rank order, and what is left of them from a key on.
use Rattle.std.proofs.Common.{◌≡◌, ℕ, zero, suc, ◌<◌, Bool, true, false, not, ◌&&◌, ◌||◌, cond, List, [], ◌∷◌, ◌++◌, Some, refl, sym, ◌∙◌, ap, subst, arith, rules, All, filter, drop, slice_get, length, get_or}
use Rattle.std.specs.Cmp.{IsTotalOrder}
use Rattle.std.specs.Cmp.Rules.{comparing}
use Rattle.std.specs.declared.cmp.Ordering.{Ordering}
use Rattle.std.specs.declared.cmp.Ordering.TheVariants.{Less, Equal, Greater}
use Rattle.std.specs.Ordering.{nat_cmp, is_eq, ordering_then, ordering_reverse}
use Rattle.std.proofs.lemmas.Bool.Decides.{nat_tests}
use Rattle.std.proofs.lemmas.List.Elements.{All-cons, All-head, All-tail, All-filter, All-weaker}
use Rattle.uni_base.specs.declared.entity.DocKey.{DocKey}
use Rattle.uni_base.specs.RankOrder.{doc_cmp}
use Rattle.uni_base.specs.Cursors.{is_less, is_before, IsRanked, keys_from}
use Rattle.uni_base.specs.KeySets.{has_key}

-- ---- the order

pub doc_total : IsTotalOrder doc_cmp
doc_total = search (comparing, rules)

-- what a comparison tells
less_from : (o : Ordering) → is_less o ≡ true → o ≡ Less
less_from Less e = refl
less_from Equal e = cc
less_from Greater e = cc

equal_numbers : (a b : ℕ) → nat_cmp a b ≡ Equal → a ≡ b
equal_numbers a b e = let is : is_eq (nat_cmp a b) ≡ true = ap is_eq e in grind (arith, nat_tests)

both_equal : (a b : Ordering) → ordering_then a b ≡ Equal → (a ≡ Equal) × (b ≡ Equal)
both_equal Less b e = cc
both_equal Equal b e = (refl, e)
both_equal Greater b e = cc

-- keys that rank order does not tell apart are the same
pub exact_key : (a b : DocKey) → doc_cmp a b ≡ Equal → a ≡ b
exact_key a b e =
    let both = both_equal (nat_cmp b.rank.0 a.rank.0) (nat_cmp a.id b.id) e in
    let ranks : a.rank.0 ≡ b.rank.0 = sym (equal_numbers b.rank.0 a.rank.0 both.0) in
    let ids : a.id ≡ b.id = equal_numbers a.id b.id both.1 in
    λ i. record { rank = record { 0 = ranks i }; id = ids i }

pub doc_cmp_self : (a : DocKey) → doc_cmp a a ≡ Equal
doc_cmp_self a = by (doc_cmp a a) (doc_total.antisymm a a)
  where
    by : (o : Ordering) → o ≡ ordering_reverse o → o ≡ Equal
    by Less e = cc
    by Equal e = refl
    by Greater e = cc

-- how two keys may stand to each other
pub data Standing (a b : DocKey) : Type 0 where
  before : is_before a b ≡ true → is_before b a ≡ false → is_eq (doc_cmp a b) ≡ false → is_eq (doc_cmp b a) ≡ false → Standing a b
  same : a ≡ b → Standing a b
  after : is_before b a ≡ true → is_before a b ≡ false → is_eq (doc_cmp a b) ≡ false → is_eq (doc_cmp b a) ≡ false → Standing a b

pub standing : (a b : DocKey) → Standing a b
standing a b = by (doc_cmp a b) (doc_cmp b a) refl refl (doc_total.antisymm b a)
  where
    by : (o p : Ordering) → doc_cmp a b ≡ o → doc_cmp b a ≡ p → doc_cmp b a ≡ ordering_reverse (doc_cmp a b) → Standing a b
    by Less p e f t =
        let g : doc_cmp b a ≡ Greater = t ∙ ap ordering_reverse e in
        before (ap is_less e) (ap is_less g) (ap is_eq e) (ap is_eq g)
    by Equal p e f t = same (exact_key a b e)
    by Greater p e f t =
        let g : doc_cmp b a ≡ Less = t ∙ ap ordering_reverse e in
        after (ap is_less g) (ap is_less e) (ap is_eq e) (ap is_eq g)

pub is_before_trans : (a b c : DocKey) → is_before a b ≡ true → is_before b c ≡ true → is_before a c ≡ true
is_before_trans a b c p q = ap is_less (doc_total.trans a b c (less_from (doc_cmp a b) p) (less_from (doc_cmp b c) q))

pub is_before_self : (a : DocKey) → is_before a a ≡ false
is_before_self a = ap is_less (doc_cmp_self a)

pub is_eq_self : (a : DocKey) → is_eq (doc_cmp a a) ≡ true
is_eq_self a = ap is_eq (doc_cmp_self a)

pub is_before_back : (a b : DocKey) → is_before a b ≡ true → is_before b a ≡ false
is_before_back a b p = by (standing a b)
  where
    by : Standing a b → is_before b a ≡ false
    by (before _ q _ _) = q
    by (same e) = subst (λ (k : DocKey). is_before k a ≡ false) e (is_before_self a)
    by (after _ q _ _) = absurd cc

-- keys neither of which comes before the other are the same
pub same_from_neither : (a b : DocKey) → is_before a b ≡ false → is_before b a ≡ false → a ≡ b
same_from_neither a b p q = by (standing a b)
  where
    by : Standing a b → a ≡ b
    by (before r _ _ _) = absurd cc
    by (same e) = e
    by (after r _ _ _) = absurd cc

-- a key at or before one that comes before a third comes before the third
pub is_before_trans_left : (a b c : DocKey) → is_before b a ≡ false → is_before b c ≡ true → is_before a c ≡ true
is_before_trans_left a b c p q = by (standing a b)
  where
    by : Standing a b → is_before a c ≡ true
    by (before r _ _ _) = is_before_trans a b c r q
    by (same e) = subst (λ (k : DocKey). is_before k c ≡ true) (sym e) q
    by (after r _ _ _) = absurd cc

-- a key comes before what is at or after one that it comes before
pub is_before_trans_right : (a b c : DocKey) → is_before a b ≡ true → is_before c b ≡ false → is_before a c ≡ true
is_before_trans_right a b c p q = by (standing b c)
  where
    by : Standing b c → is_before a c ≡ true
    by (before r _ _ _) = is_before_trans a b c p r
    by (same e) = subst (λ (k : DocKey). is_before a k ≡ true) e p
    by (after r _ _ _) = absurd cc

-- ---- lists

-- a key comes before each of a list
abbrev pub IsBeforeAll : DocKey → List DocKey → Type 0
IsBeforeAll a ks = All (λ k. is_before a k ≡ true) ks

pub IsBeforeAll-cons : (a k : DocKey) (ks : List DocKey) → is_before a k ≡ true → IsBeforeAll a ks → IsBeforeAll a (k ∷ ks)
IsBeforeAll-cons a k ks p all = All-cons (λ x. is_before a x ≡ true) k ks p all

pub IsBeforeAll-head : (a k : DocKey) (ks : List DocKey) → IsBeforeAll a (k ∷ ks) → is_before a k ≡ true
IsBeforeAll-head a k ks all = All-head (λ x. is_before a x ≡ true) k ks all

pub IsBeforeAll-tail : (a k : DocKey) (ks : List DocKey) → IsBeforeAll a (k ∷ ks) → IsBeforeAll a ks
IsBeforeAll-tail a k ks all = All-tail (λ x. is_before a x ≡ true) k ks all

-- what comes before the head of a ranked list, or is it, comes before its tail
pub IsBeforeAll-ranked : (a k : DocKey) (ks : List DocKey) → IsRanked (k ∷ ks) → is_before k a ≡ false → IsBeforeAll a ks
IsBeforeAll-ranked a k ks ranked p = All-weaker (λ x. is_before k x ≡ true) (λ x. is_before a x ≡ true) (λ x q. is_before_trans_left a k x p q) ks ranked.0

pub IsRanked-drop : (n : ℕ) (ks : List DocKey) → IsRanked ks → IsRanked (drop n ks)
IsRanked-drop zero ks ranked = ranked
IsRanked-drop (suc n) [] ranked = ranked
IsRanked-drop (suc n) (k ∷ ks) ranked = IsRanked-drop n ks ranked.1

pub IsRanked-filter : (p : DocKey → Bool) (ks : List DocKey) → IsRanked ks → IsRanked (filter p ks)
IsRanked-filter p [] ranked = tt
IsRanked-filter p (k ∷ ks) ranked =
    elim (p k) as (λ b. IsRanked (cond b (k ∷ filter p ks) (filter p ks))) [
      | true ↦ (All-filter p (λ x. is_before k x ≡ true) ks ranked.0, IsRanked-filter p ks ranked.1)
      | false ↦ IsRanked-filter p ks ranked.1
    ]

-- a filter that all of a list pass leaves it
pub filter_all : {X : Type 0} (p : X → Bool) (xs : List X) → All (λ x. p x ≡ true) xs → filter p xs ≡ xs
filter_all p [] all = refl
filter_all p (x ∷ xs) all =
    let here : p x ≡ true = All-head (λ y. p y ≡ true) x xs all in
    ap (λ b. cond b (x ∷ filter p xs) (filter p xs)) here ∙ ap (λ ys. x ∷ ys) (filter_all p xs (All-tail (λ y. p y ≡ true) x xs all))

-- two filters, in either order
pub filter_swap : {X : Type 0} (p q : X → Bool) (xs : List X) → filter p (filter q xs) ≡ filter q (filter p xs)
filter_swap p q [] = refl
filter_swap {X} p q (x ∷ xs) = by (p x) (q x) refl refl (filter_swap p q xs)
  where
    by : (a b : Bool) → p x ≡ a → q x ≡ b → filter p (filter q xs) ≡ filter q (filter p xs) → filter p (cond b (x ∷ filter q xs) (filter q xs)) ≡ filter q (cond a (x ∷ filter p xs) (filter p xs))
    by true true e f later = rw (e, f, later) refl
    by true false e f later = rw (f, later) refl
    by false true e f later = rw (e, later) refl
    by false false e f later = later

-- two filters are one by both tests
pub filter_filter : {X : Type 0} (p q : X → Bool) (xs : List X) → filter p (filter q xs) ≡ filter (λ x. q x && p x) xs
filter_filter p q [] = refl
filter_filter {X} p q (x ∷ xs) = by (q x) refl (filter_filter p q xs)
  where
    by : (b : Bool) → q x ≡ b → filter p (filter q xs) ≡ filter (λ y. q y && p y) xs
        → filter p (cond b (x ∷ filter q xs) (filter q xs)) ≡ cond (b && p x) (x ∷ filter (λ y. q y && p y) xs) (filter (λ y. q y && p y) xs)
    by true e later = rw later refl
    by false e later = later

-- ---- what is left from a key on

pub IsRanked-keys_from : (from : DocKey) (ks : List DocKey) → IsRanked ks → IsRanked (keys_from from ks)
IsRanked-keys_from from ks ranked = IsRanked-filter (λ k. not (is_before k from)) ks ranked

-- a head that comes before the key goes
pub keys_from-before : (from k : DocKey) (ks : List DocKey) → is_before k from ≡ true → keys_from from (k ∷ ks) ≡ keys_from from ks
keys_from-before from k ks p = ap (λ b. cond (not b) (k ∷ keys_from from ks) (keys_from from ks)) p

-- a ranked list whose head does not come before the key stays whole
pub keys_from-here : (from k : DocKey) (ks : List DocKey) → IsRanked (k ∷ ks) → is_before k from ≡ false → keys_from from (k ∷ ks) ≡ k ∷ ks
keys_from-here from k ks ranked p =
    filter_all (λ x. not (is_before x from)) (k ∷ ks)
    (All-cons (λ x. not (is_before x from) ≡ true) k ks (ap not p)
    (All-weaker (λ x. is_before from x ≡ true) (λ x. not (is_before x from) ≡ true) (λ x q. ap not (is_before_back from x q)) ks (IsBeforeAll-ranked from k ks ranked p)))

-- from its own head on a ranked list is whole
pub keys_from-head : (k : DocKey) (ks : List DocKey) → IsRanked (k ∷ ks) → keys_from k (k ∷ ks) ≡ k ∷ ks
keys_from-head k ks ranked = keys_from-here k k ks ranked (is_before_self k)

-- how many keys come before one
abbrev pub count_before : DocKey → List DocKey → ℕ
count_before from [] = 0
count_before from (k ∷ ks) = cond (is_before k from) (suc (count_before from ks)) 0

-- what is left of a ranked list is an end of it
pub keys_from-drop : (from : DocKey) (ks : List DocKey) → IsRanked ks → keys_from from ks ≡ drop (count_before from ks) ks
keys_from-drop from [] ranked = refl
keys_from-drop from (k ∷ ks) ranked = by (is_before k from) refl (keys_from-drop from ks ranked.1)
  where
    by : (b : Bool) → is_before k from ≡ b → keys_from from ks ≡ drop (count_before from ks) ks → keys_from from (k ∷ ks) ≡ drop (cond b (suc (count_before from ks)) 0) (k ∷ ks)
    by true e later = keys_from-before from k ks e ∙ later
    by false e later = keys_from-here from k ks ranked e

-- the end from a place on, where what stands before the place comes before the key and what stands
-- there does not
pub keys_from-at : (from : DocKey) (ks : List DocKey) (i : ℕ) → IsRanked ks → ((j : ℕ) (d : DocKey) → j < i → j < length ks → is_before (get_or ks j d) from ≡ true)
    → ((d : DocKey) → i < length ks → is_before (get_or ks i d) from ≡ false) → keys_from from ks ≡ drop i ks
keys_from-at from [] zero ranked below at = refl
keys_from-at from [] (suc i) ranked below at = refl
keys_from-at from (k ∷ ks) zero ranked below at = keys_from-here from k ks ranked (at k (omega arith))
keys_from-at from (k ∷ ks) (suc i) ranked below at =
    keys_from-before from k ks (below 0 k (omega arith) (omega arith))
    ∙ keys_from-at from ks i ranked.1 (λ j d l m. below (suc j) d (omega arith) (omega arith)) (λ d l. at d (omega arith))

-- the head of what is left does not come before the key
pub keys_from_head_is : (from k : DocKey) (ks rest : List DocKey) → keys_from from ks ≡ k ∷ rest → is_before k from ≡ false
keys_from_head_is from k [] rest e = cc
keys_from_head_is from k (x ∷ xs) rest e = by (is_before x from) refl (keys_from_head_is from k xs rest) e
  where
    by : (b : Bool) → is_before x from ≡ b → (keys_from from xs ≡ k ∷ rest → is_before k from ≡ false)
        → cond (not b) (x ∷ keys_from from xs) (keys_from from xs) ≡ k ∷ rest → is_before k from ≡ false
    by true p later f = later f
    by false p later f = let is : x ≡ k = cc in subst (λ (y : DocKey). is_before y from ≡ false) is p

-- from one key on and then from another that does not come before it
pub keys_from-keys_from : (a b : DocKey) (ks : List DocKey) → is_before b a ≡ false → keys_from b (keys_from a ks) ≡ keys_from b ks
keys_from-keys_from a b [] p = refl
keys_from-keys_from a b (k ∷ ks) p = by (is_before k a) refl (keys_from-keys_from a b ks p)
  where
    by : (t : Bool) → is_before k a ≡ t → keys_from b (keys_from a ks) ≡ keys_from b ks → keys_from b (cond (not t) (k ∷ keys_from a ks) (keys_from a ks)) ≡ keys_from b (k ∷ ks)
    by true e later = later ∙ sym (keys_from-before b k ks (is_before_trans_right k a b e p))
    by false e later = ap (λ ys. cond (not (is_before k b)) (k ∷ ys) ys) later

-- keys that pass a test, from a key on
pub keys_from-filter : (from : DocKey) (p : DocKey → Bool) (ks : List DocKey) → keys_from from (filter p ks) ≡ filter p (keys_from from ks)
keys_from-filter from p ks = filter_swap (λ k. not (is_before k from)) p ks

-- passing the head of a ranked list, where it is the key itself, leaves what comes after the key
pub drop-keys_from : (from k : DocKey) (ks : List DocKey) → IsRanked (k ∷ ks) → is_before from k ≡ true → keys_from k (k ∷ ks) ≡ keys_from from (k ∷ ks)
drop-keys_from from k ks ranked p = keys_from-head k ks ranked ∙ sym (keys_from-here from k ks ranked (is_before_back from k p))

-- ---- which keys a list has

pub and_false : (b : Bool) → (b && false) ≡ false
and_false true = refl
and_false false = refl

pub and_true : (b : Bool) → (b && true) ≡ b
and_true true = refl
and_true false = refl

pub or_assoc : (a b c : Bool) → (a || b || c) ≡ (a || (b || c))
or_assoc true b c = refl
or_assoc false b c = refl

pub or_swap : (a b c : Bool) → (a || (b || c)) ≡ (b || (a || c))
or_swap true true c = refl
or_swap true false c = refl
or_swap false b c = refl

pub or_self : (a b : Bool) → (a || (a || b)) ≡ (a || b)
or_self true b = refl
or_self false b = refl

-- a key that is the same as another stands as it does
pub is_eq_same : (a b : DocKey) → a ≡ b → is_eq (doc_cmp a b) ≡ true
is_eq_same a b e = subst (λ (y : DocKey). is_eq (doc_cmp a y) ≡ true) e (is_eq_self a)

pub same_from_is_eq : (a b : DocKey) → is_eq (doc_cmp a b) ≡ true → a ≡ b
same_from_is_eq a b p = by (standing a b)
  where
    by : Standing a b → a ≡ b
    by (before _ _ q _) = absurd cc
    by (same e) = e
    by (after _ _ q _) = absurd cc

pub is_eq_swap : (a b : DocKey) → is_eq (doc_cmp a b) ≡ is_eq (doc_cmp b a)
is_eq_swap a b = by (standing a b)
  where
    by : Standing a b → is_eq (doc_cmp a b) ≡ is_eq (doc_cmp b a)
    by (before _ _ p q) = p ∙ sym q
    by (same e) = is_eq_same a b e ∙ sym (is_eq_same b a (sym e))
    by (after _ _ p q) = p ∙ sym q

-- a list has no key that comes before all that it has
pub has_key-before : (k : DocKey) (ks : List DocKey) → IsBeforeAll k ks → has_key ks k ≡ false
has_key-before k [] all = refl
has_key-before k (x ∷ xs) all = by (standing k x) (has_key-before k xs (IsBeforeAll-tail k x xs all))
  where
    by : Standing k x → has_key xs k ≡ false → (is_eq (doc_cmp x k) || has_key xs k) ≡ false
    by (before _ _ _ q) later = ap (λ b. b || has_key xs k) q ∙ later
    by (same e) later = absurd (let p = IsBeforeAll-head k x xs all in let q = subst (λ (y : DocKey). is_before k y ≡ false) e (is_before_self k) in cc)
    by (after _ p _ _) later = absurd (let q = IsBeforeAll-head k x xs all in cc)

-- what a filter leaves has a key that passes
pub has_key-filter : (p : DocKey → Bool) (ks : List DocKey) (k : DocKey) → has_key (filter p ks) k ≡ (has_key ks k && p k)
has_key-filter p [] k = refl
has_key-filter p (x ∷ xs) k = by (p x) refl (standing x k) (has_key-filter p xs k)
  where
    other : (b : Bool) → is_eq (doc_cmp x k) ≡ false → has_key (filter p xs) k ≡ (has_key xs k && p k)
        → has_key (cond b (x ∷ filter p xs) (filter p xs)) k ≡ ((is_eq (doc_cmp x k) || has_key xs k) && p k)
    other true e later = ap (λ b. b || has_key (filter p xs) k) e ∙ later ∙ sym (ap (λ b. (b || has_key xs k) && p k) e)
    other false e later = later ∙ sym (ap (λ b. (b || has_key xs k) && p k) e)

    by : (b : Bool) → p x ≡ b → Standing x k → has_key (filter p xs) k ≡ (has_key xs k && p k)
        → has_key (cond b (x ∷ filter p xs) (filter p xs)) k ≡ ((is_eq (doc_cmp x k) || has_key xs k) && p k)
    by b f (before _ _ e _) later = other b e later
    by b f (after _ _ e _) later = other b e later
    by true f (same s) later =
        let e = is_eq_same x k s in
        let g : p k ≡ true = subst (λ (y : DocKey). p y ≡ true) s f in
        ap (λ b. b || has_key (filter p xs) k) e ∙ sym (ap (λ b. (b || has_key xs k) && p k) e ∙ g)
    by false f (same s) later =
        let g : p k ≡ false = subst (λ (y : DocKey). p y ≡ false) s f in
        later ∙ ap (λ b. has_key xs k && b) g ∙ and_false (has_key xs k) ∙ sym (ap (λ b. (is_eq (doc_cmp x k) || has_key xs k) && b) g ∙ and_false (is_eq (doc_cmp x k) || has_key xs k))

pub has_key-keys_from : (from : DocKey) (ks : List DocKey) (k : DocKey) → has_key (keys_from from ks) k ≡ (has_key ks k && not (is_before k from))
has_key-keys_from from ks k = has_key-filter (λ x. not (is_before x from)) ks k

pub has_key-append : (xs ys : List DocKey) (k : DocKey) → has_key (xs ++ ys) k ≡ (has_key xs k || has_key ys k)
has_key-append [] ys k = refl
has_key-append (x ∷ xs) ys k = ap (λ b. is_eq (doc_cmp x k) || b) (has_key-append xs ys k) ∙ sym (or_assoc (is_eq (doc_cmp x k)) (has_key xs k) (has_key ys k))

-- passing the head of a ranked list takes that key and no other
pub has_key-tail : (x : DocKey) (xs : List DocKey) (k : DocKey) → IsRanked (x ∷ xs) → has_key xs k ≡ (has_key (x ∷ xs) k && not (is_eq (doc_cmp x k)))
has_key-tail x xs k ranked = by (standing x k)
  where
    other : is_eq (doc_cmp x k) ≡ false → has_key xs k ≡ ((is_eq (doc_cmp x k) || has_key xs k) && not (is_eq (doc_cmp x k)))
    other e = sym (ap (λ b. (b || has_key xs k) && not b) e ∙ and_true (has_key xs k))

    by : Standing x k → has_key xs k ≡ ((is_eq (doc_cmp x k) || has_key xs k) && not (is_eq (doc_cmp x k)))
    by (before _ _ e _) = other e
    by (after _ _ e _) = other e
    by (same s) =
        let none : has_key xs k ≡ false = has_key-before k xs (subst (λ (y : DocKey). IsBeforeAll y xs) s ranked.0) in
        none ∙ sym (ap (λ b. (b || has_key xs k) && not b) (is_eq_same x k s))

-- a key of a ranked list does not come before its head
pub has_key-not_before : (x : DocKey) (xs : List DocKey) (k : DocKey) → IsRanked (x ∷ xs) → has_key (x ∷ xs) k ≡ true → is_before k x ≡ false
has_key-not_before x xs k ranked has = by (standing k x)
  where
    by : Standing k x → is_before k x ≡ false
    by (after _ p _ _) = p
    by (same e) = subst (λ (y : DocKey). is_before k y ≡ false) e (is_before_self k)
    by (before p _ _ _) =
        let none = has_key-before k (x ∷ xs) (IsBeforeAll-cons k x xs p (All-weaker (λ y. is_before x y ≡ true) (λ y. is_before k y ≡ true) (λ y q. is_before_trans k x y p q) xs ranked.0)) in
        absurd cc

-- a key that a ranked list has and that none of its keys comes before is its head
pub least_is_head : (ks : List DocKey) (k : DocKey) → IsRanked ks → has_key ks k ≡ true → ((x : DocKey) → has_key ks x ≡ true → is_before x k ≡ false) → slice_get ks 0 ≡ Some k
least_is_head [] k ranked has least = cc
least_is_head (x ∷ xs) k ranked has least =
    ap Some (same_from_neither x k (least x (ap (λ b. b || has_key xs x) (is_eq_self x))) (has_key-not_before x xs k ranked has))

-- lists in rank order that have the same keys are the same
pub same_from_keys : (xs ys : List DocKey) → IsRanked xs → IsRanked ys → ((k : DocKey) → has_key xs k ≡ has_key ys k) → xs ≡ ys
same_from_keys [] [] p q alike = refl
same_from_keys [] (y ∷ ys) p q alike = absurd (let e = alike y in let f : has_key (y ∷ ys) y ≡ true = ap (λ b. b || has_key ys y) (is_eq_self y) in cc)
same_from_keys (x ∷ xs) [] p q alike = absurd (let e = alike x in let f : has_key (x ∷ xs) x ≡ true = ap (λ b. b || has_key xs x) (is_eq_self x) in cc)
same_from_keys (x ∷ xs) (y ∷ ys) p q alike =
    cons_same x y xs ys heads
    (same_from_keys xs ys p.1 q.1 (λ k. has_key-tail x xs k p ∙ ap (λ b. b && not (is_eq (doc_cmp x k))) (alike k) ∙ ap (λ (z : DocKey). has_key (y ∷ ys) k && not (is_eq (doc_cmp z k))) heads ∙ sym (has_key-tail y ys k q)))
  where
    cons_same : (a b : DocKey) (ks ls : List DocKey) → a ≡ b → ks ≡ ls → a ∷ ks ≡ b ∷ ls
    cons_same a b ks ls e f = cc

    heads : x ≡ y
    heads =
        same_from_neither x y
        (has_key-not_before y ys x q (sym (alike x) ∙ ap (λ b. b || has_key xs x) (is_eq_self x)))
        (has_key-not_before x xs y p (alike y ∙ ap (λ b. b || has_key ys y) (is_eq_self y)))
