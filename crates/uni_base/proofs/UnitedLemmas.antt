-- The keys of several lists, and lists without a key.
use Rattle.std.proofs.Common.{◌≡◌, Bool, true, false, not, ◌&&◌, ◌||◌, List, [], ◌∷◌, refl, sym, ◌∙◌, ap, subst, filter, map}
use Rattle.std.specs.declared.cmp.Ordering.{Ordering}
use Rattle.std.specs.declared.cmp.Ordering.TheVariants.{Less, Equal, Greater}
use Rattle.std.specs.Ordering.{is_eq, ordering_reverse, match_ordering}
use Rattle.std.specs.List.{list_any}
use Rattle.std.proofs.lemmas.List.{length-map}
use Rattle.std.proofs.lemmas.List.Elements.{All-nil, All-weaker}
use Rattle.uni_base.specs.declared.entity.DocKey.{DocKey}
use Rattle.uni_base.specs.RankOrder.{doc_cmp}
use Rattle.uni_base.specs.Cursors.{is_less, is_before, IsRanked}
use Rattle.uni_base.specs.KeySets.{has_key, add_key, add_keys, united, without, holders, KeepsKeys}
use Rattle.uni_base.proofs.RankedLemmas.{doc_total, exact_key, Standing, before, same, after, standing, is_before_trans, is_before_self, IsBeforeAll, IsBeforeAll-cons, IsBeforeAll-head, IsBeforeAll-tail, IsRanked-filter, filter_all, and_false, and_true, or_assoc, or_swap, or_self, has_key-filter, has_key-tail, same_from_keys}

pub has_key-add_key : (a : DocKey) (ks : List DocKey) (k : DocKey) → has_key (add_key a ks) k ≡ (is_eq (doc_cmp a k) || has_key ks k)
has_key-add_key a [] k = refl
has_key-add_key a (x ∷ xs) k = by (doc_cmp a x) refl (has_key-add_key a xs k)
  where
    by : (o : Ordering) → doc_cmp a x ≡ o → has_key (add_key a xs) k ≡ (is_eq (doc_cmp a k) || has_key xs k)
        → has_key (match_ordering o (a ∷ x ∷ xs) (x ∷ xs) (x ∷ add_key a xs)) k ≡ (is_eq (doc_cmp a k) || has_key (x ∷ xs) k)
    by Less e later = refl
    by Equal e later =
        let s = exact_key a x e in
        subst (λ (y : DocKey). has_key (x ∷ xs) k ≡ (is_eq (doc_cmp y k) || has_key (x ∷ xs) k)) (sym s) (sym (or_self (is_eq (doc_cmp x k)) (has_key xs k)))
    by Greater e later = ap (λ b. is_eq (doc_cmp x k) || b) later ∙ or_swap (is_eq (doc_cmp x k)) (is_eq (doc_cmp a k)) (has_key xs k)

pub has_key-add_keys : (ks ys : List DocKey) (k : DocKey) → has_key (add_keys ks ys) k ≡ (has_key ks k || has_key ys k)
has_key-add_keys [] ys k = refl
has_key-add_keys (x ∷ xs) ys k =
    has_key-add_key x (add_keys xs ys) k ∙ ap (λ b. is_eq (doc_cmp x k) || b) (has_key-add_keys xs ys k) ∙ sym (or_assoc (is_eq (doc_cmp x k)) (has_key xs k) (has_key ys k))

-- the united lists have what some list has
pub has_key-united : (lists : List (List DocKey)) (k : DocKey) → has_key (united lists) k ≡ list_any (λ ks. has_key ks k) lists
has_key-united [] k = refl
has_key-united (ks ∷ lists) k = has_key-add_keys ks (united lists) k ∙ ap (λ b. has_key ks k || b) (has_key-united lists k)

IsBeforeAll-add_key : (a b : DocKey) (ks : List DocKey) → is_before a b ≡ true → IsBeforeAll a ks → IsBeforeAll a (add_key b ks)
IsBeforeAll-add_key a b [] p all = IsBeforeAll-cons a b [] p all
IsBeforeAll-add_key a b (x ∷ xs) p all =
    elim (doc_cmp b x) as (λ o. IsBeforeAll a (match_ordering o (b ∷ x ∷ xs) (x ∷ xs) (x ∷ add_key b xs))) [
      | Less ↦ IsBeforeAll-cons a b (x ∷ xs) p all
      | Equal ↦ all
      | Greater ↦ IsBeforeAll-cons a x (add_key b xs) (IsBeforeAll-head a x xs all) (IsBeforeAll-add_key a b xs p (IsBeforeAll-tail a x xs all))
    ]

pub IsRanked-add_key : (a : DocKey) (ks : List DocKey) → IsRanked ks → IsRanked (add_key a ks)
IsRanked-add_key a [] ranked = (All-nil (λ k. is_before a k ≡ true), tt)
IsRanked-add_key a (x ∷ xs) ranked = by (doc_cmp a x) refl (IsRanked-add_key a xs ranked.1)
  where
    by : (o : Ordering) → doc_cmp a x ≡ o → IsRanked (add_key a xs) → IsRanked (match_ordering o (a ∷ x ∷ xs) (x ∷ xs) (x ∷ add_key a xs))
    by Less e later = (IsBeforeAll-cons a x xs (ap is_less e) (All-weaker (λ y. is_before x y ≡ true) (λ y. is_before a y ≡ true) (λ y q. is_before_trans a x y (ap is_less e) q) xs ranked.0), ranked)
    by Equal e later = ranked
    by Greater e later = (IsBeforeAll-add_key x a xs (ap is_less (doc_total.antisymm x a ∙ ap ordering_reverse e)) ranked.0, later)

pub IsRanked-add_keys : (ks ys : List DocKey) → IsRanked ys → IsRanked (add_keys ks ys)
IsRanked-add_keys [] ys ranked = ranked
IsRanked-add_keys (x ∷ xs) ys ranked = IsRanked-add_key x (add_keys xs ys) (IsRanked-add_keys xs ys ranked)

-- the united lists are in rank order, whatever the lists are
pub IsRanked-united : (lists : List (List DocKey)) → IsRanked (united lists)
IsRanked-united [] = tt
IsRanked-united (ks ∷ lists) = IsRanked-add_keys ks (united lists) (IsRanked-united lists)

-- a test of what a function makes of the items
pub list_any-map : {X Y : Type 0} (p : Y → Bool) (f : X → Y) (xs : List X) → list_any p (map f xs) ≡ list_any (λ x. p (f x)) xs
list_any-map p f [] = refl
list_any-map p f (x ∷ xs) = ap (λ b. p (f x) || b) (list_any-map p f xs)

-- two tests that agree find alike
pub list_any-agree : {X : Type 0} (p q : X → Bool) → ((x : X) → p x ≡ q x) → (xs : List X) → list_any p xs ≡ list_any q xs
list_any-agree p q agree [] = refl
list_any-agree p q agree (x ∷ xs) = rw (agree x) (ap (λ b. q x || b) (list_any-agree p q agree xs))

-- a condition beside a test of the items stands outside
pub list_any-and : {X : Type 0} (p : X → Bool) (b : Bool) (xs : List X) → list_any (λ x. p x && b) xs ≡ (list_any p xs && b)
list_any-and p true xs = list_any-agree (λ x. p x && true) p (λ x. and_true (p x)) xs ∙ sym (and_true (list_any p xs))
list_any-and p false xs = list_any-agree (λ x. p x && false) (λ x. false) (λ x. and_false (p x)) xs ∙ none xs ∙ sym (and_false (list_any p xs))
  where
    none : {X : Type 0} (xs : List X) → list_any (λ (x : X). false) xs ≡ false
    none [] = refl
    none (x ∷ xs) = none xs

-- the same filter of each list is that filter of all
pub united-filter : (p : DocKey → Bool) (lists : List (List DocKey)) → united (map (filter p) lists) ≡ filter p (united lists)
united-filter p lists =
    same_from_keys (united (map (filter p) lists)) (filter p (united lists)) (IsRanked-united (map (filter p) lists)) (IsRanked-filter p (united lists) (IsRanked-united lists))
    (λ k. has_key-united (map (filter p) lists) k
    ∙ list_any-map (λ ks. has_key ks k) (filter p) lists
    ∙ list_any-agree (λ ks. has_key (filter p ks) k) (λ ks. has_key ks k && p k) (λ ks. has_key-filter p ks k) lists
    ∙ list_any-and (λ ks. has_key ks k) (p k) lists
    ∙ ap (λ b. b && p k) (sym (has_key-united lists k))
    ∙ sym (has_key-filter p (united lists) k))

-- what a filter leaves of lists keeps the keys that it leaves
pub KeepsKeys-filter : (p : DocKey → Bool) (lists : List (List DocKey)) → KeepsKeys (united (map (filter p) lists)) lists (map (filter p) lists)
KeepsKeys-filter p lists = record { count = length-map lists (filter p); holders_stay = λ k has. stay k (passes k has) lists }
  where
    right_true : (a b : Bool) → (a && b) ≡ true → b ≡ true
    right_true true b e = e
    right_true false b e = cc

    passes : (k : DocKey) → has_key (united (map (filter p) lists)) k ≡ true → p k ≡ true
    passes k has = right_true (has_key (united lists) k) (p k) (sym (ap (λ (ks : List DocKey). has_key ks k) (united-filter p lists) ∙ has_key-filter p (united lists) k) ∙ has)

    cons_same : (a b : Bool) (xs ys : List Bool) → a ≡ b → xs ≡ ys → a ∷ xs ≡ b ∷ ys
    cons_same a b xs ys e f = cc

    stay : (k : DocKey) → p k ≡ true → (lists : List (List DocKey)) → holders k (map (filter p) lists) ≡ holders k lists
    stay k pass [] = refl
    stay k pass (ks ∷ lists) =
        cons_same (has_key (filter p ks) k) (has_key ks k) (holders k (map (filter p) lists)) (holders k lists)
        (has_key-filter p ks k ∙ ap (λ b. has_key ks k && b) pass ∙ and_true (has_key ks k)) (stay k pass lists)

-- what two moves keep, one after the other
pub KeepsKeys_trans : (left rest : List DocKey) (olds mids news : List (List DocKey)) → ((k : DocKey) → has_key rest k ≡ true → has_key left k ≡ true)
    → KeepsKeys left olds mids → KeepsKeys rest mids news → KeepsKeys rest olds news
KeepsKeys_trans left rest olds mids news within p q = record {
  count = q.count ∙ p.count;
  holders_stay = λ k has. q.holders_stay k has ∙ p.holders_stay k (within k has);
}

-- passing the head of a ranked list
pub without-head : (k : DocKey) (ks : List DocKey) → IsRanked (k ∷ ks) → without k (k ∷ ks) ≡ ks
without-head k ks ranked =
    same_from_keys (without k (k ∷ ks)) ks (IsRanked-filter (λ x. not (is_eq (doc_cmp k x))) (k ∷ ks) ranked) ranked.1
    (λ x. has_key-filter (λ y. not (is_eq (doc_cmp k y))) (k ∷ ks) x ∙ sym (has_key-tail k ks x ranked))

-- a key that comes before all of a list is not there to be left out
pub without-before : (k : DocKey) (ks : List DocKey) → IsBeforeAll k ks → without k ks ≡ ks
without-before k ks all =
    filter_all (λ x. not (is_eq (doc_cmp k x))) ks
    (All-weaker (λ x. is_before k x ≡ true) (λ x. not (is_eq (doc_cmp k x)) ≡ true) (λ x p. ap not (apart x p (standing k x))) ks all)
  where
    apart : (x : DocKey) → is_before k x ≡ true → Standing k x → is_eq (doc_cmp k x) ≡ false
    apart x p (before _ _ e _) = e
    apart x p (same s) = absurd (let q = subst (λ (y : DocKey). is_before k y ≡ false) s (is_before_self k) in cc)
    apart x p (after _ _ e _) = e
