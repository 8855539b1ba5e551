-- What is found in rank order, with one hit for each run of a key.
use Rattle.std.proofs.Common.{◌≡◌, ℕ, zero, suc, ◌<◌, ◌≤◌, ◌+◌, Bool, true, false, cond, ◌||◌, List, [], ◌∷◌, ◌++◌, All, filter, map, take, drop, length, get_or, refl, sym, ◌∙◌, ap, subst, arith, true≢false, append-nil}
use Rattle.std.specs.List.{AllByRecursion}
use Rattle.std.specs.Ordering.{is_eq, is_lt}
use Rattle.std.specs.List.Sorted.{IsSortedByKey}
use Rattle.std.specs.declared.cmp.Ordering.{Ordering}
use Rattle.std.specs.declared.cmp.Ordering.TheVariants.{Less, Equal, Greater}
use Rattle.std.proofs.lemmas.List.{map-append}
use Rattle.std.proofs.lemmas.List.Elements.{All-head, All-map, All-nil, All-tail, filter-append}
use Rattle.std.proofs.lemmas.List.Sorted.{ranks_by, sorted_far}
use Rattle.uni_base.specs.declared.entity.DocKey.{DocKey}
use Rattle.uni_base.specs.Cursors.{is_before, is_less}
use Rattle.uni_base.specs.KeySets.{has_key}
use Rattle.uni_base.specs.RankOrder.{doc_cmp}
use Rattle.uni_base.proofs.RankedLemmas.{IsBeforeAll, IsBeforeAll-cons, IsBeforeAll-head, IsBeforeAll-tail, Standing, standing, before, same, after, doc_total, has_key-append, has_key-before, is_before_self, is_before_trans_right, is_eq_self, same_from_is_eq, same_from_keys}
use Rattle.shard_eval.specs.Found.{Found, found_keys, is_at}
use Rattle.shard_eval.specs.Grouped.{by_any, group_at, grouped, keys_once, run_length, Rises}
use Rattle.shard_eval.proofs.Groups.{has_key-once, none_under, once_ranked, or_none, or_true}

-- ---- one run, and what comes after it

or_self : (b : Bool) → (b || b) ≡ b
or_self true = refl
or_self false = refl

run_has : (r : Found) (run : List Found) (k : DocKey) (q : DocKey) → AllByRecursion (λ (f : Found). f.key ≡ k) (r ∷ run) → has_key (found_keys (r ∷ run)) q ≡ is_eq (doc_cmp k q)
run_has r [] k q all = ap (λ (x : DocKey). is_eq (doc_cmp x q) || false) all.0 ∙ or_none (is_eq (doc_cmp k q))
run_has r (f ∷ run) k q all = ap (λ (x : DocKey). is_eq (doc_cmp x q) || has_key (found_keys (f ∷ run)) q) all.0 ∙ ap (λ b. is_eq (doc_cmp k q) || b) (run_has f run k q all.1) ∙ or_self (is_eq (doc_cmp k q))

run_kept : (run : List Found) (k : DocKey) → AllByRecursion (λ (f : Found). f.key ≡ k) run → filter (is_at k) run ≡ run
run_kept [] k all = refl
run_kept (r ∷ run) k all =
    ap (λ b. cond b (r ∷ filter (is_at k) run) (filter (is_at k) run)) (subst (λ (x : DocKey). is_eq (doc_cmp x k) ≡ true) (sym all.0) (is_eq_self k))
    ∙ ap (λ (fs : List Found). r ∷ fs) (run_kept run k all.1)

has_after : (k : DocKey) (ks : List DocKey) (q : DocKey) → IsBeforeAll k ks → has_key ks q ≡ true → is_before k q ≡ true
has_after k [] q all has = cc
has_after k (x ∷ xs) q all has = over (is_eq (doc_cmp x q)) refl has (has_after k xs q (IsBeforeAll-tail k x xs all))
  where
    over : (b : Bool) → is_eq (doc_cmp x q) ≡ b → (b || has_key xs q) ≡ true → (has_key xs q ≡ true → is_before k q ≡ true) → is_before k q ≡ true
    over true at e rest = subst (λ (y : DocKey). is_before k y ≡ true) (same_from_is_eq x q at) (IsBeforeAll-head k x xs all)
    over false at e rest = rest e

after_all : (k : DocKey) (ks : List DocKey) → ((q : DocKey) → has_key ks q ≡ true → is_before k q ≡ true) → IsBeforeAll k ks
after_all k [] later = All-nil (λ (x : DocKey). is_before k x ≡ true)
after_all k (x ∷ xs) later =
    IsBeforeAll-cons k x xs (later x (ap (λ b. b || has_key xs x) (is_eq_self x))) (after_all k xs (λ q has. later q (ap (λ b. is_eq (doc_cmp x q) || b) has ∙ or_true (is_eq (doc_cmp x q)))))

once_after : (k : DocKey) (fs : List Found) → IsBeforeAll k (found_keys fs) → IsBeforeAll k (keys_once fs)
once_after k fs all = after_all k (keys_once fs) (λ q has. has_after k (found_keys fs) q all (sym (has_key-once fs q) ∙ has))

map_after : {Y : Type 0} (f g : DocKey → Y) (k : DocKey) (ks : List DocKey) → IsBeforeAll k ks → ((q : DocKey) → is_before k q ≡ true → f q ≡ g q) → map f ks ≡ map g ks
map_after f g k [] all agree = refl
map_after f g k (x ∷ xs) all agree = λ i. agree x (IsBeforeAll-head k x xs all) i ∷ map_after f g k xs (IsBeforeAll-tail k x xs all) agree i

differs : (k q : DocKey) → is_before k q ≡ true → is_eq (doc_cmp k q) ≡ false
differs k q lt = over (standing k q)
  where
    over : Standing k q → is_eq (doc_cmp k q) ≡ false
    over (before _ _ e _) = e
    over (same e) = absurd (true≢false (sym lt ∙ subst (λ (x : DocKey). is_before k x ≡ false) e (is_before_self k)))
    over (after _ _ e _) = e

-- the hit of a run
abbrev pub run_hit : DocKey → List Found → Found
run_hit k run = by_any k (map (λ f. f.tree) run)

pub both_same : {X : Type 0} {x y : X} {xs ys : List X} → x ≡ y → xs ≡ ys → x ∷ xs ≡ y ∷ ys
both_same e f = λ i. e i ∷ f i

one_run : (k : DocKey) (r : Found) (run rest : List Found) → AllByRecursion (λ (f : Found). f.key ≡ k) (r ∷ run) → IsBeforeAll k (found_keys rest) → grouped ((r ∷ run) ++ rest) ≡ run_hit k (r ∷ run) ∷ grouped rest
one_run k r run rest all later =
    ap (map (group_at ((r ∷ run) ++ rest))) keys ∙ both_same here (map_after (group_at ((r ∷ run) ++ rest)) (group_at rest) k (keys_once rest) (once_after k rest later) others)
  where
    keys : keys_once ((r ∷ run) ++ rest) ≡ k ∷ keys_once rest
    keys =
        same_from_keys (keys_once ((r ∷ run) ++ rest)) (k ∷ keys_once rest) (once_ranked ((r ∷ run) ++ rest)) (once_after k rest later, once_ranked rest)
        (λ q. has_key-once ((r ∷ run) ++ rest) q
        ∙ ap (λ (ks : List DocKey). has_key ks q) (map-append (λ (f : Found). f.key) (r ∷ run) rest)
        ∙ has_key-append (found_keys (r ∷ run)) (found_keys rest) q
        ∙ ap (λ b. b || has_key (found_keys rest) q) (run_has r run k q all)
        ∙ ap (λ b. is_eq (doc_cmp k q) || b) (sym (has_key-once rest q)))

    here : group_at ((r ∷ run) ++ rest) k ≡ run_hit k (r ∷ run)
    here =
        ap (run_hit k) (filter-append (is_at k) (r ∷ run) rest
        ∙ ap (λ (fs : List Found). fs ++ filter (is_at k) rest) (run_kept (r ∷ run) k all)
        ∙ ap (λ (fs : List Found). (r ∷ run) ++ fs) (none_under rest k (has_key-before k (found_keys rest) later))
        ∙ append-nil (r ∷ run))

    others : (q : DocKey) → is_before k q ≡ true → group_at ((r ∷ run) ++ rest) q ≡ group_at rest q
    others q lt =
        ap (run_hit q) (filter-append (is_at q) (r ∷ run) rest
        ∙ ap (λ (fs : List Found). fs ++ filter (is_at q) rest) (none_under (r ∷ run) q (run_has r run k q all ∙ differs k q lt)))

-- ---- runs in rank order

all_later : (k a : DocKey) → is_before k a ≡ true → (gs : List Found) → All (λ (g : Found). is_before g.key a ≡ false) gs → IsBeforeAll k (found_keys gs)
all_later k a p [] all = All-nil (λ (x : DocKey). is_before k x ≡ true)
all_later k a p (g ∷ gs) all =
    IsBeforeAll-cons k g.key (found_keys gs) (is_before_trans_right k a g.key p (All-head (λ (h : Found). is_before h.key a ≡ false) g gs all)) (all_later k a p gs (All-tail (λ (h : Found). is_before h.key a ≡ false) g gs all))

-- the run of a key that nothing comes before, and what is left
record IsRun (k : DocKey) (run rest whole : List Found) : Type 0 where
  pub parts : run ++ rest ≡ whole
  pub alike : AllByRecursion (λ (f : Found). f.key ≡ k) run
  pub later : IsBeforeAll k (found_keys rest)

first_run : (k : DocKey) (fs : List Found) → Rises fs → All (λ g. is_before g.key k ≡ false) fs → IsRun k (take (run_length k fs) fs) (drop (run_length k fs) fs) fs
first_run k [] rises from = record { parts = refl; alike = tt; later = All-nil (λ (x : DocKey). is_before k x ≡ true) }
first_run k (f ∷ fs) rises from = over (is_at k f) refl (first_run k fs rises.1 (All-tail (λ (g : Found). is_before g.key k ≡ false) f fs from))
  where
    lt : is_at k f ≡ false → is_before k f.key ≡ true
    lt e = by (standing k f.key)
      where
        by : Standing k f.key → is_before k f.key ≡ true
        by (before p _ _ _) = p
        by (same s) = absurd (true≢false (sym (subst (λ (x : DocKey). is_eq (doc_cmp x k) ≡ true) s (is_eq_self k)) ∙ e))
        by (after p _ _ _) = absurd (true≢false (sym p ∙ All-head (λ (g : Found). is_before g.key k ≡ false) f fs from))

    over : (b : Bool) → is_at k f ≡ b → IsRun k (take (run_length k fs) fs) (drop (run_length k fs) fs) fs
        → IsRun k (take (cond b (suc (run_length k fs)) 0) (f ∷ fs)) (drop (cond b (suc (run_length k fs)) 0) (f ∷ fs)) (f ∷ fs)
    over true e more = record { parts = ap (λ (gs : List Found). f ∷ gs) more.parts; alike = (same_from_is_eq f.key k e, more.alike); later = more.later }
    over false e more = record { parts = refl; alike = tt; later = IsBeforeAll-cons k f.key (found_keys fs) (lt e) (all_later k f.key (lt e) fs rises.0) }

pub self_first : (f : Found) (fs : List Found) → run_length f.key (f ∷ fs) ≡ suc (run_length f.key fs)
self_first f fs = ap (λ b. cond b (suc (run_length f.key fs)) 0) (is_eq_self f.key)

-- the first run makes one hit, and what is left the others
pub grouped_run : (f : Found) (fs : List Found) → Rises (f ∷ fs) → grouped (f ∷ fs) ≡ run_hit f.key (take (run_length f.key (f ∷ fs)) (f ∷ fs)) ∷ grouped (drop (run_length f.key (f ∷ fs)) (f ∷ fs))
grouped_run f fs rises =
    subst (λ n. grouped (f ∷ fs) ≡ run_hit f.key (take n (f ∷ fs)) ∷ grouped (drop n (f ∷ fs))) (sym (self_first f fs))
    (let run = first_run f.key fs rises.1 rises.0 in
    ap (λ (gs : List Found). grouped (f ∷ gs)) (sym run.parts) ∙ one_run f.key f (take (run_length f.key fs) fs) (drop (run_length f.key fs) fs) (refl, run.alike) run.later)

pub run_within : (k : DocKey) (fs : List Found) → run_length k fs ≤ length fs
run_within k [] = omega arith
run_within k (f ∷ fs) = over (is_at k f) (run_within k fs)
  where
    over : (b : Bool) → run_length k fs ≤ length fs → cond b (suc (run_length k fs)) 0 ≤ length (f ∷ fs)
    over true le = omega (arith, le)
    over false le = omega arith

-- what is left of what rises does
pub rises_later : (n : ℕ) (fs : List Found) → Rises fs → Rises (drop n fs)
rises_later zero fs rises = rises
rises_later (suc n) [] rises = tt
rises_later (suc n) (f ∷ fs) rises = rises_later n fs rises.1

-- ---- after a sort

lt_less : (o : Ordering) → is_lt o ≡ is_less o
lt_less Less = refl
lt_less Equal = refl
lt_less Greater = refl

pub sorted_rises : {X : Type 0} (h : X → Found) (xs : List X) → IsSortedByKey (λ (x : X). (h x).key) doc_cmp xs → Rises (map h xs)
sorted_rises h [] up = tt
sorted_rises {X} h (x ∷ xs) up = (All-map (λ (g : Found). is_before g.key (h x).key ≡ false) h xs (λ k d low. sym (lt_less (doc_cmp (h (get_or xs k d)).key (h x).key)) ∙ far k d low), sorted_rises h xs rest)
  where
    far : (k : ℕ) (d : X) → k < length xs → is_lt (doc_cmp (h (get_or xs k d)).key (h x).key) ≡ false
    far k d low = sorted_far (λ (a b : X). is_lt (doc_cmp (h a).key (h b).key)) (ranks_by doc_total (λ (y : X). (h y).key)) (x ∷ xs) up 0 (suc k) d (omega arith) (omega (arith, low))

    rest : (k : ℕ) (d : X) → 0 ≤ k → k + 1 < length xs → is_lt (doc_cmp (h (get_or xs (k + 1) d)).key (h (get_or xs k d)).key) ≡ false
    rest k d low high =
        subst (λ n. is_lt (doc_cmp (h (get_or (x ∷ xs) n d)).key (h (get_or xs k d)).key) ≡ false) (let e : suc k + 1 ≡ suc (k + 1) = omega arith in e) (up (suc k) d (omega arith) (omega (arith, high)))
