-- What an `or` finds: its lists one after another, with one hit for each key.
use Rattle.std.proofs.Common.{◌≡◌, ℕ, zero, suc, ◌<◌, ◌≤◌, Bool, true, false, cond, not, ◌||◌, ◌&&◌, List, [], ◌∷◌, ◌++◌, Option, None, Some, filter, map, take, refl, sym, ◌∙◌, ap, subst, arith, true≢false}
use Rattle.std.specs.List.{cons_option, take-map}
use Rattle.std.specs.Ordering.{is_eq}
use Rattle.std.proofs.lemmas.List.{map-append}
use Rattle.std.proofs.lemmas.List.Elements.{All-head, All-tail, filter-append}
use Rattle.query_tree.specs.declared.kind.ListKind.TheVariants.{Or}
use Rattle.uni_base.specs.declared.entity.DocKey.{DocKey}
use Rattle.uni_base.specs.Cursors.{is_before, IsRanked}
use Rattle.uni_base.specs.KeySets.{add_key, add_keys, has_key, united}
use Rattle.uni_base.specs.RankOrder.{doc_cmp}
use Rattle.uni_base.proofs.RankedLemmas.{IsBeforeAll, IsBeforeAll-ranked, Standing, standing, before, same, after, and_false, count_before, has_key-append, has_key-before, has_key-not_before, has_key-tail, is_before_self, is_before_trans, is_eq_self, same_from_is_eq, same_from_keys, same_from_neither}
use Rattle.uni_base.proofs.UnitedLemmas.{IsRanked-add_keys, has_key-add_keys}
use Rattle.lineage_tree.specs.Tree.{Tree}
use Rattle.shard_eval.specs.Found.{Found, found_keys, is_at, tree_at, trees_at}
use Rattle.shard_eval.specs.Grouped.{by_any, firsts, group_at, grouped, keys_once, trees_under}
use Rattle.shard_eval.specs.Kept.{found_at, found_list, up_to}
use Rattle.shard_eval.specs.Sources.{AreRanked}
use Rattle.shard_eval.proofs.KeptRanked.{up_to_ranked}

-- ---- an `or` over lists in rank order

keys_append : (xs ys zs : List DocKey) → add_keys (xs ++ ys) zs ≡ add_keys xs (add_keys ys zs)
keys_append [] ys zs = refl
keys_append (x ∷ xs) ys zs = ap (add_key x) (keys_append xs ys zs)

keys_united : (lists : List (List Found)) → keys_once (firsts None lists) ≡ united (map found_keys lists)
keys_united [] = refl
keys_united (fs ∷ lists) =
    ap (λ (ks : List DocKey). add_keys ks []) (map-append (λ (f : Found). f.key) fs (firsts None lists))
    ∙ keys_append (found_keys fs) (found_keys (firsts None lists)) []
    ∙ ap (add_keys (found_keys fs)) (keys_united lists)

pub none_under : (fs : List Found) (k : DocKey) → has_key (found_keys fs) k ≡ false → filter (is_at k) fs ≡ []
none_under [] k none = refl
none_under (f ∷ fs) k none = over (is_at k f) none (none_under fs k)
  where
    over : (b : Bool) → (b || has_key (found_keys fs) k) ≡ false → (has_key (found_keys fs) k ≡ false → filter (is_at k) fs ≡ []) → cond b (f ∷ filter (is_at k) fs) (filter (is_at k) fs) ≡ []
    over true e rest = cc
    over false e rest = rest e

-- a list in rank order has at most one tree under a key
one_under : (fs : List Found) (k : DocKey) (ts : List Tree) → IsRanked (found_keys fs) → trees_under fs k ++ ts ≡ cons_option (tree_at fs k) ts
one_under [] k ts ranked = refl
one_under (f ∷ fs) k ts ranked = over (is_at k f) refl (one_under fs k ts ranked.1)
  where
    none : is_at k f ≡ true → filter (is_at k) fs ≡ []
    none at = none_under fs k (has_key-before k (found_keys fs) (subst (λ (x : DocKey). IsBeforeAll x (found_keys fs)) (same_from_is_eq f.key k at) ranked.0))

    over : (b : Bool) → is_at k f ≡ b → trees_under fs k ++ ts ≡ cons_option (tree_at fs k) ts
        → map (λ (g : Found). g.tree) (cond b (f ∷ filter (is_at k) fs) (filter (is_at k) fs)) ++ ts ≡ cons_option (cond b (Some f.tree) (tree_at fs k)) ts
    over true at rest = ap (λ (gs : List Found). f.tree ∷ (map (λ (g : Found). g.tree) gs ++ ts)) (none at)
    over false at rest = rest

trees_of_lists : (lists : List (List Found)) (k : DocKey) → AreRanked lists → trees_under (firsts None lists) k ≡ trees_at lists k
trees_of_lists [] k all = refl
trees_of_lists (fs ∷ lists) k all =
    ap (map (λ (f : Found). f.tree)) (filter-append (is_at k) fs (firsts None lists))
    ∙ map-append (λ (f : Found). f.tree) (filter (is_at k) fs) (filter (is_at k) (firsts None lists))
    ∙ ap (λ (ts : List Tree). trees_under fs k ++ ts) (trees_of_lists lists k (All-tail (λ (gs : List Found). IsRanked (found_keys gs)) fs lists all))
    ∙ one_under fs k (trees_at lists k) (All-head (λ (gs : List Found). IsRanked (found_keys gs)) fs lists all)

pub map_agree : {X Y : Type 0} (f g : X → Y) → ((x : X) → f x ≡ g x) → (xs : List X) → map f xs ≡ map g xs
map_agree f g agree [] = refl
map_agree f g agree (x ∷ xs) = λ i. agree x i ∷ map_agree f g agree xs i

pub or_grouped : (lists : List (List Found)) → AreRanked lists → found_list Or [] lists ≡ grouped (firsts None lists)
or_grouped lists all =
    sym (ap (map (group_at (firsts None lists))) (keys_united lists)
    ∙ map_agree (group_at (firsts None lists)) (found_at Or lists) (λ k. ap (by_any k) (trees_of_lists lists k all)) (united (map found_keys lists)))

-- ---- what is found under each key decides

abbrev is_some_list : List Found → Bool
is_some_list [] = false
is_some_list (f ∷ fs) = true

has_under : (fs : List Found) (k : DocKey) → has_key (found_keys fs) k ≡ is_some_list (filter (is_at k) fs)
has_under [] k = refl
has_under (f ∷ fs) k = over (is_at k f) (has_under fs k)
  where
    over : (b : Bool) → has_key (found_keys fs) k ≡ is_some_list (filter (is_at k) fs) → (b || has_key (found_keys fs) k) ≡ is_some_list (cond b (f ∷ filter (is_at k) fs) (filter (is_at k) fs))
    over true rest = refl
    over false rest = rest

pub or_none : (b : Bool) → (b || false) ≡ b
or_none true = refl
or_none false = refl

pub or_true : (b : Bool) → (b || true) ≡ true
or_true true = refl
or_true false = refl

pub has_key-once : (fs : List Found) (k : DocKey) → has_key (keys_once fs) k ≡ has_key (found_keys fs) k
has_key-once fs k = has_key-add_keys (found_keys fs) [] k ∙ or_none (has_key (found_keys fs) k)

pub once_ranked : (fs : List Found) → IsRanked (keys_once fs)
once_ranked fs = IsRanked-add_keys (found_keys fs) [] tt

-- where the same is found under a key, the key is found alike
has_alike : (fs gs : List Found) (k : DocKey) → filter (is_at k) fs ≡ filter (is_at k) gs → has_key (keys_once fs) k ≡ has_key (keys_once gs) k
has_alike fs gs k is = has_key-once fs k ∙ has_under fs k ∙ ap is_some_list is ∙ sym (has_under gs k) ∙ sym (has_key-once gs k)

group_alike : (fs gs : List Found) (k : DocKey) → filter (is_at k) fs ≡ filter (is_at k) gs → group_at fs k ≡ group_at gs k
group_alike fs gs k is = ap (λ (hs : List Found). by_any k (map (λ (f : Found). f.tree) hs)) is

pub grouped_alike : (fs gs : List Found) → ((k : DocKey) → filter (is_at k) fs ≡ filter (is_at k) gs) → grouped fs ≡ grouped gs
grouped_alike fs gs alike =
    ap (map (group_at fs)) (same_from_keys (keys_once fs) (keys_once gs) (once_ranked fs) (once_ranked gs) (λ k. has_alike fs gs k (alike k)))
    ∙ map_agree (group_at fs) (group_at gs) (λ k. group_alike fs gs k (alike k)) (keys_once gs)

-- ---- the first keys

before_itself : (v : DocKey) (vs : List DocKey) (n : ℕ) → count_before v (v ∷ vs) < suc n
before_itself v vs n = subst (λ b. cond b (suc (count_before v vs)) 0 < suc n) (sym (is_before_self v)) (omega arith)

before_more : (k v : DocKey) (vs : List DocKey) (n : ℕ) → count_before k vs < n → count_before k (v ∷ vs) < suc n
before_more k v vs n lt = over (is_before v k)
  where
    over : (b : Bool) → cond b (suc (count_before k vs)) 0 < suc n
    over true = omega (arith, lt)
    over false = omega arith

-- lists that agree on each key that fewer than n keys come before begin with the same n keys
first_same : (n : ℕ) (us vs : List DocKey) → IsRanked us → IsRanked vs → ((k : DocKey) → count_before k vs < n → has_key us k ≡ has_key vs k) → take n us ≡ take n vs
first_same zero us vs p q alike = refl
first_same (suc n) [] [] p q alike = refl
first_same (suc n) (u ∷ us) [] p q alike = absurd (let e = alike u (omega arith) in let f : has_key (u ∷ us) u ≡ true = ap (λ b. b || has_key us u) (is_eq_self u) in cc)
first_same (suc n) [] (v ∷ vs) p q alike = absurd (let e = alike v (before_itself v vs n) in let f : has_key (v ∷ vs) v ≡ true = ap (λ b. b || has_key vs v) (is_eq_self v) in cc)
first_same (suc n) (u ∷ us) (v ∷ vs) p q alike = cons_same u v (take n us) (take n vs) heads (first_same n us vs p.1 q.1 rest)
  where
    cons_same : (a b : DocKey) (ks ls : List DocKey) → a ≡ b → ks ≡ ls → a ∷ ks ≡ b ∷ ls
    cons_same a b ks ls e f = cc

    not_later : is_before v u ≡ false
    not_later = has_key-not_before u us v p (alike v (before_itself v vs n) ∙ ap (λ b. b || has_key vs v) (is_eq_self v))

    few : count_before u (v ∷ vs) < suc n
    few = subst (λ b. cond b (suc (count_before u vs)) 0 < suc n) (sym not_later) (omega arith)

    heads : u ≡ v
    heads = same_from_neither u v (has_key-not_before v vs u q (sym (alike u few) ∙ ap (λ b. b || has_key us u) (is_eq_self u))) not_later

    rest : (k : DocKey) → count_before k vs < n → has_key us k ≡ has_key vs k
    rest k lt =
        has_key-tail u us k p ∙ ap (λ b. b && not (is_eq (doc_cmp u k))) (alike k (before_more k v vs n lt))
        ∙ ap (λ (z : DocKey). has_key (v ∷ vs) k && not (is_eq (doc_cmp z k))) heads ∙ sym (has_key-tail v vs k q)

map_first : {Y : Type 0} (f g : DocKey → Y) (n : ℕ) (vs : List DocKey) → ((k : DocKey) → count_before k vs < n → f k ≡ g k) → map f (take n vs) ≡ map g (take n vs)
map_first f g zero vs alike = refl
map_first f g (suc n) [] alike = refl
map_first f g (suc n) (v ∷ vs) alike = λ i. alike v (before_itself v vs n) i ∷ map_first f g n vs (λ k lt. alike k (before_more k v vs n lt)) i

-- where the same is found under each key that fewer than n keys come before, the first n hits are the same
pub first_alike : (n : ℕ) (fs gs : List Found) → ((k : DocKey) → count_before k (keys_once gs) < n → filter (is_at k) fs ≡ filter (is_at k) gs) → take n (grouped fs) ≡ take n (grouped gs)
first_alike n fs gs alike =
    take-map (group_at fs) n (keys_once fs)
    ∙ ap (map (group_at fs)) (first_same n (keys_once fs) (keys_once gs) (once_ranked fs) (once_ranked gs) (λ k lt. has_alike fs gs k (alike k lt)))
    ∙ map_first (group_at fs) (group_at gs) n (keys_once gs) (λ k lt. group_alike fs gs k (alike k lt))
    ∙ sym (take-map (group_at gs) n (keys_once gs))

-- ---- the first of each list

-- as many keys of a part of a list come before a key, or fewer
count_within : (k : DocKey) (us xs : List DocKey) → IsRanked xs → IsRanked us → ((q : DocKey) → has_key xs q ≡ true → has_key us q ≡ true) → count_before k xs ≤ count_before k us
count_within k [] [] p q within = omega arith
count_within k (u ∷ us) [] p q within = omega arith
count_within k [] (x ∷ xs) p q within = absurd (let f : has_key (x ∷ xs) x ≡ true = ap (λ b. b || has_key xs x) (is_eq_self x) in let e = within x f in cc)
count_within k (u ∷ us) (x ∷ xs) p q within = over (λ zs r inside. count_within k us zs r q.1 inside) (standing u x)
  where
    rest_has : (y : DocKey) → has_key (u ∷ us) y ≡ true → is_eq (doc_cmp u y) ≡ false → has_key us y ≡ true
    rest_has y has other = sym (ap (λ b. b || has_key us y) other) ∙ has

    apart : is_before u x ≡ true → (y : DocKey) → has_key (x ∷ xs) y ≡ true → is_eq (doc_cmp u y) ≡ false
    apart lt y has = by (standing u y)
      where
        by : Standing u y → is_eq (doc_cmp u y) ≡ false
        by (before _ _ e _) = e
        by (same e) = absurd (true≢false (sym (subst (λ (z : DocKey). is_before z x ≡ true) e lt) ∙ has_key-not_before x xs y p has))
        by (after _ _ e _) = e

    other_than : (b h : Bool) → true ≡ (h && not b) → b ≡ false
    other_than true h e = absurd (true≢false (e ∙ and_false h))
    other_than false h e = refl

    later : (y : DocKey) → has_key xs y ≡ true → is_eq (doc_cmp x y) ≡ false
    later y has = other_than (is_eq (doc_cmp x y)) (has_key (x ∷ xs) y) (sym has ∙ has_key-tail x xs y p)

    past : is_before u x ≡ true → (b c : Bool) → is_before u k ≡ b → is_before x k ≡ c → cond c (suc (count_before k xs)) 0 ≤ count_before k us
        → cond c (suc (count_before k xs)) 0 ≤ cond b (suc (count_before k us)) 0
    past lt true c e f le = omega (arith, le)
    past lt false true e f le = absurd (true≢false (sym (is_before_trans u x k lt f) ∙ e))
    past lt false false e f le = omega arith

    both : (b : Bool) → count_before k xs ≤ count_before k us → cond b (suc (count_before k xs)) 0 ≤ cond b (suc (count_before k us)) 0
    both true le = omega (arith, le)
    both false le = omega arith

    over : ((zs : List DocKey) → IsRanked zs → ((y : DocKey) → has_key zs y ≡ true → has_key us y ≡ true) → count_before k zs ≤ count_before k us) → Standing u x → count_before k (x ∷ xs) ≤ count_before k (u ∷ us)
    over rest (before lt _ _ _) = past lt (is_before u k) (is_before x k) refl refl (rest (x ∷ xs) p (λ y has. rest_has y (within y has) (apart lt y has)))
    over rest (same e) =
        subst (λ (z : DocKey). count_before k (z ∷ xs) ≤ count_before k (u ∷ us)) e
        (both (is_before u k) (rest xs p.1 (λ y has. rest_has y (within y (ap (λ b. is_eq (doc_cmp x y) || b) has ∙ or_true (is_eq (doc_cmp x y)))) (subst (λ (z : DocKey). is_eq (doc_cmp z y) ≡ false) (sym e) (later y has)))))
    over rest (after lt _ _ _) = absurd (true≢false (sym lt ∙ has_key-not_before u us x q (within x (ap (λ b. b || has_key xs x) (is_eq_self x)))))

none_first : (n : ℕ) (fs : List Found) (k : DocKey) → has_key (found_keys fs) k ≡ false → has_key (found_keys (take n fs)) k ≡ false
none_first zero fs k none = refl
none_first (suc n) [] k none = refl
none_first (suc n) (f ∷ fs) k none = over (is_at k f) none (none_first n fs k)
  where
    over : (b : Bool) → (b || has_key (found_keys fs) k) ≡ false → (has_key (found_keys fs) k ≡ false → has_key (found_keys (take n fs)) k ≡ false) → (b || has_key (found_keys (take n fs)) k) ≡ false
    over true e rest = cc
    over false e rest = rest e

-- the first n of a list have all that it has under a key that fewer than n of them come before
cut_list : (n : ℕ) (fs : List Found) (k : DocKey) → IsRanked (found_keys fs) → count_before k (found_keys (take n fs)) < n → filter (is_at k) (take n fs) ≡ filter (is_at k) fs
cut_list zero fs k ranked few = absurd (omega (arith, few))
cut_list (suc n) [] k ranked few = refl
cut_list (suc n) (f ∷ fs) k ranked few = over (cut_list n fs k ranked.1) (is_before f.key k) refl few
  where
    with_head : filter (is_at k) (take n fs) ≡ filter (is_at k) fs → filter (is_at k) (f ∷ take n fs) ≡ filter (is_at k) (f ∷ fs)
    with_head e = ap (λ (hs : List Found). cond (is_at k f) (f ∷ hs) hs) e

    over : (count_before k (found_keys (take n fs)) < n → filter (is_at k) (take n fs) ≡ filter (is_at k) fs) → (b : Bool) → is_before f.key k ≡ b → cond b (suc (count_before k (found_keys (take n fs)))) 0 < suc n → filter (is_at k) (f ∷ take n fs) ≡ filter (is_at k) (f ∷ fs)
    over rest true e lt = with_head (rest (omega (arith, lt)))
    over rest false e lt =
        let none = has_key-before k (found_keys fs) (IsBeforeAll-ranked k f.key (found_keys fs) ranked e) in
        with_head (none_under (take n fs) k (none_first n fs k none) ∙ sym (none_under fs k none))

first_ranked : (n : ℕ) (fs : List Found) → IsRanked (found_keys fs) → IsRanked (found_keys (take n fs))
first_ranked n fs ranked = subst IsRanked (take-map (λ (f : Found). f.key) n fs) (up_to_ranked (Some n) (found_keys fs) ranked)

cut_lists : (n : ℕ) (lists : List (List Found)) (k : DocKey) (us : List DocKey) → IsRanked us → AreRanked lists → ((q : DocKey) → has_key (found_keys (firsts (Some n) lists)) q ≡ true → has_key us q ≡ true) → count_before k us < n
    → filter (is_at k) (firsts (Some n) lists) ≡ filter (is_at k) (firsts None lists)
cut_lists n [] k us ranked all within few = refl
cut_lists n (fs ∷ lists) k us ranked all within few =
    filter-append (is_at k) (take n fs) (firsts (Some n) lists)
    ∙ ap (λ (hs : List Found). hs ++ filter (is_at k) (firsts (Some n) lists)) (cut_list n fs k first few_here)
    ∙ ap (λ (hs : List Found). filter (is_at k) fs ++ hs) (cut_lists n lists k us ranked (All-tail (λ (gs : List Found). IsRanked (found_keys gs)) fs lists all) within_rest few)
    ∙ sym (filter-append (is_at k) fs (firsts None lists))
  where
    first : IsRanked (found_keys fs)
    first = All-head (λ (gs : List Found). IsRanked (found_keys gs)) fs lists all

    parts : (q : DocKey) → has_key (found_keys (take n fs ++ firsts (Some n) lists)) q ≡ (has_key (found_keys (take n fs)) q || has_key (found_keys (firsts (Some n) lists)) q)
    parts q = ap (λ (ks : List DocKey). has_key ks q) (map-append (λ (f : Found). f.key) (take n fs) (firsts (Some n) lists)) ∙ has_key-append (found_keys (take n fs)) (found_keys (firsts (Some n) lists)) q

    within_first : (q : DocKey) → has_key (found_keys (take n fs)) q ≡ true → has_key us q ≡ true
    within_first q has = within q (parts q ∙ ap (λ b. b || has_key (found_keys (firsts (Some n) lists)) q) has)

    within_rest : (q : DocKey) → has_key (found_keys (firsts (Some n) lists)) q ≡ true → has_key us q ≡ true
    within_rest q has = within q (parts q ∙ ap (λ b. has_key (found_keys (take n fs)) q || b) has ∙ or_true (has_key (found_keys (take n fs)) q))

    few_here : count_before k (found_keys (take n fs)) < n
    few_here = let le = count_within k us (found_keys (take n fs)) (first_ranked n fs first) ranked within_first in omega (arith, le, few)

-- the first hits of an `or` are those of the first of each of its lists
pub or_by_firsts : (limit : Option ℕ) (lists : List (List Found)) → AreRanked lists → up_to limit (grouped (firsts limit lists)) ≡ up_to limit (found_list Or [] lists)
or_by_firsts None lists all = sym (or_grouped lists all)
or_by_firsts (Some n) lists all =
    let each = firsts (Some n) lists in
    sym (first_alike n (firsts None lists) each (λ k few. sym (cut_lists n lists k (keys_once each) (once_ranked each) all (λ q has. has_key-once each q ∙ has) few)))
    ∙ ap (take n) (sym (or_grouped lists all))
