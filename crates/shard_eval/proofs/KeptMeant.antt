-- What an operator keeps of its operands' keys is what it keeps of the shard's entities.
use Rattle.std.proofs.Common.{◌≡◌, ℕ, ◌+◌, Bool, true, false, not, ◌&&◌, ◌||◌, cond, true≢false, All, List, [], ◌∷◌, map, filter, refl, sym, ◌∙◌, ap, if◌then◌else◌}
use Rattle.std.proofs.lemmas.List.Elements.{All-head, All-tail}
use Rattle.std.specs.List.{list_all, list_any}
use Rattle.query_tree.specs.declared.kind.ListKind.{ListKind}
use Rattle.query_tree.specs.declared.kind.ListKind.TheVariants.{And, Or, Difference, WeakAnd, StrongOr}
use Rattle.query_tree.specs.declared.query.Mark.{Mark}
use Rattle.uni_base.specs.declared.entity.DocKey.{DocKey}
use Rattle.uni_base.specs.Cursors.{IsRanked}
use Rattle.uni_base.specs.KeySets.{has_key, united}
use Rattle.uni_base.specs.Walks.{Walker, has_share, lets_pass, spent, strong_keeps, strong_walk, walked, weak_keeps, weak_walk}
use Rattle.uni_base.proofs.RankedLemmas.{IsRanked-filter, and_false, has_key-filter, is_eq_swap, same_from_keys}
use Rattle.uni_base.proofs.UnitedLemmas.{IsRanked-united, has_key-united}
use Rattle.uni_meaning.specs.Hits.{first_alone, is_among, kept_by, operand_over, quota_of}
use Rattle.weak_strong.specs.Rules.{walkers}
use Rattle.shard_eval.specs.Kept.{counters, kept}
use Rattle.shard_eval.proofs.HitsWithin.{IsPartOf, first_true}

-- an operand: its keys and its mark
abbrev pub keys_in : List (List DocKey × Mark) → List (List DocKey)
keys_in = map (λ o. o.0)

abbrev pub marks_in : List (List DocKey × Mark) → List Mark
marks_in = map (λ o. o.1)

abbrev pub over_all : List (List DocKey × Mark) → List (Walker DocKey)
over_all = map (λ o. operand_over o.0 o.1)

pub among_has : (ks : List DocKey) (k : DocKey) → is_among ks k ≡ has_key ks k
among_has [] k = refl
among_has (x ∷ ks) k = (λ i. is_eq_swap k x i || among_has ks k i)

all_same : (os : List (List DocKey × Mark)) (k : DocKey) → list_all (λ (keys : List DocKey). has_key keys k) (keys_in os) ≡ list_all (λ (o : Walker DocKey). o.has k) (over_all os)
all_same [] k = refl
all_same (o ∷ os) k = (λ i. sym (among_has o.0 k) i && all_same os k i)

any_same : (os : List (List DocKey × Mark)) (k : DocKey) → list_any (λ (keys : List DocKey). has_key keys k) (keys_in os) ≡ list_any (λ (o : Walker DocKey). o.has k) (over_all os)
any_same [] k = refl
any_same (o ∷ os) k = (λ i. sym (among_has o.0 k) i || any_same os k i)

-- where some operand has a key, so does the shard
any_within : (rs : List DocKey) (os : List (List DocKey × Mark)) (k : DocKey) → All (λ o. IsPartOf o.0 rs) os → list_any (λ (keys : List DocKey). has_key keys k) (keys_in os) ≡ true → has_key rs k ≡ true
any_within rs [] k all e = absurd (true≢false (sym e))
any_within rs (o ∷ os) k all e = over (any_within rs os k (All-tail (λ (p : List DocKey × Mark). IsPartOf p.0 rs) o os all)) (has_key o.0 k) refl e
  where
    over : (list_any (λ (keys : List DocKey). has_key keys k) (keys_in os) ≡ true → has_key rs k ≡ true) → (b : Bool) → has_key o.0 k ≡ b
        → (b || list_any (λ (keys : List DocKey). has_key keys k) (keys_in os)) ≡ true → has_key rs k ≡ true
    over rest true here f = (All-head (λ (p : List DocKey × Mark). IsPartOf p.0 rs) o os all).within k here
    over rest false here f = rest f

-- a test that makes another one true may stand without it
stands_alone : (a b : Bool) → (a ≡ true → b ≡ true) → a ≡ (b && a)
stands_alone true b goes = rw (goes refl) refl
stands_alone false b goes = sym (and_false b)

-- what some operand has
pub or_meant : (rs : List DocKey) (os : List (List DocKey × Mark)) → IsRanked rs → All (λ o. IsPartOf o.0 rs) os → united (keys_in os) ≡ filter (λ k. list_any (λ (o : Walker DocKey). o.has k) (over_all os)) rs
or_meant rs os rank all =
    same_from_keys (united (keys_in os)) (filter (λ k. list_any (λ (o : Walker DocKey). o.has k) (over_all os)) rs) (IsRanked-united (keys_in os)) (IsRanked-filter (λ k. list_any (λ (o : Walker DocKey). o.has k) (over_all os)) rs rank)
    (λ k. has_key-united (keys_in os) k ∙ stands_alone (list_any (λ (keys : List DocKey). has_key keys k) (keys_in os)) (has_key rs k) (any_within rs os k all)
    ∙ ap (λ b. has_key rs k && b) (any_same os k) ∙ sym (has_key-filter (λ x. list_any (λ (o : Walker DocKey). o.has x) (over_all os)) rs k))

both_stand : (a b c : Bool) → (c ≡ true → a ≡ true) → (c ≡ true → b ≡ true) → (a && c) ≡ (b && c)
both_stand a b true one two = rw (one refl, two refl) refl
both_stand a b false one two = and_false a ∙ sym (and_false b)

or_first : (a b : Bool) → a ≡ true → (a || b) ≡ true
or_first true b e = refl
or_first false b e = absurd (true≢false (sym e))

-- what all operands have, of one or more
pub and_meant : (rs : List DocKey) (o : List DocKey × Mark) (os : List (List DocKey × Mark)) → IsRanked rs → All (λ p. IsPartOf p.0 rs) (o ∷ os)
    → filter (λ k. list_all (λ (keys : List DocKey). has_key keys k) (keys_in (o ∷ os))) (united (keys_in (o ∷ os))) ≡ filter (λ k. list_all (λ (p : Walker DocKey). p.has k) (over_all (o ∷ os))) rs
and_meant rs o os rank all =
    same_from_keys _ _ (IsRanked-filter (λ k. list_all (λ (keys : List DocKey). has_key keys k) (keys_in (o ∷ os))) (united (keys_in (o ∷ os))) (IsRanked-united (keys_in (o ∷ os))))
    (IsRanked-filter (λ k. list_all (λ (p : Walker DocKey). p.has k) (over_all (o ∷ os))) rs rank)
    (λ k. has_key-filter (λ x. list_all (λ (keys : List DocKey). has_key keys x) (keys_in (o ∷ os))) (united (keys_in (o ∷ os))) k
    ∙ ap (λ b. b && list_all (λ (keys : List DocKey). has_key keys k) (keys_in (o ∷ os))) (has_key-united (keys_in (o ∷ os)) k)
    ∙ both_stand (list_any (λ (keys : List DocKey). has_key keys k) (keys_in (o ∷ os))) (has_key rs k) (list_all (λ (keys : List DocKey). has_key keys k) (keys_in (o ∷ os)))
    (λ e. or_first (has_key o.0 k) (list_any (λ (keys : List DocKey). has_key keys k) (keys_in os)) (first_true (has_key o.0 k) _ e))
    (λ e. (All-head (λ (p : List DocKey × Mark). IsPartOf p.0 rs) o os all).within k (first_true (has_key o.0 k) _ e))
    ∙ ap (λ b. has_key rs k && b) (all_same (o ∷ os) k) ∙ sym (has_key-filter (λ x. list_all (λ (p : Walker DocKey). p.has x) (over_all (o ∷ os))) rs k))

and_parts : (a b r : Bool) → (a ≡ true → r ≡ true) → (a && b) ≡ (r && (a && b))
and_parts true b r goes = rw (goes refl) refl
and_parts false b r goes = sym (and_false r)

-- what the first has alone
pub difference_meant : (rs : List DocKey) (o : List DocKey × Mark) (os : List (List DocKey × Mark)) → IsRanked rs → All (λ p. IsPartOf p.0 rs) (o ∷ os)
    → filter (λ k. not (has_key (united (keys_in os)) k)) o.0 ≡ filter (first_alone (over_all (o ∷ os))) rs
difference_meant rs o os rank all =
    let part = All-head (λ (p : List DocKey × Mark). IsPartOf p.0 rs) o os all in
    same_from_keys _ _ (IsRanked-filter (λ k. not (has_key (united (keys_in os)) k)) o.0 (part.ranked rank)) (IsRanked-filter (first_alone (over_all (o ∷ os))) rs rank)
    (λ k. has_key-filter (λ x. not (has_key (united (keys_in os)) x)) o.0 k
    ∙ (λ i. has_key o.0 k && not ((has_key-united (keys_in os) k ∙ any_same os k) i))
    ∙ and_parts (has_key o.0 k) (not (list_any (λ (p : Walker DocKey). p.has k) (over_all os))) (has_key rs k) (part.within k)
    ∙ (λ i. has_key rs k && (sym (among_has o.0 k) i && not (list_any (λ (p : Walker DocKey). p.has k) (over_all os))))
    ∙ sym (has_key-filter (first_alone (over_all (o ∷ os))) rs k))

-- a walk sees the same operands
walkers_same : (os : List (List DocKey × Mark)) → walkers (keys_in os) (counters (marks_in os)) ≡ over_all os
walkers_same [] = refl
walkers_same (o ∷ os) = (λ i. record { has = λ k. sym (among_has o.0 k) i; quota = quota_of o.1; own = 0 } ∷ walkers_same os i)

abbrev has_of : DocKey → Walker DocKey → Bool
has_of k w = w.has k

some_walked : (x : DocKey) (ws : List (Walker DocKey)) (k : DocKey) → list_any (λ (w : Walker DocKey). w.has k) (map (walked x) ws) ≡ list_any (λ (w : Walker DocKey). w.has k) ws
some_walked x [] k = refl
some_walked x (w ∷ ws) k = (λ i. over (w.has x) i || some_walked x ws k i)
  where
    over : (b : Bool) → has_of k (elim b [ true ↦ record w { own = w.own + 1 } | false ↦ record w { quota = spent w.quota } ]) ≡ w.has k
    over true = refl
    over false = refl

and_starts : (a b : Bool) → a ≡ false → (a && b) ≡ false
and_starts true b e = absurd (true≢false e)
and_starts false b e = refl

-- the two ways of a walk at an entity
either_way : (b : Bool) (one two : List DocKey) → ◌≡◌ {A = List DocKey} (elim b [ true ↦ one | false ↦ two ]) (cond b one two)
either_way true one two = refl
either_way false one two = refl

-- a walk passes what no operand has
weak_is : (count : ℕ) (ws : List (Walker DocKey)) (x : DocKey) (xs : List DocKey) → weak_walk count ws (x ∷ xs) ≡ cond (weak_keeps count ws x) (x ∷ weak_walk (count + 1) (map (walked x) ws) xs) (weak_walk count ws xs)
weak_is count ws x xs = either_way (weak_keeps count ws x) (x ∷ weak_walk (count + 1) (map (walked x) ws) xs) (weak_walk count ws xs)

weak_skips : (p : DocKey → Bool) (count : ℕ) (ws : List (Walker DocKey)) (xs : List DocKey) → ((k : DocKey) → p k ≡ list_any (λ (w : Walker DocKey). w.has k) ws) → weak_walk count ws (filter p xs) ≡ weak_walk count ws xs
weak_skips p count ws [] tells = refl
weak_skips p count ws (x ∷ xs) tells =
    over (weak_skips p (count + 1) (map (walked x) ws) xs (λ k. tells k ∙ sym (some_walked x ws k))) (weak_skips p count ws xs tells) (p x) (tells x)
  where
    over : weak_walk (count + 1) (map (walked x) ws) (filter p xs) ≡ weak_walk (count + 1) (map (walked x) ws) xs → weak_walk count ws (filter p xs) ≡ weak_walk count ws xs
        → (b : Bool) → b ≡ list_any (λ (w : Walker DocKey). w.has x) ws → weak_walk count ws (cond b (x ∷ filter p xs) (filter p xs)) ≡ weak_walk count ws (x ∷ xs)
    over more rest true e = weak_is count ws x (filter p xs) ∙ (λ i. cond (weak_keeps count ws x) (x ∷ more i) (rest i)) ∙ sym (weak_is count ws x xs)
    over more rest false e =
        rest ∙ sym (ap (λ b. cond b (x ∷ weak_walk (count + 1) (map (walked x) ws) xs) (weak_walk count ws xs)) (and_starts (list_any (λ (w : Walker DocKey). w.has x) ws) (list_all (λ (w : Walker DocKey). w.has x || lets_pass count w.quota w.own) ws) (sym e))) ∙ sym (weak_is count ws x xs)

strong_is : (count : ℕ) (ws : List (Walker DocKey)) (x : DocKey) (xs : List DocKey) → strong_walk count ws (x ∷ xs) ≡ cond (strong_keeps count ws x) (x ∷ strong_walk (count + 1) (map (walked x) ws) xs) (strong_walk count ws xs)
strong_is count ws x xs = either_way (strong_keeps count ws x) (x ∷ strong_walk (count + 1) (map (walked x) ws) xs) (strong_walk count ws xs)

strong_skips : (p : DocKey → Bool) (count : ℕ) (ws : List (Walker DocKey)) (xs : List DocKey) → ((k : DocKey) → p k ≡ list_any (λ (w : Walker DocKey). w.has k) ws) → strong_walk count ws (filter p xs) ≡ strong_walk count ws xs
strong_skips p count ws [] tells = refl
strong_skips p count ws (x ∷ xs) tells =
    over (strong_skips p (count + 1) (map (walked x) ws) xs (λ k. tells k ∙ sym (some_walked x ws k))) (strong_skips p count ws xs tells) (p x) (tells x)
  where
    over : strong_walk (count + 1) (map (walked x) ws) (filter p xs) ≡ strong_walk (count + 1) (map (walked x) ws) xs → strong_walk count ws (filter p xs) ≡ strong_walk count ws xs
        → (b : Bool) → b ≡ list_any (λ (w : Walker DocKey). w.has x) ws → strong_walk count ws (cond b (x ∷ filter p xs) (filter p xs)) ≡ strong_walk count ws (x ∷ xs)
    over more rest true e = strong_is count ws x (filter p xs) ∙ (λ i. cond (strong_keeps count ws x) (x ∷ more i) (rest i)) ∙ sym (strong_is count ws x xs)
    over more rest false e =
        rest ∙ sym (ap (λ b. cond b (x ∷ strong_walk (count + 1) (map (walked x) ws) xs) (strong_walk count ws xs)) (and_starts (list_any (λ (w : Walker DocKey). w.has x) ws) (list_all (λ (w : Walker DocKey). has_share (count + 1) w.quota (if w.has x then w.own + 1 else w.own)) ws) (sym e))) ∙ sym (strong_is count ws x xs)

-- what an operator keeps of the keys of one operand or more
pub kept_meant : (rs : List DocKey) (kind : ListKind) (o : List DocKey × Mark) (os : List (List DocKey × Mark)) → IsRanked rs → All (λ p. IsPartOf p.0 rs) (o ∷ os)
    → kept kind (marks_in (o ∷ os)) (keys_in (o ∷ os)) ≡ kept_by kind (over_all (o ∷ os)) rs
kept_meant rs And o os rank all = and_meant rs o os rank all
kept_meant rs Or o os rank all = or_meant rs (o ∷ os) rank all
kept_meant rs Difference o os rank all = difference_meant rs o os rank all
kept_meant rs WeakAnd o os rank all =
    (λ i. weak_walk 0 (walkers_same (o ∷ os) i) (or_meant rs (o ∷ os) rank all i))
    ∙ weak_skips (λ k. list_any (λ (w : Walker DocKey). w.has k) (over_all (o ∷ os))) 0 (over_all (o ∷ os)) rs (λ k. refl)
kept_meant rs StrongOr o os rank all =
    (λ i. strong_walk 0 (walkers_same (o ∷ os) i) (or_meant rs (o ∷ os) rank all i))
    ∙ strong_skips (λ k. list_any (λ (w : Walker DocKey). w.has k) (over_all (o ∷ os))) 0 (over_all (o ∷ os)) rs (λ k. refl)
