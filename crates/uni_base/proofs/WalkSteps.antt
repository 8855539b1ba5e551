-- Operands once some entities are kept.
use Rattle.std.proofs.Common.{◌≡◌, ℕ, zero, suc, ◌+◌, ◌-◌, ◌*◌, ◌/◌, ◌<◌, ◌≤◌, Bool, true, false, not, ◌&&◌, ◌||◌, cond, nat_le, nat_lt, List, [], ◌∷◌, ◌++◌, refl, sym, ◌∙◌, ap, subst, arith, length, map, count_by, length-append}
use Rattle.std.specs.List.{list_any, list_all}
use Rattle.std.proofs.Math.Nat.{div-zero, lt-mul-div-succ, zero-div}
use Rattle.std.proofs.lemmas.Bool.Decides.{nat_tests}
use Rattle.std.proofs.lemmas.List.Folds.{list_all-append}
use Rattle.std.proofs.lemmas.List.Sums.{sum_by-append, sum_by-cons}
use Rattle.std.proofs.lemmas.Nat.{div_below}
use Rattle.uni_base.specs.Walks.{Quota, Unmarked, Count, Weight, Walker, share_of, spent, walked, lets_pass, weak_keeps, has_share, strong_keeps}
use Rattle.uni_base.specs.WalkLaws.{some_has, has_part, allows_weakly, allows_strongly, all_allow_weakly, all_allow_strongly, IsFresh, IsAtMostWhole, AllFresh, AllAtMostWhole}

-- an operand once entities are kept, one after the other
abbrev pub walked_all : {K : Type 0} → List K → Walker K → Walker K
walked_all [] o = o
walked_all (x ∷ xs) o = walked_all xs (walked x o)

abbrev pub spent_by : ℕ → Quota → Quota
spent_by m Unmarked = Unmarked
spent_by m (Count left) = Count (left - m)
spent_by m (Weight n d) = Weight n d

count_snoc : {K : Type 0} (p : K → Bool) (ks : List K) (x : K) → count_by p (ks ++ x ∷ []) ≡ count_by p ks + cond (p x) 1 0
count_snoc p ks x = sum_by-append (λ y. cond (p y) 1 0) ks (x ∷ []) ∙ ap (λ n. count_by p ks + n) (sum_by-cons (λ y. cond (p y) 1 0) x [] ∙ plain (cond (p x) 1 0))
  where
    plain : (n : ℕ) → n + 0 ≡ n
    plain n = omega arith

length_snoc : {K : Type 0} (ks : List K) (x : K) → length (ks ++ x ∷ []) ≡ length ks + 1
length_snoc ks x = length-append ks (x ∷ [])

-- ---- what an operand is once entities are kept

spent_one : (q : Quota) → spent q ≡ spent_by 1 q
spent_one Unmarked = refl
spent_one (Count left) = refl
spent_one (Weight n d) = refl

spent_none : (q : Quota) → q ≡ spent_by 0 q
spent_none Unmarked = refl
spent_none (Count left) = ap Count (omega arith)
spent_none (Weight n d) = refl

spent_twice : (k m n : ℕ) (q : Quota) → n ≡ k + m → spent_by m (spent_by k q) ≡ spent_by n q
spent_twice k m n Unmarked e = refl
spent_twice k m n (Count left) e = ap Count (omega arith)
spent_twice k m n (Weight a b) e = refl

module _ {K : Type 0} where
  pub has_walked : (x : K) (o : Walker K) → (walked x o).has ≡ o.has
  has_walked x o =
      elim (o.has x) as (λ b. (elim b as (λ _. Walker K) [ true ↦ record o { own = o.own + 1 } | false ↦ record o { quota = spent o.quota } ]).has ≡ o.has) [ true ↦ refl | false ↦ refl ]

  own_walked : (x : K) (o : Walker K) → (walked x o).own ≡ o.own + cond (o.has x) 1 0
  own_walked x o =
      elim (o.has x) as (λ b. (elim b as (λ _. Walker K) [ true ↦ record o { own = o.own + 1 } | false ↦ record o { quota = spent o.quota } ]).own ≡ o.own + cond b 1 0) [ true ↦ refl | false ↦ omega arith ]

  quota_walked : (x : K) (o : Walker K) → (walked x o).quota ≡ spent_by (cond (not (o.has x)) 1 0) o.quota
  quota_walked x o =
      elim (o.has x) as (λ b. (elim b as (λ _. Walker K) [ true ↦ record o { own = o.own + 1 } | false ↦ record o { quota = spent o.quota } ]).quota ≡ spent_by (cond (not b) 1 0) o.quota) [
        | true ↦ spent_none o.quota
        | false ↦ spent_one o.quota
      ]

  pub has_walked_all : (ks : List K) (o : Walker K) → (walked_all ks o).has ≡ o.has
  has_walked_all [] o = refl
  has_walked_all (x ∷ xs) o = has_walked_all xs (walked x o) ∙ has_walked x o

  own_walked_all : (ks : List K) (o : Walker K) → (walked_all ks o).own ≡ o.own + count_by o.has ks
  own_walked_all [] o = omega arith
  own_walked_all (x ∷ xs) o =
      let rest = own_walked_all xs (walked x o) in
      let here = own_walked x o in
      let seen = ap (λ (h : K → Bool). count_by h xs) (has_walked x o) in
      let whole = sum_by-cons (λ y. cond (o.has y) 1 0) x xs in
      omega (arith, rest, here, seen, whole)

  quota_walked_all : (ks : List K) (o : Walker K) → (walked_all ks o).quota ≡ spent_by (count_by (λ y. not (o.has y)) ks) o.quota
  quota_walked_all [] o = spent_none o.quota
  quota_walked_all (x ∷ xs) o =
      quota_walked_all xs (walked x o)
      ∙ ap (λ (h : K → Bool). spent_by (count_by (λ y. not (h y)) xs) (walked x o).quota) (has_walked x o)
      ∙ ap (spent_by (count_by (λ y. not (o.has y)) xs)) (quota_walked x o)
      ∙ spent_twice (cond (not (o.has x)) 1 0) (count_by (λ y. not (o.has y)) xs) (count_by (λ y. not (o.has y)) (x ∷ xs)) o.quota (sum_by-cons (λ y. cond (not (o.has y)) 1 0) x xs)

-- ---- one more entity, for one operand

-- one more entity asks for at most one more
share_step : (m n d : ℕ) → n ≤ d → share_of (m + 1) n d ≤ share_of m n d + 1
share_step m n zero most = subst (λ (s : ℕ). s ≤ (m * n) / 0 + 1) (sym (div-zero ((m + 1) * n))) (omega arith)
share_step m n (suc d) most =
    let below : (m + 1) * n < ((m * n) / suc d + 2) * suc d = omega (arith, lt-mul-div-succ (m * n) {b = suc d} (omega arith)) in
    omega (arith, div_below ((m + 1) * n) (suc d) ((m * n) / suc d + 2) (omega arith) below)

le_same : (a b c e : ℕ) → a ≡ c → b ≡ e → nat_le a b ≡ nat_le c e
le_same a b c e p q = ap (λ x. nat_le x b) p ∙ ap (λ y. nat_le c y) q

count_stays : (m c left : ℕ) → c ≡ m + 0 → nat_le m left ≡ true → true ≡ nat_le c left
count_stays m c left e f = grind (arith, nat_tests)

count_falls : (m c left : ℕ) → c ≡ m + 1 → nat_le m left ≡ true → nat_lt 0 (left - m) ≡ nat_le c left
count_falls m c left e f = grind (arith, nat_tests)

part_stays : (s t a b : ℕ) → t ≤ s + 1 → b ≡ a + 1 → nat_le s a ≡ true → true ≡ nat_le t b
part_stays s t a b l e f = grind (arith, nat_tests)

module _ {K : Type 0} (has : K → Bool) (ks : List K) (x : K) (own : ℕ) (counts : own ≡ count_by has ks) where
  weak_one : (q : Quota) → IsAtMostWhole q → allows_weakly ks has q ≡ true → (has x || lets_pass (length ks) (spent_by (count_by (λ y. not (has y)) ks) q) own) ≡ allows_weakly (ks ++ x ∷ []) has q
  weak_one Unmarked most allowed = or_and (has x) ∙ ap (λ b. b && (has x && true)) (sym allowed) ∙ sym (list_all-append has ks (x ∷ []))
    where
      or_and : (b : Bool) → (b || false) ≡ (true && (b && true))
      or_and true = refl
      or_and false = refl
  weak_one (Count left) most allowed = by (has x) refl
    where
      lacking : K → Bool
      lacking y = not (has y)

      by : (b : Bool) → has x ≡ b → (b || nat_lt 0 (left - count_by (λ y. not (has y)) ks)) ≡ nat_le (count_by (λ y. not (has y)) (ks ++ x ∷ [])) left
      by true e =
          count_stays (count_by (λ y. not (has y)) ks) (count_by (λ y. not (has y)) (ks ++ x ∷ [])) left
          (count_snoc (λ y. not (has y)) ks x ∙ ap (λ b. count_by (λ y. not (has y)) ks + cond (not b) 1 0) e) allowed
      by false e =
          count_falls (count_by (λ y. not (has y)) ks) (count_by (λ y. not (has y)) (ks ++ x ∷ [])) left
          (count_snoc (λ y. not (has y)) ks x ∙ ap (λ b. count_by (λ y. not (has y)) ks + cond (not b) 1 0) e) allowed
  weak_one (Weight n d) most allowed = by (has x) refl
    where
      by : (b : Bool) → has x ≡ b → (b || nat_le (share_of (length ks + 1) n d) own) ≡ nat_le (share_of (length (ks ++ x ∷ [])) n d) (count_by has (ks ++ x ∷ []))
      by true e =
          part_stays (share_of (length ks) n d) (share_of (length (ks ++ x ∷ [])) n d) (count_by has ks) (count_by has (ks ++ x ∷ []))
          (subst (λ (l : ℕ). share_of l n d ≤ share_of (length ks) n d + 1) (sym (length_snoc ks x)) (share_step (length ks) n d most))
          (count_snoc has ks x ∙ ap (λ b. count_by has ks + cond b 1 0) e) allowed
      by false e =
          le_same (share_of (length ks + 1) n d) own (share_of (length (ks ++ x ∷ [])) n d) (count_by has (ks ++ x ∷ []))
          (ap (λ (l : ℕ). share_of l n d) (sym (length_snoc ks x)))
          (counts ∙ sym (count_snoc has ks x ∙ ap (λ b. count_by has ks + cond b 1 0) e ∙ plain (count_by has ks)))
        where
          plain : (m : ℕ) → m + 0 ≡ m
          plain m = omega arith

  strong_one : (q : Quota) → has_share (length ks + 1) (spent_by (count_by (λ y. not (has y)) ks) q) (cond (has x) (own + 1) own) ≡ allows_strongly (ks ++ x ∷ []) has q
  strong_one Unmarked = refl
  strong_one (Count left) = refl
  strong_one (Weight n d) =
      le_same (share_of (length ks + 1) n d) (cond (has x) (own + 1) own) (share_of (length (ks ++ x ∷ [])) n d) (count_by has (ks ++ x ∷ []))
      (ap (λ (l : ℕ). share_of l n d) (sym (length_snoc ks x)))
      (by (has x) ∙ sym (count_snoc has ks x))
    where
      by : (b : Bool) → cond b (own + 1) own ≡ count_by has ks + cond b 1 0
      by true = omega arith
      by false = omega arith

module _ {K : Type 0} (ks : List K) (x : K) where
  any_walked : (operands : List (Walker K)) → list_any (λ o. o.has x) (map (walked_all ks) operands) ≡ some_has operands x
  any_walked [] = refl
  any_walked (o ∷ operands) = ap (λ (h : K → Bool). h x || list_any (λ p. p.has x) (map (walked_all ks) operands)) (has_walked_all ks o) ∙ ap (λ b. o.has x || b) (any_walked operands)

  both_true : (a b : Bool) → (a && b) ≡ true → (a ≡ true) × (b ≡ true)
  both_true true b e = (refl, e)
  both_true false b e = absurd cc

  own_fresh : (o : Walker K) → IsFresh o → (walked_all ks o).own ≡ count_by o.has ks
  own_fresh o fresh = let e = own_walked_all ks o in omega (arith, e, fresh)

  weak_walker : (o : Walker K) → IsFresh o → IsAtMostWhole o.quota → allows_weakly ks o.has o.quota ≡ true
      → ((walked_all ks o).has x || lets_pass (length ks) (walked_all ks o).quota (walked_all ks o).own) ≡ allows_weakly (ks ++ x ∷ []) o.has o.quota
  weak_walker o fresh most allowed =
      ap (λ (h : K → Bool). h x || lets_pass (length ks) (walked_all ks o).quota (walked_all ks o).own) (has_walked_all ks o)
      ∙ ap (λ (q : Quota). o.has x || lets_pass (length ks) q (walked_all ks o).own) (quota_walked_all ks o)
      ∙ weak_one o.has ks x (walked_all ks o).own (own_fresh o fresh) o.quota most allowed

  strong_walker : (o : Walker K) → IsFresh o
      → has_share (length ks + 1) (walked_all ks o).quota (cond ((walked_all ks o).has x) ((walked_all ks o).own + 1) (walked_all ks o).own) ≡ allows_strongly (ks ++ x ∷ []) o.has o.quota
  strong_walker o fresh =
      ap (λ (h : K → Bool). has_share (length ks + 1) (walked_all ks o).quota (cond (h x) ((walked_all ks o).own + 1) (walked_all ks o).own)) (has_walked_all ks o)
      ∙ ap (λ (q : Quota). has_share (length ks + 1) q (cond (o.has x) ((walked_all ks o).own + 1) (walked_all ks o).own)) (quota_walked_all ks o)
      ∙ strong_one o.has ks x (walked_all ks o).own (own_fresh o fresh) o.quota

  and_same : (a b c e : Bool) → a ≡ c → b ≡ e → (a && b) ≡ (c && e)
  and_same a b c e p q = ap (λ t. t && b) p ∙ ap (λ t. c && t) q

  all_weak : (operands : List (Walker K)) → AllFresh operands → AllAtMostWhole operands → all_allow_weakly operands ks ≡ true
      → list_all (λ o. o.has x || lets_pass (length ks) o.quota o.own) (map (walked_all ks) operands) ≡ all_allow_weakly operands (ks ++ x ∷ [])
  all_weak [] fresh most allowed = refl
  all_weak (o ∷ operands) fresh most allowed =
      let both = both_true (allows_weakly ks o.has o.quota) (all_allow_weakly operands ks) allowed in
      and_same ((walked_all ks o).has x || lets_pass (length ks) (walked_all ks o).quota (walked_all ks o).own)
      (list_all (λ p. p.has x || lets_pass (length ks) p.quota p.own) (map (walked_all ks) operands)) (allows_weakly (ks ++ x ∷ []) o.has o.quota) (all_allow_weakly operands (ks ++ x ∷ []))
      (weak_walker o fresh.0 most.0 both.0) (all_weak operands fresh.1 most.1 both.1)

  all_strong : (operands : List (Walker K)) → AllFresh operands
      → list_all (λ o. has_share (length ks + 1) o.quota (cond (o.has x) (o.own + 1) o.own)) (map (walked_all ks) operands) ≡ all_allow_strongly operands (ks ++ x ∷ [])
  all_strong [] fresh = refl
  all_strong (o ∷ operands) fresh =
      and_same (has_share (length ks + 1) (walked_all ks o).quota (cond ((walked_all ks o).has x) ((walked_all ks o).own + 1) (walked_all ks o).own))
      (list_all (λ p. has_share (length ks + 1) p.quota (cond (p.has x) (p.own + 1) p.own)) (map (walked_all ks) operands)) (allows_strongly (ks ++ x ∷ []) o.has o.quota)
      (all_allow_strongly operands (ks ++ x ∷ [])) (strong_walker o fresh.0) (all_strong operands fresh.1)

  -- the tests of the walks, said of the kept entities
  pub weak_keeps_is : (operands : List (Walker K)) → AllFresh operands → AllAtMostWhole operands → all_allow_weakly operands ks ≡ true
      → weak_keeps (length ks) (map (walked_all ks) operands) x ≡ (some_has operands x && all_allow_weakly operands (ks ++ x ∷ []))
  weak_keeps_is operands fresh most allowed =
      and_same (list_any (λ o. o.has x) (map (walked_all ks) operands)) (list_all (λ o. o.has x || lets_pass (length ks) o.quota o.own) (map (walked_all ks) operands))
      (some_has operands x) (all_allow_weakly operands (ks ++ x ∷ [])) (any_walked operands) (all_weak operands fresh most allowed)

  pub strong_keeps_is : (operands : List (Walker K)) → AllFresh operands
      → strong_keeps (length ks) (map (walked_all ks) operands) x ≡ (some_has operands x && all_allow_strongly operands (ks ++ x ∷ []))
  strong_keeps_is operands fresh =
      and_same (list_any (λ o. o.has x) (map (walked_all ks) operands)) (list_all (λ o. has_share (length ks + 1) o.quota (cond (o.has x) (o.own + 1) o.own)) (map (walked_all ks) operands))
      (some_has operands x) (all_allow_strongly operands (ks ++ x ∷ [])) (any_walked operands) (all_strong operands fresh)

-- of nothing an operand has its share
no_part : {K : Type 0} (has : K → Bool) (n d : ℕ) → has_part n d has [] ≡ true
no_part has n d = ap (λ s. nat_le s 0) (ap (λ m. m / d) (zero_times n) ∙ zero-div d)
  where
    zero_times : (n : ℕ) → 0 * n ≡ 0
    zero_times n = omega arith

-- nothing is kept: all is allowed
pub nothing_weak : {K : Type 0} (operands : List (Walker K)) → all_allow_weakly operands [] ≡ true
nothing_weak [] = refl
nothing_weak {K} (o ∷ operands) = ap (λ b. b && all_allow_weakly operands []) (by o.quota) ∙ nothing_weak operands
  where
    by : (q : Quota) → allows_weakly [] o.has q ≡ true
    by Unmarked = refl
    by (Count left) = let l : 0 ≤ left = omega arith in grind (arith, nat_tests)
    by (Weight n d) = no_part o.has n d

pub nothing_strong : {K : Type 0} (operands : List (Walker K)) → all_allow_strongly operands [] ≡ true
nothing_strong [] = refl
nothing_strong {K} (o ∷ operands) = ap (λ b. b && all_allow_strongly operands []) (by o.quota) ∙ nothing_strong operands
  where
    by : (q : Quota) → allows_strongly [] o.has q ≡ true
    by Unmarked = refl
    by (Count left) = refl
    by (Weight n d) = no_part o.has n d
