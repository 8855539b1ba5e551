-- The laws of both walks, over any test by which a walk keeps an entity.
use Rattle.std.proofs.Common.{◌≡◌, ℕ, zero, suc, ◌+◌, Bool, true, false, ◌&&◌, ◌||◌, cond, List, [], ◌∷◌, ◌++◌, refl, sym, ◌∙◌, ap, arith, length, take, map, filter, length-append, append_assoc}
use Rattle.std.specs.List.{list_any, list_all}
use Rattle.std.proofs.lemmas.Bool.Decides.{nat_tests}
use Rattle.std.proofs.lemmas.List.{append-nil, map-id, take_all}
use Rattle.std.proofs.lemmas.List.Elements.{filter_agree}
use Rattle.std.proofs.lemmas.Simd.{map-map}
use Rattle.uni_base.specs.Walks.{Quota, Unmarked, Count, Weight, Walker, spent, walked, lets_pass, weak_keeps, weak_walk, has_share, strong_keeps, strong_walk}
use Rattle.uni_base.specs.WalkLaws.{some_has, all_have, all_allow_weakly, all_allow_strongly, AllFresh, AllAtMostWhole, WeakWalkIsExact, StrongWalkIsExact, is_bare, is_weighted, WeakWalkIsAnd, StrongWalkIsOr, recounted, WeakWalkGoesByCounts, WalksPassOthers}
use Rattle.uni_base.proofs.RankedLemmas.{and_false, and_true}
use Rattle.uni_base.proofs.WalkSteps.{walked_all, has_walked, weak_keeps_is, strong_keeps_is, nothing_weak, nothing_strong}

map_agree : {X Y : Type 0} (f g : X → Y) → ((x : X) → f x ≡ g x) → (xs : List X) → map f xs ≡ map g xs
map_agree f g agree [] = refl
map_agree f g agree (x ∷ xs) = ap (λ y. y ∷ map f xs) (agree x) ∙ ap (λ ys. g x ∷ ys) (map_agree f g agree xs)

right_true : (a b : Bool) → (a && b) ≡ true → b ≡ true
right_true true b e = e
right_true false b e = cc

both_true : (a b : Bool) → (a && b) ≡ true → (a ≡ true) × (b ≡ true)
both_true true b e = (refl, e)
both_true false b e = absurd cc

both_false : (a b : Bool) → (a || b) ≡ false → (a ≡ false) × (b ≡ false)
both_false true b e = absurd cc
both_false false b e = (refl, e)

or_false : (b : Bool) → (b || false) ≡ b
or_false true = refl
or_false false = refl

spent_bare : (q : Quota) → is_bare q ≡ true → is_bare (spent q) ≡ true
spent_bare Unmarked e = refl
spent_bare (Count left) e = grind (arith, nat_tests)
spent_bare (Weight n d) e = absurd cc

bare_passes : (kept : ℕ) (q : Quota) (own : ℕ) → is_bare q ≡ true → lets_pass kept q own ≡ false
bare_passes kept Unmarked own e = refl
bare_passes kept (Count left) own e = grind (arith, nat_tests)
bare_passes kept (Weight n d) own e = absurd cc

spent_weightless : (q : Quota) → is_weighted q ≡ false → is_weighted (spent q) ≡ false
spent_weightless Unmarked e = refl
spent_weightless (Count left) e = refl
spent_weightless (Weight n d) e = e

weightless_share : (kept : ℕ) (q : Quota) (own : ℕ) → is_weighted q ≡ false → has_share kept q own ≡ true
weightless_share kept Unmarked own e = refl
weightless_share kept (Count left) own e = refl
weightless_share kept (Weight n d) own e = absurd cc

weightless_passes : (kept other : ℕ) (q : Quota) (own most : ℕ) → is_weighted q ≡ false → lets_pass kept q own ≡ lets_pass other q most
weightless_passes kept other Unmarked own most e = refl
weightless_passes kept other (Count left) own most e = refl
weightless_passes kept other (Weight n d) own most e = absurd cc

module _ {K : Type 0} where
  abbrev pub walk : (ℕ → List (Walker K) → K → Bool) → ℕ → List (Walker K) → List K → List K
  walk keeps kept operands [] = []
  walk keeps kept operands (x ∷ xs) = elim (keeps kept operands x) [
    | true ↦ x ∷ walk keeps (kept + 1) (map (walked x) operands) xs
    | false ↦ walk keeps kept operands xs
  ]

  -- a step of a walk, by its test
  abbrev turn : Bool → K → List K → List K → List K
  turn b x if_kept if_not = elim b as (λ _. List K) [ true ↦ x ∷ if_kept | false ↦ if_not ]

  turn_same : (b c : Bool) (x : K) (ys zs us vs : List K) → b ≡ c → ys ≡ us → zs ≡ vs → turn b x ys zs ≡ turn c x us vs
  turn_same b c x ys zs us vs e f g = ap (λ t. turn t x ys zs) e ∙ ap (λ ks. turn c x ks zs) f ∙ ap (λ ks. turn c x us ks) g

  pub weak_is_walk : (kept : ℕ) (operands : List (Walker K)) (xs : List K) → weak_walk kept operands xs ≡ walk weak_keeps kept operands xs
  weak_is_walk kept operands [] = refl
  weak_is_walk kept operands (x ∷ xs) =
      turn_same (weak_keeps kept operands x) (weak_keeps kept operands x) x (weak_walk (kept + 1) (map (walked x) operands) xs) (weak_walk kept operands xs)
      (walk weak_keeps (kept + 1) (map (walked x) operands) xs) (walk weak_keeps kept operands xs) refl (weak_is_walk (kept + 1) (map (walked x) operands) xs) (weak_is_walk kept operands xs)

  pub strong_is_walk : (kept : ℕ) (operands : List (Walker K)) (xs : List K) → strong_walk kept operands xs ≡ walk strong_keeps kept operands xs
  strong_is_walk kept operands [] = refl
  strong_is_walk kept operands (x ∷ xs) =
      turn_same (strong_keeps kept operands x) (strong_keeps kept operands x) x (strong_walk (kept + 1) (map (walked x) operands) xs) (strong_walk kept operands xs)
      (walk strong_keeps (kept + 1) (map (walked x) operands) xs) (walk strong_keeps kept operands xs) refl (strong_is_walk (kept + 1) (map (walked x) operands) xs) (strong_is_walk kept operands xs)

  walked_all-snoc : (ks : List K) (x : K) (o : Walker K) → walked_all (ks ++ x ∷ []) o ≡ walked x (walked_all ks o)
  walked_all-snoc [] x o = refl
  walked_all-snoc (k ∷ ks) x o = walked_all-snoc ks x (walked k o)

  all_walked-snoc : (ks : List K) (x : K) (operands : List (Walker K)) → map (walked_all (ks ++ x ∷ [])) operands ≡ map (walked x) (map (walked_all ks) operands)
  all_walked-snoc ks x operands = map_agree (walked_all (ks ++ x ∷ [])) (λ o. walked x (walked_all ks o)) (walked_all-snoc ks x) operands ∙ sym (map-map (walked x) (walked_all ks) operands)

  -- an entity more at the end
  module _ (keeps : ℕ → List (Walker K) → K → Bool) where
    abbrev ended : ℕ → List (Walker K) → K → List K → List K
    ended kept operands x ks = cond (keeps (kept + length ks) (map (walked_all ks) operands) x) (ks ++ x ∷ []) ks

    ended_cons : (kept : ℕ) (operands : List (Walker K)) (x y : K) (ks : List K) → y ∷ ended (kept + 1) (map (walked y) operands) x ks ≡ ended kept operands x (y ∷ ks)
    ended_cons kept operands x y ks =
        ap (λ (n : ℕ). y ∷ cond (keeps n (map (walked_all ks) (map (walked y) operands)) x) (ks ++ x ∷ []) ks) (counts (length ks))
        ∙ ap (λ (os : List (Walker K)). y ∷ cond (keeps (kept + suc (length ks)) os x) (ks ++ x ∷ []) ks) (map-map (walked_all ks) (walked y) operands)
        ∙ by (keeps (kept + suc (length ks)) (map (walked_all (y ∷ ks)) operands) x)
      where
        counts : (n : ℕ) → kept + 1 + n ≡ kept + suc n
        counts n = omega arith

        by : (b : Bool) → y ∷ cond b (ks ++ x ∷ []) ks ≡ cond b (y ∷ (ks ++ x ∷ [])) (y ∷ ks)
        by true = refl
        by false = refl

    pub walk-snoc : (kept : ℕ) (operands : List (Walker K)) (xs : List K) (x : K) → walk keeps kept operands (xs ++ x ∷ []) ≡ ended kept operands x (walk keeps kept operands xs)
    walk-snoc kept operands [] x =
        by (keeps kept operands x)
        ∙ ap (λ (n : ℕ). cond (keeps n operands x) (x ∷ []) []) (plain kept)
        ∙ ap (λ (os : List (Walker K)). cond (keeps (kept + 0) os x) (x ∷ []) []) (sym (map-id operands))
      where
        plain : (n : ℕ) → n ≡ n + 0
        plain n = omega arith

        by : (b : Bool) → turn b x [] [] ≡ cond b (x ∷ []) []
        by true = refl
        by false = refl
    walk-snoc kept operands (y ∷ ys) x =
        by (keeps kept operands y) (walk-snoc (kept + 1) (map (walked y) operands) ys x) (walk-snoc kept operands ys x)
      where
        by : (b : Bool)
            → walk keeps (kept + 1) (map (walked y) operands) (ys ++ x ∷ []) ≡ ended (kept + 1) (map (walked y) operands) x (walk keeps (kept + 1) (map (walked y) operands) ys)
            → walk keeps kept operands (ys ++ x ∷ []) ≡ ended kept operands x (walk keeps kept operands ys)
            → turn b y (walk keeps (kept + 1) (map (walked y) operands) (ys ++ x ∷ [])) (walk keeps kept operands (ys ++ x ∷ []))
            ≡ ended kept operands x (turn b y (walk keeps (kept + 1) (map (walked y) operands) ys) (walk keeps kept operands ys))
        by true if_kept if_not = ap (λ ks. y ∷ ks) if_kept ∙ ended_cons kept operands x y (walk keeps (kept + 1) (map (walked y) operands) ys)
        by false if_kept if_not = if_not

    -- what a walk keeps is allowed, and so is each of its beginnings
    module _ (operands : List (Walker K)) (allow : List K → Bool) (keeping : (ks : List K) (x : K) → allow ks ≡ true → keeps (length ks) (map (walked_all ks) operands) x ≡ true → allow (ks ++ x ∷ []) ≡ true) where
      abbrev from : List K → List K → List K
      from ks xs = walk keeps (length ks) (map (walked_all ks) operands) xs

      nothing_more : (ks : List K) → allow ks ≡ true → allow (ks ++ []) ≡ true
      nothing_more ks allowed = ap allow (append-nil ks) ∙ allowed

      no_items : (n : ℕ) → take {A = K} n [] ≡ []
      no_items zero = refl
      no_items (suc n) = refl

      begins : (ks xs : List K) (n : ℕ) → allow ks ≡ true → allow (ks ++ take n (from ks xs)) ≡ true
      begins ks [] n allowed = ap (λ ys. allow (ks ++ ys)) (no_items n) ∙ nothing_more ks allowed
      begins ks (x ∷ xs) zero allowed = nothing_more ks allowed
      begins ks (x ∷ xs) (suc n) allowed = by (keeps (length ks) (map (walked_all ks) operands) x) refl (begins (ks ++ x ∷ []) xs n) (begins ks xs (suc n) allowed)
        where
          same_rest : from (ks ++ x ∷ []) xs ≡ walk keeps (length ks + 1) (map (walked x) (map (walked_all ks) operands)) xs
          same_rest =
              ap (λ (m : ℕ). walk keeps m (map (walked_all (ks ++ x ∷ [])) operands) xs) (length-append ks (x ∷ []))
              ∙ ap (λ (os : List (Walker K)). walk keeps (length ks + 1) os xs) (all_walked-snoc ks x operands)

          by : (b : Bool) → keeps (length ks) (map (walked_all ks) operands) x ≡ b → (allow (ks ++ x ∷ []) ≡ true → allow ((ks ++ x ∷ []) ++ take n (from (ks ++ x ∷ []) xs)) ≡ true)
              → allow (ks ++ take (suc n) (from ks xs)) ≡ true
              → allow (ks ++ take (suc n) (turn b x (walk keeps (length ks + 1) (map (walked x) (map (walked_all ks) operands)) xs) (from ks xs))) ≡ true
          by true e if_kept if_not =
              ap allow (sym (append_assoc ks (x ∷ []) (take n (walk keeps (length ks + 1) (map (walked x) (map (walked_all ks) operands)) xs))))
              ∙ ap (λ ys. allow ((ks ++ x ∷ []) ++ take n ys)) (sym same_rest) ∙ if_kept (keeping ks x allowed e)
          by false e if_kept if_not = if_not

      pub walk_begins : (xs : List K) (n : ℕ) → allow [] ≡ true → allow (take n (walk keeps 0 operands xs)) ≡ true
      walk_begins xs n allowed = ap (λ (os : List (Walker K)). allow (take n (walk keeps 0 os xs))) (sym (map-id operands)) ∙ begins [] xs n allowed

      pub walk_whole : (xs : List K) → allow [] ≡ true → allow (walk keeps 0 operands xs) ≡ true
      walk_whole xs allowed = ap allow (sym (take_all (length (walk keeps 0 operands xs)) (walk keeps 0 operands xs) (omega arith))) ∙ walk_begins xs (length (walk keeps 0 operands xs)) allowed

  -- ---- the exact walks

  weak_keeping : (operands : List (Walker K)) → AllFresh operands → AllAtMostWhole operands → (ks : List K) (x : K) → all_allow_weakly operands ks ≡ true
      → weak_keeps (length ks) (map (walked_all ks) operands) x ≡ true → all_allow_weakly operands (ks ++ x ∷ []) ≡ true
  weak_keeping operands fresh most ks x allowed kept =
      right_true (some_has operands x) (all_allow_weakly operands (ks ++ x ∷ [])) (sym (weak_keeps_is ks x operands fresh most allowed) ∙ kept)

  strong_keeping : (operands : List (Walker K)) → AllFresh operands → (ks : List K) (x : K) → all_allow_strongly operands ks ≡ true
      → strong_keeps (length ks) (map (walked_all ks) operands) x ≡ true → all_allow_strongly operands (ks ++ x ∷ []) ≡ true
  strong_keeping operands fresh ks x allowed kept =
      right_true (some_has operands x) (all_allow_strongly operands (ks ++ x ∷ [])) (sym (strong_keeps_is ks x operands fresh) ∙ kept)

  pub weak_exact : WeakWalkIsExact K
  weak_exact = record {
    keeps = λ operands xs x fresh most.
        let kept = walk weak_keeps 0 operands xs in
        weak_is_walk 0 operands (xs ++ x ∷ []) ∙ walk-snoc weak_keeps 0 operands xs x
        ∙ ap (λ (n : ℕ). cond (weak_keeps n (map (walked_all kept) operands) x) (kept ++ x ∷ []) kept) (plain (length kept))
        ∙ ap (λ b. cond b (kept ++ x ∷ []) kept)
        (weak_keeps_is kept x operands fresh most (walk_whole weak_keeps operands (all_allow_weakly operands) (weak_keeping operands fresh most) xs (nothing_weak operands)))
        ∙ ap (λ (ks : List K). cond (some_has operands x && all_allow_weakly operands (ks ++ x ∷ [])) (ks ++ x ∷ []) ks) (sym (weak_is_walk 0 operands xs));
    beginnings = λ operands xs n fresh most.
        ap (λ (ks : List K). all_allow_weakly operands (take n ks)) (weak_is_walk 0 operands xs)
        ∙ walk_begins weak_keeps operands (all_allow_weakly operands) (weak_keeping operands fresh most) xs n (nothing_weak operands);
  }
    where
      plain : (n : ℕ) → 0 + n ≡ n
      plain n = omega arith

  pub strong_exact : StrongWalkIsExact K
  strong_exact = record {
    keeps = λ operands xs x fresh.
        let kept = walk strong_keeps 0 operands xs in
        strong_is_walk 0 operands (xs ++ x ∷ []) ∙ walk-snoc strong_keeps 0 operands xs x
        ∙ ap (λ (n : ℕ). cond (strong_keeps n (map (walked_all kept) operands) x) (kept ++ x ∷ []) kept) (plain (length kept))
        ∙ ap (λ b. cond b (kept ++ x ∷ []) kept) (strong_keeps_is kept x operands fresh)
        ∙ ap (λ (ks : List K). cond (some_has operands x && all_allow_strongly operands (ks ++ x ∷ [])) (ks ++ x ∷ []) ks) (sym (strong_is_walk 0 operands xs));
    beginnings = λ operands xs n fresh.
        ap (λ (ks : List K). all_allow_strongly operands (take n ks)) (strong_is_walk 0 operands xs)
        ∙ walk_begins strong_keeps operands (all_allow_strongly operands) (strong_keeping operands fresh) xs n (nothing_strong operands);
  }
    where
      plain : (n : ℕ) → 0 + n ≡ n
      plain n = omega arith

  -- ---- walks that are filters

  -- once an entity is kept the operands have what they had
  some_has-walked : (x y : K) (operands : List (Walker K)) → some_has (map (walked x) operands) y ≡ some_has operands y
  some_has-walked x y [] = refl
  some_has-walked x y (o ∷ operands) = ap (λ (h : K → Bool). h y || some_has (map (walked x) operands) y) (has_walked x o) ∙ ap (λ b. o.has y || b) (some_has-walked x y operands)

  all_have-walked : (x y : K) (operands : List (Walker K)) → all_have (map (walked x) operands) y ≡ all_have operands y
  all_have-walked x y [] = refl
  all_have-walked x y (o ∷ operands) = ap (λ (h : K → Bool). h y && all_have (map (walked x) operands) y) (has_walked x o) ∙ ap (λ b. o.has y && b) (all_have-walked x y operands)

  -- a walk whose test is a fixed one, as long as what it stands on lasts
  module _ (keeps : ℕ → List (Walker K) → K → Bool) (lasts : List (Walker K) → Type 0) (test : List (Walker K) → K → Bool)
      (same : (kept : ℕ) (operands : List (Walker K)) (x : K) → lasts operands → keeps kept operands x ≡ test operands x)
      (on : (operands : List (Walker K)) (x : K) → lasts operands → lasts (map (walked x) operands))
      (fixed : (x y : K) (operands : List (Walker K)) → test (map (walked x) operands) y ≡ test operands y) where
    pub walk-filter : (kept : ℕ) (operands : List (Walker K)) (xs : List K) → lasts operands → walk keeps kept operands xs ≡ filter (test operands) xs
    walk-filter kept operands [] holds = refl
    walk-filter kept operands (x ∷ xs) holds =
        ap (λ b. turn b x (walk keeps (kept + 1) (map (walked x) operands) xs) (walk keeps kept operands xs)) (same kept operands x holds)
        ∙ by (test operands x)
        (walk-filter (kept + 1) (map (walked x) operands) xs (on operands x holds) ∙ filter_agree (test (map (walked x) operands)) (test operands) (λ y. fixed x y operands) xs)
        (walk-filter kept operands xs holds)
      where
        by : (b : Bool) → walk keeps (kept + 1) (map (walked x) operands) xs ≡ filter (test operands) xs → walk keeps kept operands xs ≡ filter (test operands) xs
            → turn b x (walk keeps (kept + 1) (map (walked x) operands) xs) (walk keeps kept operands xs) ≡ cond b (x ∷ filter (test operands) xs) (filter (test operands) xs)
        by true e f = ap (λ ks. x ∷ ks) e
        by false e f = f

  -- a walk that keeps only what some operand has
  module _ (keeps : ℕ → List (Walker K) → K → Bool) (only : (kept : ℕ) (operands : List (Walker K)) (x : K) → some_has operands x ≡ false → keeps kept operands x ≡ false) where
    pub walk-passes : (kept : ℕ) (operands : List (Walker K)) (xs : List K) → walk keeps kept operands (filter (some_has operands) xs) ≡ walk keeps kept operands xs
    walk-passes kept operands [] = refl
    walk-passes kept operands (x ∷ xs) =
        by (some_has operands x) refl
        (ap (walk keeps (kept + 1) (map (walked x) operands)) (filter_agree (some_has operands) (some_has (map (walked x) operands)) (λ y. sym (some_has-walked x y operands)) xs)
        ∙ walk-passes (kept + 1) (map (walked x) operands) xs)
        (walk-passes kept operands xs)
      where
        by : (b : Bool) → some_has operands x ≡ b
            → walk keeps (kept + 1) (map (walked x) operands) (filter (some_has operands) xs) ≡ walk keeps (kept + 1) (map (walked x) operands) xs
            → walk keeps kept operands (filter (some_has operands) xs) ≡ walk keeps kept operands xs
            → walk keeps kept operands (cond b (x ∷ filter (some_has operands) xs) (filter (some_has operands) xs)) ≡ walk keeps kept operands (x ∷ xs)
        by true e f h =
            turn_same (keeps kept operands x) (keeps kept operands x) x (walk keeps (kept + 1) (map (walked x) operands) (filter (some_has operands) xs)) (walk keeps kept operands (filter (some_has operands) xs))
            (walk keeps (kept + 1) (map (walked x) operands) xs) (walk keeps kept operands xs) refl f h
        by false e f h = h ∙ sym (ap (λ b. turn b x (walk keeps (kept + 1) (map (walked x) operands) xs) (walk keeps kept operands xs)) (only kept operands x e))

  pub walks_pass_others : WalksPassOthers K
  walks_pass_others = record {
    weak = λ kept operands xs.
        weak_is_walk kept operands (filter (some_has operands) xs)
        ∙ walk-passes weak_keeps (λ k os x none. ap (λ b. b && list_all (λ o. o.has x || lets_pass k o.quota o.own) os) none) kept operands xs
        ∙ sym (weak_is_walk kept operands xs);
    strong = λ kept operands xs.
        strong_is_walk kept operands (filter (some_has operands) xs)
        ∙ walk-passes strong_keeps (λ k os x none. ap (λ b. b && list_all (λ o. has_share (k + 1) o.quota (cond (o.has x) (o.own + 1) o.own)) os) none) kept operands xs
        ∙ sym (strong_is_walk kept operands xs);
  }

  -- ---- without marks

  abbrev all_bare : List (Walker K) → Bool
  all_bare operands = list_all (λ o. is_bare o.quota) operands

  abbrev some_weighted : List (Walker K) → Bool
  some_weighted operands = list_any (λ o. is_weighted o.quota) operands

  quota_cases : (P : Quota → Type 0) (x : K) (o : Walker K) → P o.quota → P (spent o.quota) → P (walked x o).quota
  quota_cases P x o same less =
      elim (o.has x) as (λ b. P (elim b as (λ _. Walker K) [ true ↦ record o { own = o.own + 1 } | false ↦ record o { quota = spent o.quota } ]).quota) [ true ↦ same | false ↦ less ]

  bare_lasts : (operands : List (Walker K)) (x : K) → all_bare operands ≡ true → all_bare (map (walked x) operands) ≡ true
  bare_lasts [] x bare = refl
  bare_lasts (o ∷ operands) x bare =
      let both = both_true (is_bare o.quota) (all_bare operands) bare in
      ap (λ b. b && all_bare (map (walked x) operands)) (quota_cases (λ q. is_bare q ≡ true) x o both.0 (spent_bare o.quota both.0)) ∙ bare_lasts operands x both.1

  weak_bare : (kept : ℕ) (operands : List (Walker K)) (x : K) → all_bare operands ≡ true → list_all (λ o. o.has x || lets_pass kept o.quota o.own) operands ≡ all_have operands x
  weak_bare kept [] x bare = refl
  weak_bare kept (o ∷ operands) x bare =
      let both = both_true (is_bare o.quota) (all_bare operands) bare in
      ap (λ b. (o.has x || b) && list_all (λ p. p.has x || lets_pass kept p.quota p.own) operands) (bare_passes kept o.quota o.own both.0)
      ∙ ap (λ b. b && list_all (λ p. p.has x || lets_pass kept p.quota p.own) operands) (or_false (o.has x))
      ∙ ap (λ b. o.has x && b) (weak_bare kept operands x both.1)

  abbrev IsBareSome : List (Walker K) → Type 0
  IsBareSome [] = ⊥
  IsBareSome (o ∷ operands) = all_bare (o ∷ operands) ≡ true

  pub weak_is_and : WeakWalkIsAnd K
  weak_is_and = record {
    filters = λ kept o operands xs bare.
        weak_is_walk kept (o ∷ operands) xs
        ∙ walk-filter weak_keeps IsBareSome all_have
        (λ k os x. same k os x) (λ os x. on os x) (λ x y os. all_have-walked x y os) kept (o ∷ operands) xs bare;
  }
    where
      some_all : (os : List (Walker K)) (x : K) (a : Bool) → ((a || some_has os x) && (a && all_have os x)) ≡ (a && all_have os x)
      some_all os x true = refl
      some_all os x false = and_false (some_has os x)

      same : (k : ℕ) (os : List (Walker K)) (x : K) → IsBareSome os → weak_keeps k os x ≡ all_have os x
      same k [] x bare = absurd bare
      same k (o ∷ os) x bare = ap (λ b. some_has (o ∷ os) x && b) (weak_bare k (o ∷ os) x bare) ∙ some_all os x (o.has x)

      on : (os : List (Walker K)) (x : K) → IsBareSome os → IsBareSome (map (walked x) os)
      on [] x bare = bare
      on (o ∷ os) x bare = bare_lasts (o ∷ os) x bare

  weightless_lasts : (operands : List (Walker K)) (x : K) → some_weighted operands ≡ false → some_weighted (map (walked x) operands) ≡ false
  weightless_lasts [] x none = refl
  weightless_lasts (o ∷ operands) x none =
      let both = both_false (is_weighted o.quota) (some_weighted operands) none in
      ap (λ b. b || some_weighted (map (walked x) operands)) (quota_cases (λ q. is_weighted q ≡ false) x o both.0 (spent_weightless o.quota both.0)) ∙ weightless_lasts operands x both.1

  strong_weightless : (kept : ℕ) (operands : List (Walker K)) (x : K) → some_weighted operands ≡ false
      → list_all (λ o. has_share (kept + 1) o.quota (cond (o.has x) (o.own + 1) o.own)) operands ≡ true
  strong_weightless kept [] x none = refl
  strong_weightless kept (o ∷ operands) x none =
      let both = both_false (is_weighted o.quota) (some_weighted operands) none in
      ap (λ b. b && list_all (λ p. has_share (kept + 1) p.quota (cond (p.has x) (p.own + 1) p.own)) operands) (weightless_share (kept + 1) o.quota (cond (o.has x) (o.own + 1) o.own) both.0)
      ∙ strong_weightless kept operands x both.1

  pub strong_is_or : StrongWalkIsOr K
  strong_is_or = record {
    filters = λ kept operands xs none.
        strong_is_walk kept operands xs
        ∙ walk-filter strong_keeps (λ os. some_weighted os ≡ false) some_has
        (λ k os x h. ap (λ b. some_has os x && b) (strong_weightless k os x h) ∙ and_true (some_has os x)) weightless_lasts (λ x y os. some_has-walked x y os) kept operands xs none;
  }

  -- ---- counts alone

  abbrev bare_own : Walker K → Walker K
  bare_own o = recounted 0 o

  forgets_walked : (x : K) (o : Walker K) → bare_own (walked x o) ≡ bare_own (walked x (bare_own o))
  forgets_walked x o =
      elim (o.has x) as (λ b. bare_own (elim b as (λ _. Walker K) [ true ↦ record o { own = o.own + 1 } | false ↦ record o { quota = spent o.quota } ])
      ≡ bare_own (elim b as (λ _. Walker K) [ true ↦ record (bare_own o) { own = (bare_own o).own + 1 } | false ↦ record (bare_own o) { quota = spent o.quota } ])) [ true ↦ refl | false ↦ refl ]

  all_forget : (x : K) (operands : List (Walker K)) → map bare_own (map (walked x) operands) ≡ map bare_own (map (walked x) (map bare_own operands))
  all_forget x [] = refl
  all_forget x (o ∷ operands) =
      ap (λ (p : Walker K). p ∷ map bare_own (map (walked x) operands)) (forgets_walked x o) ∙ ap (λ (ps : List (Walker K)). bare_own (walked x (bare_own o)) ∷ ps) (all_forget x operands)

  some_has-forget : (operands : List (Walker K)) (x : K) → some_has (map bare_own operands) x ≡ some_has operands x
  some_has-forget [] x = refl
  some_has-forget (o ∷ operands) x = ap (λ b. o.has x || b) (some_has-forget operands x)

  passes_forget : (kept other : ℕ) (operands : List (Walker K)) (x : K) → some_weighted operands ≡ false
      → list_all (λ o. o.has x || lets_pass kept o.quota o.own) operands ≡ list_all (λ o. o.has x || lets_pass other o.quota o.own) (map bare_own operands)
  passes_forget kept other [] x none = refl
  passes_forget kept other (o ∷ operands) x none =
      let both = both_false (is_weighted o.quota) (some_weighted operands) none in
      ap (λ b. (o.has x || b) && list_all (λ p. p.has x || lets_pass kept p.quota p.own) operands) (weightless_passes kept other o.quota o.own 0 both.0)
      ∙ ap (λ b. (o.has x || lets_pass other o.quota 0) && b) (passes_forget kept other operands x both.1)

  weightless_forget : (operands : List (Walker K)) → some_weighted (map bare_own operands) ≡ some_weighted operands
  weightless_forget [] = refl
  weightless_forget (o ∷ operands) = ap (λ b. is_weighted o.quota || b) (weightless_forget operands)

  forgotten : (kept other : ℕ) (operands : List (Walker K)) (xs : List K) → some_weighted operands ≡ false → walk weak_keeps kept operands xs ≡ walk weak_keeps other (map bare_own operands) xs
  forgotten kept other operands [] none = refl
  forgotten kept other operands (x ∷ xs) none =
      turn_same (weak_keeps kept operands x) (weak_keeps other (map bare_own operands) x) x (walk weak_keeps (kept + 1) (map (walked x) operands) xs) (walk weak_keeps kept operands xs)
      (walk weak_keeps (other + 1) (map (walked x) (map bare_own operands)) xs) (walk weak_keeps other (map bare_own operands) xs)
      (ap (λ b. some_has operands x && b) (passes_forget kept other operands x none)
      ∙ ap (λ b. b && list_all (λ o. o.has x || lets_pass other o.quota o.own) (map bare_own operands)) (sym (some_has-forget operands x)))
      (forgotten (kept + 1) (other + 1) (map (walked x) operands) xs (weightless_lasts operands x none)
      ∙ ap (λ (os : List (Walker K)). walk weak_keeps (other + 1) os xs) (all_forget x operands)
      ∙ sym (forgotten (other + 1) (other + 1) (map (walked x) (map bare_own operands)) xs (weightless_lasts (map bare_own operands) x (weightless_forget operands ∙ none))))
      (forgotten kept other operands xs none)

  pub weak_by_counts : WeakWalkGoesByCounts K
  weak_by_counts = record {
    same = λ kept other own operands xs none.
        weak_is_walk kept operands xs ∙ forgotten kept other operands xs none
        ∙ ap (λ (os : List (Walker K)). walk weak_keeps other os xs) (sym (map-map bare_own (recounted own) operands))
        ∙ sym (forgotten other other (map (recounted own) operands) xs (recount own operands ∙ none))
        ∙ sym (weak_is_walk other (map (recounted own) operands) xs);
  }
    where
      recount : (own : ℕ) (os : List (Walker K)) → some_weighted (map (recounted own) os) ≡ some_weighted os
      recount own [] = refl
      recount own (o ∷ os) = ap (λ b. is_weighted o.quota || b) (recount own os)
