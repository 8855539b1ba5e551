-- Walks along what several operands have left.
use Rattle.std.proofs.Common.{◌≡◌, ℕ, ◌+◌, Bool, true, false, ◌&&◌, ◌||◌, cond, List, [], ◌∷◌, Some, refl, sym, ◌∙◌, ap, subst, map, slice_get, drop}
use Rattle.std.specs.List.{list_any, list_all}
use Rattle.std.specs.Ordering.{is_eq}
use Rattle.uni_base.specs.declared.entity.DocKey.{DocKey}
use Rattle.uni_base.specs.RankOrder.{doc_cmp}
use Rattle.uni_base.specs.Cursors.{IsRanked}
use Rattle.uni_base.specs.KeySets.{has_key, holders, united, KeepsKeys}
use Rattle.uni_base.specs.Walks.{Quota, Walker, spent, walked, lets_pass, has_share}
use Rattle.uni_base.proofs.RankedLemmas.{IsBeforeAll, IsBeforeAll-head, IsBeforeAll-tail, IsBeforeAll-cons, is_eq_self}
use Rattle.uni_base.proofs.WalkLaws.{walk}
use Rattle.weak_strong.specs.declared.rule.Rule.{Rule}
use Rattle.weak_strong.specs.declared.rule.Rule.TheVariants.{Weak, Strong}
use Rattle.weak_strong.specs.Rules.{keeps_by, walkers}

-- operands that agree on an entity, and on all that the walk goes by
abbrev pub AgreeAt : DocKey → List (Walker DocKey) → List (Walker DocKey) → Type 0
AgreeAt x [] [] = Unit {0}
AgreeAt x [] (u ∷ us) = ⊥
AgreeAt x (w ∷ ws) [] = ⊥
AgreeAt x (w ∷ ws) (u ∷ us) = (w.has x ≡ u.has x) × (w.quota ≡ u.quota) × (w.own ≡ u.own) × AgreeAt x ws us

list_any_agree : (x : DocKey) (ws us : List (Walker DocKey)) → AgreeAt x ws us → list_any (λ o. o.has x) ws ≡ list_any (λ o. o.has x) us
list_any_agree x [] [] agree = refl
list_any_agree x [] (u ∷ us) agree = absurd agree
list_any_agree x (w ∷ ws) [] agree = absurd agree
list_any_agree x (w ∷ ws) (u ∷ us) agree = ap (λ b. b || list_any (λ o. o.has x) ws) agree.0 ∙ ap (λ b. u.has x || b) (list_any_agree x ws us agree.3)

weak_all_agree : (kept : ℕ) (x : DocKey) (ws us : List (Walker DocKey)) → AgreeAt x ws us
    → list_all (λ o. o.has x || lets_pass kept o.quota o.own) ws ≡ list_all (λ o. o.has x || lets_pass kept o.quota o.own) us
weak_all_agree kept x [] [] agree = refl
weak_all_agree kept x [] (u ∷ us) agree = absurd agree
weak_all_agree kept x (w ∷ ws) [] agree = absurd agree
weak_all_agree kept x (w ∷ ws) (u ∷ us) agree =
    ap (λ b. (b || lets_pass kept w.quota w.own) && list_all (λ o. o.has x || lets_pass kept o.quota o.own) ws) agree.0
    ∙ ap (λ q. (u.has x || lets_pass kept q w.own) && list_all (λ o. o.has x || lets_pass kept o.quota o.own) ws) agree.1
    ∙ ap (λ n. (u.has x || lets_pass kept u.quota n) && list_all (λ o. o.has x || lets_pass kept o.quota o.own) ws) agree.2
    ∙ ap (λ b. (u.has x || lets_pass kept u.quota u.own) && b) (weak_all_agree kept x ws us agree.3)

strong_all_agree : (kept : ℕ) (x : DocKey) (ws us : List (Walker DocKey)) → AgreeAt x ws us
    → list_all (λ o. has_share (kept + 1) o.quota (cond (o.has x) (o.own + 1) o.own)) ws ≡ list_all (λ o. has_share (kept + 1) o.quota (cond (o.has x) (o.own + 1) o.own)) us
strong_all_agree kept x [] [] agree = refl
strong_all_agree kept x [] (u ∷ us) agree = absurd agree
strong_all_agree kept x (w ∷ ws) [] agree = absurd agree
strong_all_agree kept x (w ∷ ws) (u ∷ us) agree =
    ap (λ b. has_share (kept + 1) w.quota (cond b (w.own + 1) w.own) && list_all (λ o. has_share (kept + 1) o.quota (cond (o.has x) (o.own + 1) o.own)) ws) agree.0
    ∙ ap (λ q. has_share (kept + 1) q (cond (u.has x) (w.own + 1) w.own) && list_all (λ o. has_share (kept + 1) o.quota (cond (o.has x) (o.own + 1) o.own)) ws) agree.1
    ∙ ap (λ n. has_share (kept + 1) u.quota (cond (u.has x) (n + 1) n) && list_all (λ o. has_share (kept + 1) o.quota (cond (o.has x) (o.own + 1) o.own)) ws) agree.2
    ∙ ap (λ b. has_share (kept + 1) u.quota (cond (u.has x) (u.own + 1) u.own) && b) (strong_all_agree kept x ws us agree.3)

and_same : (a b c e : Bool) → a ≡ c → b ≡ e → (a && b) ≡ (c && e)
and_same a b c e p q = ap (λ t. t && b) p ∙ ap (λ t. c && t) q

pub keeps_agree : (rule : Rule) (kept : ℕ) (x : DocKey) (ws us : List (Walker DocKey)) → AgreeAt x ws us → keeps_by rule kept ws x ≡ keeps_by rule kept us x
keeps_agree Weak kept x ws us agree =
    and_same (list_any (λ o. o.has x) ws) (list_all (λ o. o.has x || lets_pass kept o.quota o.own) ws) (list_any (λ o. o.has x) us) (list_all (λ o. o.has x || lets_pass kept o.quota o.own) us)
    (list_any_agree x ws us agree) (weak_all_agree kept x ws us agree)
keeps_agree Strong kept x ws us agree =
    and_same (list_any (λ o. o.has x) ws) (list_all (λ o. has_share (kept + 1) o.quota (cond (o.has x) (o.own + 1) o.own)) ws)
    (list_any (λ o. o.has x) us) (list_all (λ o. has_share (kept + 1) o.quota (cond (o.has x) (o.own + 1) o.own)) us) (list_any_agree x ws us agree) (strong_all_agree kept x ws us agree)

-- they still agree once an entity is kept on which they agree
agree_walked : (x y : DocKey) (ws us : List (Walker DocKey)) → AgreeAt x ws us → AgreeAt y ws us → AgreeAt y (map (walked x) ws) (map (walked x) us)
agree_walked x y [] [] at also = tt
agree_walked x y [] (u ∷ us) at also = absurd at
agree_walked x y (w ∷ ws) [] at also = absurd at
agree_walked x y (w ∷ ws) (u ∷ us) at also = by (w.has x) (u.has x) at.0 (agree_walked x y ws us at.3 also.3)
  where
    by : (a b : Bool) → a ≡ b → AgreeAt y (map (walked x) ws) (map (walked x) us)
        → AgreeAt y ((elim a as (λ _. Walker DocKey) [ true ↦ record w { own = w.own + 1 } | false ↦ record w { quota = spent w.quota } ]) ∷ map (walked x) ws)
        ((elim b as (λ _. Walker DocKey) [ true ↦ record u { own = u.own + 1 } | false ↦ record u { quota = spent u.quota } ]) ∷ map (walked x) us)
    by true true e rest = (also.0, also.1, ap (λ n. n + 1) also.2, rest)
    by true false e rest = absurd cc
    by false true e rest = absurd cc
    by false false e rest = (also.0, ap spent also.1, also.2, rest)

-- a walk goes by what operands have of the entities that it walks along
pub walk_agree : (rule : Rule) (kept : ℕ) (ws us : List (Walker DocKey)) (xs : List DocKey) → ((x : DocKey) → has_key xs x ≡ true → AgreeAt x ws us)
    → walk (keeps_by rule) kept ws xs ≡ walk (keeps_by rule) kept us xs
walk_agree rule kept ws us [] agree = refl
walk_agree rule kept ws us (x ∷ xs) agree =
    let here = agree x (ap (λ b. b || has_key xs x) (is_eq_self x)) in
    let rest : (y : DocKey) → has_key xs y ≡ true → AgreeAt y ws us = λ y has. agree y (ap (λ b. is_eq (doc_cmp x y) || b) has ∙ or_true (is_eq (doc_cmp x y))) in
    ap (λ (b : Bool). elim b as (λ _. List DocKey) [ true ↦ x ∷ walk (keeps_by rule) (kept + 1) (map (walked x) ws) xs | false ↦ walk (keeps_by rule) kept ws xs ]) (keeps_agree rule kept x ws us here)
    ∙ by (keeps_by rule kept us x) (walk_agree rule (kept + 1) (map (walked x) ws) (map (walked x) us) xs (λ y has. agree_walked x y ws us here (rest y has))) (walk_agree rule kept ws us xs rest)
  where
    or_true : (b : Bool) → (b || true) ≡ true
    or_true true = refl
    or_true false = refl

    by : (b : Bool) → walk (keeps_by rule) (kept + 1) (map (walked x) ws) xs ≡ walk (keeps_by rule) (kept + 1) (map (walked x) us) xs → walk (keeps_by rule) kept ws xs ≡ walk (keeps_by rule) kept us xs
        → (elim b as (λ _. List DocKey) [ true ↦ x ∷ walk (keeps_by rule) (kept + 1) (map (walked x) ws) xs | false ↦ walk (keeps_by rule) kept ws xs ])
        ≡ (elim b as (λ _. List DocKey) [ true ↦ x ∷ walk (keeps_by rule) (kept + 1) (map (walked x) us) xs | false ↦ walk (keeps_by rule) kept us xs ])
    by true e f = ap (λ (ks : List DocKey). x ∷ ks) e
    by false e f = f

-- operands that have the same keys agree
pub walkers_agree : (x : DocKey) (lists others : List (List DocKey)) (counters : List (Quota × ℕ)) → holders x lists ≡ holders x others → AgreeAt x (walkers lists counters) (walkers others counters)
walkers_agree x [] [] counters e = tt
walkers_agree x [] (os ∷ others) counters e = absurd cc
walkers_agree x (ks ∷ lists) [] counters e = absurd cc
walkers_agree x (ks ∷ lists) (os ∷ others) [] e = tt
walkers_agree x (ks ∷ lists) (os ∷ others) (c ∷ counters) e =
    let head : has_key ks x ≡ has_key os x = cc in
    let rest : holders x lists ≡ holders x others = cc in
    (head, refl, refl, walkers_agree x lists others counters rest)

-- the walk goes on alike over what operands keep
pub walk_kept : (rule : Rule) (kept : ℕ) (counters : List (Quota × ℕ)) (olds news : List (List DocKey)) → KeepsKeys (united news) olds news
    → walk (keeps_by rule) kept (walkers news counters) (united news) ≡ walk (keeps_by rule) kept (walkers olds counters) (united news)
walk_kept rule kept counters olds news keeps =
    walk_agree rule kept (walkers news counters) (walkers olds counters) (united news) (λ x has. walkers_agree x news olds counters (keeps.holders_stay x has))

-- ---- a walk keeps some of the entities, in their order

module _ (keeps : ℕ → List (Walker DocKey) → DocKey → Bool) where
  pub IsBeforeAll-walk : (a : DocKey) (kept : ℕ) (ws : List (Walker DocKey)) (xs : List DocKey) → IsBeforeAll a xs → IsBeforeAll a (walk keeps kept ws xs)
  IsBeforeAll-walk a kept ws [] all = all
  IsBeforeAll-walk a kept ws (x ∷ xs) all =
      elim (keeps kept ws x) as (λ b. IsBeforeAll a (elim b as (λ _. List DocKey) [ true ↦ x ∷ walk keeps (kept + 1) (map (walked x) ws) xs | false ↦ walk keeps kept ws xs ])) [
        | true ↦ IsBeforeAll-cons a x (walk keeps (kept + 1) (map (walked x) ws) xs) (IsBeforeAll-head a x xs all) (IsBeforeAll-walk a (kept + 1) (map (walked x) ws) xs (IsBeforeAll-tail a x xs all))
        | false ↦ IsBeforeAll-walk a kept ws xs (IsBeforeAll-tail a x xs all)
      ]

  pub IsRanked-walk : (kept : ℕ) (ws : List (Walker DocKey)) (xs : List DocKey) → IsRanked xs → IsRanked (walk keeps kept ws xs)
  IsRanked-walk kept ws [] ranked = tt
  IsRanked-walk kept ws (x ∷ xs) ranked =
      elim (keeps kept ws x) as (λ b. IsRanked (elim b as (λ _. List DocKey) [ true ↦ x ∷ walk keeps (kept + 1) (map (walked x) ws) xs | false ↦ walk keeps kept ws xs ])) [
        | true ↦ (IsBeforeAll-walk x (kept + 1) (map (walked x) ws) xs ranked.0, IsRanked-walk (kept + 1) (map (walked x) ws) xs ranked.1)
        | false ↦ IsRanked-walk kept ws xs ranked.1
      ]

  pub has_key-walk : (kept : ℕ) (ws : List (Walker DocKey)) (xs : List DocKey) (k : DocKey) → has_key (walk keeps kept ws xs) k ≡ true → has_key xs k ≡ true
  has_key-walk kept ws [] k has = has
  has_key-walk kept ws (x ∷ xs) k has = by (keeps kept ws x) has (has_key-walk (kept + 1) (map (walked x) ws) xs k) (has_key-walk kept ws xs k)
    where
      or_more : (a b c : Bool) → (a || b) ≡ true → (b ≡ true → c ≡ true) → (a || c) ≡ true
      or_more true b c e f = refl
      or_more false b c e f = f e

      or_right : (a c : Bool) → c ≡ true → (a || c) ≡ true
      or_right true c e = refl
      or_right false c e = e

      by : (b : Bool) → has_key (elim b as (λ _. List DocKey) [ true ↦ x ∷ walk keeps (kept + 1) (map (walked x) ws) xs | false ↦ walk keeps kept ws xs ]) k ≡ true
          → (has_key (walk keeps (kept + 1) (map (walked x) ws) xs) k ≡ true → has_key xs k ≡ true) → (has_key (walk keeps kept ws xs) k ≡ true → has_key xs k ≡ true) → has_key (x ∷ xs) k ≡ true
      by true e f g = or_more (is_eq (doc_cmp x k)) (has_key (walk keeps (kept + 1) (map (walked x) ws) xs) k) (has_key xs k) e f
      by false e f g = or_right (is_eq (doc_cmp x k)) (has_key xs k) (g e)

  -- the first entity is kept, or passed
  pub walk_keeps : (kept : ℕ) (ws : List (Walker DocKey)) (xs : List DocKey) (k : DocKey) → slice_get xs 0 ≡ Some k → keeps kept ws k ≡ true
      → walk keeps kept ws xs ≡ k ∷ walk keeps (kept + 1) (map (walked k) ws) (drop 1 xs)
  walk_keeps kept ws [] k first is = cc
  walk_keeps kept ws (x ∷ xs) k first is =
      let s : x ≡ k = cc in
      subst (λ (y : DocKey). walk keeps kept ws (y ∷ xs) ≡ k ∷ walk keeps (kept + 1) (map (walked k) ws) xs) (sym s)
      (ap (λ (b : Bool). elim b as (λ _. List DocKey) [ true ↦ k ∷ walk keeps (kept + 1) (map (walked k) ws) xs | false ↦ walk keeps kept ws xs ]) is)

  pub walk_refuses : (kept : ℕ) (ws : List (Walker DocKey)) (xs : List DocKey) (k : DocKey) → slice_get xs 0 ≡ Some k → keeps kept ws k ≡ false → walk keeps kept ws xs ≡ walk keeps kept ws (drop 1 xs)
  walk_refuses kept ws [] k first is = cc
  walk_refuses kept ws (x ∷ xs) k first is =
      let s : x ≡ k = cc in
      subst (λ (y : DocKey). walk keeps kept ws (y ∷ xs) ≡ walk keeps kept ws xs) (sym s)
      (ap (λ (b : Bool). elim b as (λ _. List DocKey) [ true ↦ k ∷ walk keeps (kept + 1) (map (walked k) ws) xs | false ↦ walk keeps kept ws xs ]) is)
