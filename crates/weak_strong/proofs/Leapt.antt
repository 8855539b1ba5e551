-- A walk that keeps exactly what all operands have.
use Rattle.std.proofs.Common.{◌≡◌, ℕ, ◌+◌, ◌<◌, ◌≤◌, Bool, true, false, not, ◌&&◌, ◌||◌, List, [], ◌∷◌, Option, None, Some, refl, sym, ◌∙◌, ap, subst, arith, length, get_or, map, slice_get, take}
use Rattle.std.proofs.lemmas.List.{get_or-map, length-map, take_all}
use Rattle.std.proofs.lemmas.List.Elements.{filter_agree}
use Rattle.std.proofs.lemmas.List.Folds.{list_all_at, list_all_more}
use Rattle.weak_strong.specs.declared.rule.Counter.{Counter}
use Rattle.weak_strong.specs.Marks.{counter_of, quota_of}
use Rattle.std.specs.List.{list_all}
use Rattle.uni_base.specs.declared.entity.DocKey.{DocKey}
use Rattle.uni_base.specs.Cursors.{is_before, keys_from}
use Rattle.uni_base.specs.KeySets.{has_key, united, KeepsKeys}
use Rattle.uni_base.specs.Walks.{Quota, Walker, lets_pass}
use Rattle.uni_base.specs.WalkLaws.{all_have as walkers_have, is_bare}
use Rattle.uni_base.proofs.RankedLemmas.{and_false, has_key-keys_from, IsRanked-keys_from, same_from_keys}
use Rattle.uni_base.proofs.UnitedLemmas.{IsRanked-united, KeepsKeys_trans}
use Rattle.uni_base.proofs.WalkLaws.{weak_is_and}
use Rattle.set_cursors.specs.Filters.{common}
use Rattle.set_cursors.proofs.Shared.{all_have, all_have_same, common_all, has_key-common, IsRanked-common}
use Rattle.weak_strong.specs.declared.rule.Rule.{Rule}
use Rattle.weak_strong.specs.declared.rule.Rule.TheVariants.{Weak, Strong}
use Rattle.weak_strong.specs.Rules.{needs_all, walkers}
use Rattle.weak_strong.specs.Walking.{HasSettled, IsCounted, IsWalking, walk_of}
use Rattle.weak_strong.proofs.Settled.{walk_of-united}
use Rattle.set_cursors.specs.Passed.{HavePassed}
use Rattle.weak_strong.proofs.Passing.{passed_trans}
use Rattle.weak_strong.proofs.Whole.{Whole, keys_of, whole_keys}
use Rattle.weak_strong.proofs.Counting.{all_allow, first_among, keeps_is}

walkers_all : (k : DocKey) (lists : List (List DocKey)) (counters : List (Quota × ℕ)) → length counters ≡ length lists → walkers_have (walkers lists counters) k ≡ all_have k lists
walkers_all k [] counters count = refl
walkers_all k (keys ∷ lists) [] count = absurd (omega arith)
walkers_all k (keys ∷ lists) (c ∷ counters) count = ap (λ b. has_key keys k && b) (walkers_all k lists counters (omega arith))

walkers_bare : (lists : List (List DocKey)) (counters : List (Quota × ℕ)) → length counters ≡ length lists
    → list_all (λ (o : Walker DocKey). is_bare o.quota) (walkers lists counters) ≡ list_all (λ (c : Quota × ℕ). is_bare c.0) counters
walkers_bare [] [] count = refl
walkers_bare [] (c ∷ counters) count = absurd (omega arith)
walkers_bare (keys ∷ lists) [] count = absurd (omega arith)
walkers_bare (keys ∷ lists) (c ∷ counters) count = ap (λ b. is_bare c.0 && b) (walkers_bare lists counters (omega arith))

-- its keys are the common keys of its operands
pub walk_of-common : (rule : Rule) (lists : List (List DocKey)) (counters : List (Quota × ℕ)) (kept : ℕ) → needs_all rule counters ≡ true → length counters ≡ length lists → walk_of rule lists counters kept ≡ common lists
walk_of-common Strong lists counters kept needs count = absurd cc
walk_of-common Weak [] counters kept needs count = refl
walk_of-common Weak (keys ∷ lists) [] kept needs count = absurd (omega arith)
walk_of-common Weak (keys ∷ lists) (c ∷ counters) kept needs count =
    let o : Walker DocKey = record { has = has_key keys; quota = c.0; own = c.1 } in
    weak_is_and.filters kept o (walkers lists counters) (united (keys ∷ lists)) (walkers_bare (keys ∷ lists) (c ∷ counters) count ∙ needs)
    ∙ filter_agree (walkers_have (o ∷ walkers lists counters)) (λ k. all_have k (keys ∷ lists)) (λ k. walkers_all k (keys ∷ lists) (c ∷ counters) count) (united (keys ∷ lists))

-- what all have is kept
all_kept : (rule : Rule) (kept : ℕ) (k : DocKey) (lists : List (List DocKey)) (counters : List (Quota × ℕ)) → needs_all rule counters ≡ true → all_have k lists ≡ true → all_allow rule kept k lists counters ≡ true
all_kept Strong kept k lists counters needs all = absurd cc
all_kept Weak kept k lists counters needs all = by lists counters all
  where
    left : (a b : Bool) → (a && b) ≡ true → (a ≡ true) × (b ≡ true)
    left true b e = (refl, e)
    left false b e = absurd cc

    by : (lists : List (List DocKey)) (counters : List (Quota × ℕ)) → all_have k lists ≡ true → all_allow Weak kept k lists counters ≡ true
    by [] counters all = refl
    by (keys ∷ lists) [] all = refl
    by (keys ∷ lists) (c ∷ counters) all =
        let both = left (has_key keys k) (all_have k lists) all in
        ap (λ b. (b || lets_pass kept c.0 c.1) && all_allow Weak kept k lists counters) both.0 ∙ by lists counters both.1

-- ---- the candidates have leapt

module _ (rule : Rule) (olds news : List (List DocKey)) (counters : List (Quota × ℕ)) (kept : ℕ) (at : Option DocKey) (needs : needs_all rule counters ≡ true) (counted : IsCounted olds counters kept)
    (first : at ≡ slice_get (common olds) 0) (stands : (k : DocKey) → at ≡ Some k → slice_get (united news) 0 ≡ Some k) (keys : common news ≡ common olds)
    (operands : KeepsKeys (common news) olds news) (passed : HavePassed (common news) olds news) (within : (k : DocKey) → has_key (united news) k ≡ true → has_key (united olds) k ≡ true) where
  count : length counters ≡ length news
  count = counted.count ∙ sym operands.count

  pub leapt : HasSettled rule counters kept olds news at
  leapt = record {
    walking = record {
      counted = record { count = count; kept_before = λ k has. counted.kept_before k (within k has); owns = counted.owns };
      settled = record {
        stands = stands;
        keeps = λ k e.
            keeps_is rule kept k news counters count (stands k e)
            ∙ all_kept rule kept k news counters needs (common_all news k (first_among (common news) k (ap (λ (ks : List DocKey). slice_get ks 0) keys ∙ sym first ∙ e)));
        over = λ e. walk_of-common rule news counters kept needs count ∙ keys ∙ empty (common olds) (sym first ∙ e);
      };
    };
    walk = walk_of-common rule news counters kept needs count ∙ keys ∙ sym (walk_of-common rule olds counters kept needs counted.count);
    operands = subst (λ (ks : List DocKey). KeepsKeys ks olds news) (sym (walk_of-common rule news counters kept needs count)) operands;
    passed = subst (λ (ks : List DocKey). HavePassed ks olds news) (sym (walk_of-common rule news counters kept needs count)) passed;
  }
    where
      empty : (ks : List DocKey) → slice_get ks 0 ≡ None → ks ≡ []
      empty [] e = refl
      empty (x ∷ xs) e = cc

-- ---- the candidates were sought first

module _ (from : DocKey) (olds mids : List (List DocKey)) (sought : united mids ≡ keys_from from (united olds)) (keeps : KeepsKeys (united mids) olds mids) where
  pub sought_common : common mids ≡ keys_from from (common olds)
  sought_common =
      same_from_keys (common mids) (keys_from from (common olds)) (IsRanked-common mids) (IsRanked-keys_from from (common olds) (IsRanked-common olds))
      (λ k. has_key-common mids k ∙ by k (has_key (united mids) k) refl ∙ sym (has_key-keys_from from (common olds) k ∙ ap (λ b. b && not (is_before k from)) (has_key-common olds k)))
    where
      there : (k : DocKey) → has_key (united mids) k ≡ (has_key (united olds) k && not (is_before k from))
      there k = ap (λ (ks : List DocKey). has_key ks k) sought ∙ has_key-keys_from from (united olds) k

      swap : (a b c : Bool) → ((a && b) && c) ≡ ((a && c) && b)
      swap true true c = pass c
        where
          pass : (c : Bool) → c ≡ (c && true)
          pass true = refl
          pass false = refl
      swap true false c = sym (and_false c)
      swap false b c = refl

      none : (a b c : Bool) → (a && c) ≡ false → ((a && b) && c) ≡ false
      none a b c e = swap a b c ∙ ap (λ x. x && b) e

      by : (k : DocKey) (b : Bool) → has_key (united mids) k ≡ b → (has_key (united mids) k && all_have k mids) ≡ ((has_key (united olds) k && all_have k olds) && not (is_before k from))
      by k true e =
          ap (λ b. has_key (united mids) k && b) (all_have_same k mids olds (keeps.holders_stay k e))
          ∙ ap (λ b. b && all_have k olds) (there k) ∙ swap (has_key (united olds) k) (not (is_before k from)) (all_have k olds)
      by k false e = ap (λ b. b && all_have k mids) e ∙ sym (none (has_key (united olds) k) (all_have k olds) (not (is_before k from)) (sym (there k) ∙ e))

  sought_within : (k : DocKey) → has_key (united mids) k ≡ true → has_key (united olds) k ≡ true
  sought_within k has = left (has_key (united olds) k) (not (is_before k from)) (sym (has_key-keys_from from (united olds) k) ∙ ap (λ (ks : List DocKey). has_key ks k) (sym sought) ∙ has)
    where
      left : (a b : Bool) → (a && b) ≡ true → a ≡ true
      left true b e = refl
      left false b e = absurd cc

  module _ (rule : Rule) (counters : List (Quota × ℕ)) (kept : ℕ) (needs : needs_all rule counters ≡ true) where
    pub sought_counted : IsCounted olds counters kept → IsCounted mids counters kept
    sought_counted counted = record { count = counted.count ∙ sym keeps.count; kept_before = λ k has. counted.kept_before k (sought_within k has); owns = counted.owns }

    pub sought_walk : IsCounted olds counters kept → walk_of rule mids counters kept ≡ keys_from from (walk_of rule olds counters kept)
    sought_walk counted =
        walk_of-common rule mids counters kept needs (counted.count ∙ sym keeps.count) ∙ sought_common ∙ ap (keys_from from) (sym (walk_of-common rule olds counters kept needs counted.count))

-- ---- a test of each counter

module _ (counters : List Counter) (i : ℕ) (counter : Counter) (within : i < length counters) (is : counter ≡ get_or counters i counter) where
  here : (b : Bool) → b ≡ is_bare (quota_of counter.mark) → is_bare (get_or (map counter_of counters) i (counter_of counter)).0 ≡ b
  here b e = ap (λ (c : Quota × ℕ). is_bare c.0) (get_or-map counter_of counters i counter (counter_of counter) within ∙ ap counter_of (sym is)) ∙ sym e

  pub not_bare : (b : Bool) → b ≡ is_bare (quota_of counter.mark) → b ≡ false → false ≡ needs_all Weak (map counter_of counters)
  not_bare b e fails = sym (list_all_at (λ (c : Quota × ℕ). is_bare c.0) (map counter_of counters) i (counter_of counter) (omega (arith, length-map counters counter_of)) (here b e ∙ fails))

  pub bare_more : (b : Bool) → b ≡ is_bare (quota_of counter.mark) → b ≡ true → list_all (λ (c : Quota × ℕ). is_bare c.0) (take i (map counter_of counters)) ≡ true
      → list_all (λ (c : Quota × ℕ). is_bare c.0) (take (i + 1) (map counter_of counters)) ≡ true
  bare_more b e passes so_far =
      list_all_more (λ (c : Quota × ℕ). is_bare c.0) (map counter_of counters) i (counter_of counter) (omega (arith, length-map counters counter_of))
      ∙ ap (λ x. x && is_bare (get_or (map counter_of counters) i (counter_of counter)).0) so_far ∙ here b e ∙ passes

pub bare_all : (counters : List Counter) (i : ℕ) → length counters ≤ i → list_all (λ (c : Quota × ℕ). is_bare c.0) (take i (map counter_of counters)) ≡ true → true ≡ needs_all Weak (map counter_of counters)
bare_all counters i past all = sym (ap (list_all (λ (c : Quota × ℕ). is_bare c.0)) (sym (take_all i (map counter_of counters) (omega (arith, length-map counters counter_of)))) ∙ all)

-- ---- a whole walk leaps to a key

pub record HasLeaptTo {C : Type 0} (view : C → List DocKey) (v : Whole C) (rule : Rule) (counters : List (Quota × ℕ)) (kept : ℕ) (from : DocKey) (news : List (List DocKey)) (at : Option DocKey) : Type 0 where
  pub walking : IsWalking rule news counters kept at
  pub walk : walk_of v.0 news counters kept ≡ keys_from from (keys_of view v)
  pub operands : KeepsKeys (walk_of v.0 news counters kept) (map view v.1) news
  pub passed : HavePassed (walk_of v.0 news counters kept) (map view v.1) news

module _ {C : Type 0} (view : C → List DocKey) (v : Whole C) (rule : Rule) (cands : List C) (counters : List (Quota × ℕ)) (kept : ℕ) (is : (rule, cands, counters, kept) ≡ v) (needs : needs_all v.0 v.2 ≡ true)
    (counted : IsCounted (map view cands) counters kept) (from : DocKey) (mids news : List (List DocKey)) (sought : united mids ≡ keys_from from (united (map view cands))) (keeps : KeepsKeys (united mids) (map view cands) mids)
    (before : HavePassed (united mids) (map view cands) mids) (at : Option DocKey) (first : at ≡ slice_get (common mids) 0) (stands : (k : DocKey) → at ≡ Some k → slice_get (united news) 0 ≡ Some k) (keys : common news ≡ common mids)
    (operands : KeepsKeys (common news) mids news) (passed : HavePassed (common news) mids news) (within : (k : DocKey) → has_key (united news) k ≡ true → has_key (united mids) k ≡ true) where
  needs_here : needs_all rule counters ≡ true
  needs_here = ap (λ (w : Whole C). needs_all w.0 w.2) is ∙ needs

  settled : HasSettled rule counters kept mids news at
  settled = leapt rule mids news counters kept at needs_here (sought_counted from (map view cands) mids sought keeps rule counters kept needs_here counted) first stands keys operands passed within

  within_mids : (k : DocKey) → has_key (walk_of rule news counters kept) k ≡ true → has_key (united mids) k ≡ true
  within_mids k has = walk_of-united rule mids counters kept k (ap (λ (ks : List DocKey). has_key ks k) (sym settled.walk) ∙ has)

  pub leapt_to : HasLeaptTo view v rule counters kept from news at
  leapt_to = record {
    walking = settled.walking;
    walk =
        ap (λ (w : Whole C). walk_of w.0 news counters kept) (sym is) ∙ settled.walk ∙ sought_walk from (map view cands) mids sought keeps rule counters kept needs_here counted
        ∙ ap (keys_from from) (whole_keys view v rule cands counters kept is);
    operands =
        subst (λ (w : Whole C). KeepsKeys (walk_of w.0 news counters kept) (map view w.1) news) is
        (KeepsKeys_trans (united mids) (walk_of rule news counters kept) (map view cands) mids news within_mids keeps settled.operands);
    passed =
        subst (λ (w : Whole C). HavePassed (walk_of w.0 news counters kept) (map view w.1) news) is
        (passed_trans (united mids) (walk_of rule news counters kept) (map view cands) mids news (IsRanked-united mids) within_mids before settled.passed);
  }

-- a seek after others
pub sought_operands : (from : DocKey) (whole left : List DocKey) (olds mids news : List (List DocKey)) → left ≡ keys_from from whole → KeepsKeys whole olds mids → KeepsKeys left mids news → KeepsKeys left olds news
sought_operands from whole left olds mids news is before after = KeepsKeys_trans whole left olds mids news within before after
  where
    first : (a b : Bool) → (a && b) ≡ true → a ≡ true
    first true b e = refl
    first false b e = absurd cc

    within : (k : DocKey) → has_key left k ≡ true → has_key whole k ≡ true
    within k has = first (has_key whole k) (not (is_before k from)) (sym (has_key-keys_from from whole k) ∙ ap (λ (ks : List DocKey). has_key ks k) (sym is) ∙ has)
