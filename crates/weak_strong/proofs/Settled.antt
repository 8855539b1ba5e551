-- A walk that passes what it refuses.
use Rattle.std.proofs.Common.{◌≡◌, ℕ, ◌+◌, ◌<◌, ◌≤◌, Bool, true, false, ◌||◌, List, [], ◌∷◌, Option, None, Some, refl, sym, ◌∙◌, ap, subst, arith, map, slice_get, drop, All}
use Rattle.std.proofs.lemmas.List.{get_or-map, length-map}
use Rattle.std.proofs.lemmas.List.Elements.{All-map}
use Rattle.std.specs.Ordering.{is_eq}
use Rattle.uni_base.specs.declared.entity.DocKey.{DocKey}
use Rattle.uni_base.specs.RankOrder.{doc_cmp}
use Rattle.uni_base.specs.Cursors.{IsRanked}
use Rattle.uni_base.specs.KeySets.{has_key, united, KeepsKeys}
use Rattle.uni_base.specs.Walks.{Quota, walked}
use Rattle.uni_base.proofs.UnitedLemmas.{IsRanked-united}
use Rattle.uni_base.proofs.WalkLaws.{walk, weak_is_walk, strong_is_walk}
use Rattle.weak_strong.specs.declared.rule.Counter.{Counter}
use Rattle.weak_strong.specs.declared.rule.Rule.{Rule}
use Rattle.weak_strong.specs.declared.rule.Rule.TheVariants.{Weak, Strong}
use Rattle.weak_strong.specs.Marks.{counter_of}
use Rattle.weak_strong.specs.Rules.{keeps_by, walkers}
use Rattle.weak_strong.specs.Walking.{IsCounted, IsSettled, walk_of}
use Rattle.weak_strong.proofs.Walked.{walk_kept, IsRanked-walk, has_key-walk, walk_keeps, walk_refuses}

pub walk_of-is : (rule : Rule) (lists : List (List DocKey)) (counters : List (Quota × ℕ)) (kept : ℕ) → walk_of rule lists counters kept ≡ walk (keeps_by rule) kept (walkers lists counters) (united lists)
walk_of-is Weak lists counters kept = weak_is_walk kept (walkers lists counters) (united lists)
walk_of-is Strong lists counters kept = strong_is_walk kept (walkers lists counters) (united lists)

pub IsRanked-walk_of : (rule : Rule) (lists : List (List DocKey)) (counters : List (Quota × ℕ)) (kept : ℕ) → IsRanked (walk_of rule lists counters kept)
IsRanked-walk_of rule lists counters kept =
    subst IsRanked (sym (walk_of-is rule lists counters kept)) (IsRanked-walk (keeps_by rule) kept (walkers lists counters) (united lists) (IsRanked-united lists))

-- what is kept is some operand's
pub walk_of-united : (rule : Rule) (lists : List (List DocKey)) (counters : List (Quota × ℕ)) (kept : ℕ) (k : DocKey) → has_key (walk_of rule lists counters kept) k ≡ true → has_key (united lists) k ≡ true
walk_of-united rule lists counters kept k has =
    has_key-walk (keeps_by rule) kept (walkers lists counters) (united lists) k (ap (λ (ks : List DocKey). has_key ks k) (sym (walk_of-is rule lists counters kept)) ∙ has)

pub narrowed : (left rest : List DocKey) (olds news : List (List DocKey)) → ((k : DocKey) → has_key rest k ≡ true → has_key left k ≡ true) → KeepsKeys left olds news → KeepsKeys rest olds news
narrowed left rest olds news within keeps = record { count = keeps.count; holders_stay = λ k has. keeps.holders_stay k (within k has) }

pub has_key-drop : (keys : List DocKey) (k : DocKey) → has_key (drop 1 keys) k ≡ true → has_key keys k ≡ true
has_key-drop [] k has = has
has_key-drop (x ∷ xs) k has = by (is_eq (doc_cmp x k))
  where
    by : (b : Bool) → (b || has_key xs k) ≡ true
    by true = refl
    by false = has

-- no operand has more than are kept
pub owns_below : (counters : List Counter) (kept next : ℕ) → All (λ (c : Quota × ℕ). c.1 ≤ kept) (map counter_of counters) → next ≡ kept + 1 → All (λ (c : Counter). c.own < next) counters
owns_below counters kept next owns is = λ i d within.
    let same = ap (λ (c : Quota × ℕ). c.1) (get_or-map counter_of counters i d (counter_of d) within) in
    let here = owns i (counter_of d) (omega (arith, length-map counters counter_of)) in
    omega (arith, same, here)

pub owns_up : (counters : List Counter) (next : ℕ) → All (λ (c : Counter). c.own ≤ next) counters → All (λ (c : Quota × ℕ). c.1 ≤ next) (map counter_of counters)
owns_up counters next owns = All-map (λ (c : Quota × ℕ). c.1 ≤ next) counter_of counters owns

-- one candidate is passed
module _ (rule : Rule) (olds news : List (List DocKey)) (counters : List (Quota × ℕ)) (kept : ℕ) (passed : united news ≡ drop 1 (united olds)) (keeps : KeepsKeys (united news) olds news) where
  pub within_old : (k : DocKey) → has_key (united news) k ≡ true → has_key (united olds) k ≡ true
  within_old k has = has_key-drop (united olds) k (ap (λ (ks : List DocKey). has_key ks k) (sym passed) ∙ has)

  pub counted_on : IsCounted olds counters kept → IsCounted news counters kept
  counted_on counted = record { count = counted.count ∙ sym keeps.count; kept_before = λ k has. counted.kept_before k (within_old k has); owns = counted.owns }

  -- it was refused
  pub refused_on : (k : DocKey) → slice_get (united olds) 0 ≡ Some k → keeps_by rule kept (walkers olds counters) k ≡ false → walk_of rule news counters kept ≡ walk_of rule olds counters kept
  refused_on k first refused =
      walk_of-is rule news counters kept ∙ walk_kept rule kept counters olds news keeps
      ∙ ap (walk (keeps_by rule) kept (walkers olds counters)) passed
      ∙ sym (walk_refuses (keeps_by rule) kept (walkers olds counters) (united olds) k first refused)
      ∙ sym (walk_of-is rule olds counters kept)

-- it was kept
module _ (rule : Rule) (olds news : List (List DocKey)) (before counters : List (Quota × ℕ)) (kept : ℕ) (k : DocKey) (first : slice_get (united olds) 0 ≡ Some k)
    (settled : keeps_by rule kept (walkers olds before) k ≡ true) (counts : walkers olds counters ≡ map (walked k) (walkers olds before))
    (passed : united news ≡ drop 1 (united olds)) (keeps : KeepsKeys (united news) olds news) where
  pub kept_on : walk_of rule news counters (kept + 1) ≡ drop 1 (walk_of rule olds before kept)
  kept_on =
      walk_of-is rule news counters (kept + 1) ∙ walk_kept rule (kept + 1) counters olds news keeps
      ∙ ap (walk (keeps_by rule) (kept + 1) (walkers olds counters)) passed
      ∙ ap (λ ws. walk (keeps_by rule) (kept + 1) ws (drop 1 (united olds))) counts
      ∙ ap (drop 1) (sym (walk_keeps (keeps_by rule) kept (walkers olds before) (united olds) k first settled))
      ∙ ap (drop 1) (sym (walk_of-is rule olds before kept))

-- the first key of a settled walk
pub settled_first : (rule : Rule) (lists : List (List DocKey)) (counters : List (Quota × ℕ)) (kept : ℕ) (at : Option DocKey) → IsSettled rule lists counters kept at → at ≡ slice_get (walk_of rule lists counters kept) 0
settled_first rule lists counters kept None settled = sym (ap (λ (ks : List DocKey). slice_get ks 0) (settled.over refl))
settled_first rule lists counters kept (Some k) settled =
    sym (ap (λ (ks : List DocKey). slice_get ks 0)
    (walk_of-is rule lists counters kept ∙ walk_keeps (keeps_by rule) kept (walkers lists counters) (united lists) k (settled.stands k refl) (settled.keeps k refl)))

-- no candidate is left
pub settled_end : (rule : Rule) (lists : List (List DocKey)) (counters : List (Quota × ℕ)) (kept : ℕ) → slice_get (united lists) 0 ≡ None → IsSettled rule lists counters kept None
settled_end rule lists counters kept none = record {
  stands = λ k e. absurd cc;
  keeps = λ k e. absurd cc;
  over = λ _. walk_of-is rule lists counters kept ∙ ap (walk (keeps_by rule) kept (walkers lists counters)) (empty (united lists) none);
}
  where
    empty : (ks : List DocKey) → slice_get ks 0 ≡ None → ks ≡ []
    empty [] e = refl
    empty (x ∷ xs) e = cc

-- the candidate that is kept
pub settled_here : (rule : Rule) (lists : List (List DocKey)) (counters : List (Quota × ℕ)) (kept : ℕ) (k : DocKey) → slice_get (united lists) 0 ≡ Some k → keeps_by rule kept (walkers lists counters) k ≡ true
    → IsSettled rule lists counters kept (Some k)
settled_here rule lists counters kept k first keeps = record {
  stands = λ x e. first ∙ e;
  keeps = λ x e. let s : k ≡ x = cc in ap (keeps_by rule kept (walkers lists counters)) (sym s) ∙ keeps;
  over = λ e. absurd cc;
}
