-- Operands with their counters, one after the other.
use Rattle.std.proofs.Common.{◌≡◌, ℕ, zero, suc, ◌+◌, ◌<◌, ◌≤◌, Bool, true, false, ◌&&◌, ◌||◌, cond, List, [], ◌∷◌, refl, sym, ◌∙◌, ap, arith, length, map, get_or, set, drop, slice_get, Some, All}
use Rattle.std.proofs.lemmas.List.Elements.{All-head, All-tail}
use Rattle.std.specs.List.{list_any, list_all}
use Rattle.uni_base.specs.declared.entity.DocKey.{DocKey}
use Rattle.uni_base.specs.KeySets.{has_first, has_key, holders, united}
use Rattle.uni_base.specs.Walks.{Quota, Walker, spent, walked, lets_pass, has_share}
use Rattle.uni_base.proofs.RankedLemmas.{is_eq_self}
use Rattle.uni_base.proofs.UnitedLemmas.{has_key-united}
use Rattle.weak_strong.specs.declared.rule.Rule.{Rule}
use Rattle.weak_strong.specs.declared.rule.Rule.TheVariants.{Weak, Strong}
use Rattle.weak_strong.specs.Rules.{keeps_by, allows_by, walkers, counted}
use Rattle.weak_strong.specs.Marks.{counter_of, quota_of}
use Rattle.weak_strong.specs.declared.rule.Counter.{Counter}
use Rattle.std.proofs.lemmas.List.{get_or-map, length-map, map-set}

-- the first of all keys is one of them
pub first_among : (keys : List DocKey) (k : DocKey) → slice_get keys 0 ≡ Some k → has_key keys k ≡ true
first_among [] k e = cc
first_among (x ∷ xs) k e = let s : k ≡ x = cc in ap (λ (y : DocKey). has_key (x ∷ xs) y) s ∙ ap (λ b. b || has_key xs x) (is_eq_self x)

pub has_first-is : (keys : List DocKey) (all : List DocKey) (k : DocKey) → slice_get all 0 ≡ Some k → has_first keys all ≡ has_key keys k
has_first-is keys [] k e = cc
has_first-is keys (x ∷ xs) k e = let s : x ≡ k = cc in ap (has_key keys) s

-- whether all operands let an entity be kept
abbrev pub all_allow : Rule → ℕ → DocKey → List (List DocKey) → List (Quota × ℕ) → Bool
all_allow rule kept k [] counters = true
all_allow rule kept k (keys ∷ lists) [] = true
all_allow rule kept k (keys ∷ lists) (c ∷ counters) = allows_by rule kept (has_key keys k) c.0 c.1 && all_allow rule kept k lists counters

any_has : (k : DocKey) (lists : List (List DocKey)) (counters : List (Quota × ℕ)) → length counters ≡ length lists → list_any (λ o. o.has k) (walkers lists counters) ≡ list_any (λ keys. has_key keys k) lists
any_has k [] counters e = refl
any_has k (keys ∷ lists) [] e = absurd (omega arith)
any_has k (keys ∷ lists) (c ∷ counters) e = ap (λ b. has_key keys k || b) (any_has k lists counters (omega arith))

weak_all : (kept : ℕ) (k : DocKey) (lists : List (List DocKey)) (counters : List (Quota × ℕ)) → list_all (λ o. o.has k || lets_pass kept o.quota o.own) (walkers lists counters) ≡ all_allow Weak kept k lists counters
weak_all kept k [] counters = refl
weak_all kept k (keys ∷ lists) [] = refl
weak_all kept k (keys ∷ lists) (c ∷ counters) = ap (λ b. (has_key keys k || lets_pass kept c.0 c.1) && b) (weak_all kept k lists counters)

strong_all : (kept : ℕ) (k : DocKey) (lists : List (List DocKey)) (counters : List (Quota × ℕ))
    → list_all (λ o. has_share (kept + 1) o.quota (cond (o.has k) (o.own + 1) o.own)) (walkers lists counters) ≡ all_allow Strong kept k lists counters
strong_all kept k [] counters = refl
strong_all kept k (keys ∷ lists) [] = refl
strong_all kept k (keys ∷ lists) (c ∷ counters) = ap (λ b. has_share (kept + 1) c.0 (cond (has_key keys k) (c.1 + 1) c.1) && b) (strong_all kept k lists counters)

-- the walk keeps the first key exactly if all operands let it
pub keeps_is : (rule : Rule) (kept : ℕ) (k : DocKey) (lists : List (List DocKey)) (counters : List (Quota × ℕ)) → length counters ≡ length lists → slice_get (united lists) 0 ≡ Some k
    → keeps_by rule kept (walkers lists counters) k ≡ all_allow rule kept k lists counters
keeps_is Weak kept k lists counters e first =
    ap (λ b. b && list_all (λ o. o.has k || lets_pass kept o.quota o.own) (walkers lists counters)) (any_has k lists counters e ∙ sym (has_key-united lists k) ∙ first_among (united lists) k first)
    ∙ weak_all kept k lists counters
keeps_is Strong kept k lists counters e first =
    ap (λ b. b && list_all (λ o. has_share (kept + 1) o.quota (cond (o.has k) (o.own + 1) o.own)) (walkers lists counters)) (any_has k lists counters e ∙ sym (has_key-united lists k) ∙ first_among (united lists) k first)
    ∙ strong_all kept k lists counters

-- one operand more
all_allow-drop : (rule : Rule) (kept : ℕ) (k : DocKey) (lists : List (List DocKey)) (counters : List (Quota × ℕ)) (i : ℕ) (d : Quota × ℕ) → i < length lists → i < length counters
    → all_allow rule kept k (drop i lists) (drop i counters)
    ≡ (allows_by rule kept (has_key (get_or lists i []) k) (get_or counters i d).0 (get_or counters i d).1 && all_allow rule kept k (drop (suc i) lists) (drop (suc i) counters))
all_allow-drop rule kept k [] counters i d l m = absurd (omega arith)
all_allow-drop rule kept k (keys ∷ lists) [] i d l m = absurd (omega arith)
all_allow-drop rule kept k (keys ∷ lists) (c ∷ counters) zero d l m = refl
all_allow-drop rule kept k (keys ∷ lists) (c ∷ counters) (suc i) d l m = all_allow-drop rule kept k lists counters i d (omega arith) (omega arith)

all_allow-end : (rule : Rule) (kept : ℕ) (k : DocKey) (lists : List (List DocKey)) (counters : List (Quota × ℕ)) (i : ℕ) → length lists ≤ i → all_allow rule kept k (drop i lists) (drop i counters) ≡ true
all_allow-end rule kept k [] counters zero past = refl
all_allow-end rule kept k [] counters (suc i) past = refl
all_allow-end rule kept k (keys ∷ lists) counters zero past = absurd (omega arith)
all_allow-end rule kept k (keys ∷ lists) [] (suc i) past = nothing (drop i lists)
  where
    nothing : (ls : List (List DocKey)) → all_allow rule kept k ls [] ≡ true
    nothing [] = refl
    nothing (ks ∷ ls) = refl
all_allow-end rule kept k (keys ∷ lists) (c ∷ counters) (suc i) past = all_allow-end rule kept k lists counters i (omega arith)

one_more : (i : ℕ) → suc i ≡ i + 1
one_more i = omega arith

module _ (rule : Rule) (kept : ℕ) (k : DocKey) (lists : List (List DocKey)) (counters : List Counter) (as_many : length counters ≡ length lists) (first : slice_get (united lists) 0 ≡ Some k) where
  abbrev quotas : List (Quota × ℕ)
  quotas = map counter_of counters

  counts : length quotas ≡ length lists
  counts = length-map counters counter_of ∙ as_many

  pub keeps_all : keeps_by rule kept (walkers lists quotas) k ≡ all_allow rule kept k lists quotas
  keeps_all = keeps_is rule kept k lists quotas counts first

  module _ (i : ℕ) (counter : Counter) (within : i < length counters) (is : counter ≡ get_or counters i counter) (has : Bool) (asked : has ≡ has_first (get_or lists i []) (united lists))
      (allows : Bool) (allowed : allows ≡ allows_by rule kept has (quota_of counter.mark) counter.own) where
    pub turn_is : all_allow rule kept k (drop i lists) (drop i quotas) ≡ (allows && all_allow rule kept k (drop (i + 1) lists) (drop (i + 1) quotas))
    turn_is =
        all_allow-drop rule kept k lists quotas i (counter_of counter) (omega (arith, as_many)) (omega (arith, length-map counters counter_of))
        ∙ ap (λ (c : Quota × ℕ). allows_by rule kept (has_key (get_or lists i []) k) c.0 c.1 && all_allow rule kept k (drop (suc i) lists) (drop (suc i) quotas))
        (get_or-map counter_of counters i counter (counter_of counter) within ∙ ap counter_of (sym is))
        ∙ ap (λ h. allows_by rule kept h (quota_of counter.mark) counter.own && all_allow rule kept k (drop (suc i) lists) (drop (suc i) quotas))
        (sym (asked ∙ has_first-is (get_or lists i []) (united lists) k first))
        ∙ ap (λ b. b && all_allow rule kept k (drop (suc i) lists) (drop (suc i) quotas)) (sym allowed)
        ∙ ap (λ (n : ℕ). allows && all_allow rule kept k (drop n lists) (drop n quotas)) (one_more i)

    pub stops : all_allow rule kept k lists quotas ≡ all_allow rule kept k (drop i lists) (drop i quotas) → allows ≡ false → false ≡ keeps_by rule kept (walkers lists quotas) k
    stops so_far refused = sym (keeps_all ∙ so_far ∙ turn_is ∙ ap (λ b. b && all_allow rule kept k (drop (i + 1) lists) (drop (i + 1) quotas)) refused)

    pub goes_on : all_allow rule kept k lists quotas ≡ all_allow rule kept k (drop i lists) (drop i quotas) → allows ≡ true → all_allow rule kept k lists quotas ≡ all_allow rule kept k (drop (i + 1) lists) (drop (i + 1) quotas)
    goes_on so_far allowing = so_far ∙ turn_is ∙ ap (λ b. b && all_allow rule kept k (drop (i + 1) lists) (drop (i + 1) quotas)) allowing

  pub ends : (i : ℕ) → all_allow rule kept k lists quotas ≡ all_allow rule kept k (drop i lists) (drop i quotas) → length counters ≤ i → true ≡ keeps_by rule kept (walkers lists quotas) k
  ends i so_far past = sym (keeps_all ∙ so_far ∙ all_allow-end rule kept k lists quotas i (omega (arith, as_many)))

-- ---- the counters of the first operands once an entity is kept

abbrev pub counted_to : ℕ → List Bool → List (Quota × ℕ) → List (Quota × ℕ)
counted_to zero hs counters = counters
counted_to (suc i) [] counters = counters
counted_to (suc i) (h ∷ hs) [] = []
counted_to (suc i) (h ∷ hs) (c ∷ counters) = counted h c ∷ counted_to i hs counters

counted_next : (i : ℕ) (hs : List Bool) (counters : List (Quota × ℕ)) (d : Quota × ℕ) → i < length hs → i < length counters
    → set (counted_to i hs counters) i (counted (get_or hs i false) (get_or counters i d)) ≡ counted_to (suc i) hs counters
counted_next i [] counters d l m = absurd (omega arith)
counted_next i (h ∷ hs) [] d l m = absurd (omega arith)
counted_next zero (h ∷ hs) (c ∷ counters) d l m = refl
counted_next (suc i) (h ∷ hs) (c ∷ counters) d l m = ap (λ (cs : List (Quota × ℕ)). counted h c ∷ cs) (counted_next i hs counters d (omega arith) (omega arith))

pub get_or-holders : (k : DocKey) (lists : List (List DocKey)) (i : ℕ) → get_or (holders k lists) i false ≡ has_key (get_or lists i []) k
get_or-holders k [] i = refl
get_or-holders k (keys ∷ lists) zero = refl
get_or-holders k (keys ∷ lists) (suc i) = get_or-holders k lists i

pub walkers_counted : (k : DocKey) (lists : List (List DocKey)) (counters : List (Quota × ℕ)) (n : ℕ) → length counters ≡ length lists → length lists ≤ n
    → walkers lists (counted_to n (holders k lists) counters) ≡ map (walked k) (walkers lists counters)
walkers_counted k [] counters n e all = refl
walkers_counted k (keys ∷ lists) [] n e all = absurd (omega arith)
walkers_counted k (keys ∷ lists) (c ∷ counters) zero e all = absurd (omega arith)
walkers_counted k (keys ∷ lists) (c ∷ counters) (suc n) e all = by (has_key keys k) (walkers_counted k lists counters n (omega arith) (omega arith))
  where
    by : (b : Bool) → walkers lists (counted_to n (holders k lists) counters) ≡ map (walked k) (walkers lists counters)
        → (record { has = has_key keys; quota = (counted b c).0; own = (counted b c).1 }) ∷ walkers lists (counted_to n (holders k lists) counters)
        ≡ (elim b as (λ _. Walker DocKey) [
          | true ↦ record { has = has_key keys; quota = c.0; own = c.1 + 1 }
          | false ↦ record { has = has_key keys; quota = spent c.0; own = c.1 }
        ]) ∷ map (walked k) (walkers lists counters)
    by true rest = ap (λ (ws : List (Walker DocKey)). (record { has = has_key keys; quota = c.0; own = c.1 + 1 }) ∷ ws) rest
    by false rest = ap (λ (ws : List (Walker DocKey)). (record { has = has_key keys; quota = spent c.0; own = c.1 }) ∷ ws) rest

module _ (k : DocKey) (lists : List (List DocKey)) (olds nows : List Counter) (i : ℕ) (as_many : length olds ≡ length lists) (first : slice_get (united lists) 0 ≡ Some k)
    (so_far : map counter_of nows ≡ counted_to i (holders k lists) (map counter_of olds)) where
  pub counted_more : (old new : Counter) (has : Bool) → i < length olds → old ≡ get_or olds i old → has ≡ has_first (get_or lists i []) (united lists) → counter_of new ≡ counted has (counter_of old)
      → map counter_of (set nows i new) ≡ counted_to (i + 1) (holders k lists) (map counter_of olds)
  counted_more old new has within is asked counts =
      map-set counter_of nows i new
      ∙ ap (λ (cs : List (Quota × ℕ)). set cs i (counter_of new)) so_far
      ∙ ap (λ (c : Quota × ℕ). set (counted_to i (holders k lists) (map counter_of olds)) i c)
      (counts ∙ ap (λ h. counted h (counter_of old)) (asked ∙ has_first-is (get_or lists i []) (united lists) k first ∙ sym (get_or-holders k lists i))
      ∙ ap (counted (get_or (holders k lists) i false)) (ap counter_of is ∙ sym (get_or-map counter_of olds i old (counter_of old) within)))
      ∙ counted_next i (holders k lists) (map counter_of olds) (counter_of old) (omega (arith, as_many, length-map lists (λ (keys : List DocKey). has_key keys k))) (omega (arith, length-map olds counter_of))
      ∙ ap (λ (n : ℕ). counted_to n (holders k lists) (map counter_of olds)) (one_more i)

  pub counted_all : length olds ≤ i → walkers lists (map counter_of nows) ≡ map (walked k) (walkers lists (map counter_of olds))
  counted_all past =
      ap (walkers lists) so_far ∙ walkers_counted k lists (map counter_of olds) i (length-map olds counter_of ∙ as_many) (omega (arith, as_many))

-- an operand has at most one more
pub own_counted : (old new : Counter) (has : Bool) (next : ℕ) → counter_of new ≡ counted has (counter_of old) → old.own < next → new.own ≤ next
own_counted old new has next counts below = let e = ap (λ (c : Quota × ℕ). c.1) counts in let f = by has in omega (arith, e, f)
  where
    by : (b : Bool) → (counted b (counter_of old)).1 ≤ old.own + 1
    by true = omega arith
    by false = omega arith

-- counters of which none has counted yet
pub fresh_counters : (counters : List Counter) → All (λ (c : Counter). c.own ≡ 0) counters → map counter_of counters ≡ map (λ (q : Quota). (q, 0)) (map (λ (c : Counter). quota_of c.mark) counters)
fresh_counters [] fresh = refl
fresh_counters (c ∷ counters) fresh =
    let own = All-head (λ (x : Counter). x.own ≡ 0) c counters fresh in
    ap (λ (n : ℕ). (quota_of c.mark, n) ∷ map counter_of counters) own
    ∙ ap (λ (cs : List (Quota × ℕ)). (quota_of c.mark, 0) ∷ cs) (fresh_counters counters (All-tail (λ (x : Counter). x.own ≡ 0) c counters fresh))
