-- A walk as its value shows it.
use Rattle.std.proofs.Common.{◌≡◌, ℕ, ◌+◌, ◌^◌, ◌<◌, ◌≤◌, Bool, true, false, List, [], ◌∷◌, Option, None, Some, refl, sym, ◌∙◌, ap, subst, arith, length, map, get_or, slice_get, drop, All, is_some}
use Rattle.std.proofs.lemmas.List.{length-map}
use Rattle.std.specs.Bool.{OnTrue}
use Rattle.std.specs.declared.cmp.Ordering.{Ordering}
use Rattle.std.specs.declared.cmp.Ordering.TheVariants.{Less, Equal, Greater}
use Rattle.std.specs.Ordering.{is_ge}
use Rattle.uni_base.proofs.RankedLemmas.{keys_from-here}
use Rattle.uni_base.specs.declared.entity.DocKey.{DocKey}
use Rattle.uni_base.specs.Cursors.{is_before, is_less, IsRanked, keys_from}
use Rattle.uni_base.specs.KeySets.{has_first, has_key, united, KeepsKeys}
use Rattle.uni_base.specs.Walks.{Quota, walked}
use Rattle.uni_base.proofs.UnitedLemmas.{IsRanked-united, KeepsKeys_trans}
use Rattle.weak_strong.specs.declared.rule.Counter.{Counter}
use Rattle.weak_strong.specs.declared.rule.Rule.{Rule}
use Rattle.weak_strong.specs.Marks.{counter_of}
use Rattle.weak_strong.specs.Rules.{walkers}
use Rattle.weak_strong.specs.Walking.{HasSettled, IsCounted, IsSettled, walk_of}
use Rattle.weak_strong.proofs.Counting.{first_among}
use Rattle.set_cursors.specs.Passed.{HavePassed}
use Rattle.weak_strong.proofs.Passing.{passed_settled, passed_trans, passed_united}
use Rattle.weak_strong.proofs.Placed.{place_later, rest_later}
use Rattle.weak_strong.proofs.Settled.{IsRanked-walk_of, kept_on, owns_up, settled_first, walk_of-united}

abbrev pub Whole : Type 0 → Type 0
Whole C = Rule × List C × List (Quota × ℕ) × ℕ

abbrev pub keys_of : {C : Type 0} → (C → List DocKey) → Whole C → List DocKey
keys_of view v = walk_of v.0 (map view v.1) v.2 v.3

-- what is not there
pub none_from : (o : Option DocKey) → ((k : DocKey) → o ≡ Some k → ⊥) → o ≡ None
none_from None e = refl
none_from (Some k) e = absurd (e k refl)

-- what a test for a key has told
pub some_for : (o : Option DocKey) (r : Bool) → r ≡ is_some o → r ≡ true → (k : DocKey) × (o ≡ Some k)
some_for None r e f = absurd cc
some_for (Some k) r e f = (k, refl)

pub none_for : (o : Option DocKey) (r : Bool) → r ≡ is_some o → r ≡ false → o ≡ None
none_for None r e f = refl
none_for (Some k) r e f = absurd cc

first_same : (keys xs ys : List DocKey) → slice_get xs 0 ≡ slice_get ys 0 → has_first keys xs ≡ has_first keys ys
first_same keys [] [] e = refl
first_same keys [] (y ∷ ys) e = absurd cc
first_same keys (x ∷ xs) [] e = absurd cc
first_same keys (x ∷ xs) (y ∷ ys) e = let s : x ≡ y = cc in ap (has_key keys) s

on_true_same : (r : Bool) (P Q : Type 0) → (P → Q) → OnTrue r P → OnTrue r Q
on_true_same true P Q f p = f p
on_true_same false P Q f p = tt

module _ {C : Type 0} (view : C → List DocKey) (v : Whole C) (rule : Rule) (cands : List C) (counters : List (Quota × ℕ)) (kept : ℕ) (is : (rule, cands, counters, kept) ≡ v) where
  pub whole_keys : walk_of rule (map view cands) counters kept ≡ keys_of view v
  whole_keys = ap (keys_of view) is

  pub whole_lists : map view cands ≡ map view v.1
  whole_lists = ap (λ (w : Whole C). map view w.1) is

  module _ (at : Option DocKey) (settled : IsSettled rule (map view cands) counters kept at) where
    pub whole_first : at ≡ slice_get (keys_of view v) 0
    whole_first = settled_first rule (map view cands) counters kept at settled ∙ ap (λ (ks : List DocKey). slice_get ks 0) whole_keys

    -- where it stands at a key, that is the first of all keys too
    pub whole_stands : (k : DocKey) → at ≡ Some k → slice_get (united (map view cands)) 0 ≡ slice_get (keys_of view v) 0
    whole_stands k e = settled.stands k e ∙ sym e ∙ whole_first

    pub whole_holds : (k : DocKey) → at ≡ Some k → (i : ℕ) (r : Bool) → r ≡ has_first (get_or (map view cands) i []) (united (map view cands)) → r ≡ has_first (get_or (map view v.1) i []) (keys_of view v)
    whole_holds k here i r e =
        e ∙ first_same (get_or (map view cands) i []) (united (map view cands)) (keys_of view v) (whole_stands k here)
        ∙ ap (λ (ls : List (List DocKey)). has_first (get_or ls i []) (keys_of view v)) whole_lists

    pub whole_current : (k : DocKey) → at ≡ Some k → (i : ℕ) (r : Bool) → OnTrue r (slice_get (get_or (map view cands) i []) 0 ≡ slice_get (united (map view cands)) 0)
        → OnTrue r (slice_get (get_or (map view v.1) i []) 0 ≡ slice_get (keys_of view v) 0)
    whole_current k here i r =
        on_true_same r (slice_get (get_or (map view cands) i []) 0 ≡ slice_get (united (map view cands)) 0) (slice_get (get_or (map view v.1) i []) 0 ≡ slice_get (keys_of view v) 0)
        (λ e. ap (λ (ls : List (List DocKey)). slice_get (get_or ls i []) 0) (sym whole_lists) ∙ e ∙ whole_stands k here)

    -- at its end no operand has its key
    pub whole_over : at ≡ None → (i : ℕ) → false ≡ has_first (get_or (map view v.1) i []) (keys_of view v)
    whole_over none i = by (keys_of view v) (sym whole_first ∙ none)
      where
        by : (ks : List DocKey) → slice_get ks 0 ≡ None → false ≡ has_first (get_or (map view v.1) i []) ks
        by [] e = refl
        by (x ∷ xs) e = absurd cc

    -- it has nothing before its key
    pub whole_passed : HavePassed (keys_of view v) (map view v.1) (map view v.1)
    whole_passed =
        subst (λ (w : Whole C). HavePassed (keys_of view w) (map view w.1) (map view w.1)) is
        (passed_settled rule (map view cands) counters kept at (map view cands) settled (passed_united (map view cands)))

    -- and it stays
    pub whole_end : at ≡ None → keys_of view v ≡ drop 1 (keys_of view v)
    whole_end none = by (keys_of view v) (sym whole_first ∙ none)
      where
        by : (ks : List DocKey) → slice_get ks 0 ≡ None → ks ≡ drop 1 ks
        by [] e = refl
        by (x ∷ xs) e = absurd cc

pub whole_ranked : {C : Type 0} (view : C → List DocKey) (v : Whole C) → IsRanked (keys_of view v)
whole_ranked view v = IsRanked-walk_of v.0 (map view v.1) v.2 v.3

-- ---- a step

module _ (olds news : List (List DocKey)) (before : List (Quota × ℕ)) (counters : List Counter) (kept next : ℕ) (key : DocKey)
    (counted : IsCounted olds before kept) (first : Some key ≡ slice_get (united olds) 0) (one : next ≡ kept + 1) (rank : key.rank.0 < 2 ^ 32) (id : key.id < 2 ^ 64)
    (passed : united news ≡ drop 1 (united olds)) (keeps : KeepsKeys (united news) olds news) where
  pub counted_next : length counters ≡ length olds → All (λ (c : Counter). c.own ≤ next) counters → IsCounted news (map counter_of counters) next
  counted_next count owns = record {
    count = length-map counters counter_of ∙ count ∙ sym keeps.count;
    kept_before = λ k has.
        let in_rest = ap (λ (ks : List DocKey). has_key ks k) (sym passed) ∙ has in
        let below = place_later key k (rest_later (united olds) key (IsRanked-united olds) (sym first) k in_rest) rank id in
        let here = counted.kept_before key (first_among (united olds) key (sym first)) in
        omega (arith, below, here);
    owns = owns_up counters next owns;
  }

module _ {C : Type 0} (view : C → List DocKey) (v : Whole C) (rule : Rule) (cands : List C) (before after : List (Quota × ℕ)) (kept next : ℕ) (is : (rule, cands, before, kept) ≡ v)
    (at : Option DocKey) (settled : IsSettled rule (map view cands) before kept at) (key : DocKey) (here : at ≡ Some key) (one : next ≡ kept + 1)
    (counts : (k : DocKey) → slice_get (united (map view cands)) 0 ≡ Some k → walkers (map view cands) after ≡ map (walked k) (walkers (map view cands) before))
    (mids news : List (List DocKey)) (passed : united mids ≡ drop 1 (united (map view cands))) (keeps : KeepsKeys (united mids) (map view cands) mids) (passes : HavePassed (united mids) (map view cands) mids)
    (now : Option DocKey) (settles : HasSettled rule after next mids news now) where
  same_rule : rule ≡ v.0
  same_rule = ap (λ (w : Whole C). w.0) is

  pub stepped_walk : walk_of v.0 news after next ≡ drop 1 (keys_of view v)
  stepped_walk =
      ap (λ (r : Rule). walk_of r news after next) (sym same_rule) ∙ settles.walk ∙ ap (λ (n : ℕ). walk_of rule mids after n) one
      ∙ kept_on rule (map view cands) mids before after kept key (settled.stands key here) (settled.keeps key here) (counts key (settled.stands key here)) passed keeps
      ∙ ap (drop 1) (whole_keys view v rule cands before kept is)

  within_mids : (k : DocKey) → has_key (walk_of rule news after next) k ≡ true → has_key (united mids) k ≡ true
  within_mids k has = walk_of-united rule mids after next k (ap (λ (ks : List DocKey). has_key ks k) (sym settles.walk) ∙ has)

  pub stepped_operands : KeepsKeys (walk_of v.0 news after next) (map view v.1) news
  stepped_operands =
      subst (λ (w : Whole C). KeepsKeys (walk_of w.0 news after next) (map view w.1) news) is
      (KeepsKeys_trans (united mids) (walk_of rule news after next) (map view cands) mids news within_mids keeps settles.operands)

  pub stepped_passed : HavePassed (walk_of v.0 news after next) (map view v.1) news
  stepped_passed =
      subst (λ (w : Whole C). HavePassed (walk_of w.0 news after next) (map view w.1) news) is
      (passed_trans (united mids) (walk_of rule news after next) (map view cands) mids news (IsRanked-united mids) within_mids passes settles.passed)

-- ---- a seek is over

pub not_before-ge : (o p : Ordering) (r : Bool) → p ≡ o → r ≡ is_ge p → r ≡ true → is_less o ≡ false
not_before-ge o p r e f h = ap is_less (sym e) ∙ by p (sym f ∙ h)
  where
    by : (q : Ordering) → is_ge q ≡ true → is_less q ≡ false
    by Less g = absurd cc
    by Equal g = refl
    by Greater g = refl

pub sought_here : (from key : DocKey) (now whole : List DocKey) → Some key ≡ slice_get now 0 → IsRanked now → is_before key from ≡ false → keys_from from now ≡ whole → now ≡ whole
sought_here from key [] whole first ranked late walks = cc
sought_here from key (x ∷ xs) whole first ranked late walks =
    let s : key ≡ x = cc in sym (keys_from-here from x xs ranked (subst (λ (k : DocKey). is_before k from ≡ false) s late)) ∙ walks

pub sought_end : (from : DocKey) (now whole : List DocKey) → slice_get now 0 ≡ None → keys_from from now ≡ whole → now ≡ whole
sought_end from [] whole none walks = walks
sought_end from (x ∷ xs) whole none walks = cc
