-- Operands of a walk that have passed what comes before a key.
use Rattle.std.proofs.Common.{◌≡◌, ℕ, true, false, List, [], ◌∷◌, Option, Some, refl, sym, ◌∙◌, ap, subst, map, slice_get}
use Rattle.uni_base.specs.declared.entity.DocKey.{DocKey}
use Rattle.uni_base.specs.Cursors.{is_before, IsRanked, keys_from}
use Rattle.uni_base.specs.KeySets.{has_key, united, KeepsKeys}
use Rattle.uni_base.specs.Walks.{Quota}
use Rattle.uni_base.proofs.RankedLemmas.{has_key-not_before, is_before_self, keys_from-keys_from}
use Rattle.set_cursors.specs.Passed.{HavePassed}
use Rattle.set_cursors.proofs.Asked.{not_before_trans}
use Rattle.set_cursors.proofs.Passed.{moved_lists}
use Rattle.weak_strong.specs.declared.rule.Rule.{Rule}
use Rattle.weak_strong.specs.Walking.{HasSettled, IsCounted, IsSettled, walk_of}
use Rattle.weak_strong.proofs.Counting.{first_among}
use Rattle.weak_strong.proofs.Settled.{narrowed, settled_first, walk_of-united}

map_same : (lists : List (List DocKey)) → map (λ (ks : List DocKey). ks) lists ≡ lists
map_same [] = refl
map_same (ks ∷ lists) = ap (λ (ls : List (List DocKey)). ks ∷ ls) (map_same lists)

map_from : (a b : DocKey) → is_before b a ≡ false → (lists : List (List DocKey)) → map (keys_from b) (map (keys_from a) lists) ≡ map (keys_from b) lists
map_from a b late [] = refl
map_from a b late (ks ∷ lists) =
    ap (λ (xs : List DocKey). xs ∷ map (keys_from b) (map (keys_from a) lists)) (keys_from-keys_from a b ks late) ∙ ap (λ (ls : List (List DocKey)). keys_from b ks ∷ ls) (map_from a b late lists)

-- operands have nothing before the first of all their keys
pub passed_united : (lists : List (List DocKey)) → HavePassed (united lists) lists lists
passed_united lists k first =
    sym (map_same lists) ∙ moved_lists k (λ (ks : List DocKey). ks) lists (λ ks. refl) (ap (λ (ls : List (List DocKey)). slice_get (united ls) 0) (map_same lists) ∙ first)

-- two moves, one after the other
pub passed_trans : (keys left : List DocKey) (olds mids news : List (List DocKey)) → IsRanked keys → ((k : DocKey) → has_key left k ≡ true → has_key keys k ≡ true) → HavePassed keys olds mids → HavePassed left mids news
    → HavePassed left olds news
passed_trans keys left olds mids news ranked within before after k first = by keys refl (within k (first_among left k first))
  where
    by : (all : List DocKey) → keys ≡ all → has_key keys k ≡ true → news ≡ map (keys_from k) olds
    by [] e has = absurd (let f = ap (λ (ks : List DocKey). has_key ks k) (sym e) ∙ has in cc)
    by (x ∷ xs) e has =
        let late = has_key-not_before x xs k (subst IsRanked e ranked) (ap (λ (ks : List DocKey). has_key ks k) (sym e) ∙ has) in
        after k first ∙ ap (map (keys_from k)) (before x (ap (λ (ks : List DocKey). slice_get ks 0) e)) ∙ map_from x k late olds

-- a settled walk is at the first of all keys
pub passed_settled : (rule : Rule) (lists : List (List DocKey)) (counters : List (Quota × ℕ)) (kept : ℕ) (at : Option DocKey) (olds : List (List DocKey)) → IsSettled rule lists counters kept at → HavePassed (united lists) olds lists
    → HavePassed (walk_of rule lists counters kept) olds lists
passed_settled rule lists counters kept at olds settled passed k first = passed k (settled.stands k (settled_first rule lists counters kept at settled ∙ first))

-- candidates were passed, none of which is kept
pub has_settled : (rule : Rule) (counters : List (Quota × ℕ)) (kept : ℕ) (olds news : List (List DocKey)) (at : Option DocKey) → IsCounted news counters kept → IsSettled rule news counters kept at
    → walk_of rule news counters kept ≡ walk_of rule olds counters kept → KeepsKeys (united news) olds news → HavePassed (united news) olds news → HasSettled rule counters kept olds news at
has_settled rule counters kept olds news at counted settled walk operands passed = record {
  walking = record { counted = counted; settled = settled };
  walk = walk;
  operands = narrowed (united news) (walk_of rule news counters kept) olds news (walk_of-united rule news counters kept) operands;
  passed = passed_settled rule news counters kept at olds settled passed;
}

-- from the first of some keys on, operands have what they had
abbrev pub SameOn : List DocKey → List (List DocKey) → List (List DocKey) → Type 0
SameOn keys olds news = (k : DocKey) → slice_get keys 0 ≡ Some k → (b : DocKey) → is_before b k ≡ false → map (keys_from b) news ≡ map (keys_from b) olds

-- also once they have passed others
pub same_on : (keys left : List DocKey) (olds mids news : List (List DocKey)) → IsRanked keys → ((k : DocKey) → has_key left k ≡ true → has_key keys k ≡ true) → SameOn keys olds mids → HavePassed left mids news → SameOn left olds news
same_on keys left olds mids news ranked within same after k first b late = by keys refl (within k (first_among left k first))
  where
    by : (all : List DocKey) → keys ≡ all → has_key keys k ≡ true → map (keys_from b) news ≡ map (keys_from b) olds
    by [] e has = absurd (let f = ap (λ (ks : List DocKey). has_key ks k) (sym e) ∙ has in cc)
    by (x ∷ xs) e has =
        let before = has_key-not_before x xs k (subst IsRanked e ranked) (ap (λ (ks : List DocKey). has_key ks k) (sym e) ∙ has) in
        ap (map (keys_from b)) (after k first) ∙ map_from k b late mids ∙ same x (ap (λ (ks : List DocKey). slice_get ks 0) e) b (not_before_trans x k b before late)

-- where they have nothing before it
pub passed_same : (left : List DocKey) (olds news : List (List DocKey)) → HavePassed left news news → SameOn left olds news → HavePassed left olds news
passed_same left olds news stands same k first = stands k first ∙ same k first k (is_before_self k)

-- and once they have passed others
pub passed_on : (keys left : List DocKey) (olds mids news : List (List DocKey)) → IsRanked keys → ((k : DocKey) → has_key left k ≡ true → has_key keys k ≡ true) → SameOn keys olds mids → HavePassed left mids news → HavePassed left olds news
passed_on keys left olds mids news ranked within same after k first = by keys refl (within k (first_among left k first))
  where
    by : (all : List DocKey) → keys ≡ all → has_key keys k ≡ true → news ≡ map (keys_from k) olds
    by [] e has = absurd (let f = ap (λ (ks : List DocKey). has_key ks k) (sym e) ∙ has in cc)
    by (x ∷ xs) e has =
        after k first
        ∙ same x (ap (λ (ks : List DocKey). slice_get ks 0) e) k (has_key-not_before x xs k (subst IsRanked e ranked) (ap (λ (ks : List DocKey). has_key ks k) (sym e) ∙ has))
