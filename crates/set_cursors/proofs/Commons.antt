-- Common keys of operands that have passed some.
use Rattle.std.proofs.Common.{◌≡◌, ℕ, zero, suc, ◌+◌, ◌-◌, ◌*◌, ◌<◌, ◌≤◌, Bool, true, false, not, ◌&&◌, ◌||◌, List, [], ◌∷◌, Some, refl, sym, ◌∙◌, ap, subst, arith, drop, filter, get_or, length, map, set, slice_get}
use Rattle.std.specs.List.{list_any, list_all}
use Rattle.std.specs.Ordering.{is_eq}
use Rattle.uni_base.specs.declared.entity.DocKey.{DocKey}
use Rattle.uni_base.specs.RankOrder.{doc_cmp}
use Rattle.uni_base.specs.Cursors.{is_before, IsRanked, keys_from}
use Rattle.uni_base.specs.KeySets.{has_key, holders, united, without, KeepsKeys}
use Rattle.uni_base.proofs.RankedLemmas.{and_false, and_true, has_key-filter, has_key-not_before, IsRanked-filter, is_eq_same, least_is_head, same_from_is_eq, same_from_keys}
use Rattle.uni_base.proofs.UnitedLemmas.{has_key-united, IsRanked-united, KeepsKeys_trans, without-head}
use Rattle.set_cursors.specs.Filters.{common}
use Rattle.set_cursors.specs.Leaps.{first_filtered}
use Rattle.set_cursors.specs.Moves.{AreFew}
use Rattle.set_cursors.proofs.Asked.{all_pass}
use Rattle.set_cursors.proofs.FirstKeys.{has_key-among}
use Rattle.std.proofs.Math.Nat.{mul-le-mul_left}
use Rattle.std.proofs.lemmas.List.Sums.{count_by-le-length, length-filter}
use Rattle.set_cursors.specs.Firsts.{is_first, HasNoneBefore}
use Rattle.set_cursors.proofs.Shared.{all_have, has_key-common, has_key-common-united, IsRanked-common}

-- what is left of common keys, where the first operand passed those that fail a test
module _ (p : DocKey → Bool) (lists : List (List DocKey)) where
  all_filtered : (k : DocKey) → (lists : List (List DocKey)) → 0 < length lists → all_have k (first_filtered p lists) ≡ (all_have k lists && p k)
  all_filtered k [] some = absurd (omega arith)
  all_filtered k (ks ∷ lists) some =
      ap (λ b. b && all_have k lists) (has_key-filter p ks k) ∙ by (has_key ks k) (p k) (all_have k lists)
    where
      by : (a b c : Bool) → ((a && b) && c) ≡ ((a && c) && b)
      by true true c = sym (and_true c)
      by true false c = sym (and_false c)
      by false b c = refl

  -- all that all of some lists have is a common key
  has_common : (k : DocKey) (lists : List (List DocKey)) → 0 < length lists → has_key (common lists) k ≡ all_have k lists
  has_common k lists some = has_key-common lists k ∙ by (all_have k lists) refl
    where
      by : (b : Bool) → all_have k lists ≡ b → (has_key (united lists) k && b) ≡ b
      by true e = ap (λ c. c && true) (has_key-among lists 0 k (all_pass (λ (keys : List DocKey). has_key keys k) lists 0 [] some e))
      by false e = and_false (has_key (united lists) k)

  pub common-first_filtered : common (first_filtered p lists) ≡ filter p (common lists)
  common-first_filtered = by lists
    where
      length-first : (lists : List (List DocKey)) → length (first_filtered p lists) ≡ length lists
      length-first [] = refl
      length-first (ks ∷ lists) = refl

      by : (lists : List (List DocKey)) → common (first_filtered p lists) ≡ filter p (common lists)
      by [] = refl
      by (ks ∷ lists) =
          same_from_keys (common (filter p ks ∷ lists)) (filter p (common (ks ∷ lists))) (IsRanked-common (filter p ks ∷ lists)) (IsRanked-filter p (common (ks ∷ lists)) (IsRanked-common (ks ∷ lists)))
          (λ k. has_common k (filter p ks ∷ lists) (omega arith) ∙ all_filtered k (ks ∷ lists) (omega arith)
          ∙ ap (λ b. b && p k) (sym (has_common k (ks ∷ lists) (omega arith))) ∙ sym (has_key-filter p (common (ks ∷ lists)) k))

  pub KeepsKeys-first_filtered : KeepsKeys (common (first_filtered p lists)) lists (first_filtered p lists)
  KeepsKeys-first_filtered = by lists
    where
      by : (lists : List (List DocKey)) → KeepsKeys (common (first_filtered p lists)) lists (first_filtered p lists)
      by [] = record { count = refl; holders_stay = λ k has. refl }
      by (ks ∷ lists) = record {
        count = refl;
        holders_stay = λ k has.
            let passes = right_true (all_have k (ks ∷ lists)) (p k) (sym (all_filtered k (ks ∷ lists) (omega arith)) ∙ sym (has_common k (filter p ks ∷ lists) (omega arith)) ∙ has) in
            let first : has_key (filter p ks) k ≡ has_key ks k = has_key-filter p ks k ∙ ap (λ b. has_key ks k && b) passes ∙ and_true (has_key ks k) in
            ap (λ (b : Bool). b ∷ holders k lists) first;
      }
        where
          right_true : (a b : Bool) → (a && b) ≡ true → b ≡ true
          right_true true b e = e
          right_true false b e = absurd cc

module _ {C : Type 0} (view : C → List DocKey) (news mids olds was : List C) (is : was ≡ olds) (leaps : common (map view news) ≡ common (map view mids))
    (keeps : KeepsKeys (common (map view news)) (map view mids) (map view news)) where
  module _ (p : DocKey → Bool) (moves : map view mids ≡ first_filtered p (map view was)) where
    moved : map view mids ≡ first_filtered p (map view olds)
    moved = moves ∙ ap (λ (xs : List C). first_filtered p (map view xs)) is

    all_moved : common (map view news) ≡ filter p (common (map view olds))
    all_moved = leaps ∙ ap common moved ∙ common-first_filtered p (map view olds)

    all_keep : KeepsKeys (common (map view news)) (map view olds) (map view news)
    all_keep =
        KeepsKeys_trans (common (map view mids)) (common (map view news)) (map view olds) (map view mids) (map view news)
        (λ k has. ap (λ (ks : List DocKey). has_key ks k) (sym leaps) ∙ has)
        (subst (λ (lists : List (List DocKey)). KeepsKeys (common lists) (map view olds) lists) (sym moved) (KeepsKeys-first_filtered p (map view olds))) keeps

  -- after a seek
  pub common-sought : (from : DocKey) → map view mids ≡ first_filtered (λ k. not (is_before k from)) (map view was) → common (map view news) ≡ keys_from from (common (map view olds))
  common-sought from moves = all_moved (λ k. not (is_before k from)) moves

  pub common-KeepsKeys-sought : (from : DocKey) → map view mids ≡ first_filtered (λ k. not (is_before k from)) (map view was) → KeepsKeys (common (map view news)) (map view olds) (map view news)
  common-KeepsKeys-sought from moves = all_keep (λ k. not (is_before k from)) moves

  -- after the first common key is passed
  pub common-passed : (k : DocKey) → Some k ≡ slice_get (common (map view was)) 0 → map view mids ≡ first_filtered (λ x. not (is_eq (doc_cmp k x))) (map view was)
      → common (map view news) ≡ drop 1 (common (map view olds))
  common-passed k first moves =
      all_moved (λ x. not (is_eq (doc_cmp k x))) moves
      ∙ by (common (map view olds)) (first ∙ ap (λ (xs : List C). slice_get (common (map view xs)) 0) is) (IsRanked-common (map view olds))
    where
      by : (ks : List DocKey) → Some k ≡ slice_get ks 0 → IsRanked ks → without k ks ≡ drop 1 ks
      by [] e ranked = refl
      by (x ∷ xs) e ranked = let s : x ≡ k = cc in subst (λ (y : DocKey). without y (x ∷ xs) ≡ xs) s (without-head x xs ranked)

  pub common-KeepsKeys-passed : (k : DocKey) → map view mids ≡ first_filtered (λ x. not (is_eq (doc_cmp k x))) (map view was) → KeepsKeys (common (map view news)) (map view olds) (map view news)
  common-KeepsKeys-passed k moves = all_keep (λ x. not (is_eq (doc_cmp k x))) moves

-- the count of moves, where the first operand was moved before the leap
pub few-first_filtered : (before after : ℕ) (p : DocKey → Bool) (olds news : List (List DocKey)) → AreFew before after (first_filtered p olds) news → AreFew before after olds news
few-first_filtered before after p [] news few i within = absurd (omega arith)
few-first_filtered before after p (ks ∷ lists) news few zero within =
    let most = few 0 (omega arith) in
    let n = suc (length lists) in
    let m = length (get_or news 0 []) in
    let less : length (filter p ks) ≤ length ks = omega (arith, length-filter p ks, count_by-le-length p ks) in
    let times : n * (2 * (length (filter p ks) - m) + 3) ≤ n * (2 * (length ks - m) + 3) = mul-le-mul_left n (omega (arith, less)) in
    omega (arith, most, times)
few-first_filtered before after p (ks ∷ lists) news few (suc i) within = few (suc i) within

-- one operand at a place is moved alone
pub first_moved : {C : Type 0} (view : C → List DocKey) (p : DocKey → Bool) (ops : List C) (old new : C) → slice_get ops 0 ≡ Some old → view new ≡ filter p (view old) → map view (set ops 0 new) ≡ first_filtered p (map view ops)
first_moved view p [] old new first moves = absurd cc
first_moved view p (x ∷ xs) old new first moves = let s : x ≡ old = cc in ap (λ (ks : List DocKey). ks ∷ map view xs) (moves ∙ ap (λ (y : _). filter p (view y)) (sym s))

-- an operand stands at the first common key
pub some_operands : {C : Type 0} (view : C → List DocKey) (ops : List C) (k : DocKey) → Some k ≡ slice_get (common (map view ops)) 0 → 0 < length ops
some_operands view [] k e = absurd cc
some_operands view (x ∷ xs) k e = omega arith

-- each operand is at the key that the cursor stands at
pub none_before_first : (k : DocKey) (lists : List (List DocKey)) → list_all (is_first k) lists ≡ true → (i : ℕ) → HasNoneBefore k (get_or lists i [])
none_before_first k [] there i = λ ranked x has. absurd cc
none_before_first k (ks ∷ lists) there zero = by ks (both_true (is_first k ks) (list_all (is_first k) lists) there).0
  where
    both_true : (a b : Bool) → (a && b) ≡ true → (a ≡ true) × (b ≡ true)
    both_true true b e = (refl, e)
    both_true false b e = absurd cc

    by : (ks : List DocKey) → is_first k ks ≡ true → HasNoneBefore k ks
    by [] e = absurd cc
    by (y ∷ ys) e = λ ranked x has. let s = same_from_is_eq y k e in subst (λ (z : DocKey). is_before x z ≡ false) s (has_key-not_before y ys x ranked has)
none_before_first k (ks ∷ lists) there (suc i) = none_before_first k lists (right (is_first k ks) (list_all (is_first k) lists) there) i
  where
    right : (a b : Bool) → (a && b) ≡ true → b ≡ true
    right true b e = e
    right false b e = absurd cc

-- the operand at the first place
pub first_at : {C : Type 0} (ops : List C) (old : C) → 0 < length ops → old ≡ get_or ops 0 old → slice_get ops 0 ≡ Some old
first_at [] old some is = absurd (omega arith)
first_at (x ∷ xs) old some is = ap (λ (y : _). Some y) (sym is)

pub first_view : {C : Type 0} (view : C → List DocKey) (ops : List C) (old : C) → slice_get ops 0 ≡ Some old → get_or (map view ops) 0 [] ≡ view old
first_view view [] old first = absurd cc
first_view view (x ∷ xs) old first = let s : x ≡ old = cc in ap view s

module _ {C : Type 0} (view : C → List DocKey) (mids olds was : List C) (is : was ≡ olds) (news : List (List DocKey)) (p : DocKey → Bool) (moves : map view mids ≡ first_filtered p (map view was)) where
  pub few-moved : (before made after : ℕ) → made ≡ before → AreFew made after (map view mids) news → AreFew before after (map view olds) news
  few-moved before made after e few =
      few-first_filtered before after p (map view olds) news
      (subst (λ (lists : List (List DocKey)). AreFew before after lists news) (moves ∙ ap (λ (xs : List C). first_filtered p (map view xs)) is)
      (subst (λ (n : ℕ). AreFew n after (map view mids) news) e few))

-- where all operands are at a key, and are in rank order, it is the first of all keys
pub first_of_all : (k : DocKey) (lists : List (List DocKey)) → Some k ≡ slice_get (common lists) 0 → list_all (is_first k) lists ≡ true
    → ((i : ℕ) → i < length lists → IsRanked (get_or lists i [])) → slice_get (united lists) 0 ≡ Some k
first_of_all k lists first there ranked = least_is_head (united lists) k (IsRanked-united lists) (has_key-common-united lists k (has (common lists) first)) (λ x h. least x lists there ranked (sym (has_key-united lists x) ∙ h))
  where
    has : (ks : List DocKey) → Some k ≡ slice_get ks 0 → has_key ks k ≡ true
    has [] e = absurd cc
    has (x ∷ xs) e = let s : x ≡ k = cc in ap (λ b. b || has_key xs k) (is_eq_same x k s)

    least : (x : DocKey) (lists : List (List DocKey)) → list_all (is_first k) lists ≡ true → ((i : ℕ) → i < length lists → IsRanked (get_or lists i []))
        → list_any (λ keys. has_key keys x) lists ≡ true → is_before x k ≡ false
    least x [] there ranked h = absurd cc
    least x (ks ∷ lists) there ranked h =
        by (has_key ks x) refl h (least x lists (right (is_first k ks) (list_all (is_first k) lists) there) (λ i within. ranked (suc i) (omega arith)))
      where
        right : (a b : Bool) → (a && b) ≡ true → b ≡ true
        right true b e = e
        right false b e = absurd cc

        by : (b : Bool) → has_key ks x ≡ b → (b || list_any (λ keys. has_key keys x) lists) ≡ true → (list_any (λ keys. has_key keys x) lists ≡ true → is_before x k ≡ false) → is_before x k ≡ false
        by true e h rest = none_before_first k (ks ∷ lists) there 0 (ranked 0 (omega arith)) x e
        by false e h rest = rest h
