-- Operands of which some have passed keys that not all have.
use Rattle.std.proofs.Common.{◌≡◌, ℕ, suc, ◌<◌, ◌≤◌, Bool, true, false, not, ◌&&◌, ◌||◌, cond, List, [], ◌∷◌, Option, None, Some, refl, sym, ◌∙◌, ap, subst, arith, length, get_or, slice_get, drop, map}
use Rattle.std.specs.List.{list_any, list_all}
use Rattle.std.specs.Ordering.{is_eq}
use Rattle.uni_base.specs.declared.entity.DocKey.{DocKey}
use Rattle.uni_base.specs.RankOrder.{doc_cmp}
use Rattle.uni_base.specs.Cursors.{is_before, IsRanked, keys_from}
use Rattle.uni_base.specs.KeySets.{has_key, holders, united, KeepsKeys}
use Rattle.uni_base.proofs.RankedLemmas.{and_false, and_true, has_key-filter, has_key-keys_from, has_key-not_before, is_before_self, is_before_trans_right, is_eq_same, is_eq_self, keys_from_head_is, same_from_neither, IsRanked-filter, IsRanked-keys_from, least_is_head, same_from_is_eq, same_from_keys, Standing, before, same, after, standing}
use Rattle.uni_base.proofs.UnitedLemmas.{has_key-united, IsRanked-united}
use Rattle.set_cursors.specs.Filters.{common}
use Rattle.set_cursors.specs.Firsts.{is_first}
use Rattle.set_cursors.specs.Leaps.{HasNoCommonBefore, IsAsked, IsPart, IsReached, StandsAt}
use Rattle.set_cursors.proofs.Asked.{all_pass, none_first, not_before_trans, pass_all, some_first}
use Rattle.set_cursors.proofs.FirstKeys.{has_key-among}
use Rattle.std.proofs.lemmas.List.{length-map}

-- whether all lists have a key
abbrev pub all_have : DocKey → List (List DocKey) → Bool
all_have k lists = list_all (λ keys. has_key keys k) lists

all_have-holders : (k : DocKey) (lists : List (List DocKey)) → all_have k lists ≡ list_all (λ b. b) (holders k lists)
all_have-holders k [] = refl
all_have-holders k (ks ∷ lists) = ap (λ b. has_key ks k && b) (all_have-holders k lists)

has_key-holders : (k : DocKey) (lists : List (List DocKey)) → has_key (united lists) k ≡ list_any (λ b. b) (holders k lists)
has_key-holders k lists = has_key-united lists k ∙ by lists
  where
    by : (lists : List (List DocKey)) → list_any (λ keys. has_key keys k) lists ≡ list_any (λ b. b) (holders k lists)
    by [] = refl
    by (ks ∷ lists) = ap (λ b. has_key ks k || b) (by lists)

-- what all have, before or after, stays where it is
pub record KeepsShared (olds news : List (List DocKey)) : Type 0 where
  pub count : length news ≡ length olds
  pub olds_keep : (k : DocKey) → all_have k olds ≡ true → holders k news ≡ holders k olds
  pub news_had : (k : DocKey) → all_have k news ≡ true → holders k news ≡ holders k olds

pub KeepsShared_refl : (lists : List (List DocKey)) → KeepsShared lists lists
KeepsShared_refl lists = record { count = refl; olds_keep = λ k _. refl; news_had = λ k _. refl }

pub all_have_same : (k : DocKey) (xs ys : List (List DocKey)) → holders k xs ≡ holders k ys → all_have k xs ≡ all_have k ys
all_have_same k xs ys e = all_have-holders k xs ∙ ap (list_all (λ b. b)) e ∙ sym (all_have-holders k ys)

pub KeepsShared_trans : (olds mids news : List (List DocKey)) → KeepsShared olds mids → KeepsShared mids news → KeepsShared olds news
KeepsShared_trans olds mids news p q = record {
  count = q.count ∙ p.count;
  olds_keep = λ k all. let e = p.olds_keep k all in q.olds_keep k (all_have_same k mids olds e ∙ all) ∙ e;
  news_had = λ k all. let e = q.news_had k all in e ∙ p.news_had k (sym (all_have_same k news mids e) ∙ all);
}

pub has_key-common : (lists : List (List DocKey)) (k : DocKey) → has_key (common lists) k ≡ (has_key (united lists) k && all_have k lists)
has_key-common lists k = has_key-filter (λ x. all_have x lists) (united lists) k

pub IsRanked-common : (lists : List (List DocKey)) → IsRanked (common lists)
IsRanked-common lists = IsRanked-filter (λ x. all_have x lists) (united lists) (IsRanked-united lists)

right_true : (a b : Bool) → (a && b) ≡ true → b ≡ true
right_true true b e = e
right_true false b e = cc

-- a common key is one that all have
pub common_all : (lists : List (List DocKey)) (k : DocKey) → has_key (common lists) k ≡ true → all_have k lists ≡ true
common_all lists k has = right_true (has_key (united lists) k) (all_have k lists) (sym (has_key-common lists k) ∙ has)

-- a common key is a key of some list
pub has_key-common-united : (lists : List (List DocKey)) (k : DocKey) → has_key (common lists) k ≡ true → has_key (united lists) k ≡ true
has_key-common-united lists k has = left_true (has_key (united lists) k) (all_have k lists) (sym (has_key-common lists k) ∙ has)
  where
    left_true : (a b : Bool) → (a && b) ≡ true → a ≡ true
    left_true true b e = refl
    left_true false b e = cc

module _ (olds news : List (List DocKey)) (keeps : KeepsShared olds news) where
  pub common_same : common news ≡ common olds
  common_same =
      same_from_keys (common news) (common olds) (IsRanked-common news) (IsRanked-common olds)
      (λ k. has_key-common news k ∙ by k (all_have k olds) (all_have k news) refl refl ∙ sym (has_key-common olds k))
    where
      united_same : (k : DocKey) → holders k news ≡ holders k olds → has_key (united news) k ≡ has_key (united olds) k
      united_same k e = has_key-holders k news ∙ ap (list_any (λ b. b)) e ∙ sym (has_key-holders k olds)

      both : (k : DocKey) → holders k news ≡ holders k olds → (has_key (united news) k && all_have k news) ≡ (has_key (united olds) k && all_have k olds)
      both k e = ap (λ b. b && all_have k news) (united_same k e) ∙ ap (λ b. has_key (united olds) k && b) (all_have_same k news olds e)

      by : (k : DocKey) (a b : Bool) → all_have k olds ≡ a → all_have k news ≡ b → (has_key (united news) k && all_have k news) ≡ (has_key (united olds) k && all_have k olds)
      by k true b e f = both k (keeps.olds_keep k e)
      by k false true e f = both k (keeps.news_had k f)
      by k false false e f =
          ap (λ c. has_key (united news) k && c) f ∙ and_false (has_key (united news) k) ∙ sym (ap (λ c. has_key (united olds) k && c) e ∙ and_false (has_key (united olds) k))

  pub KeepsKeys-shared : KeepsKeys (common news) olds news
  KeepsKeys-shared = record { count = keeps.count; holders_stay = λ k has. keeps.news_had k (common_all news k has) }

-- no key is common
pub common_none : (lists : List (List DocKey)) → ((k : DocKey) → all_have k lists ≡ false) → common lists ≡ []
common_none lists none =
    same_from_keys (common lists) [] (IsRanked-common lists) tt (λ k. has_key-common lists k ∙ ap (λ b. has_key (united lists) k && b) (none k) ∙ and_false (has_key (united lists) k))

pub stands_nowhere : (lists : List (List DocKey)) → ((k : DocKey) → all_have k lists ≡ false) → StandsAt None lists
stands_nowhere lists none = record { first_is = sym (ap (λ (ks : List DocKey). slice_get ks 0) (common_none lists none)); all_there = λ k e. absurd cc }

-- ---- after the operands are asked

pub later_from : (key at : DocKey) → is_before at key ≡ false → is_eq (doc_cmp at key) ≡ false → is_before key at ≡ true
later_from key at not_before other = by (standing key at)
  where
    by : Standing key at → is_before key at ≡ true
    by (before p _ _ _) = p
    by (same e) = absurd (let f = is_eq_same at key (sym e) in cc)
    by (after p _ _ _) = absurd (let f = not_before in cc)

holders_from : (k : DocKey) (olds news : List (List DocKey)) → length news ≡ length olds → ((i : ℕ) → i < length olds → has_key (get_or news i []) k ≡ has_key (get_or olds i []) k) → holders k news ≡ holders k olds
holders_from k [] [] count each = refl
holders_from k [] (y ∷ ys) count each = absurd (omega arith)
holders_from k (x ∷ xs) [] count each = absurd (omega arith)
holders_from k (x ∷ xs) (y ∷ ys) count each =
    let first = each 0 (omega arith) in
    let rest = holders_from k xs ys (omega arith) (λ i within. each (suc i) (omega arith)) in
    cc

-- keys that are not before the one that was reached stay
reached_holders : (key at : DocKey) (olds news : List (List DocKey)) → length news ≡ length olds → IsReached key at olds news → (k : DocKey) → is_before k at ≡ false → holders k news ≡ holders k olds
reached_holders key at olds news count reached k late = holders_from k olds news count each
  where
    each : (i : ℕ) → i < length olds → has_key (get_or news i []) k ≡ has_key (get_or olds i []) k
    each i within =
        let m = reached.each_moved i within in
        ap (λ (ks : List DocKey). has_key ks k) m.moves ∙ has_key-keys_from m.to (get_or olds i []) k
        ∙ ap (λ b. has_key (get_or olds i []) k && not b) (not_before_trans m.to at k m.not_after late) ∙ and_true (has_key (get_or olds i []) k)

module _ (key : DocKey) (answer : Option DocKey) (mids news : List (List DocKey)) (asked : IsAsked key answer mids news) where
  asked_had : (k : DocKey) → all_have k news ≡ true → all_have k mids ≡ true
  asked_had k all =
      pass_all (λ (keys : List DocKey). has_key keys k) mids [] (λ i within. (asked.parts i).had k (all_pass (λ (keys : List DocKey). has_key keys k) news i [] (omega (arith, asked.count)) all))

  -- what all have stays, and where there is no answer nothing is that all have
  pub asked_keeps : KeepsShared mids news
  asked_keeps = record { count = asked.count; olds_keep = keep; news_had = λ k all. keep k (asked_had k all) }
    where
      keep : (k : DocKey) → all_have k mids ≡ true → holders k news ≡ holders k mids
      keep k all = by answer refl
        where
          by : (o : Option DocKey) → answer ≡ o → holders k news ≡ holders k mids
          by None e = absurd (let f = asked.ended e k in cc)
          by (Some at) e = let r = asked.reached at e in reached_holders key at mids news asked.count r k (r.bounds k all)

  pub asked_bounds : (at : DocKey) → answer ≡ Some at → HasNoCommonBefore at news
  asked_bounds at e = λ k all. (asked.reached at e).bounds k (asked_had k all)

  pub asked_ended : answer ≡ None → StandsAt None news
  asked_ended e = stands_nowhere news (λ k. by k (all_have k news) refl)
    where
      by : (k : DocKey) (b : Bool) → all_have k news ≡ b → b ≡ false
      by k true all = absurd (let f = asked.ended e k in let g = asked_had k all in cc)
      by k false all = refl

  -- a later key is nearer to the end
  pub asked_nearer : (at : DocKey) → answer ≡ Some at → is_eq (doc_cmp at key) ≡ false → has_key (united mids) key ≡ true
      → length (keys_from at (united news)) < length (keys_from key (united mids))
  asked_nearer at answers other among =
      subst (λ (ks : List DocKey). length ks < length (keys_from key (united mids))) (sym left) (shorter (united mids) among)
    where
      later : is_before key at ≡ true
      later = later_from key at (asked.reached at answers).not_before other

      goes_on : (k : DocKey) → is_before k at ≡ false → is_before k key ≡ false
      goes_on k p = by (is_before k key) refl
        where
          by : (b : Bool) → is_before k key ≡ b → b ≡ false
          by true e = absurd (let f = is_before_trans_right k key at e (asked.reached at answers).not_before in cc)
          by false e = refl

      same_from : (k : DocKey) (b : Bool) → is_before k at ≡ b → (has_key (united news) k && not (is_before k at)) ≡ (has_key (united mids) k && not (is_before k at))
      same_from k true e =
          ap (λ c. has_key (united news) k && not c) e ∙ and_false (has_key (united news) k) ∙ sym (ap (λ c. has_key (united mids) k && not c) e ∙ and_false (has_key (united mids) k))
      same_from k false e =
          ap (λ c. c && not (is_before k at)) (has_key-holders k news ∙ ap (list_any (λ b. b)) (reached_holders key at mids news asked.count (asked.reached at answers) k e) ∙ sym (has_key-holders k mids))

      left : keys_from at (united news) ≡ keys_from at (united mids)
      left =
          same_from_keys (keys_from at (united news)) (keys_from at (united mids)) (IsRanked-keys_from at (united news) (IsRanked-united news)) (IsRanked-keys_from at (united mids) (IsRanked-united mids))
          (λ k. has_key-keys_from at (united news) k ∙ same_from k (is_before k at) refl ∙ sym (has_key-keys_from at (united mids) k))

      no_longer : (ks : List DocKey) → length (keys_from at ks) ≤ length (keys_from key ks)
      no_longer [] = omega arith
      no_longer (x ∷ xs) = by (is_before x at) (is_before x key) refl refl (no_longer xs)
        where
          by : (a b : Bool) → is_before x at ≡ a → is_before x key ≡ b → length (keys_from at xs) ≤ length (keys_from key xs)
              → length (cond (not a) (x ∷ keys_from at xs) (keys_from at xs)) ≤ length (cond (not b) (x ∷ keys_from key xs) (keys_from key xs))
          by true true e f l = l
          by true false e f l = omega arith
          by false true e f l = absurd (let h = goes_on x e in cc)
          by false false e f l = omega arith

      shorter : (ks : List DocKey) → has_key ks key ≡ true → length (keys_from at ks) < length (keys_from key ks)
      shorter [] has = absurd cc
      shorter (x ∷ xs) has = by (is_before x at) (is_before x key) (is_eq (doc_cmp x key)) refl refl refl has (no_longer xs) (shorter xs)
        where
          by : (a b c : Bool) → is_before x at ≡ a → is_before x key ≡ b → is_eq (doc_cmp x key) ≡ c → (c || has_key xs key) ≡ true → length (keys_from at xs) ≤ length (keys_from key xs)
              → (has_key xs key ≡ true → length (keys_from at xs) < length (keys_from key xs))
              → length (cond (not a) (x ∷ keys_from at xs) (keys_from at xs)) < length (cond (not b) (x ∷ keys_from key xs) (keys_from key xs))
          by a b true e f s h l m =
              let is : x ≡ key = same_from_is_eq x key s in
              let e' : a ≡ true = sym e ∙ subst (λ (y : DocKey). is_before y at ≡ true) (sym is) later in
              let f' : b ≡ false = sym f ∙ subst (λ (y : DocKey). is_before y key ≡ false) (sym is) (is_before_self key) in
              rw (e', f') (omega arith)
          by true true false e f s h l m = m h
          by true false false e f s h l m = omega (arith, m h)
          by false true false e f s h l m = absurd (let g = goes_on x e in cc)
          by false false false e f s h l m = omega (arith, m h)

-- all operands are at the key, where no later one was reached
pub stands_there : (key at : DocKey) (olds news : List (List DocKey)) → IsAsked key (Some at) olds news → is_eq (doc_cmp at key) ≡ true → 0 < length olds → StandsAt (Some at) news
stands_there key at olds news asked here some = record {
  first_is = sym (least_is_head (common news) at (IsRanked-common news) has (λ x h. asked_bounds key (Some at) olds news asked at refl x (common_all news x h)));
  all_there = λ k e. let s : at ≡ k = inside e in subst (λ (y : DocKey). list_all (is_first y) news ≡ true) s there;
}
  where
    inside : {k : DocKey} → Some at ≡ Some k → at ≡ k
    inside e = cc

    is : at ≡ key
    is = same_from_is_eq at key here

    reached : IsReached key at olds news
    reached = asked.reached at refl

    begins : (a : DocKey) (ks rest : List DocKey) → ks ≡ a ∷ rest → a ≡ at → is_first at ks ≡ true
    begins a ks rest e f = ap (is_first at) e ∙ is_eq_same a at f

    at_it : (i : ℕ) → i < length news → is_first at (get_or news i []) ≡ true
    at_it i within =
        let m = reached.each_moved i (omega (arith, asked.count)) in
        let starts = some_first (get_or news i []) m.at (sym m.stands) in
        let late = not_before_trans key m.to m.at m.not_before (keys_from_head_is m.to m.at (get_or olds i []) (drop 1 (get_or news i [])) (sym m.moves ∙ starts)) in
        begins m.at (get_or news i []) (drop 1 (get_or news i [])) starts (same_from_neither m.at at (subst (λ (y : DocKey). is_before m.at y ≡ false) (sym is) late) m.within)

    there : list_all (is_first at) news ≡ true
    there = pass_all (is_first at) news [] at_it

    has_at : (ks : List DocKey) → is_first at ks ≡ true → has_key ks at ≡ true
    has_at [] e = absurd cc
    has_at (x ∷ xs) e = ap (λ b. b || has_key xs at) e

    has : has_key (common news) at ≡ true
    has =
        has_key-common news at ∙ ap (λ b. b && all_have at news) reached.is_among
        ∙ pass_all (λ keys. has_key keys at) news [] (λ i within. has_at (get_or news i []) (at_it i within))

-- ---- the first operand's key is the first that is asked about

module _ {C : Type 0} (view : C → List DocKey) (ops : List C) (x : C) (first : Some x ≡ slice_get ops 0) where
  start_list : (ops : List C) → Some x ≡ slice_get ops 0 → (get_or (map view ops) 0 [] ≡ view x) × (0 < length ops)
  start_list [] e = absurd cc
  start_list (y ∷ ys) e = let s : y ≡ x = cc in (ap view s, omega arith)

  pub start_some : 0 < length ops
  start_some = (start_list ops first).1

  first_has : (k : DocKey) → all_have k (map view ops) ≡ true → has_key (view x) k ≡ true
  first_has k all =
      ap (λ (ks : List DocKey). has_key ks k) (sym (start_list ops first).0)
      ∙ all_pass (λ (keys : List DocKey). has_key keys k) (map view ops) 0 [] (let s = start_some in omega (arith, length-map ops view)) all

  pub start_none : None ≡ slice_get (view x) 0 → StandsAt None (map view ops)
  start_none e = stands_nowhere (map view ops) (λ k. by k (all_have k (map view ops)) refl)
    where
      by : (k : DocKey) (b : Bool) → all_have k (map view ops) ≡ b → b ≡ false
      by k true f = absurd (let h = ap (λ (ks : List DocKey). has_key ks k) (sym (none_first (view x) e)) ∙ first_has k f in cc)
      by k false f = refl

  pub start_bounds : (key : DocKey) → Some key ≡ slice_get (view x) 0 → IsRanked (view x) → (k : DocKey) → all_have k (map view ops) ≡ true → is_before k key ≡ false
  start_bounds key e ranked k all =
      let is = some_first (view x) key e in
      has_key-not_before key (drop 1 (view x)) k (subst IsRanked is ranked) (ap (λ (ks : List DocKey). has_key ks k) (sym is) ∙ first_has k all)

  pub start_among : (key : DocKey) → Some key ≡ slice_get (view x) 0 → has_key (united (map view ops)) key ≡ true
  start_among key e =
      has_key-among (map view ops) 0 key
      (ap (λ (ks : List DocKey). has_key ks key) ((start_list ops first).0 ∙ some_first (view x) key e) ∙ ap (λ b. b || has_key (drop 1 (view x)) key) (is_eq_self key))

-- ---- lists that are parts of others

pub IsPart_refl : (lists : List (List DocKey)) (i : ℕ) → IsPart (get_or lists i []) (get_or lists i [])
IsPart_refl lists i = record { no_longer = omega arith; had = λ k has. has }

pub IsPart_trans : (old mid new : List DocKey) → IsPart old mid → IsPart mid new → IsPart old new
IsPart_trans old mid new p q = record { no_longer = omega (arith, p.no_longer, q.no_longer); had = λ k has. p.had k (q.had k has) }

-- no key is new
pub united_parts : (olds news : List (List DocKey)) → length news ≡ length olds → ((i : ℕ) → IsPart (get_or olds i []) (get_or news i [])) → (k : DocKey) → has_key (united news) k ≡ true → has_key (united olds) k ≡ true
united_parts olds news count parts k has = has_key-united olds k ∙ by olds news count parts (sym (has_key-united news k) ∙ has)
  where
    more : (a b c e : Bool) → (a ≡ true → c ≡ true) → (b ≡ true → e ≡ true) → (a || b) ≡ true → (c || e) ≡ true
    more true b c e f g h = ap (λ x. x || e) (f refl)
    more false b true e f g h = refl
    more false b false e f g h = g h

    by : (olds news : List (List DocKey)) → length news ≡ length olds → ((i : ℕ) → IsPart (get_or olds i []) (get_or news i []))
        → list_any (λ keys. has_key keys k) news ≡ true → list_any (λ keys. has_key keys k) olds ≡ true
    by olds [] count parts has = absurd cc
    by [] (n ∷ news) count parts has = absurd (omega arith)
    by (o ∷ olds) (n ∷ news) count parts has =
        more (has_key n k) (list_any (λ keys. has_key keys k) news) (has_key o k) (list_any (λ keys. has_key keys k) olds) ((parts 0).had k)
        (by olds news (omega arith) (λ i. parts (suc i))) has
