-- Operands that are asked about a key, one after the other.
use Rattle.std.proofs.Common.{◌≡◌, ℕ, suc, ◌+◌, ◌<◌, ◌≤◌, ◌⊎◌, inl, inr, Bool, true, false, not, ◌&&◌, ◌||◌, List, [], ◌∷◌, Option, None, Some, refl, sym, ◌∙◌, ap, subst, arith, length, get_or, set, slice_get, drop, map, below_more}
use Rattle.std.proofs.lemmas.Bool.{cases_lt}
use Rattle.std.proofs.lemmas.List.{get_or-map, get_or-set_other, get_or-set_same, length-map, length-set, map-set}
use Rattle.std.proofs.lemmas.List.Folds.{list_all_at}
use Rattle.std.proofs.lemmas.List.Sums.{count_by-le-length, length-filter}
use Rattle.std.specs.declared.cmp.Ordering.{Ordering}
use Rattle.std.specs.declared.cmp.Ordering.TheVariants.{Less, Equal, Greater}
use Rattle.std.specs.Ordering.{is_lt}
use Rattle.std.proofs.Math.Seq.{map-set_same}
use Rattle.std.specs.List.{list_all}
use Rattle.uni_base.specs.declared.entity.DocKey.{DocKey}
use Rattle.uni_base.specs.Cursors.{is_before, is_less, IsRanked, keys_from}
use Rattle.uni_base.specs.KeySets.{has_key, united}
use Rattle.uni_base.proofs.RankedLemmas.{has_key-keys_from, has_key-not_before, is_before_self, is_before_trans_left, is_eq_self, keys_from-here, keys_from_head_is}
use Rattle.set_cursors.specs.Leaps.{HasNoCommonBefore, IsAsked, IsMoved, IsPart, IsReached}
use Rattle.set_cursors.proofs.FirstKeys.{has_key-among}

-- what all pass, one passes
pub all_pass : {X : Type 0} (p : X → Bool) (xs : List X) (i : ℕ) (d : X) → i < length xs → list_all p xs ≡ true → p (get_or xs i d) ≡ true
all_pass p xs i d within all = by (p (get_or xs i d)) refl
  where
    by : (b : Bool) → p (get_or xs i d) ≡ b → b ≡ true
    by true e = refl
    by false e = absurd (let f = list_all_at p xs i d within e in cc)

-- what each passes, all pass
pub pass_all : {X : Type 0} (p : X → Bool) (xs : List X) (d : X) → ((i : ℕ) → i < length xs → p (get_or xs i d) ≡ true) → list_all p xs ≡ true
pass_all p [] d each = refl
pass_all p (x ∷ xs) d each = ap (λ b. b && list_all p xs) (each 0 (omega arith)) ∙ pass_all p xs d (λ i within. each (suc i) (omega arith))

-- a list without a first key, and one with one
pub none_first : (ks : List DocKey) → None ≡ slice_get ks 0 → ks ≡ []
none_first [] e = refl
none_first (x ∷ xs) e = cc

pub some_first : (ks : List DocKey) (k : DocKey) → Some k ≡ slice_get ks 0 → ks ≡ k ∷ drop 1 ks
some_first [] k e = cc
some_first (x ∷ xs) k e = cc

pub not_before_trans : (a b c : DocKey) → is_before b a ≡ false → is_before c b ≡ false → is_before c a ≡ false
not_before_trans a b c p q = by (is_before c a) refl
  where
    by : (r : Bool) → is_before c a ≡ r → r ≡ false
    by true e = absurd (let f = is_before_trans_left b c a q e in cc)
    by false e = refl

IsPart-from : (old new : List DocKey) (to : DocKey) → new ≡ keys_from to old → IsPart old new
IsPart-from old new to is = subst (IsPart old) (sym is) part
  where
    left : (a b : Bool) → (a && b) ≡ true → a ≡ true
    left true b e = refl
    left false b e = absurd cc

    part : IsPart old (keys_from to old)
    part = record {
      no_longer = omega (arith, length-filter (λ k. not (is_before k to)) old, count_by-le-length (λ k. not (is_before k to)) old);
      had = λ k has. left (has_key old k) (not (is_before k to)) (sym (has_key-keys_from to old k) ∙ has);
    }

IsPart-same : (old new : List DocKey) → new ≡ old → IsPart old new
IsPart-same old new is = subst (IsPart old) (sym is) (record { no_longer = omega arith; had = λ k has. has })

-- the operands before one were asked, the rest were not
pub record Asking (asked latest : DocKey) (olds nows : List (List DocKey)) (n : ℕ) : Type 0 where
  pub count : length nows ≡ length olds
  pub late : is_before latest asked ≡ false
  pub bounds : HasNoCommonBefore latest olds
  pub among : 0 < n → has_key (united nows) latest ≡ true
  pub done : (i : ℕ) → i < n → IsMoved asked latest (get_or olds i []) (get_or nows i [])
  pub todo : (i : ℕ) → n ≤ i → get_or nows i [] ≡ get_or olds i []

pub start_asking : (asked : DocKey) (lists : List (List DocKey)) → HasNoCommonBefore asked lists → Asking asked asked lists lists 0
start_asking asked lists bounds = record {
  count = refl;
  late = is_before_self asked;
  bounds = bounds;
  among = λ some. absurd (omega arith);
  done = λ i below. absurd (omega arith);
  todo = λ i above. refl;
}

module _ (asked : DocKey) (answer : Option DocKey) (olds news : List (List DocKey)) (count : length news ≡ length olds) (part : (i : ℕ) → IsPart (get_or olds i []) (get_or news i []))
    (ended : answer ≡ None → (k : DocKey) → list_all (λ keys. has_key keys k) olds ≡ false) (reached : (at : DocKey) → answer ≡ Some at → IsReached asked at olds news) where
  answered : IsAsked asked answer olds news
  answered = record {
    count = count;
    parts = part;
    ended = ended;
    reached = reached;
  }

-- all operands were asked
pub asked_all : (asked latest : DocKey) (olds nows : List (List DocKey)) (n : ℕ) → 0 < length olds → length olds ≤ n → Asking asked latest olds nows n → IsAsked asked (Some latest) olds nows
asked_all asked latest olds nows n some whole asking =
    answered asked (Some latest) olds nows asking.count part (λ e. absurd cc) (λ k e. let s : latest ≡ k = cc in subst (λ (y : DocKey). IsReached asked y olds nows) s reached)
  where
    part : (i : ℕ) → IsPart (get_or olds i []) (get_or nows i [])
    part i = by (cases_lt i n)
      where
        by : (i < n) ⊎ (n ≤ i) → IsPart (get_or olds i []) (get_or nows i [])
        by (inl below) = let m = asking.done i below in IsPart-from (get_or olds i []) (get_or nows i []) m.to m.moves
        by (inr above) = IsPart-same (get_or olds i []) (get_or nows i []) (asking.todo i above)

    reached : IsReached asked latest olds nows
    reached = record { not_before = asking.late; is_among = asking.among (omega arith); bounds = asking.bounds; each_moved = λ i within. asking.done i (omega arith) }

-- ---- one operand more

module _ {C : Type 0} (view : C → List DocKey) (asked latest : DocKey) (ops nows : List C) (n : ℕ) (old new : C) (within : n < length ops) (asking : Asking asked latest (map view ops) (map view nows) n)
    (is : old ≡ get_or nows n old) (moves : view new ≡ keys_from latest (view old)) where
  abbrev olds : List (List DocKey)
  olds = map view ops

  abbrev news : List (List DocKey)
  news = map view (set nows n new)

  as_many : length nows ≡ length ops
  as_many = omega (arith, length-map nows view, length-map ops view, asking.count)

  was : view old ≡ get_or olds n []
  was = let c = as_many in ap view is ∙ sym (get_or-map view nows n old [] (omega arith)) ∙ asking.todo n (omega arith)

  here : get_or news n [] ≡ keys_from latest (get_or olds n [])
  here =
      let c = as_many in
      ap (λ (ls : List (List DocKey)). get_or ls n []) (map-set view nows n new)
      ∙ get_or-set_same (map view nows) n (view new) [] (omega (arith, length-map nows view)) ∙ moves ∙ ap (keys_from latest) was

  here_new : get_or news n [] ≡ view new
  here_new = here ∙ sym (moves ∙ ap (keys_from latest) was)

  other : (i : ℕ) → (i ≡ n → ⊥) → get_or news i [] ≡ get_or (map view nows) i []
  other i apart = ap (λ (ls : List (List DocKey)). get_or ls i []) (map-set view nows n new) ∙ get_or-set_other (map view nows) n i (view new) [] apart

  counted : length news ≡ length olds
  counted = omega (arith, as_many, length-map (set nows n new) view, length-set nows n new, length-map ops view)

  part : (i : ℕ) → IsPart (get_or olds i []) (get_or news i [])
  part i = by (cases_lt i n) (cases_lt n i)
    where
      by : (i < n) ⊎ (n ≤ i) → (n < i) ⊎ (i ≤ n) → IsPart (get_or olds i []) (get_or news i [])
      by (inl below) q = let m = asking.done i below in IsPart-from (get_or olds i []) (get_or news i []) m.to (other i (λ e. omega (arith, e)) ∙ m.moves)
      by (inr above) (inl more) = IsPart-same (get_or olds i []) (get_or news i []) (other i (λ e. omega (arith, e)) ∙ asking.todo i above)
      by (inr above) (inr less) = let e : n ≡ i = omega arith in subst (λ (j : ℕ). IsPart (get_or olds j []) (get_or news j [])) e (IsPart-from (get_or olds n []) (get_or news n []) latest here)

  -- a common key is still there
  left : (k : DocKey) → list_all (λ keys. has_key keys k) olds ≡ true → has_key (view new) k ≡ true
  left k all =
      ap (λ (ks : List DocKey). has_key ks k) (sym here_new ∙ here) ∙ has_key-keys_from latest (get_or olds n []) k
      ∙ ap (λ b. b && not (is_before k latest)) (all_pass (λ keys. has_key keys k) olds n [] (omega (arith, length-map ops view)) all) ∙ ap not (asking.bounds k all)

  -- it is at its end
  pub step_end : None ≡ slice_get (view new) 0 → IsAsked asked None (map view ops) (map view (set nows n new))
  step_end e = answered asked None olds news counted part (λ _ k. none k (list_all (λ keys. has_key keys k) olds) refl) (λ at f. absurd cc)
    where
      none : (k : DocKey) (b : Bool) → list_all (λ keys. has_key keys k) olds ≡ b → b ≡ false
      none k true f = absurd (let g = ap (λ (ks : List DocKey). has_key ks k) (sym (none_first (view new) e)) ∙ left k f in cc)
      none k false f = refl

  -- or at a key
  pub step_on : (at : DocKey) → Some at ≡ slice_get (view new) 0 → IsRanked (view new) → Asking asked at (map view ops) (map view (set nows n new)) (n + 1)
  step_on at e ranked = record {
    count = counted;
    late = not_before_trans asked latest at asking.late later;
    bounds = λ k all. has_key-not_before at (drop 1 (view new)) k (subst IsRanked starts ranked) (ap (λ (ks : List DocKey). has_key ks k) (sym starts) ∙ left k all);
    among = λ some. has_key-among news n at (ap (λ (ks : List DocKey). has_key ks at) (here_new ∙ starts) ∙ ap (λ b. b || has_key (drop 1 (view new)) at) (is_eq_self at));
    done = below_more _ _ before now;
    todo = λ i above. other i (λ f. omega (arith, f)) ∙ asking.todo i (omega arith);
  }
    where
      starts : view new ≡ at ∷ drop 1 (view new)
      starts = some_first (view new) at e

      later : is_before at latest ≡ false
      later = keys_from_head_is latest at (view old) (drop 1 (view new)) (sym moves ∙ starts)

      now : IsMoved asked at (get_or olds n []) (get_or news n [])
      now = record {
        to = latest;
        at = at;
        not_before = asking.late;
        not_after = later;
        moves = here;
        stands = ap (λ (ks : List DocKey). slice_get ks 0) here_new ∙ sym e;
        within = is_before_self at;
        ranked = subst IsRanked (sym here_new) ranked;
      }

      before : (i : ℕ) → i < n → IsMoved asked at (get_or olds i []) (get_or news i [])
      before i below =
          let m = asking.done i below in
          let same = other i (λ f. omega (arith, f)) in
          record {
            to = m.to;
            at = m.at;
            not_before = m.not_before;
            not_after = not_before_trans m.to latest at m.not_after later;
            moves = same ∙ m.moves;
            stands = ap (λ (ks : List DocKey). slice_get ks 0) same ∙ m.stands;
            within = not_before_trans m.at latest at m.within later;
            ranked = subst IsRanked (sym same) m.ranked;
          }

-- an operand that was not moved
pub set_unmoved : {C : Type 0} (view : C → List DocKey) (nows : List C) (n : ℕ) (old new : C) (lists : List (List DocKey)) → old ≡ get_or nows n old → view new ≡ view old → map view nows ≡ lists → map view (set nows n new) ≡ lists
set_unmoved view nows n old new lists is same before = map-set_same view nows n new old (same ∙ ap view is) ∙ before

-- an operand that is at no key before one
pub not_behind : (key at : DocKey) (keys : List DocKey) → Some at ≡ slice_get keys 0 → IsRanked keys → is_before at key ≡ false → keys ≡ keys_from key keys
not_behind key at [] first ranked late = refl
not_behind key at (x ∷ xs) first ranked late = let s : at ≡ x = cc in sym (keys_from-here key x xs ranked (subst (λ (y : DocKey). is_before y key ≡ false) s late))

pub not_less : (o p : Ordering) (r : Bool) → p ≡ o → r ≡ is_lt p → r ≡ false → is_less o ≡ false
not_less o p r e f h = ap is_less (sym e) ∙ by p (sym f ∙ h)
  where
    by : (q : Ordering) → is_lt q ≡ false → is_less q ≡ false
    by Less g = absurd cc
    by Equal g = refl
    by Greater g = refl
