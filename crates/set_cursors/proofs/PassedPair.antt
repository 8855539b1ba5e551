-- Two operands that have passed what comes before a key.
use Rattle.std.proofs.Common.{◌≡◌, Bool, true, false, not, List, [], ◌∷◌, Option, None, Some, is_some, refl, sym, ◌∙◌, ap, subst, drop, slice_get}
use Rattle.uni_base.specs.declared.entity.DocKey.{DocKey}
use Rattle.uni_base.specs.Cursors.{is_before, IsRanked, keys_from}
use Rattle.uni_base.proofs.RankedLemmas.{IsRanked-filter, is_before_back, is_before_self, is_before_trans_right, keys_from-before, keys_from-head, keys_from-keys_from}
use Rattle.uni_base.specs.KeySets.{has_key}
use Rattle.set_cursors.specs.Differences.{IsClear}
use Rattle.set_cursors.specs.Filters.{difference}
use Rattle.set_cursors.specs.Passed.{HavePassed}
use Rattle.set_cursors.proofs.Differences.{first_clear, pair}
use Rattle.set_cursors.proofs.Passed.{later_head, sought_late}

-- from the first of some keys on, a list has what it had
abbrev pub SameFrom : List DocKey → List DocKey → List DocKey → Type 0
SameFrom keys old new = (k : DocKey) → slice_get keys 0 ≡ Some k → (b : DocKey) → is_before b k ≡ false → keys_from b new ≡ keys_from b old

pub SameFrom_refl : (keys list : List DocKey) → SameFrom keys list list
SameFrom_refl keys list = λ k e b late. refl

-- the first operand's next key
first_passed : (key k : DocKey) (keys : List DocKey) → Some key ≡ slice_get keys 0 → is_before key k ≡ true → keys_from k (drop 1 keys) ≡ keys_from k keys
first_passed key k [] f after = cc
first_passed key k (x ∷ xs) f after = let s : key ≡ x = cc in sym (keys_from-before k x xs (subst (λ (y : DocKey). is_before y k ≡ true) s after))

module _ (key : DocKey) (firsts old : List DocKey) (first : Some key ≡ slice_get firsts 0) (ranked : IsRanked firsts) where
  later : (k : DocKey) → slice_get (drop 1 firsts) 0 ≡ Some k → (b : DocKey) → is_before b k ≡ false → is_before key b ≡ true
  later k e b late = is_before_trans_right key k b (later_head firsts key k ranked first e) late

  -- the first key is passed
  pub go_first : SameFrom firsts old firsts → SameFrom (drop 1 firsts) old (drop 1 firsts)
  go_first same k e b late =
      let after = later k e b late in
      first_passed key b firsts first after ∙ same key (sym first) b (is_before_back key b after)

  pub go_second : (mid new : List DocKey) → new ≡ keys_from key mid → SameFrom firsts old mid → SameFrom (drop 1 firsts) old new
  go_second mid new moves same k e b late =
      let on = is_before_back key b (later k e b late) in
      ap (keys_from b) moves ∙ keys_from-keys_from key b mid on ∙ same key (sym first) b on

  -- or it stays
  pub stop_first : SameFrom firsts old firsts → firsts ≡ keys_from key old
  stop_first same = by firsts first ranked ∙ same key (sym first) key (is_before_self key)
    where
      by : (keys : List DocKey) → Some key ≡ slice_get keys 0 → IsRanked keys → keys ≡ keys_from key keys
      by [] f r = cc
      by (x ∷ xs) f r = let s : key ≡ x = cc in sym (subst (λ (y : DocKey). keys_from y (x ∷ xs) ≡ x ∷ xs) (sym s) (keys_from-head x xs r))

  pub stop_second : (mid new : List DocKey) → new ≡ keys_from key mid → SameFrom firsts old mid → new ≡ keys_from key old
  stop_second mid new moves same = moves ∙ same key (sym first) key (is_before_self key)

-- both have passed what comes before the first key
pub passed_pair : (key : DocKey) (left fs ss gs ts : List DocKey) → Some key ≡ slice_get left 0 → gs ≡ keys_from key fs → ts ≡ keys_from key ss → HavePassed left (pair fs ss) (pair gs ts)
passed_pair key left fs ss gs ts first one two k e =
    let s : key ≡ k = inside (first ∙ e) in
    subst (λ (x : DocKey). pair gs ts ≡ pair (keys_from x fs) (keys_from x ss)) s (ap (λ (xs : List DocKey). pair xs ts) one ∙ ap (pair (keys_from key fs)) two)
  where
    inside : {k : DocKey} → Some key ≡ Some k → key ≡ k
    inside f = cc

-- no key is left where the first operand is at its end
pub passed_end : (fs ss : List DocKey) (olds news : List (List DocKey)) → ((k : DocKey) → Some k ≡ slice_get fs 0 → ⊥) → HavePassed (difference fs ss) olds news
passed_end [] ss olds news ended k e = cc
passed_end (x ∷ xs) ss olds news ended k e = absurd (ended x refl)

-- ---- the first operand was moved before

module _ {D : Type 0} (view : D → List DocKey) (operands : D × D) (first second : D) (is : (first, second) ≡ operands) (mid : D) (left : List DocKey) (news : List (List DocKey))
    (passed : HavePassed left (pair (view mid) (view second)) news) where
  moved : ((k : DocKey) → slice_get left 0 ≡ Some k → keys_from k (view mid) ≡ keys_from k (view first)) → HavePassed left (pair (view operands.0) (view operands.1)) news
  moved same =
      subst (λ (p : D × D). HavePassed left (pair (view p.0) (view p.1)) news) is (λ k e. passed k e ∙ ap (λ (ks : List DocKey). pair ks (keys_from k (view second))) (same k e))

  pub sought_passed : (from : DocKey) → view mid ≡ keys_from from (view first) → left ≡ keys_from from (difference (view operands.0) (view operands.1)) → HavePassed left (pair (view operands.0) (view operands.1)) news
  sought_passed from moves after =
      moved (λ k e. ap (keys_from k) moves
      ∙ keys_from-keys_from from k (view first) (sought_late from k (difference (view operands.0) (view operands.1)) (ap (λ (ks : List DocKey). slice_get ks 0) (sym after) ∙ e)))

  pub stepped_passed : (key : DocKey) → Some key ≡ slice_get (view first) 0 → IsRanked (view first) → IsClear (view first) (view second) → view mid ≡ drop 1 (view first)
      → left ≡ drop 1 (difference (view operands.0) (view operands.1)) → HavePassed left (pair (view operands.0) (view operands.1)) news
  stepped_passed key here ranked clear moves after = moved (λ k e. ap (keys_from k) moves ∙ first_passed key k (view first) here (before k e))
    where
      olds : difference (view operands.0) (view operands.1) ≡ difference (view first) (view second)
      olds = sym (ap (λ (p : D × D). difference (view p.0) (view p.1)) is)

      before : (k : DocKey) → slice_get left 0 ≡ Some k → is_before key k ≡ true
      before k e =
          later_head (difference (view first) (view second)) key k (IsRanked-filter (λ x. not (has_key (view second) x)) (view first) ranked) (here ∙ first_clear (view first) (view second) clear)
          (ap (λ (ks : List DocKey). slice_get (drop 1 ks) 0) (sym olds) ∙ ap (λ (ks : List DocKey). slice_get ks 0) (sym after) ∙ e)

-- what a test for a first key has told
pub some_told : (o : Option DocKey) (r : Bool) → r ≡ is_some o → r ≡ true → (k : DocKey) × (Some k ≡ o)
some_told None r e f = absurd cc
some_told (Some k) r e f = (k, refl)

pub none_told : (o : Option DocKey) (r : Bool) → r ≡ is_some o → r ≡ false → o ≡ None
none_told None r e f = refl
none_told (Some k) r e f = absurd cc

module _ {D : Type 0} (view : D → List DocKey) (operands : D × D) (first second : D) (is : (first, second) ≡ operands) (clear : IsClear (view first) (view second)) (none : None ≡ slice_get (view first) 0) where
  at_end : slice_get (difference (view operands.0) (view operands.1)) 0 ≡ None
  at_end = ap (λ (p : D × D). slice_get (difference (view p.0) (view p.1)) 0) (sym is) ∙ sym (first_clear (view first) (view second) clear) ∙ sym none

  pub end_after : difference (view operands.0) (view operands.1) ≡ drop 1 (difference (view operands.0) (view operands.1))
  end_after = by (difference (view operands.0) (view operands.1)) at_end
    where
      by : (keys : List DocKey) → slice_get keys 0 ≡ None → keys ≡ drop 1 keys
      by [] e = refl
      by (x ∷ xs) e = absurd cc

  pub end_passed : (olds news : List (List DocKey)) → HavePassed (difference (view operands.0) (view operands.1)) olds news
  end_passed olds news k e = absurd (let f = sym at_end ∙ e in cc)
