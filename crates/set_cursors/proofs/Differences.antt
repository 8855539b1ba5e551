-- Keys that one list has and another lacks.
use Rattle.std.proofs.Common.{◌≡◌, ℕ, Bool, true, false, not, ◌&&◌, ◌||◌, cond, List, [], ◌∷◌, Option, Some, refl, sym, ◌∙◌, ap, subst, drop, get_or, slice_get}
use Rattle.std.specs.Ordering.{is_eq}
use Rattle.std.specs.Bool.{OnTrue}
use Rattle.std.specs.Option.{is_some}
use Rattle.uni_base.specs.declared.entity.DocKey.{DocKey}
use Rattle.uni_base.specs.RankOrder.{doc_cmp}
use Rattle.uni_base.specs.Cursors.{is_before, IsRanked, keys_from}
use Rattle.uni_base.specs.KeySets.{has_first, has_key, holders, KeepsKeys}
use Rattle.uni_base.proofs.RankedLemmas.{and_true, has_key-filter, has_key-keys_from, has_key-not_before, is_before_self, is_eq_self, IsRanked-filter, keys_from-filter, same_from_keys}
use Rattle.set_cursors.specs.Differences.{IsClear}
use Rattle.set_cursors.specs.Filters.{difference}
use Rattle.set_cursors.specs.Firsts.{is_first}
use Rattle.set_cursors.proofs.Asked.{some_first}
use Rattle.uni_base.proofs.UnitedLemmas.{KeepsKeys_trans}
use Rattle.set_cursors.proofs.FirstKeys.{is_first-has_key, or_true}

-- two lists, as operands are
abbrev pub pair : List DocKey → List DocKey → List (List DocKey)
pair firsts seconds = firsts ∷ seconds ∷ []

left_true : (a b : Bool) → (a && b) ≡ true → a ≡ true
left_true true b e = refl
left_true false b e = cc

pub in_firsts : (fs ss : List DocKey) (k : DocKey) → has_key (difference fs ss) k ≡ true → has_key fs k ≡ true
in_firsts fs ss k has = left_true (has_key fs k) (not (has_key ss k)) (sym (has_key-filter (λ x. not (has_key ss x)) fs k) ∙ has)

pair_holders : (k : DocKey) (fs gs ss ts : List DocKey) → has_key fs k ≡ has_key gs k → has_key ss k ≡ has_key ts k → holders k (pair fs ss) ≡ holders k (pair gs ts)
pair_holders k fs gs ss ts e f = ap (λ b. b ∷ has_key ss k ∷ []) e ∙ ap (λ b. has_key gs k ∷ b ∷ []) f

-- an operand that is moved on to a key has it exactly if it is then at it
pub at_sought : (key : DocKey) (old new : List DocKey) → new ≡ keys_from key old → IsRanked new → is_first key new ≡ has_key old key
at_sought key old new moves ranked =
    is_first-has_key key new ranked (λ x has. before x (sym (has_key-keys_from key old x) ∙ ap (λ (ks : List DocKey). has_key ks x) (sym moves) ∙ has))
    ∙ ap (λ (ks : List DocKey). has_key ks key) moves ∙ has_key-keys_from key old key ∙ ap (λ b. has_key old key && not b) (is_before_self key) ∙ and_true (has_key old key)
  where
    before : (x : DocKey) → (has_key old x && not (is_before x key)) ≡ true → is_before x key ≡ false
    before x e = by (has_key old x) (is_before x key) e
      where
        by : (a b : Bool) → (a && not b) ≡ true → b ≡ false
        by true true e = absurd cc
        by true false e = refl
        by false b e = absurd cc

module _ (key : DocKey) (rest ss ts : List DocKey) (ranked : IsRanked (key ∷ rest)) (moves : ts ≡ keys_from key ss) where
  -- the second operand keeps which keys of the first it has
  same_seconds : (k : DocKey) → has_key (key ∷ rest) k ≡ true → has_key ts k ≡ has_key ss k
  same_seconds k has =
      ap (λ (ks : List DocKey). has_key ks k) moves ∙ has_key-keys_from key ss k
      ∙ ap (λ b. has_key ss k && not b) (has_key-not_before key rest k ranked has) ∙ and_true (has_key ss k)

  same_difference : difference (key ∷ rest) ts ≡ difference (key ∷ rest) ss
  same_difference =
      same_from_keys (difference (key ∷ rest) ts) (difference (key ∷ rest) ss) (IsRanked-filter (λ k. not (has_key ts k)) (key ∷ rest) ranked) (IsRanked-filter (λ k. not (has_key ss k)) (key ∷ rest) ranked)
      (λ k. has_key-filter (λ x. not (has_key ts x)) (key ∷ rest) k ∙ by k (has_key (key ∷ rest) k) refl ∙ sym (has_key-filter (λ x. not (has_key ss x)) (key ∷ rest) k))
    where
      by : (k : DocKey) (b : Bool) → has_key (key ∷ rest) k ≡ b → (has_key (key ∷ rest) k && not (has_key ts k)) ≡ (has_key (key ∷ rest) k && not (has_key ss k))
      by k true e = ap (λ b. has_key (key ∷ rest) k && not b) (same_seconds k e)
      by k false e = ap (λ b. b && not (has_key ts k)) e ∙ sym (ap (λ b. b && not (has_key ss k)) e)

  -- the first key is one of the difference
  pub stays_clear : has_key ss key ≡ false → IsClear (key ∷ rest) ts
  stays_clear lacks k e = let s : key ≡ k = cc in subst (λ (y : DocKey). has_key ts y ≡ false) s (same_seconds key (ap (λ b. b || has_key rest key) (is_eq_self key)) ∙ lacks)

  pub stays_keys : difference (key ∷ rest) ts ≡ difference (key ∷ rest) ss
  stays_keys = same_difference

  pub stays_operands : KeepsKeys (difference (key ∷ rest) ts) (pair (key ∷ rest) ss) (pair (key ∷ rest) ts)
  stays_operands = record {
    count = refl;
    holders_stay = λ k has. pair_holders k (key ∷ rest) (key ∷ rest) ts ss refl (same_seconds k (in_firsts (key ∷ rest) ts k has));
  }

  -- the first key is passed, which the second operand has
  pub passes_keys : has_key ss key ≡ true → difference rest ts ≡ difference (key ∷ rest) ss
  passes_keys here =
      let there : has_key ts key ≡ true = same_seconds key (ap (λ b. b || has_key rest key) (is_eq_self key)) ∙ here in
      sym (ap (λ b. cond (not b) (key ∷ difference rest ts) (difference rest ts)) there) ∙ same_difference

  pub passes_operands : KeepsKeys (difference rest ts) (pair (key ∷ rest) ss) (pair rest ts)
  passes_operands = record {
    count = refl;
    holders_stay = λ k has.
        let in_rest = in_firsts rest ts k has in
        let in_all : has_key (key ∷ rest) k ≡ true = ap (λ b. is_eq (doc_cmp key k) || b) in_rest ∙ or_true (is_eq (doc_cmp key k)) in
        pair_holders k rest (key ∷ rest) ts ss (in_rest ∙ sym in_all) (same_seconds k in_all);
  }

-- ---- the cursor

-- the first operand is at the first key of the difference
pub first_clear : (fs ss : List DocKey) → IsClear fs ss → slice_get fs 0 ≡ slice_get (difference fs ss) 0
first_clear [] ss clear = refl
first_clear (x ∷ xs) ss clear = ap (λ b. slice_get (cond (not b) (x ∷ difference xs ss) (difference xs ss)) 0) (sym (clear x refl))

-- it is passed
pub step_clear : (fs ss : List DocKey) → IsClear fs ss → difference (drop 1 fs) ss ≡ drop 1 (difference fs ss)
step_clear [] ss clear = refl
step_clear (x ∷ xs) ss clear = ap (λ b. drop 1 (cond (not b) (x ∷ difference xs ss) (difference xs ss))) (sym (clear x refl))

pub step_operands : (fs ss : List DocKey) → KeepsKeys (difference (drop 1 fs) ss) (pair fs ss) (pair (drop 1 fs) ss)
step_operands [] ss = record { count = refl; holders_stay = λ k has. refl }
step_operands (x ∷ xs) ss = record {
  count = refl;
  holders_stay = λ k has.
      let here = in_firsts xs ss k has in
      pair_holders k xs (x ∷ xs) ss ss (here ∙ sym (ap (λ b. is_eq (doc_cmp x k) || b) here ∙ or_true (is_eq (doc_cmp x k)))) refl;
}

pub seek_keys : (from : DocKey) (fs ss : List DocKey) → difference (keys_from from fs) ss ≡ keys_from from (difference fs ss)
seek_keys from fs ss = sym (keys_from-filter from (λ k. not (has_key ss k)) fs)

pub seek_operands : (from : DocKey) (fs ss : List DocKey) → KeepsKeys (difference (keys_from from fs) ss) (pair fs ss) (pair (keys_from from fs) ss)
seek_operands from fs ss = record {
  count = refl;
  holders_stay = λ k has.
      let here = in_firsts (keys_from from fs) ss k has in
      pair_holders k (keys_from from fs) fs ss ss (here ∙ sym (left_true (has_key fs k) (not (is_before k from)) (sym (has_key-keys_from from fs k) ∙ here))) refl;
}

-- which operands have the current key
pub first_matches : (fs ss : List DocKey) (o : Option DocKey) → o ≡ slice_get fs 0 → IsClear fs ss → is_some o ≡ has_first fs (difference fs ss)
first_matches [] ss o e clear = ap is_some e
first_matches (x ∷ xs) ss o e clear =
    ap is_some e ∙ sym (ap (λ b. has_first (x ∷ xs) (cond (not b) (x ∷ difference xs ss) (difference xs ss))) (clear x refl) ∙ ap (λ b. b || has_key xs x) (is_eq_self x))

pub second_lacks : (fs ss : List DocKey) → IsClear fs ss → false ≡ has_first ss (difference fs ss)
second_lacks [] ss clear = refl
second_lacks (x ∷ xs) ss clear = sym (ap (λ b. has_first ss (cond (not b) (x ∷ difference xs ss) (difference xs ss))) (clear x refl) ∙ clear x refl)

-- ---- one turn of the loop

module _ (fs₀ ss₀ fs ss ts : List DocKey) (key : DocKey) (first : Some key ≡ slice_get fs 0) (ranked : IsRanked fs) (moves : ts ≡ keys_from key ss)
    (keys : difference fs ss ≡ difference fs₀ ss₀) (operands : KeepsKeys (difference fs ss) (pair fs₀ ss₀) (pair fs ss)) where
  is : fs ≡ key ∷ drop 1 fs
  is = some_first fs key first

  by_is : (P : List DocKey → Type 0) → (IsRanked (key ∷ drop 1 fs) → P (key ∷ drop 1 fs)) → P fs
  by_is P p = subst P (sym is) (p (subst IsRanked is ranked))

  pub stop_clear : has_key ss key ≡ false → IsClear fs ts
  stop_clear lacks = by_is (λ ks. IsClear ks ts) (λ r. stays_clear key (drop 1 fs) ss ts r moves lacks)

  pub stop_keys : difference fs ts ≡ difference fs₀ ss₀
  stop_keys = by_is (λ ks. difference ks ts ≡ difference ks ss) (λ r. stays_keys key (drop 1 fs) ss ts r moves) ∙ keys

  pub stop_operands : KeepsKeys (difference fs ts) (pair fs₀ ss₀) (pair fs ts)
  stop_operands =
      KeepsKeys_trans (difference fs ss) (difference fs ts) (pair fs₀ ss₀) (pair fs ss) (pair fs ts)
      (λ k has. ap (λ (ks : List DocKey). has_key ks k) (keys ∙ sym stop_keys) ∙ has)
      operands (by_is (λ ks. KeepsKeys (difference ks ts) (pair ks ss) (pair ks ts)) (λ r. stays_operands key (drop 1 fs) ss ts r moves))

  pub go_keys : has_key ss key ≡ true → difference (drop 1 fs) ts ≡ difference fs₀ ss₀
  go_keys here = passes_keys key (drop 1 fs) ss ts (subst IsRanked is ranked) moves here ∙ ap (λ (ks : List DocKey). difference ks ss) (sym is) ∙ keys

  pub go_operands : has_key ss key ≡ true → KeepsKeys (difference (drop 1 fs) ts) (pair fs₀ ss₀) (pair (drop 1 fs) ts)
  go_operands here =
      KeepsKeys_trans (difference fs ss) (difference (drop 1 fs) ts) (pair fs₀ ss₀) (pair fs ss) (pair (drop 1 fs) ts)
      (λ k has. ap (λ (ks : List DocKey). has_key ks k) (keys ∙ sym (go_keys here)) ∙ has)
      operands (subst (λ (ks : List DocKey). KeepsKeys (difference (drop 1 fs) ts) (pair ks ss) (pair (drop 1 fs) ts)) (sym is) (passes_operands key (drop 1 fs) ss ts (subst IsRanked is ranked) moves))

-- two moves, one after the other
pub pair_trans : (fs₀ ss₀ fs ss gs ts : List DocKey) → difference gs ts ≡ difference fs ss → KeepsKeys (difference fs ss) (pair fs₀ ss₀) (pair fs ss)
    → KeepsKeys (difference gs ts) (pair fs ss) (pair gs ts) → KeepsKeys (difference gs ts) (pair fs₀ ss₀) (pair gs ts)
pair_trans fs₀ ss₀ fs ss gs ts keys p q =
    KeepsKeys_trans (difference fs ss) (difference gs ts) (pair fs₀ ss₀) (pair fs ss) (pair gs ts) (λ k has. ap (λ (ks : List DocKey). has_key ks k) (sym keys) ∙ has) p q

-- ---- as the cursor's value shows it

module _ {D : Type 0} (view : D → List DocKey) (operands : D × D) (first second : D) (is : (first, second) ≡ operands) (clear : IsClear (view first) (view second)) where
  abbrev Keys : D × D → List DocKey
  Keys p = difference (view p.0) (view p.1)

  abbrev Lists : D × D → List (List DocKey)
  Lists p = pair (view p.0) (view p.1)

  pub matches_holds : (i : ℕ) (r : Bool) (o : Option DocKey) → i ≡ 0 → r ≡ is_some o → o ≡ slice_get (view first) 0 → r ≡ has_first (get_or (Lists operands) i []) (Keys operands)
  matches_holds i r o zeroth e f =
      subst (λ (p : D × D). r ≡ has_first (get_or (Lists p) i []) (Keys p)) is
      (subst (λ (j : ℕ). r ≡ has_first (get_or (Lists (first, second)) j []) (Keys (first, second))) (sym zeroth) (e ∙ first_matches (view first) (view second) o f clear))

  pub matches_current : (i : ℕ) (r : Bool) → i ≡ 0 → OnTrue r (slice_get (get_or (Lists operands) i []) 0 ≡ slice_get (Keys operands) 0)
  matches_current i r zeroth = by r
    where
      same : slice_get (get_or (Lists operands) i []) 0 ≡ slice_get (Keys operands) 0
      same =
          subst (λ (p : D × D). slice_get (get_or (Lists p) i []) 0 ≡ slice_get (Keys p) 0) is
          (subst (λ (j : ℕ). slice_get (get_or (Lists (first, second)) j []) 0 ≡ slice_get (Keys (first, second)) 0) (sym zeroth) (first_clear (view first) (view second) clear))

      by : (b : Bool) → OnTrue b (slice_get (get_or (Lists operands) i []) 0 ≡ slice_get (Keys operands) 0)
      by true = same
      by false = tt

  pub matches_not : (i : ℕ) → i ≡ 1 → false ≡ has_first (get_or (Lists operands) i []) (Keys operands)
  matches_not i one =
      subst (λ (p : D × D). false ≡ has_first (get_or (Lists p) i []) (Keys p)) is
      (subst (λ (j : ℕ). false ≡ has_first (get_or (Lists (first, second)) j []) (Keys (first, second))) (sym one) (second_lacks (view first) (view second) clear))

-- what is left after a move of the first operand and of both
module _ {D : Type 0} (view : D → List DocKey) (operands : D × D) (first second : D) (is : (first, second) ≡ operands) (mid : D) (gs ts : List DocKey)
    (keys : difference gs ts ≡ difference (view mid) (view second)) (keeps : KeepsKeys (difference gs ts) (pair (view mid) (view second)) (pair gs ts)) where
  both : KeepsKeys (difference (view mid) (view second)) (pair (view first) (view second)) (pair (view mid) (view second)) → KeepsKeys (difference gs ts) (pair (view operands.0) (view operands.1)) (pair gs ts)
  both moved =
      subst (λ (p : D × D). KeepsKeys (difference gs ts) (pair (view p.0) (view p.1)) (pair gs ts)) is
      (pair_trans (view first) (view second) (view mid) (view second) gs ts keys moved keeps)

  pub stepped_operands : view mid ≡ drop 1 (view first) → KeepsKeys (difference gs ts) (pair (view operands.0) (view operands.1)) (pair gs ts)
  stepped_operands moves =
      both (subst (λ (ks : List DocKey). KeepsKeys (difference ks (view second)) (pair (view first) (view second)) (pair ks (view second))) (sym moves) (step_operands (view first) (view second)))

  pub sought_operands : (from : DocKey) → view mid ≡ keys_from from (view first) → KeepsKeys (difference gs ts) (pair (view operands.0) (view operands.1)) (pair gs ts)
  sought_operands from moves =
      both (subst (λ (ks : List DocKey). KeepsKeys (difference ks (view second)) (pair (view first) (view second)) (pair ks (view second))) (sym moves) (seek_operands from (view first) (view second)))

  pub sought_keys : (from : DocKey) → view mid ≡ keys_from from (view first) → difference gs ts ≡ keys_from from (difference (view operands.0) (view operands.1))
  sought_keys from moves =
      keys ∙ ap (λ (ks : List DocKey). difference ks (view second)) moves ∙ seek_keys from (view first) (view second)
      ∙ ap (λ (p : D × D). keys_from from (difference (view p.0) (view p.1))) is

-- the keys that are left after a step
pub stepped_keys : {D : Type 0} (view : D → List DocKey) (operands : D × D) (first second : D) → (first, second) ≡ operands → IsClear (view first) (view second) → (mid : D) (gs ts : List DocKey)
    → difference gs ts ≡ difference (view mid) (view second) → view mid ≡ drop 1 (view first) → difference gs ts ≡ drop 1 (difference (view operands.0) (view operands.1))
stepped_keys {D} view operands first second is clear mid gs ts keys moves =
    keys ∙ ap (λ (ks : List DocKey). difference ks (view second)) moves ∙ step_clear (view first) (view second) clear
    ∙ ap (λ (p : D × D). drop 1 (difference (view p.0) (view p.1))) is
