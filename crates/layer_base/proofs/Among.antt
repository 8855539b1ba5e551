-- Keys among the rows of lists: of two lists, of a log, and of rows of which some are changed.
use Rattle.std.proofs.Common.{◌≡◌, ℕ, ◌+◌, ◌-◌, ◌<◌, ◌≤◌, Bool, true, false, cond, not, ◌&&◌, ◌||◌, List, [], ◌∷◌, ◌++◌, map, take, drop, length, reverse, Option, None, Some, refl, sym, ◌∙◌, ap, is_some, arith}
use Rattle.std.specs.Cmp.{Equal-is, IsTotalOrder}
use Rattle.std.specs.declared.cmp.Ordering.{Ordering}
use Rattle.std.specs.FinMap as finite
use Rattle.std.specs.FinMap.Entries.{find}
use Rattle.std.specs.Ordering.{eq_by_cmp}
use Rattle.std.proofs.lemmas.List.{reverse-append}
use Rattle.layer_base.specs.Among.{is_among, bare}
use Rattle.layer_base.specs.Layers.{from_log, TellsApart}
use Rattle.layer_base.specs.Lookups.{either}
use Rattle.layer_base.proofs.Changes.{find-append}
use Rattle.layer_base.proofs.Frozen.{take-add}

pub or_false : (a b : Bool) → (a || b) ≡ false → (a ≡ false) × (b ≡ false)
or_false true b e = cc
or_false false b e = (refl, e)

pub or_nothing : (b : Bool) → (b || false) ≡ b
or_nothing true = refl
or_nothing false = refl

pub or_assoc : (a b c : Bool) → ((a || b) || c) ≡ (a || (b || c))
or_assoc true b c = refl
or_assoc false b c = refl

pub none_of : {X : Type 0} (o : Option X) → is_some o ≡ false → o ≡ None
none_of None e = refl
none_of (Some x) e = cc

module _ {K : Type 0} (R : K → K → Ordering) where
  pub among-append : {X : Type 0} (k : K) (xs ys : List (K × X)) → is_among R k (xs ++ ys) ≡ (is_among R k xs || is_among R k ys)
  among-append k xs ys = ap is_some (find-append R k xs ys) ∙ by (find R k xs) (find R k ys)
    where
      by : {X : Type 0} (a b : Option X) → is_some (either a b) ≡ (is_some a || is_some b)
      by None b = refl
      by (Some x) b = refl

  among-bare : {X : Type 0} (k : K) (es : List (K × X)) → is_among R k (map bare es) ≡ is_among R k es
  among-bare k [] = refl
  among-bare k (e ∷ es) =
      elim (eq_by_cmp R k e.0) as (λ b. is_some (cond b (Some tt) (find R k (map bare es))) ≡ is_some (cond b (Some e.1) (find R k es))) [
        | true ↦ refl
        | false ↦ among-bare k es
      ]

  -- a list that gains the keys of rows
  pub among_noted : {X : Type 0} (k : K) (old : List (K × Unit {0})) (es : List (K × X)) → is_among R k (old ++ map bare es) ≡ (is_among R k old || is_among R k es)
  among_noted k old es = among-append k old (map bare es) ∙ ap (λ b. is_among R k old || b) (among-bare k es)

  -- the first of some keys, and the others
  pub among_first : (k : K) (e : K × Unit {0}) (es : List (K × Unit {0})) (done : Bool) → (is_among R k es || (eq_by_cmp R k e.0 || done)) ≡ (is_among R k (e ∷ es) || done)
  among_first k e es done = by (eq_by_cmp R k e.0) (find R k es)
    where
      by : (a : Bool) (f : Option (Unit {0})) → (is_some f || (a || done)) ≡ (is_some (cond a (Some e.1) f) || done)
      by true None = refl
      by true (Some u) = refl
      by false f = refl

  -- the last words on keys have the same keys
  pub among_last : IsTotalOrder R → (k : K) (log : List (K × Unit {0})) → is_among R k (finite.entries (from_log {R = R} log)) ≡ is_among R k log
  among_last total k log =
      ap is_some (sym (finite.get-entries (from_log {R = R} log) k) ∙ finite.get-from_entries total (reverse log) k) ∙ turned log
    where
      turned : (es : List (K × Unit {0})) → is_among R k (reverse es) ≡ is_among R k es
      turned [] = refl
      turned (e ∷ es) =
          ap (is_among R k) (reverse-append (e ∷ []) es) ∙ among-append k (reverse es) (e ∷ []) ∙ ap (λ b. b || is_among R k (e ∷ [])) (turned es)
          ∙ by (eq_by_cmp R k e.0) (find R k es)
        where
          by : (b : Bool) (f : Option (Unit {0})) → (is_some f || is_some (cond b (Some e.1) None)) ≡ is_some (cond b (Some e.1) f)
          by true None = refl
          by true (Some u) = refl
          by false None = refl
          by false (Some u) = refl

  -- ---- rows of the oldest layer, of which some keys are changed by newer ones

  -- the keys that are done: the changed ones up to a place, and, of those of the oldest layer, the others
  abbrev pub is_done : {X : Type 0} → List (K × Unit {0}) → ℕ → List (K × X) → K → Bool
  is_done changed at rows k = is_among R k (take at changed) || (is_among R k rows && not (is_among R k changed))

  -- once the changed keys up to a later place are done
  pub done_further : {X : Type 0} (changed : List (K × Unit {0})) (at to : ℕ) (rows : List (K × X)) → at ≤ to → to ≤ length changed
      → (k : K) → (is_among R k (take (to - at) (drop at changed)) || is_done changed at rows k) ≡ is_done changed to rows k
  done_further changed at to rows le fits k =
      by (is_among R k (take (to - at) (drop at changed))) (is_among R k (take at changed)) (is_among R k rows && not (is_among R k changed))
      ∙ ap (λ b. b || (is_among R k rows && not (is_among R k changed))) (sym (ap (is_among R k) parts ∙ among-append k (take at changed) (take (to - at) (drop at changed))))
    where
      whole : at + (to - at) ≡ to
      whole = omega (arith, le)

      parts : take to changed ≡ take at changed ++ take (to - at) (drop at changed)
      parts = ap (λ n. take n changed) (sym whole) ∙ take-add at (to - at) changed (omega (arith, le, fits))

      by : (a b c : Bool) → (a || (b || c)) ≡ ((b || a) || c)
      by true true c = refl
      by true false c = refl
      by false true c = refl
      by false false c = refl

  module _ (apart : TellsApart R) {X : Type 0} (changed : List (K × Unit {0})) (to : ℕ) (rows : List (K × X)) (e : K × X) where
    among_more : (k : K) → is_among R k (rows ++ e ∷ []) ≡ (is_among R k rows || eq_by_cmp R k e.0)
    among_more k = among-append k rows (e ∷ []) ∙ ap (λ b. is_among R k rows || b) (one (eq_by_cmp R k e.0))
      where
        one : (b : Bool) → is_some (cond b (Some e.1) None) ≡ b
        one true = refl
        one false = refl

    same : (k : K) (b : Bool) → is_among R e.0 changed ≡ b → eq_by_cmp R k e.0 ≡ true → is_among R k changed ≡ b
    same k b is eq = let at : k ≡ e.0 = apart k e.0 ((Equal-is (R k e.0)).0 eq) in ap (λ (x : K). is_among R x changed) at ∙ is

    -- one row more, at a changed key
    pub done_skipped : is_among R e.0 changed ≡ true → (k : K) → is_done changed to rows k ≡ is_done changed to (rows ++ e ∷ []) k
    done_skipped is k =
        skip (is_among R k (take to changed)) (is_among R k rows) (eq_by_cmp R k e.0) (is_among R k changed) (same k true is)
        ∙ ap (λ b. is_among R k (take to changed) || (b && not (is_among R k changed))) (sym (among_more k))
      where
        skip : (x y f z : Bool) → (f ≡ true → z ≡ true) → (x || (y && not z)) ≡ (x || ((y || f) && not z))
        skip true y f z h = refl
        skip false true f z h = refl
        skip false false true true h = refl
        skip false false true false h = let wrong : false ≡ true = h refl in cc
        skip false false false z h = refl

    -- one row more, at a key that is not changed
    pub done_copied : is_among R e.0 changed ≡ false → (k : K) → (eq_by_cmp R k e.0 || is_done changed to rows k) ≡ is_done changed to (rows ++ e ∷ []) k
    done_copied is k =
        copy (is_among R k (take to changed)) (is_among R k rows) (eq_by_cmp R k e.0) (is_among R k changed) (same k false is)
        ∙ ap (λ b. is_among R k (take to changed) || (b && not (is_among R k changed))) (sym (among_more k))
      where
        copy : (x y f z : Bool) → (f ≡ true → z ≡ false) → (f || (x || (y && not z))) ≡ (x || ((y || f) && not z))
        copy true y true z h = refl
        copy true y false z h = refl
        copy false true true true h = let wrong : true ≡ false = h refl in cc
        copy false true true false h = refl
        copy false true false z h = refl
        copy false false true true h = let wrong : true ≡ false = h refl in cc
        copy false false true false h = refl
        copy false false false z h = refl

  -- ---- once all are done

  module _ {X : Type 0} (changed : List (K × Unit {0})) (to : ℕ) (rows : List (K × X)) (whole : take to changed ≡ changed) (k : K) where
    -- whether a key is done, once all changed keys are: it has a row, or is changed
    pub done_whole : (a b : Bool) → is_among R k changed ≡ a → is_among R k rows ≡ b → is_done changed to rows k ≡ (a || b)
    done_whole a b e f = ap (λ xs. is_among R k xs || (is_among R k rows && not (is_among R k changed))) whole ∙ (λ i. e i || (f i && not (e i))) ∙ by a b
      where
        by : (x y : Bool) → (x || (y && not x)) ≡ (x || y)
        by true y = refl
        by false true = refl
        by false false = refl
