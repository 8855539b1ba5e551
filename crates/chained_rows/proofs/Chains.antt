-- Chains: the last row that passes, and the walk from it back to the first.
use Rattle.std.proofs.Common.{◌≡◌, ◌≤◌, ◌<◌, ◌+◌, ℕ, zero, suc, Bool, true, false, List, [], ◌∷◌, ◌++◌, Option, None, Some, refl, sym, ◌∙◌, ap, length, map, slice_get, take, drop, if◌then◌else◌, arith}
use Rattle.std.specs.List.{filter_map, cons_option}
use Rattle.std.specs.Map.{keys_of}
use Rattle.indexmap.specs.Layout.{set_value_at}
use Rattle.chained_rows.specs.Chains.{or_first, last_no, changed_from}

module _ {K : Type 0} (test : K → Bool) where
  -- one row more
  pub last_no-push : (ks : List K) (k : K) → last_no test (ks ++ k ∷ []) ≡ (if test k then length ks + 1 else last_no test ks)
  last_no-push [] k = refl
  last_no-push (x ∷ xs) k = ap (or_first (test x)) (last_no-push xs k) ∙ over (test k)
    where
      over : (b : Bool) → or_first (test x) (if b then length xs + 1 else last_no test xs) ≡ (if b then suc (length xs) + 1 else or_first (test x) (last_no test xs))
      over true = ap (or_first (test x)) (let one : length xs + 1 ≡ suc (length xs) = omega arith in one) ∙ omega arith
      over false = refl

  pub last_no-le : (ks : List K) → last_no test ks ≤ length ks
  last_no-le [] = omega arith
  last_no-le (k ∷ ks) = by (test k) (last_no test ks) (last_no-le ks)
    where
      by : (b : Bool) (n : ℕ) → n ≤ length ks → or_first b n ≤ suc (length ks)
      by true zero h = omega arith
      by false zero h = omega arith
      by b (suc n) h = omega arith

  -- the row of that number passes
  pub last_no-passes : (ks : List K) (m i : ℕ) (k : K) → last_no test (take m ks) ≡ suc i → slice_get ks i ≡ Some k → test k ≡ true
  last_no-passes [] m i k is at = cc
  last_no-passes (x ∷ xs) zero i k is at = absurd (omega (arith, is))
  last_no-passes (x ∷ xs) (suc m) i k is at = by (test x) (last_no test (take m xs)) refl refl (λ j. last_no-passes xs m j k) i is at
    where
      by : (b : Bool) (n : ℕ) → test x ≡ b → last_no test (take m xs) ≡ n → ((j : ℕ) → last_no test (take m xs) ≡ suc j → slice_get xs j ≡ Some k → test k ≡ true)
          → (j : ℕ) → or_first b n ≡ suc j → slice_get (x ∷ xs) j ≡ Some k → test k ≡ true
      by true zero t l later zero e f = ap test (let same : k ≡ x = cc in same) ∙ t
      by true zero t l later (suc j) e f = absurd (omega (arith, e))
      by false zero t l later j e f = absurd (omega (arith, e))
      by b (suc n) t l later zero e f = absurd (omega (arith, e))
      by b (suc n) t l later (suc j) e f = later j (l ∙ omega (arith, e)) f

module _ {K V Y : Type 0} (test : K → Bool) (pick : K × V → Option Y) (none : (e : K × V) → test e.0 ≡ false → pick e ≡ None) where
  -- nothing is picked between the last row that passes, among the first i, and the row i
  pub picked-along : (es : List (K × V)) (i : ℕ) → filter_map pick (drop (last_no test (take i (keys_of es))) es) ≡ filter_map pick (drop i es)
  picked-along [] i = nothing (last_no test (take i [])) ∙ sym (nothing i)
    where
      nothing : (n : ℕ) → filter_map pick (drop {A = K × V} n []) ≡ []
      nothing zero = refl
      nothing (suc n) = refl
  picked-along (e ∷ es) zero = refl
  picked-along (e ∷ es) (suc i) = by (test e.0) (last_no test (take i (keys_of es))) refl (picked-along es i)
    where
      by : (b : Bool) (n : ℕ) → test e.0 ≡ b → filter_map pick (drop n es) ≡ filter_map pick (drop i es) → filter_map pick (drop (or_first b n) (e ∷ es)) ≡ filter_map pick (drop i es)
      by true zero t h = h
      by false zero t h = ap (λ o. cons_option o (filter_map pick es)) (none e t) ∙ h
      by b (suc n) t h = h

  -- a row that is come to is picked before those behind it
  pub picked-step : (es : List (K × V)) (i : ℕ) (e : K × V) → slice_get es i ≡ Some e → filter_map pick (drop i es) ≡ cons_option (pick e) (filter_map pick (drop (suc i) es))
  picked-step [] i e at = cc
  picked-step (x ∷ xs) zero e at = ap (λ y. cons_option (pick y) (filter_map pick xs)) (let same : x ≡ e = cc in same)
  picked-step (x ∷ xs) (suc i) e at = picked-step xs i e at

module _ {K V : Type 0} (test : K → Bool) (f : K × V → K × V) (same : (e : K × V) → test e.0 ≡ false → f e ≡ e) where
  -- no row is changed between them
  pub changed-along : (es : List (K × V)) (i : ℕ) → changed_from f (last_no test (take i (keys_of es))) es ≡ changed_from f i es
  changed-along [] i = refl
  changed-along (e ∷ es) zero = refl
  changed-along (e ∷ es) (suc i) = by (test e.0) (last_no test (take i (keys_of es))) refl (changed-along es i)
    where
      start : (fs : List (K × V)) → changed_from f zero fs ≡ map f fs
      start [] = refl
      start (x ∷ xs) = refl

      by : (b : Bool) (n : ℕ) → test e.0 ≡ b → changed_from f n es ≡ changed_from f i es → changed_from f (or_first b n) (e ∷ es) ≡ e ∷ changed_from f i es
      by true zero t h = ap (λ fs. e ∷ fs) h
      by false zero t h = (λ j. same e t j ∷ (sym (start es) ∙ h) j)
      by b (suc n) t h = ap (λ fs. e ∷ fs) h

  -- a row that is come to is changed
  pub changed-step : (es : List (K × V)) (i : ℕ) (e : K × V) (w : V) → slice_get es i ≡ Some e → f e ≡ (e.0, w)
      → set_value_at (changed_from f (suc i) es) i w ≡ changed_from f i es
  changed-step [] i e w at is = refl
  changed-step (x ∷ xs) zero e w at is = (λ j. one j ∷ all xs j)
    where
      one : (x.0, w) ≡ f x
      one = let is_e : x ≡ e = cc in ap (λ y. (y.0, w)) is_e ∙ sym is ∙ ap f (sym is_e)

      all : (fs : List (K × V)) → changed_from f zero fs ≡ map f fs
      all [] = refl
      all (y ∷ ys) = refl
  changed-step (x ∷ xs) (suc i) e w at is = ap (λ fs. x ∷ fs) (changed-step xs i e w at is)

  pub changed-none : (es : List (K × V)) (n : ℕ) → length es ≤ n → changed_from f n es ≡ es
  changed-none [] n past = refl
  changed-none (e ∷ es) zero past = absurd (omega arith)
  changed-none (e ∷ es) (suc n) past = ap (λ fs. e ∷ fs) (changed-none es n (omega arith))

  pub changed-all : (es : List (K × V)) → changed_from f zero es ≡ map f es
  changed-all [] = refl
  changed-all (e ∷ es) = refl

  -- the row before which all is as it was
  pub changed-at : (es : List (K × V)) (n i : ℕ) → i < n → slice_get (changed_from f n es) i ≡ slice_get es i
  changed-at [] n i below = refl
  changed-at (e ∷ es) zero i below = absurd (omega arith)
  changed-at (e ∷ es) (suc n) zero below = refl
  changed-at (e ∷ es) (suc n) (suc i) below = changed-at es n i (omega arith)
