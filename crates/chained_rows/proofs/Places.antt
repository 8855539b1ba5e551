-- What is so at each place, through a write to a value and one item more.
use Rattle.std.proofs.Common.{◌≡◌, ℕ, zero, suc, List, [], ◌∷◌, ◌++◌, Some, refl, sym, ◌∙◌, ap, subst, length, map, slice_get}
use Rattle.std.specs.Map.{keys_of}
use Rattle.indexmap.specs.Layout.{set_value_at}
use Rattle.chained_rows.specs.Chains.{AtEach}

-- an item more stands at the end
pub slice_get-push : {X : Type 0} (xs : List X) (x : X) → slice_get (xs ++ x ∷ []) (length xs) ≡ Some x
slice_get-push [] x = refl
slice_get-push (y ∷ ys) x = slice_get-push ys x

pub slice_get-before : {X : Type 0} (xs ys : List X) (i : ℕ) (x : X) → slice_get xs i ≡ Some x → slice_get (xs ++ ys) i ≡ Some x
slice_get-before [] ys i x at = cc
slice_get-before (y ∷ xs) ys zero x at = at
slice_get-before (y ∷ xs) ys (suc i) x at = slice_get-before xs ys i x at

module _ {X : Type 0} (P : ℕ → X → Type 0) where
  pub at_each-nil : AtEach P []
  at_each-nil i x at = cc

  pub at_each-tail : (x : X) (xs : List X) → AtEach P (x ∷ xs) → AtEach (λ i y. P (suc i) y) xs
  at_each-tail x xs all i y at = all (suc i) y at

-- one item more
pub at_each-push : {X : Type 0} (P : ℕ → X → Type 0) (xs : List X) (x : X) → AtEach P xs → P (length xs) x → AtEach P (xs ++ x ∷ [])
at_each-push P [] x all here zero y at = subst (P 0) (let same : x ≡ y = cc in same) here
at_each-push P [] x all here (suc i) y at = cc
at_each-push P (z ∷ zs) x all here zero y at = all zero y at
at_each-push P (z ∷ zs) x all here (suc i) y at = at_each-push (λ j w. P (suc j) w) zs x (at_each-tail P z zs all) here i y at

module _ {K V : Type 0} where
  -- a write to a value: what was so of the entry is so with the new value
  pub at_each-written : (P : ℕ → K × V → Type 0) (es : List (K × V)) (i : ℕ) (w : V) → AtEach P es
      → ((e : K × V) → slice_get es i ≡ Some e → P i e → P i (e.0, w)) → AtEach P (set_value_at es i w)
  at_each-written P [] i w all new j x at = cc
  at_each-written P (e ∷ es) zero w all new zero x at = subst (P 0) (let same : (e.0, w) ≡ x = cc in same) (new e refl (all 0 e refl))
  at_each-written P (e ∷ es) zero w all new (suc j) x at = all (suc j) x at
  at_each-written P (e ∷ es) (suc i) w all new zero x at = all zero x at
  at_each-written P (e ∷ es) (suc i) w all new (suc j) x at =
      at_each-written (λ n y. P (suc n) y) es i w (at_each-tail P e es all) new j x at

  pub keys-written : (es : List (K × V)) (i : ℕ) (w : V) → keys_of (set_value_at es i w) ≡ keys_of es
  keys-written [] i w = refl
  keys-written (e ∷ es) zero w = refl
  keys-written (e ∷ es) (suc i) w = ap (λ ks. e.0 ∷ ks) (keys-written es i w)

  pub length-written : (es : List (K × V)) (i : ℕ) (w : V) → length (set_value_at es i w) ≡ length es
  length-written [] i w = refl
  length-written (e ∷ es) zero w = refl
  length-written (e ∷ es) (suc i) w = ap suc (length-written es i w)

  -- the value that stands there is written again
  pub written-same : (es : List (K × V)) (i : ℕ) (k : K) (w : V) → slice_get es i ≡ Some (k, w) → set_value_at es i w ≡ es
  written-same [] i k w at = refl
  written-same (e ∷ es) zero k w at = ap (λ v. (e.0, v) ∷ es) (let same : w ≡ e.1 = cc in same)
  written-same (e ∷ es) (suc i) k w at = ap (λ fs. e ∷ fs) (written-same es i k w at)

  pub slice_get-written : (es : List (K × V)) (i : ℕ) (k : K) (v w : V) → slice_get es i ≡ Some (k, v) → slice_get (set_value_at es i w) i ≡ Some (k, w)
  slice_get-written [] i k v w at = cc
  slice_get-written (e ∷ es) zero k v w at = ap (λ x. Some (x, w)) (let same : e.0 ≡ k = cc in same)
  slice_get-written (e ∷ es) (suc i) k v w at = slice_get-written es i k v w at

  -- what a change of each entry makes of a write to a value, where it makes the value y of the one written
  pub map-written : {K' V' : Type 0} (f : K × V → K' × V') (es : List (K × V)) (i : ℕ) (w : V) (y : V')
      → ((e : K × V) → slice_get es i ≡ Some e → f (e.0, w) ≡ ((f e).0, y)) → map f (set_value_at es i w) ≡ set_value_at (map f es) i y
  map-written f [] i w y makes = refl
  map-written f (e ∷ es) zero w y makes = ap (λ x. x ∷ map f es) (makes e refl)
  map-written f (e ∷ es) (suc i) w y makes = ap (λ xs. f e ∷ xs) (map-written f es i w y makes)

-- two changes that agree at each place
pub map-agree : {X Y : Type 0} (f g : X → Y) (xs : List X) → AtEach (λ i x. f x ≡ g x) xs → map f xs ≡ map g xs
map-agree f g [] same = refl
map-agree f g (x ∷ xs) same = (λ j. same zero x refl j ∷ map-agree f g xs (at_each-tail (λ i y. f y ≡ g y) x xs same) j)

-- a write to a value, where what is so of the new entry is known
pub at_each-set : {K V : Type 0} (P : ℕ → K × V → Type 0) (es : List (K × V)) (i : ℕ) (k : K) (v w : V) → AtEach P es → slice_get es i ≡ Some (k, v) → P i (k, w) → AtEach P (set_value_at es i w)
at_each-set P [] i k v w all at here j x there = cc
at_each-set P (e ∷ es) zero k v w all at here zero x there = subst (P 0) (let first : e.0 ≡ k = cc in let second : (e.0, w) ≡ x = cc in (λ j. (sym first j, w)) ∙ second) here
at_each-set P (e ∷ es) zero k v w all at here (suc j) x there = all (suc j) x there
at_each-set P (e ∷ es) (suc i) k v w all at here zero x there = all zero x there
at_each-set P (e ∷ es) (suc i) k v w all at here (suc j) x there = at_each-set (λ n y. P (suc n) y) es i k v w (at_each-tail P e es all) at here j x there
