-- Keys and entries at places.
use Rattle.std.proofs.Common.{◌≡◌, ◌^◌, ℕ, zero, suc, Bool, true, false, List, [], ◌∷◌, ◌++◌, None, Some, cond, refl, sym, ◌∙◌, ap, subst, length, map, slice_get, ◌<◌, nat_eq, if◌then◌else◌, arith}
use Rattle.std.proofs.lemmas.Bool.Decides.{nat_tests}
use Rattle.std.specs.List.{AllByRecursion}
use Rattle.std.specs.Map.{keys_of, lookup, lookup_key, remove_entry}
use Rattle.std.specs.Option.{option_map, option_map_or}
use Rattle.std.proofs.lemmas.Map.{NonePasses, lookup-none, none_passes_from_lookup}
use Rattle.std.proofs.lemmas.Map.Entries.{length-keys_of}
use Rattle.std.proofs.lemmas.Map.Made.{lookup_key_passes}
use Rattle.indexmap.specs.Layout.{set_value_at}
use Rattle.std.proofs.lemmas.Option.{slice_get-map, slice_get_within}
use Rattle.chained_rows.proofs.Places.{slice_get-push}

module _ {K V : Type 0} where
  -- the key of an entry
  pub key-at : (es : List (K × V)) (i : ℕ) (e : K × V) → slice_get es i ≡ Some e → slice_get (keys_of es) i ≡ Some e.0
  key-at es i e at = slice_get-map (λ x. x.0) es i ∙ ap (option_map (λ x. x.0)) at

  -- the key of the last
  pub key-last : (es : List (K × V)) (i : ℕ) (k : K) (v : V) → i ≡ length es → slice_get (keys_of (es ++ (k, v) ∷ [])) i ≡ Some k
  key-last es i k v end = ap (slice_get (keys_of (es ++ (k, v) ∷ []))) end ∙ key-at (es ++ (k, v) ∷ []) (length es) (k, v) (slice_get-push es (k, v))

module _ {K V : Type 0} (eq : K → K → Bool) (exact : (x y : K) → eq x y ≡ true → x ≡ y) (k : K) (es : List (K × V)) where
  -- a key that was found
  pub index-found : (i : ℕ) (x : K) (v : V) → slice_get es i ≡ Some (x, v) → lookup_key (eq k) es ≡ Some x → slice_get (keys_of es) i ≡ Some k
  index-found i x v at found = key-at es i (x, v) at ∙ ap Some (sym (exact k x (lookup_key_passes (eq k) es x found)))

-- and one that was not
pub index-missing : {K V : Type 0} (test : K → Bool) (es : List (K × V)) → lookup test es ≡ None → AllByRecursion (λ x. test x ≡ false) (keys_of es)
index-missing {K} {V} test es none = by es (none_passes_from_lookup test es none)
  where
    by : (fs : List (K × V)) → NonePasses test fs → AllByRecursion (λ x. test x ≡ false) (keys_of fs)
    by [] h = tt
    by (f ∷ fs) h = (h.0, by fs h.1)

-- so a look-up finds none
pub index-none : {K V : Type 0} (test : K → Bool) (es : List (K × V)) → AllByRecursion (λ x. test x ≡ false) (keys_of es) → lookup test es ≡ None
index-none {K} {V} test es all = lookup-none test es (by es all)
  where
    by : (fs : List (K × V)) → AllByRecursion (λ x. test x ≡ false) (keys_of fs) → NonePasses test fs
    by [] h = tt
    by (f ∷ fs) h = (h.0, by fs h.1)

-- the number of a key of few
pub number-few : {K V : Type 0} (es : List (K × V)) (i : ℕ) (k : K) → slice_get (keys_of es) i ≡ Some k → length es < 2 ^ 32 → i < 2 ^ 32
number-few es i k at few = omega (arith, slice_get_within (keys_of es) i k at, length-keys_of es, few)

-- what is read of an entry, after a write that keeps it
pub read-written : {K V : Type 0} (f : K × V → ℕ) (es : List (K × V)) (i : ℕ) (w : V) → ((e : K × V) → slice_get es i ≡ Some e → f (e.0, w) ≡ f e) → (q : ℕ)
    → option_map_or f (slice_get (set_value_at es i w) q) 0 ≡ option_map_or f (slice_get es q) 0
read-written f [] i w same q = refl
read-written f (e ∷ es) zero w same zero = same e refl
read-written f (e ∷ es) zero w same (suc q) = refl
read-written f (e ∷ es) (suc i) w same zero = refl
read-written f (e ∷ es) (suc i) w same (suc q) = read-written f es i w same q

-- no entry is taken out where none passes
pub remove-none : {K V : Type 0} (test : K → Bool) (es : List (K × V)) → NonePasses test es → remove_entry test es ≡ es
remove-none test [] none = refl
remove-none test (e ∷ es) none = ap (λ b. cond b es (e ∷ remove_entry test es)) none.0 ∙ ap (λ fs. e ∷ fs) (remove-none test es none.1)

-- there is an item at each place below the length
pub entry-at : {X : Type 0} (xs : List X) (i : ℕ) → i < length xs → (x : X) × (slice_get xs i ≡ Some x)
entry-at [] i below = absurd (omega arith)
entry-at (x ∷ xs) zero below = (x, refl)
entry-at (x ∷ xs) (suc i) below = entry-at xs i (omega arith)

-- what is so of all items is so of the one at a place
pub all-at : {X : Type 0} (P : X → Type 0) (xs : List X) (i : ℕ) (x : X) → AllByRecursion P xs → slice_get xs i ≡ Some x → P x
all-at P [] i x all at = cc
all-at P (y ∷ ys) zero x all at = subst P (let same : y ≡ x = cc in same) all.0
all-at P (y ∷ ys) (suc i) x all at = all-at P ys i x all.1 at

pub same-number : (a b : ℕ) → nat_eq a b ≡ true → a ≡ b
same-number a b same = grind (arith, nat_tests)

-- what is read of the entries, where one has another value
pub read-set : {K V : Type 0} (f : K × V → ℕ) (es : List (K × V)) (i : ℕ) (k : K) (v w : V) → slice_get es i ≡ Some (k, v) → (q : ℕ)
    → option_map_or f (slice_get (set_value_at es i w) q) 0 ≡ (if nat_eq q i then f (k, w) else option_map_or f (slice_get es q) 0)
read-set f [] i k v w at q = cc
read-set f (e ∷ es) zero k v w at zero = ap (λ x. f (x, w)) (let same : e.0 ≡ k = cc in same)
read-set f (e ∷ es) zero k v w at (suc q) = ap (λ b. if b then f (k, w) else option_map_or f (slice_get es q) 0) (let apart : false ≡ nat_eq (suc q) zero = grind (arith, nat_tests) in apart)
read-set f (e ∷ es) (suc i) k v w at zero = ap (λ b. if b then f (k, w) else f e) (let apart : false ≡ nat_eq zero (suc i) = grind (arith, nat_tests) in apart)
read-set f (e ∷ es) (suc i) k v w at (suc q) = read-set f es i k v w at q ∙ ap (λ b. if b then f (k, w) else option_map_or f (slice_get es q) 0) (let same : nat_eq q i ≡ nat_eq (suc q) (suc i) = grind (arith, nat_tests) in same)

pub map-map : {X Y Z : Type 0} (f : Y → Z) (g : X → Y) (xs : List X) → map f (map g xs) ≡ map (λ x. f (g x)) xs
map-map f g [] = refl
map-map f g (x ∷ xs) = ap (λ zs. f (g x) ∷ zs) (map-map f g xs)
