-- Tests of lists, and what filters leave.
use Rattle.std.proofs.Common.{◌≡◌, ℕ, ◌&&◌, ◌||◌, Bool, true, false, List, [], ◌∷◌, Option, None, Some, refl, sym, ◌∙◌, ap, is_some, if◌then◌else◌, map, filter, ◌<◌, ◌+◌, ◌++◌, length, take, get_or}
use Rattle.std.proofs.lemmas.List.{take_more}
use Rattle.std.proofs.lemmas.List.Elements.{filter_map-append}
use Rattle.std.specs.List.{list_any, list_all, filter_map, cons_option}
use Rattle.std.specs.Option.{option_map, option_map_or}

-- what comes first does not matter to a test of both
pub or_swap : (a b c : Bool) → (a || (b || c)) ≡ (b || (a || c))
or_swap true true c = refl
or_swap true false c = refl
or_swap false b c = refl

-- a test of what f makes of the items
pub list_any-map : {X Y : Type 0} (p : Y → Bool) (f : X → Y) (xs : List X) → list_any p (map f xs) ≡ list_any (λ x. p (f x)) xs
list_any-map p f [] = refl
list_any-map p f (x ∷ xs) = ap (λ b. p (f x) || b) (list_any-map p f xs)

-- a test of what a filter leaves is one of both
pub list_any-filter : {X : Type 0} (p test : X → Bool) (xs : List X) → list_any p (filter test xs) ≡ list_any (λ x. test x && p x) xs
list_any-filter p test [] = refl
list_any-filter {X} p test (x ∷ xs) =
    elim (test x) as (λ b. list_any p (if b then x ∷ filter test xs else filter test xs) ≡ ((b && p x) || list_any (λ (y : X). test y && p y) xs)) [
      | true ↦ ap (λ b. p x || b) (list_any-filter p test xs)
      | false ↦ list_any-filter p test xs
    ]

-- a test of what f gives of the items
pub list_any-filter_map : {X Y : Type 0} (p : Y → Bool) (f : X → Option Y) (xs : List X) → list_any p (filter_map f xs) ≡ list_any (λ x. option_map_or p (f x) false) xs
list_any-filter_map p f [] = refl
list_any-filter_map {X} {Y} p f (x ∷ xs) =
    elim (f x) as (λ o. list_any p (cons_option o (filter_map f xs)) ≡ (option_map_or p o false || list_any (λ (y : X). option_map_or p (f y) false) xs)) [
      | None ↦ list_any-filter_map p f xs
      | Some y ↦ ap (λ b. p y || b) (list_any-filter_map p f xs)
    ]

-- two tests that agree find alike
pub list_any-agree : {X : Type 0} (p q : X → Bool) → ((x : X) → p x ≡ q x) → (xs : List X) → list_any p xs ≡ list_any q xs
list_any-agree p q agree [] = refl
list_any-agree p q agree (x ∷ xs) = rw (agree x) (ap (λ b. q x || b) (list_any-agree p q agree xs))

-- a condition beside a test of the items stands outside
pub list_any-and : {X : Type 0} (p : X → Bool) (b : Bool) (xs : List X) → list_any (λ x. p x && b) xs ≡ (list_any p xs && b)
list_any-and p b [] = refl
list_any-and {X} p b (x ∷ xs) =
    elim (p x) as (λ here. ((here && b) || list_any (λ (y : X). p y && b) xs) ≡ ((here || list_any p xs) && b)) [
      | true ↦ ap (λ r. b || r) (list_any-and p b xs) ∙ or_and b (list_any p xs)
      | false ↦ list_any-and p b xs
    ]
  where
    or_and : (b r : Bool) → (b || (r && b)) ≡ b
    or_and true r = refl
    or_and false true = refl
    or_and false false = refl

-- an item that passes one test, where all pass another
pub found_passes : {K : Type 0} (test all : K → Bool) (goal : Type 0) → ((k : K) → test k ≡ true → all k ≡ true → goal) → (ks : List K)
    → list_all all ks ≡ true → list_any test ks ≡ true → goal
found_passes test all goal here [] every some = absurd cc
found_passes {K} test all goal here (k ∷ ks) every some = by (test k) (all k) refl refl (found_passes test all goal here ks) every some
  where
    by : (t a : Bool) → test k ≡ t → all k ≡ a → (list_all all ks ≡ true → list_any test ks ≡ true → goal)
        → (a && list_all all ks) ≡ true → (t || list_any test ks) ≡ true → goal
    by t false e f later every some = absurd cc
    by true true e f later every some = here k e f
    by false true e f later every some = later every some

-- what is filtered out gives nothing
pub filter_map-filter : {X Y : Type 0} (f : X → Option Y) (test : X → Bool) (xs : List X) → filter_map f (filter test xs) ≡ filter_map (λ x. if test x then f x else None) xs
filter_map-filter f test [] = refl
filter_map-filter {X} {Y} f test (x ∷ xs) =
    elim (test x) as (λ b. filter_map f (if b then x ∷ filter test xs else filter test xs) ≡ cons_option (if b then f x else None) (filter_map (λ (y : X). if test y then f y else None) xs)) [
      | true ↦ ap (cons_option (f x)) (filter_map-filter f test xs)
      | false ↦ filter_map-filter f test xs
    ]

-- what gives nothing may be left out
pub filter_map-some : {X Y : Type 0} (f : X → Option Y) (xs : List X) → filter_map f (filter (λ x. is_some (f x)) xs) ≡ filter_map f xs
filter_map-some f [] = refl
filter_map-some {X} {Y} f (x ∷ xs) = by (f x) refl (filter_map-some f xs)
  where
    kept : List X
    kept = filter (λ (y : X). is_some (f y)) xs

    by : (o : Option Y) → f x ≡ o → filter_map f kept ≡ filter_map f xs → filter_map f (if is_some o then x ∷ kept else kept) ≡ cons_option o (filter_map f xs)
    by None e later = later
    by (Some y) e later = rw (e, later) refl

-- f makes a value of a value only
pub is_some-option_map : {X Y : Type 0} (f : X → Y) (o : Option X) → is_some (option_map f o) ≡ is_some o
is_some-option_map f None = refl
is_some-option_map f (Some x) = refl

-- a value that is there on a condition
pub option_map_or-if : {Y : Type 0} (p : Y → Bool) (b : Bool) (o : Option Y) → option_map_or p (if b then o else None) false ≡ (b && option_map_or p o false)
option_map_or-if p true o = refl
option_map_or-if p false o = refl

-- a test of all that f makes of the items
pub list_all-map : {X Y : Type 0} (p : Y → Bool) (f : X → Y) (xs : List X) → list_all p (map f xs) ≡ list_all (λ x. p (f x)) xs
list_all-map p f [] = refl
list_all-map p f (x ∷ xs) = ap (λ b. p (f x) && b) (list_all-map p f xs)

-- what f makes of what a filter leaves
pub map-filter : {X Y : Type 0} (f : X → Y) (test : X → Bool) (xs : List X) → map f (filter test xs) ≡ filter_map (λ x. if test x then Some (f x) else None) xs
map-filter f test [] = refl
map-filter {X} {Y} f test (x ∷ xs) =
    elim (test x) as (λ b. map f (if b then x ∷ filter test xs else filter test xs) ≡ cons_option (if b then Some (f x) else None) (filter_map (λ (y : X). if test y then Some (f y) else None) xs)) [
      | true ↦ ap (λ ys. f x ∷ ys) (map-filter f test xs)
      | false ↦ map-filter f test xs
    ]

-- the value, if there is one, as a list
pub listed-option : {Y : Type 0} (o : Option Y) → Rattle.std.specs.Option.option_to_list o ≡ cons_option o []
listed-option None = refl
listed-option (Some y) = refl

-- one item more
pub filter_map-more : {X Y : Type 0} (f : X → Option Y) (xs : List X) (i : ℕ) (x : X) (o : Option Y) → i < length xs → x ≡ get_or xs i x → f x ≡ o
    → filter_map f (take (i + 1) xs) ≡ filter_map f (take i xs) ++ cons_option o []
filter_map-more f xs i x o below is gives =
    ap (filter_map f) (take_more xs i x below ∙ ap (λ y. take i xs ++ y ∷ []) (sym is))
    ∙ filter_map-append f (take i xs) (x ∷ [])
    ∙ ap (λ y. filter_map f (take i xs) ++ cons_option y []) gives
