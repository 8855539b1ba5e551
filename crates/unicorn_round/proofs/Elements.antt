-- What holds of each element of a list.
use Rattle.std.proofs.Common.{◌≤◌, Bool, true, false, List, [], ◌∷◌, ◌++◌, length, filter, map, flat_map, if◌then◌else◌, arith}
use Rattle.std.specs.List.{AllByRecursion}

pub all-append : {X : Type 0} (P : X → Type 0) (xs ys : List X) → AllByRecursion P xs → AllByRecursion P ys → AllByRecursion P (xs ++ ys)
all-append P [] ys all more = more
all-append P (x ∷ xs) ys all more = (all.0, all-append P xs ys all.1 more)

pub all-map : {X Y : Type 0} (P : X → Type 0) (Q : Y → Type 0) (f : X → Y) → ((x : X) → P x → Q (f x)) → (xs : List X) → AllByRecursion P xs → AllByRecursion Q (map f xs)
all-map P Q f so [] all = tt
all-map P Q f so (x ∷ xs) all = (so x all.0, all-map P Q f so xs all.1)

pub all-flat_map : {X Y : Type 0} (P : X → Type 0) (Q : Y → Type 0) (f : X → List Y) → ((x : X) → P x → AllByRecursion Q (f x)) → (xs : List X) → AllByRecursion P xs → AllByRecursion Q (flat_map f xs)
all-flat_map P Q f so [] all = tt
all-flat_map P Q f so (x ∷ xs) all = all-append Q (f x) (flat_map f xs) (so x all.0) (all-flat_map P Q f so xs all.1)

pub all-left : {X : Type 0} (P : X → Type 0) (xs ys : List X) → AllByRecursion P (xs ++ ys) → AllByRecursion P xs
all-left P [] ys all = tt
all-left P (x ∷ xs) ys all = (all.0, all-left P xs ys all.1)

pub all-right : {X : Type 0} (P : X → Type 0) (xs ys : List X) → AllByRecursion P (xs ++ ys) → AllByRecursion P ys
all-right P [] ys all = all
all-right P (x ∷ xs) ys all = all-right P xs ys all.1

pub all-wider : {X : Type 0} (P Q : X → Type 0) → ((x : X) → P x → Q x) → (xs : List X) → AllByRecursion P xs → AllByRecursion Q xs
all-wider P Q so [] all = tt
all-wider P Q so (x ∷ xs) all = (so x all.0, all-wider P Q so xs all.1)

pub all-both : {X : Type 0} (P Q : X → Type 0) (xs : List X) → AllByRecursion P xs → AllByRecursion Q xs → AllByRecursion (λ x. P x × Q x) xs
all-both P Q [] a b = tt
all-both P Q (x ∷ xs) a b = ((a.0, b.0), all-both P Q xs a.1 b.1)

-- a filter leaves no more
pub filter_fewer : {X : Type 0} (p : X → Bool) (xs : List X) → length (filter p xs) ≤ length xs
filter_fewer p [] = omega arith
filter_fewer p (x ∷ xs) = by (p x) (filter_fewer p xs)
  where
    by : (b : Bool) → length (filter p xs) ≤ length xs → length (if b then x ∷ filter p xs else filter p xs) ≤ length (x ∷ xs)
    by true rest = omega (arith, rest)
    by false rest = omega (arith, rest)
