-- What the first field is read as.
use Rattle.std.proofs.Common.{◌≡◌, ℕ, List, [], ◌∷◌, Option, None, Some, refl, ap, ◌∙◌}
use Rattle.std.specs.Option.{option_map}
use Rattle.std.proofs.lemmas.Option.{some_pair_parts}
use Rattle.feed_reader.specs.Fields.{first_as}

-- the field that was read, and how
pub was_read : {A : Type 0} (read : List ℕ → Option A) (fields : List (List ℕ)) (found : A) (rest : List (List ℕ)) → first_as read fields ≡ Some (found, rest)
    → (field : List ℕ) × (fields ≡ field ∷ rest) × (read field ≡ Some found)
was_read {A = A} read [] found rest e = cc
was_read {A = A} read (field ∷ fields) found rest e = by (read field) refl e
  where
    by : (was : Option A) → read field ≡ was → option_map {U = A × List (List ℕ)} (λ a. (a, fields)) was ≡ Some (found, rest) → (first : List ℕ) × ((field ∷ fields) ≡ first ∷ rest) × (read first ≡ Some found)
    by None is e = cc
    by (Some a) is e =
        let parts = some_pair_parts a found fields rest e in
        (field, ap (λ r. field ∷ r) parts.1, is ∙ ap Some parts.0)

-- a first field that is not read is of another form
pub was_not_read : {A : Type 0} (read : List ℕ → Option A) (field : List ℕ) (rest : List (List ℕ)) → first_as read (field ∷ rest) ≡ None → read field ≡ None
was_not_read {A = A} read field rest e = by (read field) refl e
  where
    by : (was : Option A) → read field ≡ was → option_map {U = A × List (List ℕ)} (λ a. (a, rest)) was ≡ None → was ≡ None
    by None is e = refl
    by (Some a) is e = cc
