-- The names that were found last, each with its number.
use Rattle.std.specs.Prelude.{ℕ, ◌≡◌, ◌≢◌, true, List, [], ◌∷◌, Option, None, Some, ⊤}
use Rattle.feed_reader.specs.Fields.{in_front, onto_fields}
use Rattle.uni_schema.specs.Schema.{Declarations, vertical_no, type_no}
use Rattle.feed_reader.specs.declared.names.Found.{Found}
use Rattle.uni_base.specs.Words.{is_name}
use Rattle.feed_reader.specs.declared.names.LastNames.{LastNames}

-- what was found is a name, with the number that a look-up has for it
abbrev pub IsFoundBy : (List ℕ → Option ℕ) → Option Found → Type 0
IsFoundBy number_of None = ⊤
IsFoundBy number_of (Some found) = (is_name found.name ≡ true) × (number_of found.name ≡ Some found.number)

-- last names are those of a schema
pub record AreOf (schema : Declarations) (names : LastNames) : Type 0 where
  pub vertical : IsFoundBy (vertical_no schema) names.vertical
  pub edge_type : IsFoundBy (type_no schema) names.edge_type
  pub circle : IsFoundBy (type_no schema) names.circle

-- the last name with its number was the first field, which was taken
abbrev pub IsLast : Option Found → (old new : List (List ℕ)) → ℕ → Type 0
IsLast None old new number = ⊥
IsLast (Some found) old new number = (old ≡ found.name ∷ new) × (number ≡ found.number)

-- the last name with its number stood before a colon at the front of the first field, and both were taken off it
abbrev pub IsLastBefore : Option Found → (old new : List (List ℕ)) → ℕ → Type 0
IsLastBefore None old new number = ⊥
IsLastBefore (Some found) old new number = (old ≡ onto_fields (in_front found.name) new) × (new ≢ []) × (number ≡ found.number)
