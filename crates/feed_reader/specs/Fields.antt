-- Fields that are taken from the front of a line.
use Rattle.std.specs.Prelude.{ℕ, Bool, true, false, not, ◌≡◌, ◌≢◌, ◌==◌, List, [], ◌∷◌, ◌++◌, length, take, Option, None, Some, Result, Ok, Err}
use Rattle.std.specs.List.{list_all}
use Rattle.std.specs.Option.{option_map, option_and_then}
use Rattle.uni_base.specs.Fields.{same, cut_at}
use Rattle.uni_schema.specs.Lines.{name_of}
use Rattle.feed_reader.specs.declared.fault.LineFault.{LineFault}
use Rattle.feed_reader.specs.declared.fault.LineFault.TheVariants.{BadLine}

-- a text holds no space
abbrev pub is_solid : List ℕ → Bool
is_solid text = list_all (λ c. not (c == 32)) text

-- whether a field of which a text is the rest goes on there: neither the line ends nor a space follows
abbrev pub goes_on : List ℕ → Bool
goes_on [] = false
goes_on (c ∷ text) = not (c == 32)

-- what the first of some fields is read as, with the fields after it
abbrev pub first_as : {A : Type 0} → (List ℕ → Option A) → List (List ℕ) → Option (A × List (List ℕ))
first_as read [] = None
first_as read (field ∷ fields) = option_map (λ found. (found, fields)) (read field)

-- the first field was read, and those after it are left; or it is not of the form that is wanted
abbrev pub TakesAs : {A : Type 0} → (List ℕ → Option A) → (old new : List (List ℕ)) → Result A LineFault → Type 0
TakesAs read old new (Ok found) = first_as read old ≡ Some (found, new)
TakesAs read old new (Err fault) = (fault ≡ BadLine) × (first_as read old ≡ None)

-- what the first of some fields is read as up to its first colon, with what is left of it and the fields after it
abbrev pub front_as : {A : Type 0} → (List ℕ → Option A) → List (List ℕ) → Option (A × List (List ℕ))
front_as read [] = None
front_as read (field ∷ fields) = option_and_then (λ parts. option_map (λ found. (found, parts.1 ∷ fields)) (read parts.0)) (cut_at 58 field)

-- the front of the first field was read, and it and its colon were taken off; or it is not of the form that is wanted
abbrev pub TakesFrontAs : {A : Type 0} → (List ℕ → Option A) → (old new : List (List ℕ)) → Result A LineFault → Type 0
TakesFrontAs read old new (Ok found) = front_as read old ≡ Some (found, new)
TakesFrontAs read old new (Err fault) = (fault ≡ BadLine) × (front_as read old ≡ None)

-- whether the first of some fields is a word
abbrev pub is_first : List ℕ → List (List ℕ) → Bool
is_first word [] = false
is_first word (field ∷ fields) = same field word

-- a word was taken, or else the first field is another one
abbrev pub HasTaken : List ℕ → (old new : List (List ℕ)) → Bool → Type 0
HasTaken word old new true = old ≡ word ∷ new
HasTaken word old new false = (new ≡ old) × (is_first word old ≡ false)

-- a word and a colon
abbrev pub in_front : List ℕ → List ℕ
in_front word = word ++ 58 ∷ []

-- whether a text begins with another one
abbrev pub begins_with : List ℕ → List ℕ → Bool
begins_with front text = same (take (length front) text) front

-- fields with a text before the first of them
abbrev pub onto_fields : List ℕ → List (List ℕ) → List (List ℕ)
onto_fields front [] = []
onto_fields front (field ∷ fields) = (front ++ field) ∷ fields

-- whether the first of some fields begins with a text
abbrev pub first_begins : List ℕ → List (List ℕ) → Bool
first_begins front [] = false
first_begins front (field ∷ fields) = begins_with front field

-- a word and a colon were taken off the first field, or else it does not begin with them
abbrev pub HasTakenFront : List ℕ → (old new : List (List ℕ)) → Bool → Type 0
HasTakenFront word old new true = (old ≡ onto_fields (in_front word) new) × (new ≢ [])
HasTakenFront word old new false = (new ≡ old) × (first_begins (in_front word) old ≡ false)

-- the number of a name, if it is declared
abbrev pub number_by : (List ℕ → Option ℕ) → List ℕ → Option (Option ℕ)
number_by number_of text = option_map number_of (name_of text)
