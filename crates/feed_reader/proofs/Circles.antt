-- Names before colons and circles, as the first field.
use Rattle.std.proofs.Common.{◌≡◌, ◌≢◌, ℕ, true, List, [], ◌∷◌, ◌++◌, Option, None, Some, refl, ap, sym, ◌∙◌, append_assoc}
use Rattle.std.specs.Option.{option_map, option_and_then}
use Rattle.uni_base.specs.Fields.{cut_at}
use Rattle.uni_schema.specs.Lines.{name_of}
use Rattle.uni_schema.specs.Schema.{Declarations, type_no}
use Rattle.uni_table.specs.declared.command.AudienceText.{AudienceText}
use Rattle.uni_table.specs.declared.command.AudienceText.TheVariants.{Circle}
use Rattle.feed_reader.specs.FeedText.{circle_audience, audience_meant}
use Rattle.feed_reader.specs.Fields.{first_as, front_as, in_front, number_by, onto_fields}
use Rattle.feed_reader.specs.Names.{IsFoundBy, IsLastBefore}
use Rattle.feed_reader.specs.Parts.{circle_by}
use Rattle.feed_reader.specs.Reading.{circle_of, word_of}
use Rattle.feed_reader.specs.declared.names.Found.{Found}
use Rattle.uni_base.specs.Words.{is_name}
use Rattle.feed_reader.proofs.Parts.{cut_given, name_given, name_no_colon}

-- a name, a colon and a text are cut there
cut_here : (name text : List ℕ) → is_name name ≡ true → cut_at 58 (in_front name ++ text) ≡ Some (name, text)
cut_here name text named = ap (cut_at 58) (append_assoc name (58 ∷ []) text) ∙ cut_given 58 name text (name_no_colon name named)

-- so the name is what the front is read as
pub front_named : (name : List ℕ) (new : List (List ℕ)) → is_name name ≡ true → new ≢ [] → front_as name_of (onto_fields (in_front name) new) ≡ Some (name, new)
front_named name [] named some = absurd (some refl)
front_named name (field ∷ fields) named some =
    ap (option_and_then (λ parts. option_map (λ found. (found, parts.1 ∷ fields)) (name_of parts.0))) (cut_here name field named)
    ∙ ap (option_map (λ found. (found, field ∷ fields))) (name_given name named)

-- a name's number is read where the name is
abbrev with_number : (List ℕ → Option ℕ) → Option (List ℕ × List (List ℕ)) → Option (Option ℕ × List (List ℕ))
with_number number_of read = option_map (λ r. (number_of r.0, r.1)) read

number_front : (number_of : List ℕ → Option ℕ) (fields : List (List ℕ)) → front_as (number_by number_of) fields ≡ with_number number_of (front_as name_of fields)
number_front number_of [] = refl
number_front number_of (field ∷ fields) = by (cut_at 58 field)
  where
    at : (key : List ℕ) (name : Option (List ℕ)) → option_map {U = Option ℕ × List (List ℕ)} (λ n. (n, key ∷ fields)) (option_map number_of name)
        ≡ with_number number_of (option_map (λ found. (found, key ∷ fields)) name)
    at key None = refl
    at key (Some name) = refl

    by : (cut : Option (List ℕ × List ℕ)) → option_and_then {U = Option ℕ × List (List ℕ)} (λ parts. option_map (λ n. (n, parts.1 ∷ fields)) (number_by number_of parts.0)) cut
        ≡ with_number number_of (option_and_then (λ parts. option_map (λ found. (found, parts.1 ∷ fields)) (name_of parts.0)) cut)
    by None = refl
    by (Some parts) = at parts.1 (name_of parts.0)

-- the number of the last name before a colon
pub last_front : (number_of : List ℕ → Option ℕ) (last : Option Found) (old new : List (List ℕ)) (number : ℕ) → IsFoundBy number_of last → IsLastBefore last old new number
    → front_as (number_by number_of) old ≡ Some (Some number, new)
last_front number_of None old new number found before = absurd before
last_front number_of (Some last) old new number found before =
    ap (front_as (number_by number_of)) before.0
    ∙ number_front number_of (onto_fields (in_front last.name) new)
    ∙ ap (with_number number_of) (front_named last.name new found.0 before.1)
    ∙ ap (λ n. Some (n, new)) (found.1 ∙ ap Some (sym before.2))

-- a circle is its type's name before a colon, and then its key
abbrev pub circle_read : Option (Option ℕ × List (List ℕ)) → Option (Option AudienceText × List (List ℕ))
circle_read read = option_and_then (λ n. option_map (λ k. (option_map (λ no. Circle no k.0) n.0, k.1)) (first_as word_of n.1)) read

pub circle_first : (schema : Declarations) (fields : List (List ℕ)) → first_as (circle_by schema) fields ≡ circle_read (front_as (number_by (type_no schema)) fields)
circle_first schema [] = refl
circle_first schema (field ∷ fields) = by (cut_at 58 field)
  where
    at : (name key : Option (List ℕ)) → option_map {U = Option AudienceText × List (List ℕ)} (λ a. (a, fields)) (option_map (audience_meant schema) (option_and_then (λ n. option_map (λ k. circle_audience n k) key) name))
        ≡ option_and_then (λ n. option_map (λ (k : List ℕ × List (List ℕ)). (option_map (λ no. Circle no k.0) n, k.1)) (option_map (λ k. (k, fields)) key)) (option_map (type_no schema) name)
    at None key = refl
    at (Some name) None = refl
    at (Some name) (Some key) = refl

    by : (cut : Option (List ℕ × List ℕ)) → option_map {U = Option AudienceText × List (List ℕ)} (λ a. (a, fields)) (option_map (audience_meant schema) (option_and_then circle_of cut))
        ≡ circle_read (option_and_then (λ (parts : List ℕ × List ℕ). option_map (λ n. (n, parts.1 ∷ fields)) (number_by (type_no schema) parts.0)) cut)
    by None = refl
    by (Some parts) = split (name_of parts.0)
      where
        split : (name : Option (List ℕ)) → option_map {U = Option AudienceText × List (List ℕ)} (λ a. (a, fields)) (option_map (audience_meant schema) (option_and_then (λ n. option_map (λ k. circle_audience n k) (word_of parts.1)) name))
            ≡ circle_read (option_map (λ n. (n, parts.1 ∷ fields)) (option_map (type_no schema) name))
        split None = refl
        split (Some name) = at (Some name) (word_of parts.1)
