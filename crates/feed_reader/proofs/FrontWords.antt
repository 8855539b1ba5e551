-- A word as the first field of a text, and a name before its first colon, by the word at the text's front.
use Rattle.std.proofs.Common.{◌≡◌, ℕ, Bool, true, false, cond, if◌then◌else◌, List, [], ◌∷◌, ◌++◌, Option, None, Some, refl, ap, sym, ◌∙◌, append_assoc, true≢false}
use Rattle.std.specs.List.{list_all, take_while}
use Rattle.std.specs.Option.{option_map, option_and_then}
use Rattle.std.proofs.lemmas.Bool.{and_parts}
use Rattle.std.proofs.lemmas.List.{append-nil}
use Rattle.std.proofs.lemmas.List.Sums.{take_while-cons}
use Rattle.uni_base.specs.Fields.{same, cut_at, fields_of, spaced}
use Rattle.uni_base.specs.Words.{is_word, is_word_byte, starts_with_letter, is_name}
use Rattle.uni_base.proofs.FieldLemmas.{spaced-fields_of}
use Rattle.uni_schema.specs.Lines.{name_of}
use Rattle.feed_reader.specs.Fields.{begins_with, first_as, front_as, goes_on, in_front, is_first}
use Rattle.feed_reader.specs.Reading.{word_of}
use Rattle.feed_reader.proofs.Circles.{front_named}
use Rattle.feed_reader.proofs.Fronts.{fields_onto, front_ends, front_solid, never_none, other_longer, same_self, with_word}
use Rattle.feed_reader.proofs.Parts.{cut_joined, name_solid, word_bytes, word_given, word_solid}

-- bytes that pass are the front of a text, where none follows that passes
front_is : (p : ℕ → Bool) (front text : List ℕ) → list_all p front ≡ true → take_while p text ≡ [] → take_while p (front ++ text) ≡ front
front_is p [] text all none = none
front_is p (c ∷ front) text all none =
    let parts = and_parts (p c) (list_all p front) all in
    take_while-cons p c (front ++ text)
    ∙ ap (λ b. cond b (c ∷ take_while p (front ++ text)) []) parts.0
    ∙ ap (λ t. c ∷ t) (front_is p front text parts.1 none)

-- no byte of words follows the first field of a text
first_field : (text field : List ℕ) (fields : List (List ℕ)) → fields_of text ≡ field ∷ fields → (tail : List ℕ) × (text ≡ field ++ tail) × (take_while is_word_byte tail ≡ [])
first_field text field [] e = ([], sym (spaced-fields_of text) ∙ ap spaced e ∙ sym (append-nil field), refl)
first_field text field (next ∷ fields) e = (32 ∷ spaced (next ∷ fields), sym (spaced-fields_of text) ∙ ap spaced e, refl)

-- so that is the front where it is a word
word_front : (text field : List ℕ) (fields : List (List ℕ)) → fields_of text ≡ field ∷ fields → is_word field ≡ true → take_while is_word_byte text ≡ field
word_front text field fields e is =
    let whole = first_field text field fields e in
    ap (take_while is_word_byte) whole.1 ∙ front_is is_word_byte field whole.0 (word_bytes field is) whole.2

word_other : (text : List ℕ) → ((field : List ℕ) (fields : List (List ℕ)) → fields_of text ≡ field ∷ fields → is_word field ≡ true → ⊥) → first_as word_of (fields_of text) ≡ None
word_other text never = by (fields_of text) refl
  where
    at : (field : List ℕ) (fields : List (List ℕ)) (test : Bool) → fields_of text ≡ field ∷ fields → is_word field ≡ test → first_as word_of (field ∷ fields) ≡ None
    at field fields true e is = absurd (never field fields e is)
    at field fields false e is = ap (λ b. option_map (λ found. (found, fields)) (if b then Some field else None)) is

    by : (fields : List (List ℕ)) → fields_of text ≡ fields → first_as word_of fields ≡ None
    by [] e = refl
    by (field ∷ fields) e = at field fields (is_word field) e refl

-- the first field is no word where the front is none
pub no_word : (text : List ℕ) → is_word (take_while is_word_byte text) ≡ false → first_as word_of (fields_of text) ≡ None
no_word text none = word_other text (λ field fields e is. true≢false (sym is ∙ ap is_word (sym (word_front text field fields e is)) ∙ none))

-- nor where it goes on behind the front
pub word_goes_on : (text word after : List ℕ) → is_word word ≡ true → word ≡ take_while is_word_byte text → text ≡ word ++ after → goes_on after ≡ true
    → first_as word_of (fields_of text) ≡ None
word_goes_on text word after is front whole on =
    word_other text (λ field fields e it.
    let one : field ≡ word = sym (word_front text field fields e it) ∙ sym front in
    let longer : is_first word (fields_of text) ≡ false = ap (λ t. is_first word (fields_of t)) whole ∙ other_longer word after (word_solid word is) on in
    true≢false (sym (same_self word) ∙ ap (λ f. same f word) (sym one) ∙ sym (ap (is_first word) e) ∙ longer))

pub word_taken : (text word after : List ℕ) (rest : List (List ℕ)) → is_word word ≡ true → text ≡ word ++ after → fields_of after ≡ [] ∷ rest
    → first_as word_of (fields_of text) ≡ Some (word, rest)
word_taken text word after rest is whole ends =
    ap (first_as word_of) (ap fields_of whole ∙ front_ends word after rest (word_solid word is) ends)
    ∙ ap (option_map (λ found. (found, rest))) (word_given word is)

-- a name before the first colon of the first field is the front too
name_front : (text field : List ℕ) (fields : List (List ℕ)) (name key : List ℕ) → fields_of text ≡ field ∷ fields → cut_at 58 field ≡ Some (name, key) → is_word name ≡ true
    → (tail : List ℕ) × (text ≡ name ++ 58 ∷ tail) × (take_while is_word_byte text ≡ name)
name_front text field fields name key e cut is =
    let whole = first_field text field fields e in
    let joined : text ≡ name ++ 58 ∷ (key ++ whole.0) = whole.1 ∙ ap (λ f. f ++ whole.0) (cut_joined 58 field name key cut) ∙ append_assoc name (58 ∷ key) whole.0 in
    (key ++ whole.0, joined, ap (take_while is_word_byte) joined ∙ front_is is_word_byte name (58 ∷ (key ++ whole.0)) (word_bytes name is) refl)

name_other : (text : List ℕ) → ((name tail : List ℕ) → text ≡ name ++ 58 ∷ tail → take_while is_word_byte text ≡ name → is_name name ≡ true → ⊥)
    → front_as name_of (fields_of text) ≡ None
name_other text never = by (fields_of text) refl
  where
    at : (field : List ℕ) (fields : List (List ℕ)) (name key : List ℕ) (test : Bool) → fields_of text ≡ field ∷ fields → cut_at 58 field ≡ Some (name, key) → is_name name ≡ test
        → option_map {U = List ℕ × List (List ℕ)} (λ found. (found, key ∷ fields)) (name_of name) ≡ None
    at field fields name key true e cut is =
        let here = name_front text field fields name key e cut (and_parts (is_word name) (starts_with_letter name) is).0 in
        absurd (never name here.0 here.1 here.2 is)
    at field fields name key false e cut is = ap (λ b. option_map (λ found. (found, key ∷ fields)) (if b then Some name else None)) is

    split : (field : List ℕ) (fields : List (List ℕ)) (cut : Option (List ℕ × List ℕ)) → fields_of text ≡ field ∷ fields → cut_at 58 field ≡ cut
        → option_and_then {U = List ℕ × List (List ℕ)} (λ parts. option_map (λ found. (found, parts.1 ∷ fields)) (name_of parts.0)) cut ≡ None
    split field fields None e cut = refl
    split field fields (Some parts) e cut = at field fields parts.0 parts.1 (is_name parts.0) e cut refl

    by : (fields : List (List ℕ)) → fields_of text ≡ fields → front_as name_of fields ≡ None
    by [] e = refl
    by (field ∷ fields) e = split field fields (cut_at 58 field) e refl

-- none stands there where the front is no word
pub no_name : (text : List ℕ) → is_word (take_while is_word_byte text) ≡ false → front_as name_of (fields_of text) ≡ None
no_name text none =
    name_other text (λ name tail whole front named. true≢false (sym (and_parts (is_word name) (starts_with_letter name) named).0 ∙ ap is_word (sym front) ∙ none))

-- nor where no colon follows
pub no_colon : (text word after : List ℕ) → word ≡ take_while is_word_byte text → text ≡ word ++ after → begins_with (58 ∷ []) after ≡ false
    → front_as name_of (fields_of text) ≡ None
no_colon text word after is parts other =
    name_other text (λ name tail whole front named.
    let here : begins_with (in_front name) text ≡ true = ap (begins_with (in_front name)) whole ∙ with_word name (58 ∷ []) (58 ∷ tail) in
    let not_here : begins_with (in_front word) text ≡ false = ap (begins_with (in_front word)) parts ∙ with_word word (58 ∷ []) after ∙ other in
    true≢false (sym here ∙ ap (λ w. begins_with (in_front w) text) (sym (is ∙ front)) ∙ not_here))

pub name_taken : (text name after rest : List ℕ) → is_name name ≡ true → text ≡ name ++ after → after ≡ 58 ∷ rest → front_as name_of (fields_of text) ≡ Some (name, fields_of rest)
name_taken text name after rest named parts colon =
    let whole : text ≡ in_front name ++ rest = parts ∙ ap (λ t. name ++ t) colon ∙ sym (append_assoc name (58 ∷ []) rest) in
    ap (front_as name_of) (ap fields_of whole ∙ fields_onto (in_front name) rest (front_solid name (name_solid name named)))
    ∙ front_named name (fields_of rest) named (never_none rest)
