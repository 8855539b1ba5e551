-- The first field of a text, by what stands at the text's front.
use Rattle.std.proofs.Common.{◌≡◌, ℕ, ◌==◌, Bool, true, false, not, ◌&&◌, cond, List, [], ◌∷◌, ◌++◌, length, take, drop, Option, None, Some, MatchOption, Bor, refl, ap, sym, ◌∙◌, append_assoc, arith}
use Rattle.std.specs.Cmp.Derive.{both_true}
use Rattle.std.specs.Cmp.Lexicographic.{same_text}
use Rattle.std.specs.List.{onto_first}
use Rattle.std.proofs.Math.Seq.{take-append_seam, take-length}
use Rattle.std.proofs.lemmas.Bool.{and_parts}
use Rattle.std.proofs.lemmas.Bool.Decides.{nat_tests}
use Rattle.std.proofs.lemmas.List.Folds.{list_all-append}
use Rattle.std.proofs.lemmas.List.{append-nil, take-append-drop}
use Rattle.uni_base.specs.Fields.{same, fields_of, spaced}
use Rattle.uni_base.proofs.FieldLemmas.{spaced-fields_of}
use Rattle.feed_reader.specs.Fields.{is_solid, goes_on, is_first, in_front, begins_with, onto_fields, first_begins}

equal_self : (c : ℕ) → (c == c) ≡ true
equal_self c = grind (arith, nat_tests)

pub same_self : (xs : List ℕ) → same xs xs ≡ true
same_self [] = refl
same_self (c ∷ cs) = both_true (equal_self c) (same_self cs)

untrue : (b : Bool) → not b ≡ true → b ≡ false
untrue true e = cc
untrue false e = refl

pub and_false : (b : Bool) → (b && false) ≡ false
and_false true = refl
and_false false = refl

-- a text has a first field
pub never_none : (text : List ℕ) → fields_of text ≡ [] → ⊥
never_none [] e = cc
never_none (c ∷ cs) e = by (c == 32) (fields_of cs) e
  where
    by : (space : Bool) (fields : List (List ℕ)) → cond space ([] ∷ fields) (onto_first c fields) ≡ [] → ⊥
    by true fields e = cc
    by false [] e = cc
    by false (field ∷ fields) e = cc

onto_nothing : (text : List ℕ) → fields_of text ≡ onto_fields [] (fields_of text)
onto_nothing text = by (fields_of text) refl
  where
    by : (fields : List (List ℕ)) → fields_of text ≡ fields → fields ≡ onto_fields [] fields
    by [] e = absurd (never_none text e)
    by (field ∷ fields) e = refl

onto_more : (c : ℕ) (front text : List ℕ) → onto_first c (onto_fields front (fields_of text)) ≡ onto_fields (c ∷ front) (fields_of text)
onto_more c front text = by (fields_of text) refl
  where
    by : (fields : List (List ℕ)) → fields_of text ≡ fields → onto_first c (onto_fields front fields) ≡ onto_fields (c ∷ front) fields
    by [] e = absurd (never_none text e)
    by (field ∷ fields) e = refl

-- a text that holds no space stands before the first field of what follows it
pub fields_onto : (front text : List ℕ) → is_solid front ≡ true → fields_of (front ++ text) ≡ onto_fields front (fields_of text)
fields_onto [] text solid = onto_nothing text
fields_onto (c ∷ front) text solid =
    let parts = and_parts (not (c == 32)) (is_solid front) solid in
    ap (λ b. cond b ([] ∷ fields_of (front ++ text)) (onto_first c (fields_of (front ++ text)))) (untrue (c == 32) parts.0)
    ∙ ap (onto_first c) (fields_onto front text parts.1)
    ∙ onto_more c front text

-- so it is the first field, where that ends behind it
pub front_ends : (front text : List ℕ) (rest : List (List ℕ)) → is_solid front ≡ true → fields_of text ≡ [] ∷ rest → fields_of (front ++ text) ≡ front ∷ rest
front_ends front text rest solid ends =
    fields_onto front text solid ∙ ap (onto_fields front) ends ∙ ap (λ f. f ∷ rest) (append-nil front)

-- and the first field is longer where it goes on
pub front_goes_on : (front : List ℕ) (c : ℕ) (text : List ℕ) → is_solid front ≡ true → not (c == 32) ≡ true
    → (more : List ℕ) × (rest : List (List ℕ)) × (fields_of (front ++ c ∷ text) ≡ (front ++ c ∷ more) ∷ rest)
front_goes_on front c text solid other = by (fields_of text) refl
  where
    first : fields_of (c ∷ text) ≡ onto_first c (fields_of text)
    first = ap (λ b. cond b ([] ∷ fields_of text) (onto_first c (fields_of text))) (untrue (c == 32) other)

    by : (fields : List (List ℕ)) → fields_of text ≡ fields → (more : List ℕ) × (rest : List (List ℕ)) × (fields_of (front ++ c ∷ text) ≡ (front ++ c ∷ more) ∷ rest)
    by [] e = absurd (never_none text e)
    by (field ∷ fields) e =
        (field, fields, fields_onto front (c ∷ text) solid ∙ ap (onto_fields front) (first ∙ ap (onto_first c) e))

-- a word with a colon holds no space where the word holds none
pub front_solid : (word : List ℕ) → is_solid word ≡ true → is_solid (in_front word) ≡ true
front_solid word solid = list_all-append (λ c. not (c == 32)) word (58 ∷ []) ∙ both_true solid refl

-- a text that begins with another one is that and what follows
pub parted : (front text : List ℕ) → same (take (length front) text) front ≡ true → text ≡ front ++ drop (length front) text
parted front text is =
    sym (take-append-drop (length front) text) ∙ ap (λ f. f ++ drop (length front) text) (same_text (take (length front) text) front (sym is))

longer : (word : List ℕ) (c : ℕ) (more : List ℕ) → same (word ++ c ∷ more) word ≡ false
longer [] c more = refl
longer (x ∷ word) c more = ap (λ b. (x == x) && b) (longer word c more) ∙ and_false (x == x)

-- the first field is no word that it is longer than
pub other_longer : (word text : List ℕ) → is_solid word ≡ true → goes_on text ≡ true → is_first word (fields_of (word ++ text)) ≡ false
other_longer word [] solid on = cc
other_longer word (c ∷ text) solid on =
    let here = front_goes_on word c text solid on in
    ap (is_first word) here.2 ∙ longer word c here.0

-- nor one that the text does not begin with
begun : (text word : List ℕ) (fields : List (List ℕ)) → fields_of text ≡ word ∷ fields → same (take (length word) text) word ≡ true
begun text word [] e =
    let whole : text ≡ word = sym (spaced-fields_of text) ∙ ap spaced e in
    ap (λ t. same (take (length word) t) word) whole ∙ ap (λ t. same t word) (take-length word) ∙ same_self word
begun text word (field ∷ fields) e =
    let whole : text ≡ word ++ 32 ∷ spaced (field ∷ fields) = sym (spaced-fields_of text) ∙ ap spaced e in
    ap (λ t. same (take (length word) t) word) whole ∙ ap (λ t. same t word) (take-append_seam word (32 ∷ spaced (field ∷ fields))) ∙ same_self word

pub other_begun : (word text : List ℕ) → same (take (length word) text) word ≡ false → is_first word (fields_of text) ≡ false
other_begun word text not_so = by (fields_of text) refl
  where
    found : (field : List ℕ) (fields : List (List ℕ)) (test : Bool) → fields_of text ≡ field ∷ fields → same field word ≡ test → test ≡ false
    found field fields false e is = refl
    found field fields true e is =
        let one : field ≡ word = same_text field word (sym is) in
        let so : same (take (length word) text) word ≡ true = begun text word fields (e ∙ ap (λ f. f ∷ fields) one) in
        cc

    by : (fields : List (List ℕ)) → fields_of text ≡ fields → is_first word fields ≡ false
    by [] e = refl
    by (field ∷ fields) e = found field fields (same field word) e refl

-- what was taken after a word leaves the fields after it
pub after_cases : (word text after : List ℕ) (left : Option (List (List ℕ))) → is_solid word ≡ true → same (take (length word) text) word ≡ true → after ≡ drop (length word) text
    → MatchOption left (goes_on after ≡ true) (λ rest. fields_of after ≡ [] ∷ rest)
    → MatchOption left (is_first word (fields_of text) ≡ false) (λ rest. fields_of text ≡ word ∷ rest)
after_cases word text after None solid same_front left on =
    let whole : text ≡ word ++ after = parted word text same_front ∙ ap (λ t. word ++ t) (sym left) in
    ap (λ t. is_first word (fields_of t)) whole ∙ other_longer word after solid on
after_cases word text after (Some rest) solid same_front left ends =
    let whole : text ≡ word ++ after = parted word text same_front ∙ ap (λ t. word ++ t) (sym left) in
    ap fields_of whole ∙ front_ends word after rest solid ends

-- a word and what follows it begin as the text does that follows
pub with_word : (word front text : List ℕ) → begins_with (word ++ front) (word ++ text) ≡ begins_with front text
with_word [] front text = refl
with_word (c ∷ word) front text = ap (λ b. b && begins_with (word ++ front) (word ++ text)) (equal_self c) ∙ with_word word front text

-- a text that begins with a word and more begins with the word
without_word : (word front text : List ℕ) → begins_with (word ++ front) text ≡ true → same (take (length word) text) word ≡ true
without_word [] front text h = refl
without_word (c ∷ word) front [] h = cc
without_word (c ∷ word) front (d ∷ text) h =
    let parts = and_parts (d == c) (begins_with (word ++ front) text) h in
    both_true parts.0 (without_word word front text parts.1)

false_by : (b : Bool) → (b ≡ true → ⊥) → b ≡ false
false_by true never = absurd (never refl)
false_by false never = refl

pub no_front : (word text : List ℕ) → same (take (length word) text) word ≡ false → begins_with (in_front word) text ≡ false
no_front word text not_so =
    false_by (begins_with (in_front word) text) (λ h. let so : same (take (length word) text) word ≡ true = without_word word (58 ∷ []) text h in cc)

pub front_cases : (word text after : List ℕ) (left : Option (Bor (List ℕ))) → same (take (length word) text) word ≡ true → after ≡ drop (length word) text
    → MatchOption left (begins_with (58 ∷ []) after ≡ false) (λ rest. after ≡ 58 ∷ rest.now)
    → MatchOption left (begins_with (in_front word) text ≡ false) (λ rest. text ≡ in_front word ++ rest.now)
front_cases word text after None same_front left other =
    let whole : text ≡ word ++ after = parted word text same_front ∙ ap (λ t. word ++ t) (sym left) in
    ap (begins_with (in_front word)) whole ∙ with_word word (58 ∷ []) after ∙ other
front_cases word text after (Some rest) same_front left so =
    let whole : text ≡ word ++ after = parted word text same_front ∙ ap (λ t. word ++ t) (sym left) in
    whole ∙ ap (λ t. word ++ t) so ∙ sym (append_assoc word (58 ∷ []) rest.now)

-- a first field that begins with a text makes the whole text begin with it
pub first_begun : (front text : List ℕ) → begins_with front text ≡ false → first_begins front (fields_of text) ≡ false
first_begun front text not_so = by (fields_of text) refl
  where
    more : (field after : List ℕ) → begins_with front field ≡ true → begins_with front (field ++ after) ≡ true
    more field after h =
        let whole : field ≡ front ++ drop (length front) field = parted front field h in
        let joined : field ++ after ≡ front ++ (drop (length front) field ++ after) =
        ap (λ f. f ++ after) whole ∙ append_assoc front (drop (length front) field) after in
        ap (λ t. same (take (length front) t) front) joined
        ∙ ap (λ t. same t front) (take-append_seam front (drop (length front) field ++ after)) ∙ same_self front

    found : (field : List ℕ) (fields : List (List ℕ)) → fields_of text ≡ field ∷ fields → begins_with front field ≡ true → begins_with front text ≡ true
    found field [] e h = ap (begins_with front) (sym (spaced-fields_of text) ∙ ap spaced e) ∙ h
    found field (next ∷ fields) e h =
        ap (begins_with front) (sym (spaced-fields_of text) ∙ ap spaced e) ∙ more field (32 ∷ spaced (next ∷ fields)) h

    by : (fields : List (List ℕ)) → fields_of text ≡ fields → first_begins front fields ≡ false
    by [] e = refl
    by (field ∷ fields) e =
        false_by (begins_with front field) (λ h. let so : begins_with front text ≡ true = found field fields e h in cc)
