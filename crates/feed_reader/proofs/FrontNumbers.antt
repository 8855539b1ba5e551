-- A number as the first field of a text, by the digits at the text's front.
use Rattle.std.proofs.Common.{◌≡◌, ℕ, ◌<◌, ◌-◌, ◌==◌, Bool, true, false, not, ◌&&◌, ◌||◌, nat_le, if◌then◌else◌, List, [], ◌∷◌, ◌++◌, length, take, drop, get_or, Option, None, Some, refl, ap, sym, ◌∙◌, arith}
use Rattle.std.specs.List.{list_all}
use Rattle.std.specs.Option.{option_map, option_and_then}
use Rattle.std.specs.Str.Parse.{digits_value}
use Rattle.std.proofs.Math.Seq.{drop-cons}
use Rattle.std.proofs.lemmas.Bool.Decides.{nat_tests}
use Rattle.std.proofs.lemmas.List.{take-append-drop, take_all, length-drop, drop_all}
use Rattle.std.proofs.lemmas.List.Folds.{list_all-append}
use Rattle.uni_base.specs.Fields.{fields_of}
use Rattle.uni_base.specs.Numbers.{is_number, number_between, starts_with_zero}
use Rattle.uni_base.specs.Words.{is_digit}
use Rattle.feed_reader.specs.Fields.{first_as, goes_on, is_solid}
use Rattle.feed_reader.proofs.Fronts.{and_false, front_ends, front_goes_on}
use Rattle.feed_reader.proofs.Parts.{digits_solid}

-- what stands after so many bytes, as a slice has it
pub after_is : (text : List ℕ) (count : ℕ) → take (length text - count) (drop count text) ≡ drop count text
after_is text count = take_all (length text - count) (drop count text) (omega (arith, length-drop count text))

-- digits that end a field are that field
whole : (text : List ℕ) (count : ℕ) (rest : List (List ℕ)) → list_all is_digit (take count text) ≡ true → fields_of (drop count text) ≡ [] ∷ rest
    → fields_of text ≡ take count text ∷ rest
whole text count rest digits ends =
    ap fields_of (sym (take-append-drop count text)) ∙ front_ends (take count text) (drop count text) rest (digits_solid (take count text) digits) ends

pub number_taken : (low high : ℕ) (text : List ℕ) (count : ℕ) (number : Option ℕ) (rest : List (List ℕ)) → list_all is_digit (take count text) ≡ true
    → fields_of (drop count text) ≡ [] ∷ rest → number_between low high (take count text) ≡ number
    → first_as (number_between low high) (fields_of text) ≡ option_map (λ found. (found, rest)) number
number_taken low high text count number rest digits ends is =
    ap (first_as (number_between low high)) (whole text count rest digits ends) ∙ ap (option_map (λ found. (found, rest))) is

-- a text with a byte that is no digit writes no number
no_number : (low high : ℕ) (front : List ℕ) (c : ℕ) (more : List ℕ) → is_digit c ≡ false → number_between low high (front ++ c ∷ more) ≡ None
no_number low high front c more other =
    let text : List ℕ = front ++ c ∷ more in
    let none : list_all is_digit text ≡ false =
    list_all-append is_digit front (c ∷ more) ∙ ap (λ b. list_all is_digit front && (b && list_all is_digit more)) other ∙ and_false (list_all is_digit front) in
    let bad : is_number text ≡ false =
    ap (λ b. nat_le 1 (length text) && nat_le (length text) 20 && b && (not (starts_with_zero text) || (length text == 1))) none
    ∙ ap (λ b. b && (not (starts_with_zero text) || (length text == 1))) (and_false (nat_le 1 (length text) && nat_le (length text) 20)) in
    ap (λ b. option_and_then (λ n. if nat_le low n && nat_le n high then Some n else None) (if b then Some (digits_value 10 text) else None)) bad

on_at : (low high : ℕ) (front after : List ℕ) → is_solid front ≡ true → goes_on after ≡ true → is_digit (get_or after 0 0) ≡ false
    → first_as (number_between low high) (fields_of (front ++ after)) ≡ None
on_at low high front [] solid on other = cc
on_at low high front (c ∷ after) solid on other =
    let here = front_goes_on front c after solid on in
    ap (first_as (number_between low high)) here.2
    ∙ ap (option_map (λ found. (found, here.1))) (no_number low high front c here.0 other)

-- nor does a field that goes on behind its digits by another byte
pub number_goes_on : (low high : ℕ) (text : List ℕ) (count : ℕ) → list_all is_digit (take count text) ≡ true → (count < length text → is_digit (get_or text count 0) ≡ false)
    → goes_on (drop count text) ≡ true → first_as (number_between low high) (fields_of text) ≡ None
number_goes_on low high text count digits ended on =
    ap (λ t. first_as (number_between low high) (fields_of t)) (sym (take-append-drop count text))
    ∙ on_at low high (take count text) (drop count text) (digits_solid (take count text) digits) on (at_count (nat_le (length text) count) refl)
  where
    at_count : (past : Bool) → nat_le (length text) count ≡ past → is_digit (get_or (drop count text) 0 0) ≡ false
    at_count true e =
        let none : drop count text ≡ [] = drop_all count text (grind (arith, nat_tests)) in
        ap (λ t. is_digit (get_or t 0 0)) none
    at_count false e =
        let here : count < length text = grind (arith, nat_tests) in
        ap (λ t. is_digit (get_or t 0 0)) (drop-cons text count 0 here) ∙ ended here
