-- Texts of bytes of one kind.
use Rattle.std.proofs.Common.{◌≡◌, ℕ, ◌==◌, ◌&&◌, not, Bool, true, false, List, [], ◌∷◌, ◌++◌, Some, None, refl, ap, ◌∙◌, arith}
use Rattle.std.specs.List.{list_all}
use Rattle.std.proofs.Math.Bool.{and-false}
use Rattle.std.proofs.lemmas.Bool.{and_parts}
use Rattle.std.proofs.lemmas.Bool.Decides.{nat_tests}
use Rattle.std.proofs.lemmas.List.Folds.{list_all-append}
use Rattle.uni_base.specs.Words.{is_letter, is_digit, is_word_byte}
use Rattle.uni_base.specs.Fields.{cut_at}
use Rattle.query_reader.specs.Tokens.{is_atom_byte}

pub all-weaker : (p q : ℕ → Bool) → ((c : ℕ) → p c ≡ true → q c ≡ true) → (text : List ℕ) → list_all p text ≡ true → list_all q text ≡ true
all-weaker p q weaker [] all = refl
all-weaker p q weaker (c ∷ cs) all =
    let parts = and_parts (p c) (list_all p cs) all in
    ap (λ b. b && list_all q cs) (weaker c parts.0) ∙ all-weaker p q weaker cs parts.1

-- one byte that does not pass
pub not-all : (p : ℕ → Bool) (front back : List ℕ) (c : ℕ) → p c ≡ false → list_all p (front ++ c ∷ back) ≡ false
not-all p front back c fails =
    list_all-append p front (c ∷ back)
    ∙ ap (λ b. list_all p front && (b && list_all p back)) fails
    ∙ and-false (list_all p front)

-- a text without a separator is not cut, and one with a separator is cut at the first
abbrev pub other_than : ℕ → ℕ → Bool
other_than separator c = not (c == separator)

not-true : (b : Bool) → not b ≡ true → b ≡ false
not-true true is_not = absurd (cc)
not-true false is_not = refl

pub uncut : (separator : ℕ) (text : List ℕ) → list_all (other_than separator) text ≡ true → cut_at separator text ≡ None
uncut separator [] all = refl
uncut separator (c ∷ cs) all =
    let parts = and_parts (other_than separator c) (list_all (other_than separator) cs) all in
    rw (not-true (c == separator) parts.0, uncut separator cs parts.1) refl

pub cut-first : (separator : ℕ) (front back : List ℕ) → list_all (other_than separator) front ≡ true
    → (separator == separator) ≡ true → cut_at separator (front ++ separator ∷ back) ≡ Some (front, back)
cut-first separator [] back all same = rw same refl
cut-first separator (c ∷ cs) back all same =
    let parts = and_parts (other_than separator c) (list_all (other_than separator) cs) all in
    rw (not-true (c == separator) parts.0, cut-first separator cs back parts.1 same) refl

-- the bytes of words and of digits
pub word-atom : (c : ℕ) → is_word_byte c ≡ true → is_atom_byte c ≡ true
word-atom c word = grind (arith, nat_tests)

pub word-no_colon : (c : ℕ) → is_word_byte c ≡ true → other_than 58 c ≡ true
word-no_colon c word = grind (arith, nat_tests)

pub word-no_star : (c : ℕ) → is_word_byte c ≡ true → other_than 42 c ≡ true
word-no_star c word = grind (arith, nat_tests)

pub digit-atom : (c : ℕ) → is_digit c ≡ true → is_atom_byte c ≡ true
digit-atom c digit = grind (arith, nat_tests)

pub digit-no_colon : (c : ℕ) → is_digit c ≡ true → other_than 58 c ≡ true
digit-no_colon c digit = grind (arith, nat_tests)

pub digit-no_slash : (c : ℕ) → is_digit c ≡ true → other_than 47 c ≡ true
digit-no_slash c digit = grind (arith, nat_tests)

pub digit-no_letter : (c : ℕ) → is_digit c ≡ true → is_letter c ≡ false
digit-no_letter c digit = grind (arith, nat_tests)
