-- Lines and their bytes.
use Rattle.std.proofs.Common.{◌≡◌, ℕ, zero, suc, ◌+◌, ◌/◌, ◌%◌, ◌<◌, ◌==◌, ◌||◌, ◌&&◌, nat_le, Bool, true, false, if◌then◌else◌, List, [], ◌∷◌, ◌++◌, length, refl, ap, sym, ◌∙◌, arith, append_assoc}
use Rattle.std.proofs.lemmas.Bool.{and_parts, or_parts}
use Rattle.std.proofs.lemmas.Bool.Decides.{nat_tests}
use Rattle.std.proofs.lemmas.List.Folds.{list_any-append}
use Rattle.std.specs.Fmt.{decimal, digits, digits_onto, digit_glyph}
use Rattle.std.specs.List.{list_all, list_any}
use Rattle.uni_base.specs.Fields.{spaced}
use Rattle.uni_base.specs.Lines.{lines_of, lined, has_lf, AreUnbroken, LinesAreRead}
use Rattle.uni_base.specs.Words.{is_digit, is_word_byte, is_word, starts_with_letter, is_name}

-- a line that its LF ends
pub lines_of-line : (line rest : List ℕ) → has_lf line ≡ false → lines_of (line ++ 10 ∷ rest) ≡ line ∷ lines_of rest
lines_of-line [] rest unbroken = refl
lines_of-line (b ∷ line) rest unbroken =
    let parts = or_parts (b == 10) (has_lf line) unbroken in
    rw (parts.0, lines_of-line line rest parts.1) refl

again : (lines : List (List ℕ)) → AreUnbroken lines → lines_of (lined lines) ≡ lines
again [] unbroken = refl
again (line ∷ lines) unbroken =
    let parts = or_parts (has_lf line) (list_any has_lf lines) unbroken in
    lines_of-line line (lined lines) parts.0 ∙ ap (λ rest. line ∷ rest) (again lines parts.1)

pub lines_are_read : LinesAreRead
lines_are_read = record { again = again }

pub lined-append : (xs ys : List (List ℕ)) → lined (xs ++ ys) ≡ lined xs ++ lined ys
lined-append [] ys = refl
lined-append (x ∷ xs) ys = ap (λ rest. x ++ 10 ∷ rest) (lined-append xs ys) ∙ sym (append_assoc x (10 ∷ lined xs) (lined ys))

-- a test that no element of two lists passes
pub none_joined : {X : Type 0} (test : X → Bool) (xs ys : List X) → list_any test xs ≡ false → list_any test ys ≡ false → list_any test (xs ++ ys) ≡ false
none_joined test xs ys a b = list_any-append test xs ys ∙ ap (λ t. t || list_any test ys) a ∙ b

-- a test that no element passes, as each passes another one
pub none_passes : {X : Type 0} (test other : X → Bool) → ((x : X) → test x ≡ true → other x ≡ false) → (xs : List X) → list_all test xs ≡ true → list_any other xs ≡ false
none_passes test other so [] all = refl
none_passes test other so (x ∷ xs) all =
    let parts = and_parts (test x) (list_all test xs) all in
    rw (so x parts.0) (none_passes test other so xs parts.1)

-- words, names and the texts of numbers hold no LF
word_byte-unbroken : (c : ℕ) → is_word_byte c ≡ true → (c == 10) ≡ false
word_byte-unbroken c word = grind (arith, nat_tests)

pub unbroken-word : (text : List ℕ) → is_word text ≡ true → has_lf text ≡ false
unbroken-word text word =
    none_passes is_word_byte (λ c. c == 10) word_byte-unbroken text
    (and_parts (nat_le 1 (length text) && nat_le (length text) 32) (list_all is_word_byte text) word).1

pub unbroken-name : (name : List ℕ) → is_name name ≡ true → has_lf name ≡ false
unbroken-name name named = unbroken-word name (and_parts (is_word name) (starts_with_letter name) named).0

digit-unbroken : (c : ℕ) → is_digit c ≡ true → (c == 10) ≡ false
digit-unbroken c digit = grind (arith, nat_tests)

glyph-digit : (d : ℕ) → d < 10 → is_digit (digit_glyph false d) ≡ true
glyph-digit d small = grind (arith, nat_tests)

all_digits-onto : (k n : ℕ) (acc : List ℕ) → list_all is_digit acc ≡ true → list_all is_digit (digits_onto k 10 false n acc) ≡ true
all_digits-onto zero n acc all = all
all_digits-onto (suc k) n acc all =
    let here : is_digit (digit_glyph false (n % 10)) ≡ true = glyph-digit (n % 10) (omega arith) in
    let more : list_all is_digit (digit_glyph false (n % 10) ∷ acc) ≡ true = ap (λ b. b && list_all is_digit acc) here ∙ all in
    elim (n / 10 == 0) as (λ b. list_all is_digit (if b then digit_glyph false (n % 10) ∷ acc else digits_onto k 10 false (n / 10) (digit_glyph false (n % 10) ∷ acc)) ≡ true) [
      | true ↦ more
      | false ↦ all_digits-onto k (n / 10) (digit_glyph false (n % 10) ∷ acc) more
    ]

pub all_digits-decimal : (n : ℕ) → list_all is_digit (decimal n) ≡ true
unfolding digits
all_digits-decimal n = all_digits-onto 64 n [] refl

pub unbroken-decimal : (n : ℕ) → has_lf (decimal n) ≡ false
unbroken-decimal n = none_passes is_digit (λ c. c == 10) digit-unbroken (decimal n) (all_digits-decimal n)

-- and so does the line of fields of which none does
pub unbroken-spaced : (fields : List (List ℕ)) → AreUnbroken fields → has_lf (spaced fields) ≡ false
unbroken-spaced [] unbroken = refl
unbroken-spaced (field ∷ []) unbroken = (or_parts (has_lf field) false unbroken).0
unbroken-spaced (field ∷ more ∷ fields) unbroken =
    let parts = or_parts (has_lf field) (list_any has_lf (more ∷ fields)) unbroken in
    none_joined (λ b. b == 10) field (32 ∷ spaced (more ∷ fields)) parts.0 (unbroken-spaced (more ∷ fields) parts.1)
