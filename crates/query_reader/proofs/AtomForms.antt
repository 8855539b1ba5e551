-- The forms of the atoms that a print has.
use Rattle.std.proofs.Common.{◌≡◌, ℕ, ◌+◌, ◌%◌, ◌^◌, ◌<◌, ◌≤◌, ◌==◌, ◌&&◌, ◌||◌, not, true, false, cond, List, [], ◌∷◌, ◌++◌, length, get_or, Option, Some, None, is_some, refl, sym, ap, ◌∙◌, subst, arith, inl, inr, append_assoc, decimal}
use Rattle.std.proofs.lemmas.Bool.{and_parts}
use Rattle.std.proofs.Math.Bool.{and-false}
use Rattle.std.specs.Prelude.{nat_le}
use Rattle.std.specs.List.{list_all}
use Rattle.std.specs.Str.Parse.{digits_value}
use Rattle.std.proofs.lemmas.Bool.Decides.{nat_tests, leb_tells}
use Rattle.std.proofs.lemmas.List.Folds.{list_all-append}
use Rattle.std.proofs.lemmas.Fmt.{decimal_is_IsNumeral, decimal_by_steps, decimal_digit, decimal_nonempty, first_decimal, length-decimal-le}
use Rattle.uni_base.specs.Words.{is_digit, is_word_byte, is_word, starts_with_letter, is_name}
use Rattle.std.specs.Option.{option_and_then, option_map, option_or}
use Rattle.uni_base.specs.Numbers.{is_number, number_of, number_between, starts_with_zero}
use Rattle.uni_base.specs.Fields.{cut_at}
use Rattle.query_tree.specs.declared.query.Mark.TheVariants.{Hits, Weight}
use Rattle.query_tree.specs.declared.kind.TermKind.{TermKind}
use Rattle.query_tree.specs.declared.kind.TermKind.TheVariants as terms
use Rattle.query_tree.specs.Within.{IsTypeName, IsKeyText, MayBegin}
use Rattle.query_tree.specs.Text.{key_text, pair_text}
use Rattle.query_reader.specs.declared.token.TokenKind.{TokenKind}
use Rattle.query_reader.specs.declared.token.TokenKind.TheVariants as kinds
use Rattle.query_reader.specs.Atoms.{is_empty, before_star, starred_word, key_kind, pair_kind, colon_kind, slash_kind, atom_kind}
use Rattle.query_reader.specs.Tokens.{is_atom_byte}
use Rattle.query_reader.specs.Values.{hits_of, weight_over, weight_between, weight_of}
use Rattle.query_reader.specs.Reading.{key_of, both_words, pair_of, front_word, prefix_of}
use Rattle.query_reader.specs.Grammar.{atom_of}
use Rattle.query_reader.proofs.Bytes.{all-weaker, not-all, other_than, uncut, cut-first, word-atom, word-no_colon, word-no_star, digit-atom, digit-no_colon, digit-no_slash, digit-no_letter}

-- a text is an atom of a kind: its bytes are those of atoms, there is one, and it is in the kind's form
pub record IsAtom (format : ℕ) (bytes : List ℕ) (kind : TokenKind) : Type 0 where
  pub some : 0 < length bytes
  pub all : list_all is_atom_byte bytes ≡ true
  pub form : atom_kind format bytes ≡ Some kind

-- the bytes of a word
pub word-bytes : (text : List ℕ) → is_word text ≡ true → list_all is_word_byte text ≡ true
word-bytes text word =
    (and_parts (nat_le 1 (length text) && nat_le (length text) 32) (list_all is_word_byte text) word).1

pub word-some : (text : List ℕ) → is_word text ≡ true → 0 < length text
word-some [] word = absurd (cc)
word-some (c ∷ cs) word = omega arith

not-empty : (text : List ℕ) → 0 < length text → is_empty text ≡ false
not-empty [] some = absurd (omega arith)
not-empty (c ∷ cs) some = refl

name-is : (text : List ℕ) → IsTypeName text → is_name text ≡ true
name-is text name = ap (λ b. b && starts_with_letter text) name.0 ∙ name.1

-- a text with a byte that no word has is no name, and one with a byte that is no digit is no number
no_word : (front back : List ℕ) (c : ℕ) → is_word_byte c ≡ false → is_word (front ++ c ∷ back) ≡ false
no_word front back c other =
    ap (λ b. nat_le 1 (length (front ++ c ∷ back)) && nat_le (length (front ++ c ∷ back)) 32 && b) (not-all is_word_byte front back c other)
    ∙ and-false (nat_le 1 (length (front ++ c ∷ back)) && nat_le (length (front ++ c ∷ back)) 32)

no_name : (front back : List ℕ) (c : ℕ) → is_word_byte c ≡ false → is_name (front ++ c ∷ back) ≡ false
no_name front back c other = ap (λ b. b && starts_with_letter (front ++ c ∷ back)) (no_word front back c other)

no_number : (front back : List ℕ) (c : ℕ) → is_digit c ≡ false → is_number (front ++ c ∷ back) ≡ false
no_number front back c other =
    let text : List ℕ = front ++ c ∷ back in
    ap (λ b. (nat_le 1 (length text) && nat_le (length text) 20 && b) && (not (starts_with_zero text) || (length text == 1))) (not-all is_digit front back c other)
    ∙ ap (λ b. b && (not (starts_with_zero text) || (length text == 1))) (and-false (nat_le 1 (length text) && nat_le (length text) 20))

-- the kind of an atom that is neither
by_parts : (format : ℕ) (atom : List ℕ) (colon slash : Option (List ℕ × List ℕ)) → is_name atom ≡ false → is_number atom ≡ false
    → cut_at 58 atom ≡ colon → cut_at 47 atom ≡ slash → atom_kind format atom ≡ option_or (colon_kind format colon) (slash_kind slash)
by_parts format atom colon slash name number is_colon is_slash =
    ap (λ b. cond b (Some kinds.Name) (cond (is_number atom) (Some kinds.Number) (option_or (colon_kind format (cut_at 58 atom)) (slash_kind (cut_at 47 atom))))) name
    ∙ ap (λ b. cond b (Some kinds.Number) (option_or (colon_kind format (cut_at 58 atom)) (slash_kind (cut_at 47 atom)))) number
    ∙ ap (λ p. option_or (colon_kind format p) (slash_kind (cut_at 47 atom))) is_colon
    ∙ ap (λ p. option_or (colon_kind format colon) (slash_kind p)) is_slash

-- a name, a colon and a key
term-text : (kind : TermKind) (type_name key : List ℕ) → pair_text kind type_name key ≡ type_name ++ 58 ∷ key_text kind key
term-text kind type_name key = append_assoc type_name (58 ∷ []) (key_text kind key)

name-cut : (type_name rest : List ℕ) → is_word type_name ≡ true → cut_at 58 (type_name ++ 58 ∷ rest) ≡ Some (type_name, rest)
name-cut type_name rest word =
    cut-first 58 type_name rest (all-weaker is_word_byte (other_than 58) word-no_colon type_name (word-bytes type_name word)) refl

colon-all : (type_name rest : List ℕ) → is_word type_name ≡ true → list_all is_atom_byte rest ≡ true → list_all is_atom_byte (type_name ++ 58 ∷ rest) ≡ true
colon-all type_name rest word all =
    list_all-append is_atom_byte type_name (58 ∷ rest)
    ∙ ap (λ b. b && list_all is_atom_byte (58 ∷ rest)) (all-weaker is_word_byte is_atom_byte word-atom type_name (word-bytes type_name word))
    ∙ all

colon-some : (type_name rest : List ℕ) → 0 < length (type_name ++ 58 ∷ rest)
colon-some [] rest = omega arith
colon-some (c ∷ cs) rest = omega arith

colon-form : (format : ℕ) (type_name rest : List ℕ) (kind : TokenKind) → IsTypeName type_name → pair_kind format type_name rest ≡ Some kind
    → atom_kind format (type_name ++ 58 ∷ rest) ≡ Some kind
colon-form format type_name rest kind name is_kind =
    by_parts format (type_name ++ 58 ∷ rest) (Some (type_name, rest)) (cut_at 47 (type_name ++ 58 ∷ rest))
    (no_name type_name rest 58 refl) (no_number type_name rest 58 refl) (name-cut type_name rest name.0) refl
    ∙ ap (λ k. option_or k (slash_kind (cut_at 47 (type_name ++ 58 ∷ rest)))) is_kind

-- what follows a name and its colon
name-kind : (format : ℕ) (type_name rest : List ℕ) → IsTypeName type_name
    → pair_kind format type_name rest ≡ cond (is_empty rest) (Some kinds.Prefix) (key_kind format rest)
name-kind format type_name rest name =
    ap (λ b. cond b (cond (is_name rest) (Some kinds.Option) None) (cond (is_name type_name) (cond (is_empty rest) (Some kinds.Prefix) (key_kind format rest)) None)) (not-empty type_name (word-some type_name name.0))
    ∙ ap (λ b. cond b (cond (is_empty rest) (Some kinds.Prefix) (key_kind format rest)) None) (name-is type_name name)

-- the key of a prefix term
starred : (key : List ℕ) → IsKeyText key → starred_word (key ++ 42 ∷ []) ≡ Some key
starred key word =
    ap before_star (cut-first 42 key [] (all-weaker is_word_byte (other_than 42) word-no_star key (word-bytes key word)) refl)
    ∙ ap (λ b. cond (b && true) (Some key) None) word

starred-some : (key : List ℕ) → is_empty (key ++ 42 ∷ []) ≡ false
starred-some [] = refl
starred-some (c ∷ cs) = refl

key-kind : (format : ℕ) (kind : TermKind) (key : List ℕ) → IsKeyText key → MayBegin format kind
    → cond (is_empty (key_text kind key)) (Some kinds.Prefix) (key_kind format (key_text kind key)) ≡ Some (atom_of kind)
key-kind format terms.Whole key word begins =
    ap (λ b. cond b (Some kinds.Prefix) (key_kind format key)) (not-empty key (word-some key word))
    ∙ ap (λ b. cond b (Some kinds.Term) (cond ((format == 2) && is_some (starred_word key)) (Some kinds.Stem) None)) word
key-kind format terms.Prefix key word begins =
    ap (λ b. cond b (Some kinds.Prefix) (key_kind format (key ++ 42 ∷ []))) (starred-some key)
    ∙ ap (λ b. cond b (Some kinds.Term) (cond ((format == 2) && is_some (starred_word (key ++ 42 ∷ []))) (Some kinds.Stem) None)) (no_word key [] 42 refl)
    ∙ ap (λ (n : ℕ). cond ((n == 2) && is_some (starred_word (key ++ 42 ∷ []))) (Some kinds.Stem) None) begins
    ∙ ap (λ (w : Option (List ℕ)). cond (is_some w) (Some kinds.Stem) None) (starred key word)

key-all : (kind : TermKind) (key : List ℕ) → IsKeyText key → list_all is_atom_byte (key_text kind key) ≡ true
key-all terms.Whole key word = all-weaker is_word_byte is_atom_byte word-atom key (word-bytes key word)
key-all terms.Prefix key word =
    list_all-append is_atom_byte key (42 ∷ [])
    ∙ ap (λ b. b && true) (all-weaker is_word_byte is_atom_byte word-atom key (word-bytes key word))

key-read : (kind : TermKind) (key : List ℕ) → IsKeyText key → key_of kind (key_text kind key) ≡ Some key
key-read terms.Whole key word = ap (λ b. cond b (Some key) None) word
key-read terms.Prefix key word = starred key word

pub term-atom : (format : ℕ) (kind : TermKind) (type_name key : List ℕ) → IsTypeName type_name → IsKeyText key → MayBegin format kind
    → IsAtom format (pair_text kind type_name key) (atom_of kind)
term-atom format kind type_name key name word begins =
    subst (λ text. IsAtom format text (atom_of kind)) (sym (term-text kind type_name key)) (record {
      some = colon-some type_name (key_text kind key);
      all = colon-all type_name (key_text kind key) name.0 (key-all kind key word);
      form =
          colon-form format type_name (key_text kind key) (atom_of kind) name
          (name-kind format type_name (key_text kind key) name ∙ key-kind format kind key word begins);
    })

pub term-pair : (kind : TermKind) (type_name key : List ℕ) → IsTypeName type_name → IsKeyText key
    → pair_of kind (pair_text kind type_name key) ≡ Some (type_name, key)
term-pair kind type_name key name word =
    ap (pair_of kind) (term-text kind type_name key)
    ∙ ap (both_words kind) (name-cut type_name (key_text kind key) name.0)
    ∙ ap (λ b. cond b (option_map (λ (w : List ℕ). (type_name, w)) (key_of kind (key_text kind key))) None) name.0
    ∙ ap (λ (k : Option (List ℕ)). option_map (λ (w : List ℕ). (type_name, w)) k) (key-read kind key word)

-- a name and a colon
pub prefix-atom : (format : ℕ) (type_name : List ℕ) → IsTypeName type_name → IsAtom format (type_name ++ 58 ∷ []) kinds.Prefix
prefix-atom format type_name name = record {
  some = colon-some type_name [];
  all = colon-all type_name [] name.0 refl;
  form = colon-form format type_name [] kinds.Prefix name (name-kind format type_name [] name);
}

pub prefix-name : (type_name : List ℕ) → IsTypeName type_name → prefix_of (type_name ++ 58 ∷ []) ≡ Some type_name
prefix-name type_name name =
    ap front_word (name-cut type_name [] name.0) ∙ ap (λ b. cond b (Some type_name) None) name.0

-- the digits of a number
one-digit : (n : ℕ) → n < 10 → is_digit (48 + n) ≡ true
one-digit n small = grind (arith, nat_tests)

pub decimal-digits : (n : ℕ) → n < 2 ^ 64 → list_all is_digit (decimal n) ≡ true
decimal-digits n small =
    decimal_by_steps (λ m ds. list_all is_digit ds ≡ true)
    (λ m below. ap (λ b. b && true) (one-digit m below))
    (λ m ds above all.
    list_all-append is_digit ds ((48 + m % 10) ∷ [])
    ∙ ap (λ b. b && (is_digit (48 + m % 10) && true)) all
    ∙ ap (λ b. b && true) (one-digit (m % 10) (omega arith)))
    n small

no_zero : (text : List ℕ) → 48 < get_or text 0 0 → starts_with_zero text ≡ false
no_zero [] above = absurd (omega arith)
no_zero (c ∷ cs) above = grind (arith, nat_tests)

-- a number has no leading zero
first-digit : (n : ℕ) → n < 2 ^ 64 → (not (starts_with_zero (decimal n)) || (length (decimal n) == 1)) ≡ true
first-digit n small =
    elim (leb_tells 1 n) [
      | inl some ↦ ap (λ b. not b || (length (decimal n) == 1)) (no_zero (decimal n) (first_decimal n (omega (arith, some.1)) small))
      | inr none ↦
          let zero_is : 0 ≡ n = omega (arith, none.1) in
          subst (λ m. (not (starts_with_zero (decimal m)) || (length (decimal m) == 1)) ≡ true) zero_is
          (rw (decimal_digit 0 (omega arith)) refl)
    ]

at_least : (least n : ℕ) → least ≤ n → nat_le least n ≡ true
at_least least n h = grind (arith, nat_tests)

pub decimal-number : (n : ℕ) → n ≤ 1000000 → is_number (decimal n) ≡ true
decimal-number n small =
    let below : n < 2 ^ 64 = omega arith in
    let long : 1 ≤ length (decimal n) = omega (arith, decimal_nonempty n below) in
    let short : length (decimal n) ≤ 20 = omega (arith, length-decimal-le 7 n (omega arith) (omega arith) below) in
    ap (λ b. b && nat_le (length (decimal n)) 20 && list_all is_digit (decimal n) && (not (starts_with_zero (decimal n)) || (length (decimal n) == 1))) (at_least 1 (length (decimal n)) long)
    ∙ ap (λ b. b && list_all is_digit (decimal n) && (not (starts_with_zero (decimal n)) || (length (decimal n) == 1))) (at_least (length (decimal n)) 20 short)
    ∙ ap (λ b. b && (not (starts_with_zero (decimal n)) || (length (decimal n) == 1))) (decimal-digits n below)
    ∙ first-digit n below

pub decimal-value : (n : ℕ) → n ≤ 1000000 → number_of (decimal n) ≡ Some n
decimal-value n small =
    ap (λ b. cond b (Some (digits_value 10 (decimal n))) None) (decimal-number n small)
    ∙ ap Some (decimal_is_IsNumeral n (omega arith)).1

pub decimal-within : (least most n : ℕ) → n ≤ 1000000 → least ≤ n → n ≤ most → number_between least most (decimal n) ≡ Some n
decimal-within least most n small above below =
    ap (λ (o : Option ℕ). option_and_then (λ (m : ℕ). cond (nat_le least m && nat_le m most) (Some m) None) o) (decimal-value n small)
    ∙ ap (λ b. cond (b && nat_le n most) (Some n) None) (at_least least n above)
    ∙ ap (λ b. cond b (Some n) None) (at_least n most below)

digits-no_name : (text : List ℕ) → list_all is_digit text ≡ true → is_name text ≡ false
digits-no_name [] all = refl
digits-no_name (c ∷ cs) all =
    ap (λ b. is_word (c ∷ cs) && b) (digit-no_letter c (and_parts (is_digit c) (list_all is_digit cs) all).0)
    ∙ and-false (is_word (c ∷ cs))

pub number-atom : (format n : ℕ) → n ≤ 1000000 → IsAtom format (decimal n) kinds.Number
number-atom format n small =
    let below : n < 2 ^ 64 = omega arith in
    record {
      some = decimal_nonempty n below;
      all = all-weaker is_digit is_atom_byte digit-atom (decimal n) (decimal-digits n below);
      form =
          ap (λ b. cond b (Some kinds.Name) (cond (is_number (decimal n)) (Some kinds.Number) (option_or (colon_kind format (cut_at 58 (decimal n))) (slash_kind (cut_at 47 (decimal n))))))
          (digits-no_name (decimal n) (decimal-digits n below))
          ∙ ap (λ b. cond b (Some kinds.Number) (option_or (colon_kind format (cut_at 58 (decimal n))) (slash_kind (cut_at 47 (decimal n))))) (decimal-number n small);
    }

-- two numbers and a slash
slash-cut : (n : ℕ) (rest : List ℕ) → n ≤ 1000000 → cut_at 47 (decimal n ++ 47 ∷ rest) ≡ Some (decimal n, rest)
slash-cut n rest small =
    cut-first 47 (decimal n) rest (all-weaker is_digit (other_than 47) digit-no_slash (decimal n) (decimal-digits n (omega arith))) refl

fraction-no_colon : (n d : ℕ) → n ≤ 1000000 → d ≤ 1000000 → cut_at 58 (decimal n ++ 47 ∷ decimal d) ≡ None
fraction-no_colon n d small small_too =
    uncut 58 (decimal n ++ 47 ∷ decimal d)
    (list_all-append (other_than 58) (decimal n) (47 ∷ decimal d)
    ∙ ap (λ b. b && list_all (other_than 58) (47 ∷ decimal d)) (all-weaker is_digit (other_than 58) digit-no_colon (decimal n) (decimal-digits n (omega arith)))
    ∙ all-weaker is_digit (other_than 58) digit-no_colon (decimal d) (decimal-digits d (omega arith)))

pub fraction-atom : (format n d : ℕ) → n ≤ 1000000 → d ≤ 1000000 → IsAtom format (decimal n ++ 47 ∷ decimal d) kinds.Fraction
fraction-atom format n d small small_too = record {
  some = slash-some (decimal n) (decimal d);
  all =
      list_all-append is_atom_byte (decimal n) (47 ∷ decimal d)
      ∙ ap (λ b. b && list_all is_atom_byte (47 ∷ decimal d)) (all-weaker is_digit is_atom_byte digit-atom (decimal n) (decimal-digits n (omega arith)))
      ∙ all-weaker is_digit is_atom_byte digit-atom (decimal d) (decimal-digits d (omega arith));
  form =
      by_parts format (decimal n ++ 47 ∷ decimal d) None (Some (decimal n, decimal d))
      (no_name (decimal n) (decimal d) 47 refl) (no_number (decimal n) (decimal d) 47 refl)
      (fraction-no_colon n d small small_too) (slash-cut n (decimal d) small)
      ∙ ap (λ b. cond (b && is_number (decimal d)) (Some kinds.Fraction) None) (decimal-number n small)
      ∙ ap (λ b. cond b (Some kinds.Fraction) None) (decimal-number d small_too);
}
  where
    slash-some : (front rest : List ℕ) → 0 < length (front ++ 47 ∷ rest)
    slash-some [] rest = omega arith
    slash-some (c ∷ cs) rest = omega arith

pub fraction-weight : (n d : ℕ) → 1 ≤ n → n ≤ d → d ≤ 1000 → weight_of (decimal n ++ 47 ∷ decimal d) ≡ Some (Weight n d)
fraction-weight n d some under small =
    ap weight_between (slash-cut n (decimal d) (omega arith))
    ∙ ap (λ (o : Option ℕ). option_and_then (weight_over (decimal n)) o) (decimal-within 1 1000 d (omega arith) (omega arith) small)
    ∙ ap (λ (o : Option ℕ). option_map (λ (m : ℕ). Weight m d) o) (decimal-within 1 d n (omega arith) some under)

pub hits-value : (n : ℕ) → n ≤ 1000000 → hits_of (decimal n) ≡ Some (Hits n)
hits-value n small = ap (λ (o : Option ℕ). option_map Hits o) (decimal-within 0 1000000 n small (omega arith) small)
