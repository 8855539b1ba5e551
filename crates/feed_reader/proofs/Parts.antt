-- The parts of a line: texts and what they write, both ways.
use Rattle.std.proofs.Common.{◌≡◌, ℕ, ◌≤◌, ◌<◌, ◌^◌, ◌==◌, ◌&&◌, not, nat_le, Bool, true, false, if◌then◌else◌, List, [], ◌∷◌, ◌++◌, length, Option, None, Some, refl, ap, sym, subst, ◌∙◌, codes, arith}
use Rattle.std.specs.Cmp.Derive.{both_true}
use Rattle.std.specs.Cmp.Lexicographic.{same_text}
use Rattle.std.specs.Fmt.{decimal}
use Rattle.std.specs.List.{list_all}
use Rattle.std.specs.Option.{option_map, option_and_then}
use Rattle.std.proofs.lemmas.Bool.{and_parts, leb-true}
use Rattle.std.proofs.lemmas.Bool.Decides.{nat_tests}
use Rattle.std.proofs.lemmas.Option.{some_pair_parts}
use Rattle.std.proofs.lemmas.List.Folds.{list_all-append}
use Rattle.uni_base.specs.Fields.{same, cut_at}
use Rattle.uni_base.specs.Numbers.{number_between}
use Rattle.uni_base.specs.Words.{is_word, is_word_byte, is_digit, starts_with_letter, is_name}
use Rattle.uni_schema.specs.Lines.{name_of}
use Rattle.feed_reader.specs.FeedText.{WrittenAudience, public_audience, only_audience, circle_audience, audience_text, until_fields, is_audience, is_until, is_between}
use Rattle.feed_reader.specs.Reading.{word_of, circle_parts, circle_of, audience_in, until_in}
use Rattle.feed_reader.proofs.Numerals.{between_read, between_given, decimal_digits}

-- a name that was read is the text, and so is a word
pub name_read : (text name : List ℕ) → name_of text ≡ Some name → (text ≡ name) × (is_name name ≡ true)
name_read text name e = by (is_name text) refl e
  where
    by : (test : Bool) → is_name text ≡ test → (if test then Some text else None) ≡ Some name → (text ≡ name) × (is_name name ≡ true)
    by true is e = let one : text ≡ name = cc in (one, subst (λ t. is_name t ≡ true) one is)
    by false is e = cc

pub word_read : (text word : List ℕ) → word_of text ≡ Some word → (text ≡ word) × (is_word word ≡ true)
word_read text word e = by (is_word text) refl e
  where
    by : (test : Bool) → is_word text ≡ test → (if test then Some text else None) ≡ Some word → (text ≡ word) × (is_word word ≡ true)
    by true is e = let one : text ≡ word = cc in (one, subst (λ t. is_word t ≡ true) one is)
    by false is e = cc

pub name_given : (name : List ℕ) → is_name name ≡ true → name_of name ≡ Some name
name_given name named = ap (λ b. if b then Some name else None) named

pub word_given : (word : List ℕ) → is_word word ≡ true → word_of word ≡ Some word
word_given word is = ap (λ b. if b then Some word else None) is

-- what holds of each byte by one test holds by a weaker one
all_weaker : (p q : ℕ → Bool) → ((c : ℕ) → p c ≡ true → q c ≡ true) → (text : List ℕ) → list_all p text ≡ true → list_all q text ≡ true
all_weaker p q weaker [] h = refl
all_weaker p q weaker (c ∷ text) h =
    let parts = and_parts (p c) (list_all p text) h in
    both_true (weaker c parts.0) (all_weaker p q weaker text parts.1)

-- whether a byte is no separator
abbrev pub is_other : ℕ → ℕ → Bool
is_other separator c = not (c == separator)

word_no_space : (c : ℕ) → is_word_byte c ≡ true → is_other 32 c ≡ true
word_no_space c h = grind (arith, nat_tests)

word_no_colon : (c : ℕ) → is_word_byte c ≡ true → is_other 58 c ≡ true
word_no_colon c h = grind (arith, nat_tests)

digit_no_space : (c : ℕ) → is_digit c ≡ true → is_other 32 c ≡ true
digit_no_space c h = grind (arith, nat_tests)

pub digits_solid : (text : List ℕ) → list_all is_digit text ≡ true → list_all (is_other 32) text ≡ true
digits_solid text digits = all_weaker is_digit (is_other 32) digit_no_space text digits

-- the bytes of a word are those of words
pub word_bytes : (word : List ℕ) → is_word word ≡ true → list_all is_word_byte word ≡ true
word_bytes word is = (and_parts (nat_le 1 (length word) && nat_le (length word) 32) (list_all is_word_byte word) is).1

name_bytes : (name : List ℕ) → is_name name ≡ true → list_all is_word_byte name ≡ true
name_bytes name named = word_bytes name (and_parts (is_word name) (starts_with_letter name) named).0

-- words, names and numbers hold no space
pub word_solid : (word : List ℕ) → is_word word ≡ true → list_all (is_other 32) word ≡ true
word_solid word is = all_weaker is_word_byte (is_other 32) word_no_space word (word_bytes word is)

pub name_solid : (name : List ℕ) → is_name name ≡ true → list_all (is_other 32) name ≡ true
name_solid name named = all_weaker is_word_byte (is_other 32) word_no_space name (name_bytes name named)

-- nor does a name hold a colon
pub name_no_colon : (name : List ℕ) → is_name name ≡ true → list_all (is_other 58) name ≡ true
name_no_colon name named = all_weaker is_word_byte (is_other 58) word_no_colon name (name_bytes name named)

pub number_solid : (low high n : ℕ) → high < 2 ^ 64 → is_between low high n ≡ true → list_all (is_other 32) (decimal n) ≡ true
number_solid low high n small within =
    let under : n ≤ high = leb-true n high (and_parts (nat_le low n) (nat_le n high) within).1 in
    all_weaker is_digit (is_other 32) digit_no_space (decimal n) (decimal_digits n (omega arith))

-- a text that is cut is its parts with the separator between
pub cut_joined : (separator : ℕ) (text front rest : List ℕ) → cut_at separator text ≡ Some (front, rest) → text ≡ front ++ separator ∷ rest
cut_joined separator [] front rest e = cc
cut_joined separator (c ∷ cs) front rest e = by (c == separator) (cut_at separator cs) refl (cut_joined separator cs) e
  where
    by : (test : Bool) (cut : Option (List ℕ × List ℕ)) → (c == separator) ≡ test → ((x y : List ℕ) → cut ≡ Some (x, y) → cs ≡ x ++ separator ∷ y)
        → if◌then◌else◌ {A = Option (List ℕ × List ℕ)} test (Some ([], cs)) (option_map (λ p. (c ∷ p.0, p.1)) cut) ≡ Some (front, rest) → (c ∷ cs) ≡ front ++ separator ∷ rest
    by true cut at joined e =
        let one : c ≡ separator = grind (arith, nat_tests) in
        let parts = some_pair_parts [] front cs rest e in
        ap (λ x. x ∷ cs) one ∙ ap (λ r. separator ∷ r) parts.1 ∙ ap (λ f. f ++ separator ∷ rest) parts.0
    by false None at joined e = cc
    by false (Some p) at joined e =
        let parts = some_pair_parts (c ∷ p.0) front p.1 rest e in
        ap (λ t. c ∷ t) (joined p.0 p.1 refl) ∙ ap (λ r. (c ∷ p.0) ++ separator ∷ r) parts.1 ∙ ap (λ f. f ++ separator ∷ rest) parts.0

equal_self : (c : ℕ) → (c == c) ≡ true
equal_self c = grind (arith, nat_tests)

untrue : (b : Bool) → not b ≡ true → b ≡ false
untrue true e = cc
untrue false e = refl

-- and it is cut there, where the front has none
pub cut_given : (separator : ℕ) (front rest : List ℕ) → list_all (is_other separator) front ≡ true → cut_at separator (front ++ separator ∷ rest) ≡ Some (front, rest)
cut_given separator [] rest clear = ap (λ b. if◌then◌else◌ {A = Option (List ℕ × List ℕ)} b (Some ([], rest)) (option_map (λ p. (separator ∷ p.0, p.1)) (cut_at separator rest))) (equal_self separator)
cut_given separator (c ∷ front) rest clear =
    let parts = and_parts (is_other separator c) (list_all (is_other separator) front) clear in
    ap (λ b. if◌then◌else◌ {A = Option (List ℕ × List ℕ)} b (Some ([], front ++ separator ∷ rest)) (option_map (λ p. (c ∷ p.0, p.1)) (cut_at separator (front ++ separator ∷ rest)))) (untrue (c == separator) parts.0)
    ∙ ap (option_map (λ p. (c ∷ p.0, p.1))) (cut_given separator front rest parts.1)

-- an audience that was read is the text's
pub audience_read : (text : List ℕ) (audience : WrittenAudience) → audience_in text ≡ Some audience → (text ≡ audience_text audience) × (is_audience audience ≡ true)
audience_read text audience e = by (same text (codes "public")) (same text (codes "only")) (circle_parts text) refl refl refl e
  where
    circle : (name key : List ℕ) (n k : Option (List ℕ)) → name_of name ≡ n → word_of key ≡ k → text ≡ codes "in:" ++ (name ++ 58 ∷ key)
        → option_and_then (λ type_name. option_map (λ key. circle_audience type_name key) k) n ≡ Some audience → (text ≡ audience_text audience) × (is_audience audience ≡ true)
    circle name key None k is-n is-k is e = cc
    circle name key (Some n) None is-n is-k is e = cc
    circle name key (Some n) (Some k) is-n is-k is e =
        let one : circle_audience n k ≡ audience = cc in
        let named = name_read name n is-n in
        let word = word_read key k is-k in
        subst (λ a. (text ≡ audience_text a) × (is_audience a ≡ true)) one
        (is ∙ ap (λ x. codes "in:" ++ (x ++ 58 ∷ key)) named.0 ∙ ap (λ x. codes "in:" ++ (n ++ 58 ∷ x)) word.0, both_true named.1 word.1)

    inside : (front rest name key : List ℕ) (test : Bool) → cut_at 58 text ≡ Some (front, rest) → same front (codes "in") ≡ test
        → (if test then cut_at 58 rest else None) ≡ Some (name, key) → text ≡ codes "in:" ++ (name ++ 58 ∷ key)
    inside front rest name key true cut is e =
        cut_joined 58 text front rest cut
        ∙ ap (λ f. f ++ 58 ∷ rest) (same_text front (codes "in") (sym is))
        ∙ ap (λ r. codes "in:" ++ r) (cut_joined 58 rest name key e)
    inside front rest name key false cut is e = cc

    parts_of : (name key : List ℕ) (cut : Option (List ℕ × List ℕ)) → cut_at 58 text ≡ cut
        → option_and_then (λ parts. if same parts.0 (codes "in") then cut_at 58 parts.1 else None) cut ≡ Some (name, key) → text ≡ codes "in:" ++ (name ++ 58 ∷ key)
    parts_of name key None is e = cc
    parts_of name key (Some p) is e = inside p.0 p.1 name key (same p.0 (codes "in")) is refl e

    by : (public only : Bool) (parts : Option (List ℕ × List ℕ)) → same text (codes "public") ≡ public → same text (codes "only") ≡ only → circle_parts text ≡ parts
        → (if public then Some public_audience else (if only then Some only_audience else option_and_then circle_of parts)) ≡ Some audience
        → (text ≡ audience_text audience) × (is_audience audience ≡ true)
    by true only parts is-p is-o is-c e =
        let one : public_audience ≡ audience = cc in
        subst (λ a. (text ≡ audience_text a) × (is_audience a ≡ true)) one (same_text text (codes "public") (sym is-p), refl)
    by false true parts is-p is-o is-c e =
        let one : only_audience ≡ audience = cc in
        subst (λ a. (text ≡ audience_text a) × (is_audience a ≡ true)) one (same_text text (codes "only") (sym is-o), refl)
    by false false None is-p is-o is-c e = cc
    by false false (Some p) is-p is-o is-c e =
        circle p.0 p.1 (name_of p.0) (word_of p.1) refl refl (parts_of p.0 p.1 (cut_at 58 text) refl is-c) e

-- an audience that may be written is read of its text
pub audience_given : (audience : WrittenAudience) → is_audience audience ≡ true → audience_in (audience_text audience) ≡ Some audience
audience_given public_audience is = refl
audience_given only_audience is = refl
audience_given (circle_audience type_name key) is =
    let parts = and_parts (is_name type_name) (is_word key) is in
    let clear = name_no_colon type_name parts.0 in
    ap (option_and_then circle_of) (cut_given 58 type_name key clear)
    ∙ ap (option_and_then (λ name. option_map (λ k. circle_audience name k) (word_of key))) (name_given type_name parts.0)
    ∙ ap (option_map (λ k. circle_audience type_name k)) (word_given key parts.1)

pub audience_solid : (audience : WrittenAudience) → is_audience audience ≡ true → list_all (is_other 32) (audience_text audience) ≡ true
audience_solid public_audience is = refl
audience_solid only_audience is = refl
audience_solid (circle_audience type_name key) is =
    let parts = and_parts (is_name type_name) (is_word key) is in
    list_all-append (is_other 32) type_name (58 ∷ key)
    ∙ both_true (name_solid type_name parts.0) (word_solid key parts.1)

-- the end of an edge that was read is what the fields write
pub until_read : (format : ℕ) (fields : List (List ℕ)) (until : Option ℕ) → until_in format fields ≡ Some until → (fields ≡ until_fields until) × (is_until format until ≡ true)
until_read format [] until e =
    let one : None ≡ until = cc in
    subst (λ u. ([] ≡ until_fields u) × (is_until format u ≡ true)) one (refl, refl)
until_read format (word ∷ []) until e = cc
until_read format (word ∷ number ∷ []) until e = by (format == 2) (same word (codes "until")) (number_between 1 1048576 number) refl refl refl e
  where
    by : (second is_until_word : Bool) (n : Option ℕ) → (format == 2) ≡ second → same word (codes "until") ≡ is_until_word → number_between 1 1048576 number ≡ n
        → (if second && is_until_word then option_map Some n else None) ≡ Some until → ((word ∷ number ∷ []) ≡ until_fields until) × (is_until format until ≡ true)
    by false w n is-f is-w is-n e = cc
    by true false n is-f is-w is-n e = cc
    by true true None is-f is-w is-n e = cc
    by true true (Some n) is-f is-w is-n e =
        let one : Some n ≡ until = cc in
        let read = between_read 1 1048576 number n (omega arith) is-n in
        subst (λ u. ((word ∷ number ∷ []) ≡ until_fields u) × (is_until format u ≡ true)) one
        (ap (λ w. w ∷ number ∷ []) (same_text word (codes "until") (sym is-w)) ∙ ap (λ x. codes "until" ∷ x ∷ []) read.0, both_true is-f read.1)
until_read format (word ∷ number ∷ more ∷ fields) until e = cc

pub until_given : (format : ℕ) (until : Option ℕ) → is_until format until ≡ true → until_in format (until_fields until) ≡ Some until
until_given format None is = refl
until_given format (Some until) is =
    let parts = and_parts (format == 2) (is_between 1 1048576 until) is in
    ap (λ b. if b && true then option_map Some (number_between 1 1048576 (decimal until)) else None) parts.0
    ∙ ap (option_map Some) (between_given 1 1048576 until (omega arith) parts.1)

pub until_solid : (format : ℕ) (until : Option ℕ) → is_until format until ≡ true → list_all (list_all (is_other 32)) (until_fields until) ≡ true
until_solid format None is = refl
until_solid format (Some until) is =
    let parts = and_parts (format == 2) (is_between 1 1048576 until) is in
    ap (λ b. b && true) (number_solid 1 1048576 until (omega arith) parts.1)
