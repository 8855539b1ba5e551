-- What a text spells is within the limits.
use Rattle.std.proofs.Common.{◌≡◌, ℕ, ◌+◌, ◌-◌, ◌≤◌, ◌==◌, ◌&&◌, max, Bool, true, false, cond, List, [], ◌∷◌, ◌++◌, map, length, take, drop, Option, None, Some, is_some, Result, Ok, Err, refl, sym, ap, ◌∙◌, subst, arith, inl, inr, drop-drop, leb-true}
use Rattle.std.proofs.lemmas.Bool.{and_parts}
use Rattle.std.specs.Prelude.{nat_le, unwrap_or, slice_range, IfOk}
use Rattle.std.proofs.lemmas.Bool.Decides.{nat_tests}
use Rattle.std.proofs.Math.Seq.{drop-append_seam, take-append_seam}
use Rattle.query_tree.specs.declared.dialect.Dialect.{Dialect}
use Rattle.query_tree.specs.declared.kind.TermKind.{TermKind}
use Rattle.query_tree.specs.declared.kind.TermKind.TheVariants as terms
use Rattle.uni_base.specs.Words.{is_word, starts_with_letter, is_name}
use Rattle.std.specs.Option.{option_and_then, option_map, option_or}
use Rattle.uni_base.specs.Numbers.{is_number, number_of, number_between}
use Rattle.uni_base.specs.Fields.{cut_at}
use Rattle.query_tree.specs.declared.kind.ListKind.{ListKind}
use Rattle.query_tree.specs.Marks.{IsMarkValue}
use Rattle.query_tree.specs.declared.query.Mark.{Mark}
use Rattle.query_tree.specs.declared.query.Mark.TheVariants.{Plain, Hits, Weight}
use Rattle.query_tree.specs.declared.query.Query.{Query}
use Rattle.query_tree.specs.declared.refusal.QueryRefusal.{QueryRefusal}
use Rattle.query_tree.specs.Tree.{tree_of, Tree, Forest, term_at, list_at, join_at, no_operands, with_operand}
use Rattle.query_tree.specs.Size.{mark_depth, tree_depth, operand_depth}
use Rattle.query_tree.specs.Within.{IsTypeName, IsKeyText, MayBegin, IsJoinLimit, limit_unless_given, IsAllowed, AreAllowed, IsWithin}
use Rattle.query_reader.specs.declared.token.Token.{Token}
use Rattle.query_reader.specs.declared.token.TokenKind.{TokenKind}
use Rattle.query_reader.specs.declared.token.TokenKind.TheVariants as kinds
use Rattle.query_reader.specs.Atoms.{is_empty, before_star, starred_word, colon_kind, slash_kind}
use Rattle.query_reader.specs.Tokens.{kind_of}
use Rattle.query_reader.specs.Spans.{IsToken, a_left, a_right, an_atom, AreSpaces, HasTokens}
use Rattle.query_reader.specs.Values.{weight_over, weight_between}
use Rattle.query_reader.specs.Reading.{Lexeme, key_of, both_words, front_word, lexeme_of, text_read}
use Rattle.query_reader.specs.Seen.{IsAnswer}
use Rattle.query_reader.specs.Depth.{open_after, most_open}
use Rattle.query_reader.specs.Grammar.{atom_of, LimitSpells, MarkSpells, OptionsSpell, NodeSpells, ForestSpells, QuerySpells, IsTerm, IsPrefix}
use Rattle.query_reader.specs.TextLaws.{SpelledIsWithin}
use Rattle.query_reader.proofs.TextSound.{text_sound}
use Rattle.query_reader.proofs.Balance.{opened, most-first, most-append, balanced-node}
use Rattle.query_reader.proofs.Segments.{kind-is, parts}

-- each token has the kind of its bytes
abbrev pub AreFormed : ℕ → List Lexeme → Type 0
AreFormed format [] = Unit {0}
AreFormed format (token ∷ others) = (kind_of format token.bytes ≡ Some token.kind) × AreFormed format others

formed-front : (format : ℕ) (front back : List Lexeme) → AreFormed format (front ++ back) → AreFormed format front
formed-front format [] back formed = tt
formed-front format (token ∷ front) back formed = (formed.0, formed-front format front back formed.1)

formed-back : (format : ℕ) (front back : List Lexeme) → AreFormed format (front ++ back) → AreFormed format back
formed-back format [] back formed = formed
formed-back format (token ∷ front) back formed = formed-back format front back formed.1

formed : (format : ℕ) (kind : TokenKind) (bytes rest : List ℕ) → IsToken format kind bytes rest → kind_of format bytes ≡ Some kind
formed format kind bytes rest (a_left is_left is_bytes) = ap (kind_of format) is_bytes ∙ ap Some (sym is_left)
formed format kind bytes rest (a_right is_right is_bytes) = ap (kind_of format) is_bytes ∙ ap Some (sym is_right)
formed format kind bytes rest (an_atom run form) = kind-is format bytes rest kind run form

pub lexemes_formed : (format : ℕ) (whole : List ℕ) (at : ℕ) (text : List ℕ) (tokens : List Token) (After : ℕ → List ℕ → Type 0) → drop at whole ≡ text
    → HasTokens format at text tokens After → AreFormed format (map (lexeme_of whole) tokens)
lexemes_formed format whole at text [] After is_here spans = tt
lexemes_formed format whole at text (token ∷ others) After is_here (gap, (bytes, (rest, (is_text, spaces, is_from, is_to, is_token, are_others)))) =
    let from_here : drop token.from whole ≡ bytes ++ rest =
    ap (λ n. drop n whole) is_from ∙ (parts whole at gap bytes rest (is_here ∙ is_text)).next in
    let to_here : drop token.to whole ≡ rest =
    ap (λ n. drop n whole) is_to ∙ sym (drop-drop (length bytes) token.from whole) ∙ ap (drop (length bytes)) from_here ∙ drop-append_seam bytes rest in
    let long : token.to - token.from ≡ length bytes = omega arith in
    let are_bytes : slice_range whole token.from token.to ≡ bytes =
    ap (λ n. take n (drop token.from whole)) long ∙ ap (take (length bytes)) from_here ∙ take-append_seam bytes rest in
    (ap (kind_of format) are_bytes ∙ formed format token.kind bytes rest is_token, lexemes_formed format whole token.to rest others After to_here are_others)

-- the kinds of atoms that begin with a type's name
abbrev pub HasName : TokenKind → Type 0
HasName kinds.Term = Unit {0}
HasName kinds.Stem = Unit {0}
HasName kinds.Prefix = Unit {0}
HasName kind = ⊥

-- such an atom is neither a parenthesis nor a name nor a number
pub neither : (one two three four : Bool) (kind : TokenKind) (other : Option TokenKind) → HasName kind
    → cond one (Some kinds.Left) (cond two (Some kinds.Right) (cond three (Some kinds.Name) (cond four (Some kinds.Number) other))) ≡ Some kind
    → other ≡ Some kind
neither true two three four kind other named is_kind =
    let same : kinds.Left ≡ kind = cc in absurd (subst HasName (sym same) named)
neither false true three four kind other named is_kind =
    let same : kinds.Right ≡ kind = cc in absurd (subst HasName (sym same) named)
neither false false true four kind other named is_kind =
    let same : kinds.Name ≡ kind = cc in absurd (subst HasName (sym same) named)
neither false false false true kind other named is_kind =
    let same : kinds.Number ≡ kind = cc in absurd (subst HasName (sym same) named)
neither false false false false kind other named is_kind = is_kind

no_slash : (kind : TokenKind) (fraction : Bool) → HasName kind → cond fraction (Some kinds.Fraction) None ≡ Some kind → ⊥
no_slash kind true named is_kind = let same : kinds.Fraction ≡ kind = cc in absurd (subst HasName (sym same) named)
no_slash kind false named is_kind = absurd (cc)

pub no_slash_kind : (kind : TokenKind) (slash : Option (List ℕ × List ℕ)) → HasName kind → slash_kind slash ≡ Some kind → ⊥
no_slash_kind kind None named is_kind = absurd (cc)
no_slash_kind kind (Some halves) named is_kind = no_slash kind (is_number halves.0 && is_number halves.1) named is_kind

-- so what stands before its colon is a name, and what stands after it has a star where it is a stem
abbrev IfStem : TokenKind → Bool → Type 0
IfStem kinds.Stem starred = starred ≡ true
IfStem kind starred = Unit {0}

named_by : (empty name tail_name tail_empty tail_word starred : Bool) (kind : TokenKind) (slash : Option (List ℕ × List ℕ)) → HasName kind
    → option_or (cond empty (cond tail_name (Some kinds.Option) None) (cond name (cond tail_empty (Some kinds.Prefix) (cond tail_word (Some kinds.Term) (cond starred (Some kinds.Stem) None))) None)) (slash_kind slash) ≡ Some kind
    → (name ≡ true) × IfStem kind starred
named_by true name true tail_empty tail_word starred kind slash named is_kind =
    let same : kinds.Option ≡ kind = cc in absurd (subst HasName (sym same) named)
named_by true name false tail_empty tail_word starred kind slash named is_kind = absurd (no_slash_kind kind slash named is_kind)
named_by false true tail_name true tail_word starred kind slash named is_kind =
    let same : kinds.Prefix ≡ kind = cc in (refl, subst (λ (k : TokenKind). IfStem k starred) same tt)
named_by false true tail_name false true starred kind slash named is_kind =
    let same : kinds.Term ≡ kind = cc in (refl, subst (λ (k : TokenKind). IfStem k starred) same tt)
named_by false true tail_name false false true kind slash named is_kind =
    let same : kinds.Stem ≡ kind = cc in (refl, subst (λ (k : TokenKind). IfStem k true) same refl)
named_by false true tail_name false false false kind slash named is_kind = absurd (no_slash_kind kind slash named is_kind)
named_by false false tail_name tail_empty tail_word starred kind slash named is_kind = absurd (no_slash_kind kind slash named is_kind)

before_colon : (format : ℕ) (bytes : List ℕ) (kind : TokenKind) (front back : List ℕ) → HasName kind → kind_of format bytes ≡ Some kind
    → cut_at 58 bytes ≡ Some (front, back)
    → (is_name front ≡ true) × IfStem kind ((format == 2) && is_some (starred_word back))
before_colon format [] kind front back named is_kind is_cut = absurd (cc)
before_colon format (c ∷ cs) kind front back named is_kind is_cut =
    let inner = neither (c == 40) (c == 41) (is_name (c ∷ cs)) (is_number (c ∷ cs)) kind
    (option_or (colon_kind format (cut_at 58 (c ∷ cs))) (slash_kind (cut_at 47 (c ∷ cs)))) named is_kind in
    named_by (is_empty front) (is_name front) (is_name back) (is_empty back) (is_word back) ((format == 2) && is_some (starred_word back)) kind (cut_at 47 (c ∷ cs)) named
    (sym (ap (λ (cut : Option (List ℕ × List ℕ)). option_or (colon_kind format cut) (slash_kind (cut_at 47 (c ∷ cs)))) is_cut) ∙ inner)

-- the parts of a term and of a prefix
word_if : (b : Bool) (text word : List ℕ) → is_word text ≡ b → cond b (Some text) None ≡ Some word → is_word word ≡ true
word_if true text word is_text is_some = let same : text ≡ word = cc in subst (λ (w : List ℕ). is_word w ≡ true) same is_text
word_if false text word is_text is_some = absurd (cc)

star_if : (b : Bool) (parts : List ℕ × List ℕ) (word : List ℕ) → (is_word parts.0 && is_empty parts.1) ≡ b → cond b (Some parts.0) None ≡ Some word
    → is_word word ≡ true
star_if true parts word is_parts is_some =
    let same : parts.0 ≡ word = cc in
    subst (λ (w : List ℕ). is_word w ≡ true) same (and_parts (is_word parts.0) (is_empty parts.1) is_parts).0
star_if false parts word is_parts is_some = absurd (cc)

star_word : (cut : Option (List ℕ × List ℕ)) (word : List ℕ) → before_star cut ≡ Some word → is_word word ≡ true
star_word None word is_some = absurd (cc)
star_word (Some parts) word is_some = star_if (is_word parts.0 && is_empty parts.1) parts word refl is_some

key_word : (kind : TermKind) (text key : List ℕ) → key_of kind text ≡ Some key → is_word key ≡ true
key_word terms.Whole text key is_key = word_if (is_word text) text key refl is_key
key_word terms.Prefix text key is_key = star_word (cut_at 42 text) key is_key

-- a term's atom is cut into its type's name and the text of its key
record IsCut (kind : TermKind) (cut : Option (List ℕ × List ℕ)) (pair : List ℕ × List ℕ) : Type 0 where
  back : List ℕ
  is_cut : cut ≡ Some (pair.0, back)
  is_key : is_word pair.1 ≡ true

pair_of_key : (kind : TermKind) (halves : List ℕ × List ℕ) (key : Option (List ℕ)) (pair : List ℕ × List ℕ) → key_of kind halves.1 ≡ key
    → option_map (λ (w : List ℕ). (halves.0, w)) key ≡ Some pair → IsCut kind (Some halves) pair
pair_of_key kind halves None pair are_key is_pair = absurd (cc)
pair_of_key kind halves (Some key) pair are_key is_pair =
    let same : (halves.0, key) ≡ pair = cc in
    let first : halves.0 ≡ pair.0 = ap (λ (p : List ℕ × List ℕ). p.0) same in
    let second : key ≡ pair.1 = ap (λ (p : List ℕ × List ℕ). p.1) same in
    record {
      back = halves.1;
      is_cut = ap (λ (w : List ℕ). Some (w, halves.1)) first;
      is_key = subst (λ (w : List ℕ). is_word w ≡ true) second (key_word kind halves.1 key are_key);
    }

pair_if : (kind : TermKind) (b : Bool) (halves pair : List ℕ × List ℕ)
    → cond b (option_map (λ (w : List ℕ). (halves.0, w)) (key_of kind halves.1)) None ≡ Some pair → IsCut kind (Some halves) pair
pair_if kind true halves pair is_pair = pair_of_key kind halves (key_of kind halves.1) pair refl is_pair
pair_if kind false halves pair is_pair = absurd (cc)

pair_cut : (kind : TermKind) (cut : Option (List ℕ × List ℕ)) (pair : List ℕ × List ℕ) → both_words kind cut ≡ Some pair → IsCut kind cut pair
pair_cut kind None pair is_pair = absurd (cc)
pair_cut kind (Some halves) pair is_pair = pair_if kind (is_word halves.0) halves pair is_pair

front_if : (b : Bool) (halves : List ℕ × List ℕ) (name : List ℕ) → cond b (Some halves.0) None ≡ Some name → halves.0 ≡ name
front_if true halves name is_name = cc
front_if false halves name is_name = absurd (cc)

front_cut : (cut : Option (List ℕ × List ℕ)) (name : List ℕ) → front_word cut ≡ Some name → (back : List ℕ) × (cut ≡ Some (name, back))
front_cut None name is_front = absurd (cc)
front_cut (Some halves) name is_front =
    let same = front_if (is_word halves.0) halves name is_front in (halves.1, ap (λ xs. Some (xs, halves.1)) same)

type-name : (text : List ℕ) → is_name text ≡ true → IsTypeName text
type-name text name = and_parts (is_word text) (starts_with_letter text) name

has_name : (kind : TermKind) → HasName (atom_of kind)
has_name terms.Whole = tt
has_name terms.Prefix = tt

-- only format 2 has stems
is_two : (n : ℕ) → (n == 2) ≡ true → n ≡ 2
is_two n is_true = grind (arith, nat_tests)

may_begin : (format : ℕ) (kind : TermKind) (back : List ℕ) → IfStem (atom_of kind) ((format == 2) && is_some (starred_word back)) → MayBegin format kind
may_begin format terms.Whole back starred = tt
may_begin format terms.Prefix back starred = is_two format (and_parts (format == 2) (is_some (starred_word back)) starred).0

term_words : (format column : ℕ) (kind : TermKind) (type_name key : List ℕ) (token : Lexeme) → kind_of format token.bytes ≡ Some token.kind
    → IsTerm column kind type_name key token → IsTypeName type_name × IsKeyText key × MayBegin format kind
term_words format column kind type_name key token formed (is_kind, is_column, is_pair) =
    let cut : IsCut kind (cut_at 58 token.bytes) (type_name, key) = pair_cut kind (cut_at 58 token.bytes) (type_name, key) is_pair in
    let before = before_colon format token.bytes (atom_of kind) type_name cut.back (has_name kind) (formed ∙ ap Some is_kind) cut.is_cut in
    (type-name type_name before.0, cut.is_key, may_begin format kind cut.back before.1)

prefix_word : (format column : ℕ) (type_name : List ℕ) (token : Lexeme) → kind_of format token.bytes ≡ Some token.kind → IsPrefix column type_name token
    → IsTypeName type_name
prefix_word format column type_name token formed (is_kind, is_column, is_prefix) =
    let cut = front_cut (cut_at 58 token.bytes) type_name is_prefix in
    type-name type_name (before_colon format token.bytes kinds.Prefix type_name cut.0 tt (formed ∙ ap Some is_kind) cut.1).0

-- the ranges of values
range_if : (least most m n : ℕ) (b : Bool) → (nat_le least m && nat_le m most) ≡ b → cond b (Some m) None ≡ Some n → (least ≤ n) × (n ≤ most)
range_if least most m n true is_within is_value =
    let same : m ≡ n = cc in
    let tests = and_parts (nat_le least m) (nat_le m most) is_within in
    (omega (arith, leb-true least m tests.0), omega (arith, leb-true m most tests.1))
range_if least most m n false is_within is_value = absurd (cc)

range : (least most : ℕ) (number : Option ℕ) (n : ℕ)
    → option_and_then (λ (m : ℕ). cond (nat_le least m && nat_le m most) (Some m) None) number ≡ Some n → (least ≤ n) × (n ≤ most)
range least most None n is_value = absurd (cc)
range least most (Some m) n is_value = range_if least most m n (nat_le least m && nat_le m most) refl is_value

hits_range : (count : Option ℕ) (n : ℕ) → ((m : ℕ) → count ≡ Some m → m ≤ 1000000) → option_map Hits count ≡ Some (Hits n) → n ≤ 1000000
hits_range None n below is_hits = absurd (cc)
hits_range (Some m) n below is_hits = let same : m ≡ n = cc in omega (arith, below m refl)

weight_range : (d : ℕ) (top : Option ℕ) (n e : ℕ) → ((m : ℕ) → top ≡ Some m → (1 ≤ m) × (m ≤ d)) → d ≤ 1000
    → option_map (λ (m : ℕ). Weight m d) top ≡ Some (Weight n e) → (1 ≤ n) × (n ≤ e) × (e ≤ 1000)
weight_range d None n e within small is_weight = absurd (cc)
weight_range d (Some m) n e within small is_weight =
    let top : m ≡ n = cc in
    let bottom : d ≡ e = cc in
    let bounds = within m refl in
    (omega (arith, bounds.0), omega (arith, bounds.1), omega (arith, small))

weight_under_range : (top : List ℕ) (bottom : Option ℕ) (n e : ℕ) → ((m : ℕ) → bottom ≡ Some m → m ≤ 1000)
    → option_and_then (weight_over top) bottom ≡ Some (Weight n e) → (1 ≤ n) × (n ≤ e) × (e ≤ 1000)
weight_under_range top None n e below is_weight = absurd (cc)
weight_under_range top (Some d) n e below is_weight =
    weight_range d (number_between 1 d top) n e (λ m is_top. range 1 d (number_of top) m is_top) (below d refl) is_weight

weight_parts_range : (halves : Option (List ℕ × List ℕ)) (n e : ℕ) → weight_between halves ≡ Some (Weight n e) → (1 ≤ n) × (n ≤ e) × (e ≤ 1000)
weight_parts_range None n e is_weight = absurd (cc)
weight_parts_range (Some halves) n e is_weight =
    weight_under_range halves.0 (number_between 1 1000 halves.1) n e (λ m is_bottom. (range 1 1000 (number_of halves.1) m is_bottom).1) is_weight

mark_value : (mark : Mark) (spelled : List Lexeme) → MarkSpells mark spelled → IsMarkValue mark
mark_value Plain spelled spells = tt
mark_value (Hits count) spelled (name, (value, (is_spelled, is_name, is_value))) =
    hits_range (number_between 0 1000000 value.bytes) count (λ m is_count. (range 0 1000000 (number_of value.bytes) m is_count).1) is_value.1
mark_value (Weight n d) spelled (name, (value, (is_spelled, is_name, is_value))) =
    weight_parts_range (cut_at 47 value.bytes) n d is_value.1

options_mark : (dialect : Dialect) (mark : Mark) (limit : Option ℕ) (given : List Lexeme) → OptionsSpell dialect mark limit given
    → (spelled : List Lexeme) × MarkSpells mark spelled
options_mark dialect mark limit given (first, (second, (is_given, inl both))) = (first, both.0)
options_mark dialect mark limit given (first, (second, (is_given, inr both))) = (second, both.1)

options_limit : (dialect : Dialect) (mark : Mark) (limit : Option ℕ) (given : List Lexeme) → OptionsSpell dialect mark limit given
    → (spelled : List Lexeme) × LimitSpells dialect limit spelled
options_limit dialect mark limit given (first, (second, (is_given, inl both))) = (second, both.1)
options_limit dialect mark limit given (first, (second, (is_given, inr both))) = (first, both.0)

join_limit_is : (dialect : Dialect) → 1 ≤ dialect.join_limit → (given : Option ℕ) (limit : ℕ) (spelled : List Lexeme) → limit ≡ unwrap_or given (limit_unless_given dialect)
    → LimitSpells dialect given spelled → IsJoinLimit dialect limit
join_limit_is dialect some None limit spelled is_limit spells = (omega (arith, is_limit), omega (arith, is_limit))
join_limit_is dialect some (Some n) limit spelled is_limit (name, (value, (is_spelled, is_name, is_value))) =
    let bounds = range 1 dialect.join_limit (number_of value.bytes) n is_value.1 in
    (omega (arith, bounds.0), omega (arith, bounds.1))

-- a mark is spelled where its node is
node_mark : (dialect : Dialect) (node : Tree) (mark : Mark) (spelled : List Lexeme) → NodeSpells dialect node mark spelled
    → (given : List Lexeme) × MarkSpells mark given
node_mark dialect (term_at column kind type_name key) mark spelled (inl (plain, bare)) = ([], subst (λ (m : Mark). MarkSpells m []) (sym plain) refl)
node_mark dialect (term_at column kind type_name key) mark spelled (inr (outer, (left, (body, (given, (right, (is_spelled, is_left, is_body, opts, is_right))))))) =
    options_mark dialect mark None given opts
node_mark dialect (list_at column kind forest) mark spelled (few, (left, (body, (given, (right, (is_spelled, is_left, is_body, opts, is_right)))))) =
    options_mark dialect mark None given opts
node_mark dialect (join_at column join type_column type_name limit node) mark spelled (limit_given, (is_limit, (left, (body, (given, (right, (is_spelled, is_left, is_body, opts, is_right))))))) =
    options_mark dialect mark limit_given given opts

body_formed : (format : ℕ) (left right : Lexeme) (body given spelled : List Lexeme) → spelled ≡ (left ∷ (body ++ given)) ++ right ∷ []
    → AreFormed format spelled → AreFormed format body
body_formed format left right body given spelled is_spelled formed =
    formed-front format body given (formed-front format (left ∷ (body ++ given)) (right ∷ []) (subst (AreFormed format) is_spelled formed)).1

mutual
  node_allowed : (dialect : Dialect) → 1 ≤ dialect.join_limit → (node : Tree) (mark : Mark) (spelled : List Lexeme)
      → NodeSpells dialect node mark spelled → AreFormed dialect.format spelled → IsAllowed dialect node
  node_allowed dialect some (term_at column kind type_name key) mark spelled (inl (plain, (token, (is_spelled, is_term)))) formed =
      term_words dialect.format column kind type_name key token (subst (AreFormed dialect.format) is_spelled formed).0 is_term
  node_allowed dialect some (term_at column kind type_name key) mark spelled (inr (outer, (left, (body, (given, (right, (is_spelled, is_left, (name, (term, (is_body, is_name, is_term))), opts, is_right))))))) formed =
      let inside = subst (AreFormed dialect.format) is_body (body_formed dialect.format left right body given spelled is_spelled formed) in
      term_words dialect.format column kind type_name key term inside.1.0 is_term
  node_allowed dialect some (list_at column kind forest) mark spelled (few, (left, (body, (given, (right, (is_spelled, is_left, (name, (inner, (is_body, is_name, forest_spells))), opts, is_right)))))) formed =
      let inside = subst (AreFormed dialect.format) is_body (body_formed dialect.format left right body given spelled is_spelled formed) in
      (few, forest_allowed dialect some kind forest inner forest_spells inside.1)
  node_allowed dialect some (join_at column join type_column type_name limit node) mark spelled (limit_given, (is_limit, (left, (body, (given, (right, (is_spelled, is_left, (name, (prefix, (inner, (is_body, is_name, is_prefix, node_spells)))), opts, is_right))))))) formed =
      let inside = subst (AreFormed dialect.format) is_body (body_formed dialect.format left right body given spelled is_spelled formed) in
      let spells = options_limit dialect mark limit_given given opts in (
        prefix_word dialect.format type_column type_name prefix inside.1.0 is_prefix,
        join_limit_is dialect some limit_given limit spells.0 is_limit spells.1,
        node_allowed dialect some node Plain inner node_spells inside.1.1,
      )

  forest_allowed : (dialect : Dialect) → 1 ≤ dialect.join_limit → (kind : ListKind) (forest : Forest) (spelled : List Lexeme)
      → ForestSpells dialect kind forest spelled → AreFormed dialect.format spelled → AreAllowed dialect kind forest
  forest_allowed dialect some kind no_operands spelled nothing formed = tt
  forest_allowed dialect some kind (with_operand node mark others) spelled (front, (back, (is_spelled, may, node_spells, others_spell))) formed =
      let both = subst (AreFormed dialect.format) is_spelled formed in
      let marked = node_mark dialect node mark front node_spells in (
        (may, mark_value mark marked.0 marked.1),
        node_allowed dialect some node mark front node_spells (formed-front dialect.format front back both),
        forest_allowed dialect some kind others back others_spell (formed-back dialect.format front back both),
      )

-- a tree is no deeper than the parentheses of its tokens
shallow_mark : (mark : Mark) → mark_depth mark ≤ 1
shallow_mark Plain = omega arith
shallow_mark (Hits count) = omega arith
shallow_mark (Weight n d) = omega arith

inside_deeper : (count : ℕ) (left right : Lexeme) (inner spelled : List Lexeme) → spelled ≡ (left ∷ inner) ++ right ∷ [] → left.kind ≡ kinds.Left
    → most_open (count + 1) inner ≤ most_open count spelled
inside_deeper count left right inner spelled is_spelled is_left =
    let whole : most_open count spelled ≡ most_open count ((left ∷ inner) ++ right ∷ []) = ap (most_open count) is_spelled in
    let first : most_open (open_after count left.kind) (inner ++ right ∷ []) ≡ most_open (count + 1) (inner ++ right ∷ []) =
    ap (λ n. most_open n (inner ++ right ∷ [])) (ap (open_after count) is_left) in
    omega (arith, most-append (count + 1) inner (right ∷ []))

-- after names
after_name : (count : ℕ) (name : Lexeme) (others : List Lexeme) → name.kind ≡ kinds.Name → most_open count others ≤ most_open count (name ∷ others)
after_name count name others is_name =
    let same : most_open (open_after count name.kind) others ≡ most_open count others = ap (λ n. most_open n others) (ap (open_after count) is_name) in
    omega arith

after_prefix : (count : ℕ) (prefix : Lexeme) (others : List Lexeme) → prefix.kind ≡ kinds.Prefix → most_open count others ≤ most_open count (prefix ∷ others)
after_prefix count prefix others is_prefix =
    let same : most_open (open_after count prefix.kind) others ≡ most_open count others = ap (λ n. most_open n others) (ap (open_after count) is_prefix) in
    omega arith

mutual
  node_deep : (dialect : Dialect) (node : Tree) (mark : Mark) (spelled : List Lexeme) → NodeSpells dialect node mark spelled
      → (count : ℕ) → count + max (mark_depth mark) (tree_depth node) ≤ most_open count spelled
  node_deep dialect (term_at column kind type_name key) mark spelled (inl (plain, bare)) count =
      let flat : mark_depth mark ≡ 0 = ap mark_depth plain in
      omega (arith, most-first count spelled)
  node_deep dialect (term_at column kind type_name key) mark spelled (inr (outer, (left, (body, (given, (right, (is_spelled, is_left, is_body, opts, is_right))))))) count =
      omega (arith, shallow_mark mark, inside_deeper count left right (body ++ given) spelled is_spelled is_left.0, most-first (count + 1) (body ++ given))
  node_deep dialect (list_at column kind forest) mark spelled (few, (left, (body, (given, (right, (is_spelled, is_left, (name, (inner, (is_body, is_name, forest_spells))), opts, is_right)))))) count =
      let same : most_open (count + 1) body ≡ most_open (count + 1) (name ∷ inner) = ap (most_open (count + 1)) is_body in
      omega (
        arith,
        shallow_mark mark,
        inside_deeper count left right (body ++ given) spelled is_spelled is_left.0,
        most-append (count + 1) body given,
        after_name (count + 1) name inner is_name.0,
        forest_deep dialect kind forest inner forest_spells (count + 1),
      )
  node_deep dialect (join_at column join type_column type_name limit node) mark spelled (limit_given, (is_limit, (left, (body, (given, (right, (is_spelled, is_left, (name, (prefix, (inner, (is_body, is_name, is_prefix, node_spells)))), opts, is_right))))))) count =
      let same : most_open (count + 1) body ≡ most_open (count + 1) (name ∷ prefix ∷ inner) = ap (most_open (count + 1)) is_body in
      omega (
        arith,
        shallow_mark mark,
        inside_deeper count left right (body ++ given) spelled is_spelled is_left.0,
        most-append (count + 1) body given,
        after_name (count + 1) name (prefix ∷ inner) is_name.0,
        after_prefix (count + 1) prefix inner is_prefix.0,
        node_deep dialect node Plain inner node_spells (count + 1),
      )

  forest_deep : (dialect : Dialect) (kind : ListKind) (forest : Forest) (spelled : List Lexeme) → ForestSpells dialect kind forest spelled
      → (count : ℕ) → count + operand_depth forest ≤ most_open count spelled
  forest_deep dialect kind no_operands spelled nothing count = omega (arith, most-first count spelled)
  forest_deep dialect kind (with_operand node mark others) spelled (front, (back, (is_spelled, may, node_spells, others_spell))) count =
      let whole : most_open count spelled ≡ most_open count (front ++ back) = ap (most_open count) is_spelled in
      let later : most_open (opened count front) back ≡ most_open count back = ap (λ n. most_open n back) (balanced-node dialect node mark front node_spells count) in
      omega (arith, most-append count front back, node_deep dialect node mark front node_spells count, forest_deep dialect kind others back others_spell count)

-- so a text's query is within the limits
pub spelled_within : (dialect : Dialect) → 1 ≤ dialect.join_limit → (text : List ℕ) (tree : Tree) → QuerySpells dialect text tree → IsWithin dialect tree
spelled_within dialect some text tree spells =
    let spelled : List Lexeme = map (lexeme_of text) spells.lexed in
    record {
      allowed = node_allowed dialect some tree Plain (map (lexeme_of text) spells.lexed) spells.spelled
          (lexemes_formed dialect.format text 0 text spells.lexed (λ at rest. AreSpaces rest) refl spells.of_text);
      depth = omega (arith, node_deep dialect tree Plain (map (lexeme_of text) spells.lexed) spells.spelled 0, spells.depth);
      nodes = spells.nodes;
    }

pub spelled_is_within : SpelledIsWithin
spelled_is_within = record { within = spelled_within }

-- and so is an answer that is right
pub answer_within : (dialect : Dialect) → 1 ≤ dialect.join_limit → (text : List ℕ) (answer : Result Query QueryRefusal)
    → IsAnswer (text_read dialect text) answer → IfOk answer (λ query. IsWithin dialect (tree_of query))
answer_within dialect some text (Ok query) is_answer = spelled_within dialect some text (tree_of query) (text_sound dialect text (tree_of query) is_answer)
answer_within dialect some text (Err refusal) is_answer = tt
