-- What a text spells in format 1 it spells in format 2 too.
use Rattle.std.proofs.Common.{◌≡◌, ℕ, ◌==◌, ◌&&◌, ◌||◌, not, length, Bool, true, false, cond, List, [], ◌∷◌, ◌++◌, Option, None, Some, is_some, refl, ap, ◌∙◌, subst, inl, inr}
use Rattle.std.specs.Prelude.{nat_le}
use Rattle.std.proofs.lemmas.Bool.{and_parts, eqb-true}
use Rattle.std.specs.List.{list_all}
use Rattle.std.proofs.lemmas.List.Folds.{list_all-append}
use Rattle.std.specs.Option.{option_map, option_or}
use Rattle.uni_base.specs.declared.limits.Limits.{Limits}
use Rattle.uni_base.specs.Words.{is_digit, is_word, is_name}
use Rattle.uni_base.specs.Numbers.{is_number, starts_with_zero}
use Rattle.uni_base.specs.Fields.{cut_at}
use Rattle.query_tree.specs.Dialects.{dialect_of}
use Rattle.query_tree.specs.declared.kind.ListKind.{ListKind}
use Rattle.query_tree.specs.declared.kind.ListKind.TheVariants.{And, Or, Difference, WeakAnd, StrongOr}
use Rattle.query_tree.specs.declared.query.Mark.{Mark}
use Rattle.query_tree.specs.declared.query.Mark.TheVariants.{Plain, Hits, Weight}
use Rattle.query_tree.specs.Tree.{Tree, Forest, term_at, list_at, join_at, no_operands, with_operand}
use Rattle.query_tree.specs.Marks.{MayStand}
use Rattle.query_tree.specs.Within.{IsOperandCount}
use Rattle.query_reader.specs.declared.token.Token.{Token}
use Rattle.query_reader.specs.declared.token.TokenKind.{TokenKind}
use Rattle.query_reader.specs.declared.token.TokenKind.TheVariants as kinds
use Rattle.query_reader.specs.Atoms.{is_empty, starred_word, pair_kind, colon_kind, slash_kind, atom_kind}
use Rattle.query_reader.specs.Spans.{AreSpaces, IsToken, a_left, a_right, an_atom, HasTokens}
use Rattle.query_reader.specs.Reading.{Lexeme}
use Rattle.query_reader.specs.Grammar.{LimitSpells, OptionsSpell, Enclosed, NodeSpells, ForestSpells}
use Rattle.query_reader.specs.TextLaws.{SecondHasFirst}
use Rattle.query_reader.proofs.Bytes.{all-weaker, other_than, uncut, digit-no_colon}

-- a text that is cut is its parts about the separator
abbrev IsCutBy : ℕ → List ℕ → List ℕ × List ℕ → Type 0
IsCutBy separator text parts = text ≡ parts.0 ++ separator ∷ parts.1

cut_later : (separator c : ℕ) (cs : List ℕ) (parts : List ℕ × List ℕ) (later : Option (List ℕ × List ℕ))
    → ((rest : List ℕ × List ℕ) → later ≡ Some rest → IsCutBy separator cs rest)
    → option_map (λ (p : List ℕ × List ℕ). (c ∷ p.0, p.1)) later ≡ Some parts → IsCutBy separator (c ∷ cs) parts
cut_later separator c cs parts None is_rest is_cut = absurd (cc)
cut_later separator c cs parts (Some rest) is_rest is_cut =
    let same : (c ∷ rest.0, rest.1) ≡ parts = cc in
    subst (IsCutBy separator (c ∷ cs)) same (ap (λ xs. c ∷ xs) (is_rest rest refl))

cut_here : (separator c : ℕ) (cs : List ℕ) (parts : List ℕ × List ℕ) (b : Bool) → (c == separator) ≡ b
    → ((rest : List ℕ × List ℕ) → cut_at separator cs ≡ Some rest → IsCutBy separator cs rest)
    → cond b (Some ([], cs)) (option_map (λ (p : List ℕ × List ℕ). (c ∷ p.0, p.1)) (cut_at separator cs)) ≡ Some parts → IsCutBy separator (c ∷ cs) parts
cut_here separator c cs parts true is_here is_rest is_cut =
    let same : ([], cs) ≡ parts = cc in
    subst (IsCutBy separator (c ∷ cs)) same (ap (λ (n : ℕ). n ∷ cs) (eqb-true c separator is_here))
cut_here separator c cs parts false is_here is_rest is_cut = cut_later separator c cs parts (cut_at separator cs) is_rest is_cut

cut_is : (separator : ℕ) (text : List ℕ) (parts : List ℕ × List ℕ) → cut_at separator text ≡ Some parts → IsCutBy separator text parts
cut_is separator [] parts is_cut = absurd (cc)
cut_is separator (c ∷ cs) parts is_cut =
    cut_here separator c cs parts (c == separator) refl (λ rest is_rest. cut_is separator cs rest is_rest) is_cut

-- a fraction has no colon
number_digits : (text : List ℕ) → is_number text ≡ true → list_all is_digit text ≡ true
number_digits text number =
    let most = and_parts (nat_le 1 (length text) && nat_le (length text) 20 && list_all is_digit text) (not (starts_with_zero text) || (length text == 1)) number in
    (and_parts (nat_le 1 (length text) && nat_le (length text) 20) (list_all is_digit text) most.0).1

fraction_uncut : (atom : List ℕ) (parts : List ℕ × List ℕ) → cut_at 47 atom ≡ Some parts → (is_number parts.0 && is_number parts.1) ≡ true → cut_at 58 atom ≡ None
fraction_uncut atom parts is_cut numbers =
    let both = and_parts (is_number parts.0) (is_number parts.1) numbers in
    ap (cut_at 58) (cut_is 47 atom parts is_cut)
    ∙ uncut 58 (parts.0 ++ 47 ∷ parts.1)
    (list_all-append (other_than 58) parts.0 (47 ∷ parts.1)
    ∙ ap (λ b. b && list_all (other_than 58) (47 ∷ parts.1)) (all-weaker is_digit (other_than 58) digit-no_colon parts.0 (number_digits parts.0 both.0))
    ∙ all-weaker is_digit (other_than 58) digit-no_colon parts.1 (number_digits parts.1 both.1))

slash_if : (atom : List ℕ) (parts : List ℕ × List ℕ) (b : Bool) (kind : TokenKind) → cut_at 47 atom ≡ Some parts → (is_number parts.0 && is_number parts.1) ≡ b
    → cond b (Some kinds.Fraction) None ≡ Some kind → cut_at 58 atom ≡ None
slash_if atom parts true kind is_cut numbers is_kind = fraction_uncut atom parts is_cut numbers
slash_if atom parts false kind is_cut numbers is_kind = absurd (cc)

slash_uncut : (atom : List ℕ) (slash : Option (List ℕ × List ℕ)) (kind : TokenKind) → cut_at 47 atom ≡ slash → slash_kind slash ≡ Some kind → cut_at 58 atom ≡ None
slash_uncut atom None kind is_cut is_kind = absurd (cc)
slash_uncut atom (Some parts) kind is_cut is_kind = slash_if atom parts (is_number parts.0 && is_number parts.1) kind is_cut refl is_kind

-- the forms of atoms
pair_tests : (empty named option last word : Bool) (starred : Option TokenKind) (kind : TokenKind)
    → cond empty (cond option (Some kinds.Option) None) (cond named (cond last (Some kinds.Prefix) (cond word (Some kinds.Term) None)) None) ≡ Some kind
    → cond empty (cond option (Some kinds.Option) None) (cond named (cond last (Some kinds.Prefix) (cond word (Some kinds.Term) starred)) None) ≡ Some kind
pair_tests true named option last word starred kind is_kind = is_kind
pair_tests false false option last word starred kind is_kind = absurd (cc)
pair_tests false true option true word starred kind is_kind = is_kind
pair_tests false true option false true starred kind is_kind = is_kind
pair_tests false true option false false starred kind is_kind = absurd (cc)

parts_more : (atom head tail : List ℕ) (slash : Option (List ℕ × List ℕ)) (first : Option TokenKind) (kind : TokenKind)
    → cut_at 58 atom ≡ Some (head, tail) → cut_at 47 atom ≡ slash → pair_kind 1 head tail ≡ first → option_or first (slash_kind slash) ≡ Some kind
    → option_or (pair_kind 2 head tail) (slash_kind slash) ≡ Some kind
parts_more atom head tail slash None kind is_cut is_slash is_first is_kind =
    let none = slash_uncut atom slash kind is_slash is_kind in absurd (cc)
parts_more atom head tail slash (Some first) kind is_cut is_slash is_first is_kind =
    let second : pair_kind 2 head tail ≡ Some first =
    pair_tests (is_empty head) (is_name head) (is_name tail) (is_empty tail) (is_word tail) (cond (is_some (starred_word tail)) (Some kinds.Stem) None) first is_first in
    ap (λ (k : Option TokenKind). option_or k (slash_kind slash)) second ∙ is_kind

colon_more : (atom : List ℕ) (colon slash : Option (List ℕ × List ℕ)) (kind : TokenKind) → cut_at 58 atom ≡ colon → cut_at 47 atom ≡ slash
    → option_or (colon_kind 1 colon) (slash_kind slash) ≡ Some kind → option_or (colon_kind 2 colon) (slash_kind slash) ≡ Some kind
colon_more atom None slash kind is_cut is_slash is_kind = is_kind
colon_more atom (Some parts) slash kind is_cut is_slash is_kind =
    parts_more atom parts.0 parts.1 slash (pair_kind 1 parts.0 parts.1) kind is_cut is_slash refl is_kind

atom_tests : (named number : Bool) (one two : Option TokenKind) (kind : TokenKind) → (one ≡ Some kind → two ≡ Some kind)
    → cond named (Some kinds.Name) (cond number (Some kinds.Number) one) ≡ Some kind → cond named (Some kinds.Name) (cond number (Some kinds.Number) two) ≡ Some kind
atom_tests true number one two kind more is_kind = is_kind
atom_tests false true one two kind more is_kind = is_kind
atom_tests false false one two kind more is_kind = more is_kind

atom_more : (atom : List ℕ) (kind : TokenKind) → atom_kind 1 atom ≡ Some kind → atom_kind 2 atom ≡ Some kind
atom_more atom kind is_kind =
    atom_tests (is_name atom) (is_number atom) (option_or (colon_kind 1 (cut_at 58 atom)) (slash_kind (cut_at 47 atom)))
    (option_or (colon_kind 2 (cut_at 58 atom)) (slash_kind (cut_at 47 atom))) kind
    (colon_more atom (cut_at 58 atom) (cut_at 47 atom) kind refl refl) is_kind

-- tokens
token_more : (kind : TokenKind) (bytes rest : List ℕ) → IsToken 1 kind bytes rest → IsToken 2 kind bytes rest
token_more kind bytes rest (a_left is_left is_bytes) = a_left is_left is_bytes
token_more kind bytes rest (a_right is_right is_bytes) = a_right is_right is_bytes
token_more kind bytes rest (an_atom run form) = an_atom run (atom_more bytes kind form)

tokens_more : (at : ℕ) (text : List ℕ) (tokens : List Token) (After : ℕ → List ℕ → Type 0) → HasTokens 1 at text tokens After → HasTokens 2 at text tokens After
tokens_more at text [] After is_left = is_left
tokens_more at text (token ∷ others) After (gap, (bytes, (rest, (is_text, spaces, is_from, is_to, is_token, are_others)))) =
    (gap, (bytes, (rest, (is_text, spaces, is_from, is_to, token_more token.kind bytes rest is_token, tokens_more token.to rest others After are_others))))

-- marks
mark_more : (operator : ListKind) (mark : Mark) → MayStand 1 operator mark → MayStand 2 operator mark
mark_more operator Plain may = tt
mark_more WeakAnd (Hits count) may = refl
mark_more StrongOr (Weight n d) may = refl
mark_more WeakAnd (Weight n d) may = refl
mark_more And (Hits count) may = may
mark_more Or (Hits count) may = may
mark_more Difference (Hits count) may = may
mark_more StrongOr (Hits count) may = may
mark_more And (Weight n d) may = may
mark_more Or (Weight n d) may = may
mark_more Difference (Weight n d) may = may

-- the grammar
limit_more : (limits : Limits) (limit : Option ℕ) (spelled : List Lexeme) → LimitSpells (dialect_of limits 1) limit spelled → LimitSpells (dialect_of limits 2) limit spelled
limit_more limits None spelled spells = spells
limit_more limits (Some limit) spelled spells = spells

options_more : (limits : Limits) (mark : Mark) (limit : Option ℕ) (given : List Lexeme) → OptionsSpell (dialect_of limits 1) mark limit given
    → OptionsSpell (dialect_of limits 2) mark limit given
options_more limits mark limit given (first, (second, (is_given, inl both))) = (first, (second, (is_given, inl (both.0, limit_more limits limit second both.1))))
options_more limits mark limit given (first, (second, (is_given, inr both))) = (first, (second, (is_given, inr (limit_more limits limit first both.0, both.1))))

enclosed_more : (limits : Limits) (column : ℕ) (mark : Mark) (limit : Option ℕ) (Body Other : List Lexeme → Type 0) (spelled : List Lexeme)
    → ((body : List Lexeme) → Body body → Other body) → Enclosed (dialect_of limits 1) column mark limit Body spelled
    → Enclosed (dialect_of limits 2) column mark limit Other spelled
enclosed_more limits column mark limit Body Other spelled more (left, (body, (given, (right, (is_spelled, is_left, is_body, opts, is_right))))) =
    (left, (body, (given, (right, (is_spelled, is_left, more body is_body, options_more limits mark limit given opts, is_right)))))

count_more : (limits : Limits) (kind : ListKind) (count : ℕ) → IsOperandCount (dialect_of limits 1) kind count → IsOperandCount (dialect_of limits 2) kind count
count_more limits And count few = few
count_more limits Or count few = few
count_more limits Difference count few = few
count_more limits WeakAnd count few = few
count_more limits StrongOr count few = few

mutual
  node_more : (limits : Limits) (node : Tree) (mark : Mark) (spelled : List Lexeme) → NodeSpells (dialect_of limits 1) node mark spelled
      → NodeSpells (dialect_of limits 2) node mark spelled
  node_more limits (term_at column kind type_name key) mark spelled (inl bare) = inl bare
  node_more limits (term_at column kind type_name key) mark spelled (inr (outer, enclosed)) =
      inr (outer, enclosed_more limits outer mark None _ _ spelled (λ body is_body. is_body) enclosed)
  node_more limits (list_at column kind forest) mark spelled (few, enclosed) = (
    count_more limits kind _ few,
    enclosed_more limits column mark None _ _ spelled
        (λ body is_body. (is_body.0, (is_body.1.0, (is_body.1.1.0, is_body.1.1.1, forest_more limits kind forest is_body.1.0 is_body.1.1.2))))
        enclosed,
  )
  node_more limits (join_at column join type_column type_name limit node) mark spelled (given, (is_limit, enclosed)) = (
    given,
    (
      is_limit,
      enclosed_more limits column mark given _ _ spelled
          (λ body is_body.
          (is_body.0, (is_body.1.0, (is_body.1.1.0, (is_body.1.1.1.0, is_body.1.1.1.1, is_body.1.1.1.2, node_more limits node Plain is_body.1.1.0 is_body.1.1.1.3)))))
          enclosed,
    ),
  )

  forest_more : (limits : Limits) (kind : ListKind) (forest : Forest) (spelled : List Lexeme) → ForestSpells (dialect_of limits 1) kind forest spelled
      → ForestSpells (dialect_of limits 2) kind forest spelled
  forest_more limits kind no_operands spelled nothing = nothing
  forest_more limits kind (with_operand node mark others) spelled (front, (back, (is_spelled, may, node_spells, others_spell))) =
      (front, (back, (is_spelled, mark_more kind mark may, node_more limits node mark front node_spells, forest_more limits kind others back others_spell)))

pub second_has_first : SecondHasFirst
second_has_first = record {
  same =
      λ limits text tree spells.
      record {
        lexed = spells.lexed;
        of_text = tokens_more 0 text spells.lexed (λ at rest. AreSpaces rest) spells.of_text;
        spelled = node_more limits tree Plain _ spells.spelled;
        nodes = spells.nodes;
        depth = spells.depth;
      };
}
