-- The code of a text's first fault, by the tokens before it: by what stands in the innermost open list,
-- and how many lists and nodes there are.
use Rattle.std.specs.Prelude.{ℕ, ◌≡◌, ◌↔◌, ◌⊎◌, ◌+◌, ◌==◌, nat_le, nat_lt, Bool, true, false, not, ◌&&◌, ◌||◌, if◌then◌else◌, List, [], ◌∷◌, ◌++◌, length, map, Option, Some, None, is_some}
use Rattle.std.specs.Option.{option_map_or}
use Rattle.uni_base.specs.Numbers.{number_between}
use Rattle.query_tree.specs.declared.dialect.Dialect.{Dialect}
use Rattle.query_tree.specs.declared.kind.MarkKind.TheVariants as mark_kinds
use Rattle.query_tree.specs.declared.kind.ListKind.{ListKind}
use Rattle.query_tree.specs.declared.kind.ListKind.TheVariants as lists
use Rattle.query_tree.specs.Marks.{may_mark}
use Rattle.query_reader.specs.declared.token.Token.{Token}
use Rattle.query_reader.specs.declared.token.TokenKind.{TokenKind}
use Rattle.query_reader.specs.declared.token.TokenKind.TheVariants as tokens
use Rattle.query_reader.specs.declared.operator.Operator.{Operator}
use Rattle.query_reader.specs.declared.operator.Operator.TheVariants as operators
use Rattle.query_reader.specs.declared.value.OptionName.{OptionName}
use Rattle.query_reader.specs.declared.value.OptionName.TheVariants as options
use Rattle.query_reader.specs.Spans.{AreTokensOf}
use Rattle.query_reader.specs.Operators.{operator_of}
use Rattle.query_reader.specs.Values.{option_of, hits_of, weight_of}
use Rattle.query_reader.specs.Reading.{Lexeme, lexeme_of, QueryFault}

-- what stands directly inside a list: an atom, or a list from its parenthesis to its end
pub data Item : Type 0 where
  atom : TokenKind → List ℕ → Item
  whole_list : Item

-- What is written so far: the items of the innermost open list, and those of each list around it, up to
-- what stands outside of all lists; where none is open, only these. The last item and the innermost
-- list come first. And how many nodes began.
pub record Outline : Type 0 where
  pub own : List Item
  pub around : List (List Item)
  pub nodes : ℕ

abbrev pub nothing : Outline
nothing = record { own = []; around = []; nodes = 0 }

-- the operator of a list: the name that stands first in it
abbrev pub named_operator : Item → Option Operator
named_operator (atom tokens.Name bytes) = operator_of bytes
named_operator item = None

abbrev pub operator_in : List Item → Option Operator
operator_in [] = None
operator_in (first ∷ []) = named_operator first
operator_in (item ∷ (before ∷ items)) = operator_in (before ∷ items)

abbrev pub operator_around : List (List Item) → Option Operator
operator_around [] = None
operator_around (items ∷ others) = operator_in items

-- its operands: leaves, which are terms and stems, and whole lists
abbrev pub is_operand : Item → Bool
is_operand (atom tokens.Term bytes) = true
is_operand (atom tokens.Stem bytes) = true
is_operand (atom kind bytes) = false
is_operand whole_list = true

abbrev pub one_more : Bool → ℕ → ℕ
one_more true count = count + 1
one_more false count = count

abbrev pub operands_in : List Item → ℕ
operands_in [] = 0
operands_in (item ∷ items) = one_more (is_operand item) (operands_in items)

-- whether its prefix was given
abbrev pub is_prefix : Item → Bool
is_prefix (atom tokens.Prefix bytes) = true
is_prefix item = false

abbrev pub has_prefix : List Item → Bool
has_prefix [] = false
has_prefix (item ∷ items) = is_prefix item || has_prefix items

-- its options; where the last item is one, its value is due
abbrev pub named_option : Item → Option OptionName
named_option (atom tokens.Option bytes) = option_of bytes
named_option item = None

abbrev pub has_option : List Item → Bool
has_option [] = false
has_option (item ∷ items) = is_some (named_option item) || has_option items

abbrev pub value_due : List Item → Option OptionName
value_due [] = None
value_due (item ∷ items) = named_option item

-- An option is given once, and of a count and a weight at most one is.
abbrev pub excludes : OptionName → OptionName → Bool
excludes options.Limit options.Limit = true
excludes (options.Mark given) (options.Mark kind) = true
excludes given name = false

abbrev pub is_excluded : OptionName → List Item → Bool
is_excluded name [] = false
is_excluded name (item ∷ items) =
    option_map_or (λ given. excludes given name) (named_option item) false || is_excluded name items

-- A limit is allowed in a join, and a count or a weight in a list that is an operand of one that takes
-- it, by the two lists' operators.
abbrev pub is_allowed : ℕ → OptionName → Option Operator → Option Operator → Bool
is_allowed format options.Limit (Some (operators.Join kind)) around = true
is_allowed format (options.Mark kind) own (Some (operators.List list)) = may_mark format list kind
is_allowed format name own around = false

-- a value is a number or a fraction, in its range
abbrev pub is_value : Dialect → OptionName → TokenKind → List ℕ → Bool
is_value dialect options.Limit tokens.Number bytes = is_some (number_between 1 dialect.join_limit bytes)
is_value dialect (options.Mark mark_kinds.Hits) tokens.Number bytes = is_some (hits_of bytes)
is_value dialect (options.Mark mark_kinds.Weight) tokens.Fraction bytes = is_some (weight_of bytes)
is_value dialect name kind bytes = false

-- the least and the greatest number of operands
abbrev pub least_of : ListKind → ℕ
least_of lists.Difference = 2
least_of kind = 1

abbrev pub most_of : Dialect → ListKind → ℕ
most_of dialect lists.Difference = 2
most_of dialect kind = dialect.operands

-- a code unless the token is one that is due
abbrev pub unless : Bool → ℕ → Option ℕ
unless true code = None
unless false code = Some code

-- Where a node begins: a parenthesis has 37 where as many are open as may be. If not, it has 38 where as
-- many nodes began as may, and so has a bare leaf.
abbrev pub many_code : Dialect → ℕ → Option ℕ
many_code dialect nodes = if nat_le dialect.nodes nodes then Some 38 else None

abbrev pub node_code : Dialect → ℕ → ℕ → TokenKind → Option ℕ
node_code dialect depth nodes tokens.Left = if nat_le dialect.depth depth then Some 37 else many_code dialect nodes
node_code dialect depth nodes kind = many_code dialect nodes

-- Outside of all lists: one node, in place of which any other token has 31; after it any token has 33.
abbrev pub outside_code : Dialect → List Item → ℕ → TokenKind → Option ℕ
outside_code dialect [] nodes tokens.Left = node_code dialect 0 nodes tokens.Left
outside_code dialect [] nodes tokens.Term = node_code dialect 0 nodes tokens.Term
outside_code dialect [] nodes tokens.Stem = node_code dialect 0 nodes tokens.Stem
outside_code dialect [] nodes kind = Some 31
outside_code dialect (item ∷ items) nodes kind = Some 33

-- After a parenthesis: the name of an operator, in place of which any other token has 34.
abbrev pub operator_code : TokenKind → List ℕ → Option ℕ
operator_code tokens.Name bytes = unless (is_some (operator_of bytes)) 34
operator_code kind bytes = Some 34

-- After `term`: a leaf, in place of which the list's end has 35, and any other token 31.
abbrev pub term_code : TokenKind → Option ℕ
term_code tokens.Term = None
term_code tokens.Stem = None
term_code tokens.Right = Some 35
term_code kind = Some 31

-- After the operator of a join: a prefix, in place of which the list's end or an option has 35, and any
-- other token 31.
abbrev pub prefix_code : TokenKind → Option ℕ
prefix_code tokens.Prefix = None
prefix_code tokens.Right = Some 35
prefix_code tokens.Option = Some 35
prefix_code kind = Some 31

-- Then operands, from a least to a greatest number of them, up to an option or the list's end, with so
-- many so far. A node has 35 where it is one too many, and only if not a code as a node. An option and
-- the end have 35 where there are too few. Any other token has 31.
abbrev pub operands_code : ℕ → ℕ → ℕ → Option ℕ → Option ℕ → TokenKind → Option ℕ
operands_code least most count at_node at_option tokens.Left = if nat_le most count then Some 35 else at_node
operands_code least most count at_node at_option tokens.Term = if nat_le most count then Some 35 else at_node
operands_code least most count at_node at_option tokens.Stem = if nat_le most count then Some 35 else at_node
operands_code least most count at_node at_option tokens.Option = if nat_lt count least then Some 35 else at_option
operands_code least most count at_node at_option tokens.Right = if nat_lt count least then Some 35 else None
operands_code least most count at_node at_option kind = Some 31

-- An option has 36 where it is unknown, not allowed there, or given before.
abbrev pub option_code : Dialect → List Item → List (List Item) → Option OptionName → Option ℕ
option_code dialect own around None = Some 36
option_code dialect own around (Some name) =
    unless (is_allowed dialect.format name (operator_in own) (operator_around around) && not (is_excluded name own)) 36

-- After an option and its value: another option or the list's end. Any other token has 36.
abbrev pub after_code : Option ℕ → TokenKind → Option ℕ
after_code at_option tokens.Option = at_option
after_code at_option tokens.Right = None
after_code at_option kind = Some 36

-- In a list without options, by its operator, where it has one. The leaf of `term` is its one operand,
-- and so is the node of a join.
abbrev pub body_code : Dialect → Option Operator → Bool → ℕ → Option ℕ → Option ℕ → TokenKind → List ℕ → Option ℕ
body_code dialect None prefixed count at_node at_option kind bytes = operator_code kind bytes
body_code dialect (Some operators.Term) prefixed count at_node at_option kind bytes =
    if count == 0 then term_code kind else operands_code 1 1 count at_node at_option kind
body_code dialect (Some (operators.Join join)) prefixed count at_node at_option kind bytes =
    if prefixed then operands_code 1 1 count at_node at_option kind else prefix_code kind
body_code dialect (Some (operators.List list)) prefixed count at_node at_option kind bytes =
    operands_code (least_of list) (most_of dialect list) count at_node at_option kind

-- In a list: where an option's value is due, any other token has 36.
abbrev pub inside_code : Dialect → List Item → List (List Item) → ℕ → TokenKind → List ℕ → Option ℕ
inside_code dialect own around nodes kind bytes =
    let at_option : Option ℕ = option_code dialect own around (option_of bytes) in
    let at_node : Option ℕ = node_code dialect (length around) nodes kind in
    option_map_or (λ name. unless (is_value dialect name kind bytes) 36) (value_due own) (
    if has_option own then after_code at_option kind
    else body_code dialect (operator_in own) (has_prefix own) (operands_in own) at_node at_option kind bytes
    )

abbrev pub code_in : Dialect → List Item → List (List Item) → ℕ → TokenKind → List ℕ → Option ℕ
code_in dialect own [] nodes kind bytes = outside_code dialect own nodes kind
code_in dialect own (items ∷ others) nodes kind bytes = inside_code dialect own (items ∷ others) nodes kind bytes

-- the code of a token after what is written, or none where it goes on
abbrev pub code_at : Dialect → Outline → Lexeme → Option ℕ
code_at dialect outline token = code_in dialect outline.own outline.around outline.nodes token.kind token.bytes

-- What is written with one more token. A node begins at each parenthesis and at each leaf but that of
-- `term`.
abbrev pub is_term : Option Operator → Bool
is_term (Some operators.Term) = true
is_term operator = false

abbrev pub written : List Item → List (List Item) → ℕ → TokenKind → List ℕ → Outline
written own around nodes tokens.Left bytes = record { own = []; around = own ∷ around; nodes = nodes + 1 }
written own (items ∷ others) nodes tokens.Right bytes = record { own = whole_list ∷ items; around = others; nodes = nodes }
written own around nodes tokens.Term bytes =
    record { own = atom tokens.Term bytes ∷ own; around = around; nodes = one_more (not (is_term (operator_in own))) nodes }
written own around nodes tokens.Stem bytes =
    record { own = atom tokens.Stem bytes ∷ own; around = around; nodes = one_more (not (is_term (operator_in own))) nodes }
written own around nodes kind bytes = record { own = atom kind bytes ∷ own; around = around; nodes = nodes }

abbrev pub with_token : Outline → Lexeme → Outline
with_token outline token = written outline.own outline.around outline.nodes token.kind token.bytes

abbrev pub with_tokens : Outline → List Lexeme → Outline
with_tokens outline [] = outline
with_tokens outline (token ∷ others) = with_tokens (with_token outline token) others

-- none of these tokens has a code
abbrev pub GoOn : Dialect → Outline → List Lexeme → Type 0
GoOn dialect outline [] = Unit {0}
GoOn dialect outline (token ∷ others) = (code_at dialect outline token ≡ None) × GoOn dialect (with_token outline token) others

-- a node is written, and no list is open
abbrev pub is_whole : List Item → List (List Item) → Bool
is_whole (item ∷ items) [] = true
is_whole own around = false

-- The fault of tokens after what is written: it stands at the first of them with a code, and has that
-- code; or at the end with 32, where none has a code and a list is open or nothing is written.
abbrev pub IsCodedFault : Dialect → ℕ → Outline → List Lexeme → ℕ → ℕ → Type 0
IsCodedFault dialect end outline all code column =
    (GoOn dialect outline all × (is_whole (with_tokens outline all).own (with_tokens outline all).around ≡ false) × (code ≡ 32) × (column ≡ end))
    ⊎ ((front : List Lexeme) × ((token : Lexeme) × ((rest : List Lexeme) × (
    (all ≡ front ++ token ∷ rest)
    × GoOn dialect outline front
    × (code_at dialect (with_tokens outline front) token ≡ Some code)
    × (token.column ≡ column)
    ))))

-- A text whose atoms are all in some form has exactly the fault of its tokens, with its code and column.
pub record FaultHasItsCode : Type 0 where
  pub codes :
      (dialect : Dialect) → (text : List ℕ) → (lexed : List Token) → (code : ℕ) → (column : ℕ) → AreTokensOf dialect.format text lexed
      → QueryFault dialect text code column ↔ IsCodedFault dialect (length text + 1) nothing (map (lexeme_of text) lexed) code column
