-- A query read from the left, with a list of the open lists.
use Rattle.std.specs.Prelude.{ℕ, ◌≡◌, Bool, true, false, ◌&&◌, ◌+◌, nat_le, nat_lt, is_none, slice_range, map, List, [], ◌∷◌, length, Option, Some, None, unwrap_or, ok_or, Result, Ok, Err, if◌then◌else◌}
use Rattle.std.specs.Option.{option_and_then, option_map, option_map_or}
use Rattle.uni_base.specs.Words.{is_word}
use Rattle.uni_base.specs.Fields.{cut_at}
use Rattle.uni_base.specs.Numbers.{number_between}
use Rattle.query_tree.specs.declared.dialect.Dialect.{Dialect}
use Rattle.query_tree.specs.declared.kind.TermKind.{TermKind}
use Rattle.query_tree.specs.declared.kind.TermKind.TheVariants as terms
use Rattle.query_tree.specs.declared.kind.MarkKind.{MarkKind}
use Rattle.query_tree.specs.declared.kind.MarkKind.TheVariants as mark_kinds
use Rattle.query_tree.specs.declared.kind.ListKind.{ListKind}
use Rattle.query_tree.specs.declared.kind.ListKind.TheVariants as lists
use Rattle.query_tree.specs.declared.kind.JoinKind.{JoinKind}
use Rattle.query_tree.specs.declared.query.Mark.{Mark}
use Rattle.query_tree.specs.declared.query.Mark.TheVariants as marks
use Rattle.query_tree.specs.Tree.{Tree, Forest, term_at, list_at, join_at, no_operands, with_operand}
use Rattle.query_tree.specs.Marks.{may_mark}
use Rattle.query_tree.specs.Within.{limit_unless_given, operand_count}
use Rattle.query_reader.specs.declared.token.Token.{Token}
use Rattle.query_reader.specs.declared.token.TokenKind.{TokenKind}
use Rattle.query_reader.specs.declared.token.TokenKind.TheVariants as tokens
use Rattle.query_reader.specs.declared.operator.Operator.{Operator}
use Rattle.query_reader.specs.declared.operator.Operator.TheVariants as operators
use Rattle.query_reader.specs.declared.value.OptionName.{OptionName}
use Rattle.query_reader.specs.declared.value.OptionName.TheVariants as options
use Rattle.query_reader.specs.declared.open_list.Tail.{Tail}
use Rattle.query_reader.specs.declared.open_list.Tail.TheVariants as tails
use Rattle.query_reader.specs.Atoms.{starred_word}
use Rattle.query_reader.specs.Tokens.{text_tokens}
use Rattle.query_reader.specs.Operators.{operator_of}
use Rattle.query_reader.specs.Values.{option_of, hits_of, weight_of}

-- a token with its column and its bytes
pub record Lexeme : Type 0 where
  pub column : ℕ
  pub kind : TokenKind
  pub bytes : List ℕ

-- the first fault: its code and its column
pub record Refused : Type 0 where
  pub code : ℕ
  pub column : ℕ

-- what an open list has so far, and what it waits for
pub data Part : Type 0 where
  operator_due : Part
  term_due : Part
  term_read : ℕ → TermKind → List ℕ → List ℕ → Part
  operands_read : ListKind → Forest → Part
  prefix_due : JoinKind → Part
  node_due : JoinKind → ℕ → List ℕ → Part
  node_read : JoinKind → ℕ → List ℕ → Tree → Part

-- an open list: where it opened, its part, its options and whether a value or an end is due
pub record OpenList : Type 0 where
  pub column : ℕ
  pub part : Part
  pub mark : Mark
  pub limit : Option ℕ
  pub tail : Tail

-- the open lists, the innermost first; the whole query, once it is read; the number of nodes
pub record State : Type 0 where
  pub open_lists : List OpenList
  pub whole : Option Tree
  pub nodes : ℕ

abbrev pub start : State
start = record { open_lists = []; whole = None; nodes = 0 }

abbrev pub refuse : ℕ → Lexeme → Result State Refused
refuse code token = Err (record { code = code; column = token.column })

abbrev pub going_on : List OpenList → ℕ → Result State Refused
going_on open_lists nodes = Ok (record { open_lists = open_lists; whole = None; nodes = nodes })

-- one more operand at the end
abbrev pub add_operand : Forest → Tree → Mark → Forest
add_operand no_operands node mark = with_operand node mark no_operands
add_operand (with_operand first first_mark others) node mark = with_operand first first_mark (add_operand others node mark)

-- a list with a node that was read in it
abbrev pub part_with : Part → Tree → Mark → Part
part_with (operands_read kind forest) node mark = operands_read kind (add_operand forest node mark)
part_with (node_due kind column type_name) node mark = node_read kind column type_name node
part_with part node mark = part

-- a node that was read goes to the innermost list, or is the whole query
abbrev pub deliver : List OpenList → ℕ → Tree → Mark → Result State Refused
deliver [] nodes node mark = Ok (record { open_lists = []; whole = Some node; nodes = nodes })
deliver (list ∷ lists) nodes node mark = going_on (record list { part = part_with list.part node mark } ∷ lists) nodes

-- the word of a term's key: what stands before the star of a prefix term
abbrev pub key_of : TermKind → List ℕ → Option (List ℕ)
key_of terms.Whole text = if is_word text then Some text else None
key_of terms.Prefix text = starred_word text

-- the two words at a term's colon
abbrev pub both_words : TermKind → Option (List ℕ × List ℕ) → Option (List ℕ × List ℕ)
both_words kind =
    option_and_then (λ parts. if is_word parts.0 then option_map (λ key. (parts.0, key)) (key_of kind parts.1) else None)

abbrev pub pair_of : TermKind → List ℕ → Option (List ℕ × List ℕ)
pair_of kind atom = both_words kind (cut_at 58 atom)

-- the word before a prefix's colon
abbrev pub front_word : Option (List ℕ × List ℕ) → Option (List ℕ)
front_word = option_and_then (λ parts. if is_word parts.0 then Some parts.0 else None)

abbrev pub prefix_of : List ℕ → Option (List ℕ)
prefix_of atom = front_word (cut_at 58 atom)

-- a parenthesis opens a list, a node: 37 where too many are open, 38 where there are too many nodes
abbrev pub begin_list : Dialect → List OpenList → ℕ → Lexeme → Result State Refused
begin_list dialect lists nodes token =
    if nat_le dialect.depth (length lists) then refuse 37 token
    else (
    if nat_le dialect.nodes nodes then refuse 38 token
    else going_on (record { column = token.column; part = operator_due; mark = marks.Plain; limit = None; tail = tails.NoOption } ∷ lists) (nodes + 1)
    )

abbrev pub bare_term : List OpenList → ℕ → Lexeme → TermKind → Option (List ℕ × List ℕ) → Result State Refused
bare_term lists nodes token kind words =
    option_map_or (λ pair. deliver lists nodes (term_at token.column kind pair.0 pair.1) marks.Plain) words (refuse 31 token)

-- a bare term is a node
abbrev pub begin_term : Dialect → List OpenList → ℕ → Lexeme → TermKind → Result State Refused
begin_term dialect lists nodes token kind =
    if nat_le dialect.nodes nodes then refuse 38 token
    else bare_term lists (nodes + 1) token kind (pair_of kind token.bytes)

-- a node is due; a list's end or an option in its place has the code `missing`
abbrev pub node_token : Dialect → List OpenList → ℕ → Lexeme → ℕ → TokenKind → Result State Refused
node_token dialect lists nodes token missing tokens.Left = begin_list dialect lists nodes token
node_token dialect lists nodes token missing tokens.Term = begin_term dialect lists nodes token terms.Whole
node_token dialect lists nodes token missing tokens.Stem = begin_term dialect lists nodes token terms.Prefix
node_token dialect lists nodes token missing tokens.Right = refuse missing token
node_token dialect lists nodes token missing tokens.Option = refuse missing token
node_token dialect lists nodes token missing kind = refuse 31 token

-- what is known of an operator's list at first
abbrev pub first_part : Operator → Part
first_part operators.Term = term_due
first_part (operators.List kind) = operands_read kind no_operands
first_part (operators.Join kind) = prefix_due kind

abbrev pub with_part : OpenList → List OpenList → ℕ → Part → Result State Refused
with_part list lists nodes part = going_on (record list { part = part } ∷ lists) nodes

abbrev pub operator_found : OpenList → List OpenList → ℕ → Lexeme → Option Operator → Result State Refused
operator_found list lists nodes token name =
    option_map_or (λ operator. with_part list lists nodes (first_part operator)) name (refuse 34 token)

-- an operator's name is due
abbrev pub operator_token : OpenList → List OpenList → ℕ → Lexeme → TokenKind → Result State Refused
operator_token list lists nodes token tokens.Name = operator_found list lists nodes token (operator_of token.bytes)
operator_token list lists nodes token kind = refuse 34 token

abbrev pub term_found : OpenList → List OpenList → ℕ → Lexeme → TermKind → Option (List ℕ × List ℕ) → Result State Refused
term_found list lists nodes token kind words =
    option_map_or (λ pair. with_part list lists nodes (term_read token.column kind pair.0 pair.1)) words (refuse 31 token)

-- a term's atom is due
abbrev pub term_token : OpenList → List OpenList → ℕ → Lexeme → TokenKind → Result State Refused
term_token list lists nodes token tokens.Term =
    term_found list lists nodes token terms.Whole (pair_of terms.Whole token.bytes)
term_token list lists nodes token tokens.Stem =
    term_found list lists nodes token terms.Prefix (pair_of terms.Prefix token.bytes)
term_token list lists nodes token tokens.Right = refuse 35 token
term_token list lists nodes token kind = refuse 31 token

abbrev pub prefix_found : OpenList → List OpenList → ℕ → Lexeme → JoinKind → Option (List ℕ) → Result State Refused
prefix_found list lists nodes token join word =
    option_map_or (λ name. with_part list lists nodes (node_due join token.column name)) word (refuse 31 token)

-- a join's prefix is due
abbrev pub prefix_token : OpenList → List OpenList → ℕ → Lexeme → JoinKind → TokenKind → Result State Refused
prefix_token list lists nodes token join tokens.Prefix =
    prefix_found list lists nodes token join (prefix_of token.bytes)
prefix_token list lists nodes token join tokens.Right = refuse 35 token
prefix_token list lists nodes token join tokens.Option = refuse 35 token
prefix_token list lists nodes token join kind = refuse 31 token

-- the operator of a list over operands
abbrev pub part_kind : Part → Option ListKind
part_kind (operands_read kind forest) = Some kind
part_kind part = None

abbrev pub parent_kind : List OpenList → Option ListKind
parent_kind [] = None
parent_kind (list ∷ lists) = part_kind list.part

abbrev pub is_join : Part → Bool
is_join (node_read join column type_name node) = true
is_join part = false

abbrev pub is_plain : Mark → Bool
is_plain marks.Plain = true
is_plain mark = false

-- where an option may stand: a limit once in a join, a mark once in an operand of a list that takes it
abbrev pub may_take : ℕ → OptionName → OpenList → Option ListKind → Bool
may_take format options.Limit list parent = is_join list.part && is_none list.limit
may_take format (options.Mark kind) list None = false
may_take format (options.Mark kind) list (Some operator) = may_mark format operator kind && is_plain list.mark

abbrev pub option_found : Dialect → OpenList → List OpenList → ℕ → Lexeme → Option OptionName → Result State Refused
option_found dialect list lists nodes token None = refuse 36 token
option_found dialect list lists nodes token (Some name) =
    if may_take dialect.format name list (parent_kind lists)
    then going_on (record list { tail = tails.ValueDue name } ∷ lists) nodes
    else refuse 36 token

abbrev pub option_token : Dialect → OpenList → List OpenList → ℕ → Lexeme → Result State Refused
option_token dialect list lists nodes token = option_found dialect list lists nodes token (option_of token.bytes)

abbrev pub with_limit : OpenList → List OpenList → ℕ → Lexeme → Option ℕ → Result State Refused
with_limit list lists nodes token None = refuse 36 token
with_limit list lists nodes token (Some limit) =
    going_on (record list { limit = Some limit; tail = tails.OptionRead } ∷ lists) nodes

abbrev pub with_mark : OpenList → List OpenList → ℕ → Lexeme → Option Mark → Result State Refused
with_mark list lists nodes token None = refuse 36 token
with_mark list lists nodes token (Some mark) =
    going_on (record list { mark = mark; tail = tails.OptionRead } ∷ lists) nodes

-- the value that a token of a kind gives an option: a number or a fraction in its range
abbrev pub limit_value : Dialect → Lexeme → TokenKind → Option ℕ
limit_value dialect token tokens.Number = number_between 1 dialect.join_limit token.bytes
limit_value dialect token kind = None

abbrev pub mark_value : MarkKind → Lexeme → TokenKind → Option Mark
mark_value mark_kinds.Hits token tokens.Number = hits_of token.bytes
mark_value mark_kinds.Weight token tokens.Fraction = weight_of token.bytes
mark_value name token kind = None

-- an option's value is due
abbrev pub value_token : Dialect → OpenList → List OpenList → ℕ → Lexeme → OptionName → Result State Refused
value_token dialect list lists nodes token options.Limit =
    with_limit list lists nodes token (limit_value dialect token token.kind)
value_token dialect list lists nodes token (options.Mark name) =
    with_mark list lists nodes token (mark_value name token token.kind)

-- the node of a list that may end
abbrev pub node_of : Dialect → OpenList → Part → Option Tree
node_of dialect list (term_read column kind type_name key) = Some (term_at column kind type_name key)
node_of dialect list (operands_read kind forest) = Some (list_at list.column kind forest)
node_of dialect list (node_read join column type_name node) =
    Some (join_at list.column join column type_name (unwrap_or list.limit (limit_unless_given dialect)) node)
node_of dialect list part = None

abbrev pub closed : OpenList → List OpenList → ℕ → Lexeme → Option Tree → Result State Refused
closed list lists nodes token ended = option_map_or (λ node. deliver lists nodes node list.mark) ended (refuse 36 token)

abbrev pub close : Dialect → OpenList → List OpenList → ℕ → Lexeme → Result State Refused
close dialect list lists nodes token = closed list lists nodes token (node_of dialect list list.part)

-- the list may end here
abbrev pub end_token : Dialect → OpenList → List OpenList → ℕ → Lexeme → TokenKind → Result State Refused
end_token dialect list lists nodes token tokens.Right = close dialect list lists nodes token
end_token dialect list lists nodes token tokens.Option = option_token dialect list lists nodes token
end_token dialect list lists nodes token tokens.Left = refuse 35 token
end_token dialect list lists nodes token tokens.Term = refuse 35 token
end_token dialect list lists nodes token tokens.Stem = refuse 35 token
end_token dialect list lists nodes token kind = refuse 31 token

-- the least and the greatest number of operands
abbrev pub least_operands : ListKind → ℕ
least_operands lists.Difference = 2
least_operands kind = 1

abbrev pub most_operands : Dialect → ListKind → ℕ
most_operands dialect lists.Difference = 2
most_operands dialect kind = dialect.operands

-- an operand may follow, or the end; so many operands were read
abbrev pub operands_token : Dialect → OpenList → List OpenList → ℕ → Lexeme → ListKind → ℕ → TokenKind → Result State Refused
operands_token dialect list lists nodes token kind count tokens.Left =
    if nat_le (most_operands dialect kind) count then refuse 35 token else begin_list dialect (list ∷ lists) nodes token
operands_token dialect list lists nodes token kind count tokens.Term =
    if nat_le (most_operands dialect kind) count then refuse 35 token
    else begin_term dialect (list ∷ lists) nodes token terms.Whole
operands_token dialect list lists nodes token kind count tokens.Stem =
    if nat_le (most_operands dialect kind) count then refuse 35 token
    else begin_term dialect (list ∷ lists) nodes token terms.Prefix
operands_token dialect list lists nodes token kind count tokens.Right =
    if nat_lt count (least_operands kind) then refuse 35 token else close dialect list lists nodes token
operands_token dialect list lists nodes token kind count tokens.Option =
    if nat_lt count (least_operands kind) then refuse 35 token else option_token dialect list lists nodes token
operands_token dialect list lists nodes token kind count other = refuse 31 token

-- after an option and its value only another one or the end may stand
abbrev pub after_option : Dialect → OpenList → List OpenList → ℕ → Lexeme → TokenKind → Result State Refused
after_option dialect list lists nodes token tokens.Option = option_token dialect list lists nodes token
after_option dialect list lists nodes token tokens.Right = close dialect list lists nodes token
after_option dialect list lists nodes token kind = refuse 36 token

abbrev pub part_token : Dialect → OpenList → List OpenList → ℕ → Lexeme → Part → Result State Refused
part_token dialect list lists nodes token operator_due = operator_token list lists nodes token token.kind
part_token dialect list lists nodes token term_due = term_token list lists nodes token token.kind
part_token dialect list lists nodes token (term_read column kind type_name key) =
    end_token dialect list lists nodes token token.kind
part_token dialect list lists nodes token (operands_read kind forest) =
    operands_token dialect list lists nodes token kind (operand_count forest) token.kind
part_token dialect list lists nodes token (prefix_due join) = prefix_token list lists nodes token join token.kind
part_token dialect list lists nodes token (node_due join column type_name) =
    node_token dialect (list ∷ lists) nodes token 35 token.kind
part_token dialect list lists nodes token (node_read join column type_name node) =
    end_token dialect list lists nodes token token.kind

abbrev pub tail_token : Dialect → OpenList → List OpenList → ℕ → Lexeme → Tail → Result State Refused
tail_token dialect list lists nodes token tails.NoOption = part_token dialect list lists nodes token list.part
tail_token dialect list lists nodes token (tails.ValueDue name) = value_token dialect list lists nodes token name
tail_token dialect list lists nodes token tails.OptionRead = after_option dialect list lists nodes token token.kind

-- outside of all lists one node is due, and nothing after it
abbrev pub outer_token : Dialect → Option Tree → ℕ → Lexeme → Result State Refused
outer_token dialect None nodes token = node_token dialect [] nodes token 31 token.kind
outer_token dialect (Some node) nodes token = refuse 33 token

abbrev pub step_in : Dialect → List OpenList → Option Tree → ℕ → Lexeme → Result State Refused
step_in dialect [] whole nodes token = outer_token dialect whole nodes token
step_in dialect (list ∷ lists) whole nodes token = tail_token dialect list lists nodes token list.tail

abbrev pub step : Dialect → State → Lexeme → Result State Refused
step dialect state token = step_in dialect state.open_lists state.whole state.nodes token

-- at the end the query is whole, or something is missing there
abbrev pub ended : ℕ → Option Tree → Result Tree Refused
ended column whole = ok_or whole (record { code = 32; column = column })

abbrev pub go_on : Result State Refused → (State → Result Tree Refused) → Result Tree Refused
go_on (Ok state) others = others state
go_on (Err fault) others = Err fault

-- the query that tokens give from a state on, or the first fault
abbrev pub read_from : Dialect → ℕ → State → List Lexeme → Result Tree Refused
read_from dialect column state [] = ended column state.whole
read_from dialect column state (token ∷ others) =
    go_on (step dialect state token) (λ next. read_from dialect column next others)

-- tokens with their columns and bytes
abbrev pub lexeme_of : List ℕ → Token → Lexeme
lexeme_of text token = record { column = token.from + 1; kind = token.kind; bytes = slice_range text token.from token.to }

abbrev pub tokens_read : Dialect → List ℕ → Result (List Token) ℕ → Result Tree Refused
tokens_read dialect text (Ok tokens) = read_from dialect (length text + 1) start (map (lexeme_of text) tokens)
tokens_read dialect text (Err column) = Err (record { code = 31; column = column })

-- the query of a text, or its first fault
abbrev pub text_read : Dialect → List ℕ → Result Tree Refused
text_read dialect text = tokens_read dialect text (text_tokens dialect.format text)

-- a text's first fault has this code and this column
abbrev pub QueryFault : Dialect → List ℕ → ℕ → ℕ → Type 0
QueryFault dialect text code column = text_read dialect text ≡ Err (record { code = code; column = column })
