-- Faults and nodes stand in the text that is read.
use Rattle.std.proofs.Common.{ℕ, zero, suc, ◌+◌, ◌-◌, ◌≤◌, ◌<◌, Bool, true, false, List, [], ◌∷◌, length, map, Option, None, Some, Result, Ok, Err, subst, arith, cond}
use Rattle.std.specs.Prelude.{nat_le, nat_lt}
use Rattle.std.specs.List.{AllByRecursion}
use Rattle.query_tree.specs.declared.dialect.Dialect.{Dialect}
use Rattle.query_tree.specs.declared.kind.JoinKind.{JoinKind}
use Rattle.query_tree.specs.declared.kind.ListKind.{ListKind}
use Rattle.query_tree.specs.declared.kind.TermKind.{TermKind}
use Rattle.query_tree.specs.declared.kind.TermKind.TheVariants as terms
use Rattle.query_tree.specs.declared.query.Mark.{Mark}
use Rattle.query_tree.specs.declared.query.Mark.TheVariants.{Plain}
use Rattle.query_tree.specs.Tree.{Tree, Forest, term_at, no_operands, with_operand}
use Rattle.query_tree.specs.Within.{operand_count}
use Rattle.query_reader.specs.declared.token.Token.{Token}
use Rattle.query_reader.specs.declared.token.TokenKind.{TokenKind}
use Rattle.query_reader.specs.declared.token.TokenKind.TheVariants as tokens
use Rattle.query_reader.specs.declared.operator.Operator.{Operator}
use Rattle.query_reader.specs.declared.operator.Operator.TheVariants as operators
use Rattle.query_reader.specs.declared.value.OptionName.{OptionName}
use Rattle.query_reader.specs.declared.value.OptionName.TheVariants as options
use Rattle.query_reader.specs.declared.open_list.Tail.{Tail}
use Rattle.query_reader.specs.declared.open_list.Tail.TheVariants as tails
use Rattle.query_reader.specs.Tokens.{is_space, front, Piece, pieces, kind_of, with_piece, tokens_of, text_tokens}
use Rattle.query_reader.specs.Operators.{operator_of}
use Rattle.query_reader.specs.Values.{option_of}
use Rattle.query_reader.specs.Reading.{Lexeme, Refused, Part, operator_due, term_due, term_read, operands_read, prefix_due, node_due, node_read, OpenList, State, start, refuse, going_on, add_operand, part_with, deliver, pair_of, prefix_of, begin_list, bare_term, begin_term, node_token, first_part, operator_found, operator_token, term_found, term_token, prefix_found, prefix_token, parent_kind, may_take, option_found, option_token, with_limit, with_mark, limit_value, mark_value, value_token, node_of, closed, close, end_token, least_operands, most_operands, operands_token, after_option, part_token, tail_token, step_in, step, ended, go_on, read_from, lexeme_of, tokens_read, text_read}
use Rattle.query_reader.specs.Near.{AreColumnsWithin, AreOperandsWithin, IsColumn, IsGrammarCode, FaultsAreNear}

-- what was read of a list stands up to an edge
abbrev PartNear : ℕ → Part → Type 0
PartNear edge (term_read column kind type_name key) = IsColumn edge column
PartNear edge (operands_read kind forest) = AreOperandsWithin edge forest
PartNear edge (node_due join column type_name) = IsColumn edge column
PartNear edge (node_read join column type_name node) = IsColumn edge column × AreColumnsWithin edge node
PartNear edge part = Unit {0}

abbrev ListsNear : ℕ → List OpenList → Type 0
ListsNear edge [] = Unit {0}
ListsNear edge (list ∷ lists) = IsColumn edge list.column × PartNear edge list.part × ListsNear edge lists

abbrev WholeNear : ℕ → Option Tree → Type 0
WholeNear edge None = Unit {0}
WholeNear edge (Some node) = AreColumnsWithin edge node

-- and so does what a token leads to
abbrev StepNear : ℕ → Result State Refused → Type 0
StepNear edge (Ok state) = ListsNear edge state.open_lists × WholeNear edge state.whole
StepNear edge (Err fault) = IsGrammarCode fault.code × IsColumn edge fault.column

code-31 : IsGrammarCode 31
code-31 = (omega arith, omega arith)

code-32 : IsGrammarCode 32
code-32 = (omega arith, omega arith)

code-33 : IsGrammarCode 33
code-33 = (omega arith, omega arith)

code-34 : IsGrammarCode 34
code-34 = (omega arith, omega arith)

code-35 : IsGrammarCode 35
code-35 = (omega arith, omega arith)

code-36 : IsGrammarCode 36
code-36 = (omega arith, omega arith)

code-37 : IsGrammarCode 37
code-37 = (omega arith, omega arith)

code-38 : IsGrammarCode 38
code-38 = (omega arith, omega arith)

-- one more node
operands_more : (edge : ℕ) (forest : Forest) (node : Tree) (mark : Mark) → AreOperandsWithin edge forest → AreColumnsWithin edge node
    → AreOperandsWithin edge (add_operand forest node mark)
operands_more edge no_operands node mark near one = (one, tt)
operands_more edge (with_operand first first_mark others) node mark near one = (near.0, operands_more edge others node mark near.1 one)

part_more : (edge : ℕ) (part : Part) (node : Tree) (mark : Mark) → PartNear edge part → AreColumnsWithin edge node → PartNear edge (part_with part node mark)
part_more edge (operands_read kind forest) node mark near one = operands_more edge forest node mark near one
part_more edge (node_due join column type_name) node mark near one = (near, one)
part_more edge part node mark near one = near

first_near : (edge : ℕ) (operator : Operator) → PartNear edge (first_part operator)
first_near edge operators.Term = tt
first_near edge (operators.List kind) = tt
first_near edge (operators.Join kind) = tt

module _ (edge : ℕ) (dialect : Dialect) (token : Lexeme) (at : IsColumn edge token.column) where
  unless : (test : Bool) (one other : Result State Refused) → StepNear edge one → StepNear edge other → StepNear edge (cond test one other)
  unless true one other first second = first
  unless false one other first second = second

  deliver_near : (lists : List OpenList) (nodes : ℕ) (node : Tree) (mark : Mark) → ListsNear edge lists → AreColumnsWithin edge node → StepNear edge (deliver lists nodes node mark)
  deliver_near [] nodes node mark near one = (tt, one)
  deliver_near (list ∷ lists) nodes node mark near one = ((near.0, part_more edge list.part node mark near.1 one, near.2), tt)

  begin_list_near : (lists : List OpenList) (nodes : ℕ) → ListsNear edge lists → StepNear edge (begin_list dialect lists nodes token)
  begin_list_near lists nodes near =
      let opened : Result State Refused =
      going_on (record { column = token.column; part = operator_due; mark = Plain; limit = None; tail = tails.NoOption } ∷ lists) (nodes + 1) in
      unless (nat_le dialect.depth (length lists)) (refuse 37 token) (cond (nat_le dialect.nodes nodes) (refuse 38 token) opened) (code-37, at)
      (unless (nat_le dialect.nodes nodes) (refuse 38 token) opened (code-38, at) ((at, tt, near), tt))

  begin_term_near : (lists : List OpenList) (nodes : ℕ) (kind : TermKind) → ListsNear edge lists → StepNear edge (begin_term dialect lists nodes token kind)
  begin_term_near lists nodes kind near =
      unless (nat_le dialect.nodes nodes) (refuse 38 token) (bare_term lists (nodes + 1) token kind (pair_of kind token.bytes)) (code-38, at)
      (found (pair_of kind token.bytes))
    where
      found : (pair : Option (List ℕ × List ℕ)) → StepNear edge (bare_term lists (nodes + 1) token kind pair)
      found None = (code-31, at)
      found (Some pair) = deliver_near lists (nodes + 1) (term_at token.column kind pair.0 pair.1) Plain near at

  node_near : (lists : List OpenList) (nodes missing : ℕ) (kind : TokenKind) → IsGrammarCode missing → ListsNear edge lists
      → StepNear edge (node_token dialect lists nodes token missing kind)
  node_near lists nodes missing tokens.Left code near = begin_list_near lists nodes near
  node_near lists nodes missing tokens.Term code near = begin_term_near lists nodes terms.Whole near
  node_near lists nodes missing tokens.Stem code near = begin_term_near lists nodes terms.Prefix near
  node_near lists nodes missing tokens.Right code near = (code, at)
  node_near lists nodes missing tokens.Option code near = (code, at)
  node_near lists nodes missing kind code near = (code-31, at)

  operator_near : (list : OpenList) (lists : List OpenList) (nodes : ℕ) (kind : TokenKind) → ListsNear edge (list ∷ lists)
      → StepNear edge (operator_token list lists nodes token kind)
  operator_near list lists nodes tokens.Name near = found (operator_of token.bytes)
    where
      found : (operator : Option Operator) → StepNear edge (operator_found list lists nodes token operator)
      found None = (code-34, at)
      found (Some operator) = ((near.0, first_near edge operator, near.2), tt)
  operator_near list lists nodes kind near = (code-34, at)

  term_found_near : (list : OpenList) (lists : List OpenList) (nodes : ℕ) (kind : TermKind) (pair : Option (List ℕ × List ℕ)) → ListsNear edge (list ∷ lists)
      → StepNear edge (term_found list lists nodes token kind pair)
  term_found_near list lists nodes kind None near = (code-31, at)
  term_found_near list lists nodes kind (Some pair) near = ((near.0, at, near.2), tt)

  term_near : (list : OpenList) (lists : List OpenList) (nodes : ℕ) (kind : TokenKind) → ListsNear edge (list ∷ lists)
      → StepNear edge (term_token list lists nodes token kind)
  term_near list lists nodes tokens.Term near = term_found_near list lists nodes terms.Whole (pair_of terms.Whole token.bytes) near
  term_near list lists nodes tokens.Stem near = term_found_near list lists nodes terms.Prefix (pair_of terms.Prefix token.bytes) near
  term_near list lists nodes tokens.Right near = (code-35, at)
  term_near list lists nodes kind near = (code-31, at)

  prefix_near : (list : OpenList) (lists : List OpenList) (nodes : ℕ) (join : JoinKind) (kind : TokenKind) → ListsNear edge (list ∷ lists)
      → StepNear edge (prefix_token list lists nodes token join kind)
  prefix_near list lists nodes join tokens.Prefix near = found (prefix_of token.bytes)
    where
      found : (name : Option (List ℕ)) → StepNear edge (prefix_found list lists nodes token join name)
      found None = (code-31, at)
      found (Some name) = ((near.0, at, near.2), tt)
  prefix_near list lists nodes join tokens.Right near = (code-35, at)
  prefix_near list lists nodes join tokens.Option near = (code-35, at)
  prefix_near list lists nodes join kind near = (code-31, at)

  option_near : (list : OpenList) (lists : List OpenList) (nodes : ℕ) → ListsNear edge (list ∷ lists) → StepNear edge (option_token dialect list lists nodes token)
  option_near list lists nodes near = found (option_of token.bytes)
    where
      found : (name : Option OptionName) → StepNear edge (option_found dialect list lists nodes token name)
      found None = (code-36, at)
      found (Some name) =
          unless (may_take dialect.format name list (parent_kind lists)) (going_on (record list { tail = tails.ValueDue name } ∷ lists) nodes) (refuse 36 token)
          (near, tt) (code-36, at)

  limit_near : (list : OpenList) (lists : List OpenList) (nodes : ℕ) (limit : Option ℕ) → ListsNear edge (list ∷ lists)
      → StepNear edge (with_limit list lists nodes token limit)
  limit_near list lists nodes None near = (code-36, at)
  limit_near list lists nodes (Some limit) near = (near, tt)

  mark_near : (list : OpenList) (lists : List OpenList) (nodes : ℕ) (mark : Option Mark) → ListsNear edge (list ∷ lists)
      → StepNear edge (with_mark list lists nodes token mark)
  mark_near list lists nodes None near = (code-36, at)
  mark_near list lists nodes (Some mark) near = (near, tt)

  value_near : (list : OpenList) (lists : List OpenList) (nodes : ℕ) (name : OptionName) → ListsNear edge (list ∷ lists)
      → StepNear edge (value_token dialect list lists nodes token name)
  value_near list lists nodes options.Limit near = limit_near list lists nodes (limit_value dialect token token.kind) near
  value_near list lists nodes (options.Mark name) near = mark_near list lists nodes (mark_value name token token.kind) near

  close_near : (list : OpenList) (lists : List OpenList) (nodes : ℕ) → ListsNear edge (list ∷ lists) → StepNear edge (close dialect list lists nodes token)
  close_near list lists nodes near = ends list.part near.1
    where
      ends : (part : Part) → PartNear edge part → StepNear edge (closed list lists nodes token (node_of dialect list part))
      ends (term_read column kind type_name key) one = deliver_near lists nodes _ list.mark near.2 one
      ends (operands_read kind forest) one = deliver_near lists nodes _ list.mark near.2 (near.0, one)
      ends (node_read join column type_name node) one = deliver_near lists nodes _ list.mark near.2 (near.0, one.0, one.1)
      ends part one = (code-36, at)

  end_near : (list : OpenList) (lists : List OpenList) (nodes : ℕ) (kind : TokenKind) → ListsNear edge (list ∷ lists)
      → StepNear edge (end_token dialect list lists nodes token kind)
  end_near list lists nodes tokens.Right near = close_near list lists nodes near
  end_near list lists nodes tokens.Option near = option_near list lists nodes near
  end_near list lists nodes tokens.Left near = (code-35, at)
  end_near list lists nodes tokens.Term near = (code-35, at)
  end_near list lists nodes tokens.Stem near = (code-35, at)
  end_near list lists nodes kind near = (code-31, at)

  operands_near : (list : OpenList) (lists : List OpenList) (nodes : ℕ) (kind : ListKind) (count : ℕ) (token_kind : TokenKind) → ListsNear edge (list ∷ lists)
      → StepNear edge (operands_token dialect list lists nodes token kind count token_kind)
  operands_near list lists nodes kind count tokens.Left near =
      unless (nat_le (most_operands dialect kind) count) (refuse 35 token) (begin_list dialect (list ∷ lists) nodes token)
      (code-35, at) (begin_list_near (list ∷ lists) nodes near)
  operands_near list lists nodes kind count tokens.Term near =
      unless (nat_le (most_operands dialect kind) count) (refuse 35 token) (begin_term dialect (list ∷ lists) nodes token terms.Whole)
      (code-35, at) (begin_term_near (list ∷ lists) nodes terms.Whole near)
  operands_near list lists nodes kind count tokens.Stem near =
      unless (nat_le (most_operands dialect kind) count) (refuse 35 token) (begin_term dialect (list ∷ lists) nodes token terms.Prefix)
      (code-35, at) (begin_term_near (list ∷ lists) nodes terms.Prefix near)
  operands_near list lists nodes kind count tokens.Right near =
      unless (nat_lt count (least_operands kind)) (refuse 35 token) (close dialect list lists nodes token)
      (code-35, at) (close_near list lists nodes near)
  operands_near list lists nodes kind count tokens.Option near =
      unless (nat_lt count (least_operands kind)) (refuse 35 token) (option_token dialect list lists nodes token)
      (code-35, at) (option_near list lists nodes near)
  operands_near list lists nodes kind count other near = (code-31, at)

  after_near : (list : OpenList) (lists : List OpenList) (nodes : ℕ) (kind : TokenKind) → ListsNear edge (list ∷ lists)
      → StepNear edge (after_option dialect list lists nodes token kind)
  after_near list lists nodes tokens.Option near = option_near list lists nodes near
  after_near list lists nodes tokens.Right near = close_near list lists nodes near
  after_near list lists nodes kind near = (code-36, at)

  part_near : (list : OpenList) (lists : List OpenList) (nodes : ℕ) (part : Part) → ListsNear edge (list ∷ lists)
      → StepNear edge (part_token dialect list lists nodes token part)
  part_near list lists nodes operator_due near = operator_near list lists nodes token.kind near
  part_near list lists nodes term_due near = term_near list lists nodes token.kind near
  part_near list lists nodes (term_read column kind type_name key) near = end_near list lists nodes token.kind near
  part_near list lists nodes (operands_read kind forest) near = operands_near list lists nodes kind (operand_count forest) token.kind near
  part_near list lists nodes (prefix_due join) near = prefix_near list lists nodes join token.kind near
  part_near list lists nodes (node_due join column type_name) near = node_near (list ∷ lists) nodes 35 token.kind code-35 near
  part_near list lists nodes (node_read join column type_name node) near = end_near list lists nodes token.kind near

  tail_near : (list : OpenList) (lists : List OpenList) (nodes : ℕ) (tail : Tail) → ListsNear edge (list ∷ lists)
      → StepNear edge (tail_token dialect list lists nodes token tail)
  tail_near list lists nodes tails.NoOption near = part_near list lists nodes list.part near
  tail_near list lists nodes (tails.ValueDue name) near = value_near list lists nodes name near
  tail_near list lists nodes tails.OptionRead near = after_near list lists nodes token.kind near

  step_near : (lists : List OpenList) (whole : Option Tree) (nodes : ℕ) → ListsNear edge lists → StepNear edge (step_in dialect lists whole nodes token)
  step_near [] None nodes near = node_near [] nodes 31 token.kind code-31 near
  step_near [] (Some node) nodes near = (code-33, at)
  step_near (list ∷ lists) whole nodes near = tail_near list lists nodes list.tail near

-- a query that is read stands up to an edge, and a fault up to the end past it
abbrev ReadNear : ℕ → ℕ → Result Tree Refused → Type 0
ReadNear edge end (Ok tree) = AreColumnsWithin edge tree
ReadNear edge end (Err fault) = IsGrammarCode fault.code × IsColumn end fault.column

ended_near : (edge end : ℕ) (whole : Option Tree) → edge < end → WholeNear edge whole → ReadNear edge end (ended end whole)
ended_near edge end None before near = (code-32, (omega arith, omega arith))
ended_near edge end (Some node) before near = near

-- after a step the rest stands so
goes_near : (edge end : ℕ) (result : Result State Refused) (later : State → Result Tree Refused) → edge < end → StepNear edge result
    → ((next : State) → ListsNear edge next.open_lists × WholeNear edge next.whole → ReadNear edge end (later next)) → ReadNear edge end (go_on result later)
goes_near edge end (Ok next) later before near others = others next near
goes_near edge end (Err fault) later before near others = (near.0, (near.1.0, omega (arith, near.1.1)))

-- tokens begin before an edge, and so does a piece in no form
abbrev IsNear : ℕ → Token → Type 0
IsNear edge token = token.from + 1 ≤ edge

abbrev TokensNear : ℕ → Result (List Token) ℕ → Type 0
TokensNear edge (Ok all) = AllByRecursion (IsNear edge) all
TokensNear edge (Err column) = IsColumn edge column

read_near : (edge end : ℕ) (dialect : Dialect) (text : List ℕ) (state : State) (all : List Token) → edge < end
    → ListsNear edge state.open_lists × WholeNear edge state.whole → AllByRecursion (IsNear edge) all
    → ReadNear edge end (read_from dialect end state (map (lexeme_of text) all))
read_near edge end dialect text state [] before near starts = ended_near edge end state.whole before near.1
read_near edge end dialect text state (token ∷ all) before near starts =
    goes_near edge end (step dialect state (lexeme_of text token)) (λ next. read_from dialect end next (map (lexeme_of text) all)) before
    (step_near edge dialect (lexeme_of text token) (omega arith, starts.0) state.open_lists state.whole state.nodes near.0)
    (λ next near_next. read_near edge end dialect text next all before near_next starts.1)

with_piece_near : (edge : ℕ) (piece : Piece) (kind : Option TokenKind) (others : Result (List Token) ℕ) → piece.from + 1 ≤ edge → TokensNear edge others
    → TokensNear edge (with_piece piece kind others)
with_piece_near edge piece None others at near = (omega arith, at)
with_piece_near edge piece (Some kind) (Ok others) at near = (at, near)
with_piece_near edge piece (Some kind) (Err column) at near = near

-- a space is passed, and any other byte begins a piece
front_near : (edge format at : ℕ) (c : ℕ) (cs : List ℕ) (space : Bool) (spaced others : List Piece) → at + 1 ≤ edge
    → TokensNear edge (tokens_of format spaced) → TokensNear edge (tokens_of format others)
    → TokensNear edge (tokens_of format (cond space spaced (record { from = at; bytes = front (c ∷ cs) } ∷ others)))
front_near edge format at c cs true spaced others here near_spaced near = near_spaced
front_near edge format at c cs false spaced others here near_spaced near =
    with_piece_near edge (record { from = at; bytes = front (c ∷ cs) }) (kind_of format (front (c ∷ cs))) (tokens_of format others) here near

pieces_near : (edge format at passed : ℕ) (text : List ℕ) → at + length text ≤ edge → TokensNear edge (tokens_of format (pieces at passed text))
pieces_near edge format at passed [] within = tt
pieces_near edge format at (suc passed) (c ∷ cs) within = pieces_near edge format (at + 1) passed cs (omega arith)
pieces_near edge format at zero (c ∷ cs) within =
    front_near edge format at c cs (is_space c) (pieces (at + 1) 0 cs) (pieces (at + 1) (length (front (c ∷ cs)) - 1) cs) (omega arith)
    (pieces_near edge format (at + 1) 0 cs (omega arith))
    (pieces_near edge format (at + 1) (length (front (c ∷ cs)) - 1) cs (omega arith))

tokens_near : (dialect : Dialect) (text : List ℕ) (all : Result (List Token) ℕ) → TokensNear (length text) all
    → ReadNear (length text) (length text + 1) (tokens_read dialect text all)
tokens_near dialect text (Ok all) near = read_near (length text) (length text + 1) dialect text start all (omega arith) (tt, tt) near
tokens_near dialect text (Err column) near = (code-31, (near.0, omega (arith, near.1)))

text_near : (dialect : Dialect) (text : List ℕ) → ReadNear (length text) (length text + 1) (text_read dialect text)
text_near dialect text =
    tokens_near dialect text (text_tokens dialect.format text) (pieces_near (length text) dialect.format 0 0 text (omega arith))

pub faults_are_near : FaultsAreNear
faults_are_near = record {
  fault =
      λ dialect text code column is_fault.
      subst (ReadNear (length text) (length text + 1)) is_fault (text_near dialect text);
  tree = λ dialect text tree is_read. subst (ReadNear (length text) (length text + 1)) is_read (text_near dialect text);
}
