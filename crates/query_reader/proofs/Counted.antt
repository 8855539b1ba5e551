-- What is read is within the limits: parentheses and nodes are counted token by token.
use Rattle.std.proofs.Common.{◌≡◌, ℕ, ◌+◌, ◌≤◌, ◌<◌, Bool, true, false, List, [], ◌∷◌, length, Option, None, Some, Result, Ok, Err, refl, sym, ap, subst, arith, cond}
use Rattle.std.specs.Prelude.{nat_le, nat_lt}
use Rattle.std.proofs.lemmas.Bool.{leb-false}
use Rattle.query_tree.specs.declared.dialect.Dialect.{Dialect}
use Rattle.query_tree.specs.declared.kind.MarkKind.{MarkKind}
use Rattle.query_tree.specs.declared.kind.MarkKind.TheVariants as mark_kinds
use Rattle.query_tree.specs.declared.kind.TermKind.{TermKind}
use Rattle.query_tree.specs.declared.kind.TermKind.TheVariants as terms
use Rattle.query_tree.specs.declared.kind.ListKind.{ListKind}
use Rattle.query_tree.specs.declared.kind.JoinKind.{JoinKind}
use Rattle.query_tree.specs.declared.query.Mark.{Mark}
use Rattle.query_tree.specs.declared.query.Mark.TheVariants.{Plain}
use Rattle.query_tree.specs.Tree.{Tree, Forest, term_at, no_operands, with_operand}
use Rattle.query_tree.specs.Size.{node_count, operand_nodes}
use Rattle.query_tree.specs.Within.{operand_count}
use Rattle.query_reader.specs.declared.token.TokenKind.{TokenKind}
use Rattle.query_reader.specs.declared.token.TokenKind.TheVariants as tokens
use Rattle.query_reader.specs.declared.operator.Operator.{Operator}
use Rattle.query_reader.specs.declared.operator.Operator.TheVariants as operators
use Rattle.query_reader.specs.declared.value.OptionName.{OptionName}
use Rattle.query_reader.specs.declared.value.OptionName.TheVariants as options
use Rattle.query_reader.specs.declared.open_list.Tail.{Tail}
use Rattle.query_reader.specs.declared.open_list.Tail.TheVariants as tails
use Rattle.query_reader.specs.Operators.{operator_of}
use Rattle.query_reader.specs.Values.{option_of}
use Rattle.query_reader.specs.Reading.{Lexeme, Refused, Part, operator_due, term_due, term_read, operands_read, prefix_due, node_due, node_read, OpenList, State, refuse, going_on, add_operand, part_with, deliver, pair_of, prefix_of, begin_list, bare_term, begin_term, node_token, first_part, operator_found, operator_token, term_found, term_token, prefix_found, prefix_token, parent_kind, may_take, option_found, option_token, with_limit, with_mark, limit_value, mark_value, value_token, node_of, closed, close, end_token, least_operands, most_operands, operands_token, after_option, part_token, tail_token, step_in, ended, go_on, read_from}
use Rattle.query_reader.specs.Depth.{open_after, most_open}

-- how many nodes stand in a list, in lists, and in what was read; each list is a node itself
abbrev part_nodes : Part → ℕ
part_nodes (operands_read kind forest) = operand_nodes forest
part_nodes (node_read join column type_name node) = node_count node
part_nodes part = 0

abbrev list_nodes : List OpenList → ℕ
list_nodes [] = 0
list_nodes (list ∷ lists) = 1 + part_nodes list.part + list_nodes lists

abbrev pub whole_nodes : Option Tree → ℕ
whole_nodes None = 0
whole_nodes (Some node) = node_count node

-- so many lists are open, not too many; the nodes are counted, and are not too many
pub record Fits (dialect : Dialect) (lists : List OpenList) (whole : Option Tree) (nodes count : ℕ) : Type 0 where
  pub are_open : length lists ≡ count
  pub deep : count ≤ dialect.depth
  pub counted : list_nodes lists + whole_nodes whole ≤ nodes
  pub few : nodes ≤ dialect.nodes

-- and a refusal stands at its token
abbrev pub StepFits : Dialect → Lexeme → Result State Refused → ℕ → Type 0
StepFits dialect token (Ok state) count = Fits dialect state.open_lists state.whole state.nodes count
StepFits dialect token (Err fault) count = fault.column ≡ token.column

recounted : (dialect : Dialect) (token : Lexeme) (result : Result State Refused) (count other : ℕ) → count ≡ other → StepFits dialect token result count → StepFits dialect token result other
recounted dialect token result count other is_same fits = subst (StepFits dialect token result) is_same fits

more_nodes : (forest : Forest) (node : Tree) (mark : Mark) → operand_nodes (add_operand forest node mark) ≡ operand_nodes forest + node_count node
more_nodes no_operands node mark = omega arith
more_nodes (with_operand first first_mark others) node mark = omega (arith, more_nodes others node mark)

-- a list with one more node
part_more : (part : Part) (node : Tree) (mark : Mark) → part_nodes (part_with part node mark) ≤ part_nodes part + node_count node
part_more operator_due node mark = omega arith
part_more term_due node mark = omega arith
part_more (term_read column kind type_name key) node mark = omega arith
part_more (operands_read kind forest) node mark = omega (arith, more_nodes forest node mark)
part_more (prefix_due join) node mark = omega arith
part_more (node_due join column type_name) node mark = omega arith
part_more (node_read join column type_name old) node mark = omega arith

deliver_fits : (dialect : Dialect) (token : Lexeme) (lists : List OpenList) (nodes : ℕ) (node : Tree) (mark : Mark)
    → length lists ≤ dialect.depth → list_nodes lists + node_count node ≤ nodes → nodes ≤ dialect.nodes
    → StepFits dialect token (deliver lists nodes node mark) (length lists)
deliver_fits dialect token [] nodes node mark deep counted few = record { are_open = refl; deep = deep; counted = counted; few = few }
deliver_fits dialect token (list ∷ lists) nodes node mark deep counted few =
    record { are_open = refl; deep = deep; counted = omega (arith, part_more list.part node mark); few = few }

-- the innermost list has another part, or another option, and no more nodes
same_fits : (dialect : Dialect) (token : Lexeme) (new list : OpenList) (lists : List OpenList) (nodes : ℕ)
    → part_nodes new.part ≤ part_nodes list.part → Fits dialect (list ∷ lists) None nodes (length (list ∷ lists))
    → StepFits dialect token (going_on (new ∷ lists) nodes) (length (list ∷ lists))
same_fits dialect token new list lists nodes same fits =
    record { are_open = refl; deep = fits.deep; counted = omega (arith, fits.counted, same); few = fits.few }

begin_list_fits : (dialect : Dialect) (lists : List OpenList) (nodes : ℕ) (token : Lexeme)
    → Fits dialect lists None nodes (length lists) → StepFits dialect token (begin_list dialect lists nodes token) (length lists + 1)
begin_list_fits dialect lists nodes token fits = deep (nat_le dialect.depth (length lists)) refl
  where
    many : (b : Bool) → nat_le dialect.nodes nodes ≡ b → length lists < dialect.depth
        → StepFits dialect token (cond b (refuse 38 token) (going_on (record { column = token.column; part = operator_due; mark = Plain; limit = None; tail = tails.NoOption } ∷ lists) (nodes + 1))) (length lists + 1)
    many true is_many room = refl
    many false is_many room =
        record {
          are_open = omega arith;
          deep = omega arith;
          counted = omega (arith, fits.counted);
          few = omega (arith, leb-false dialect.nodes nodes is_many);
        }

    deep : (b : Bool) → nat_le dialect.depth (length lists) ≡ b
        → StepFits dialect token (cond b (refuse 37 token) (cond (nat_le dialect.nodes nodes) (refuse 38 token) (going_on (record { column = token.column; part = operator_due; mark = Plain; limit = None; tail = tails.NoOption } ∷ lists) (nodes + 1)))) (length lists + 1)
    deep true is_deep = refl
    deep false is_deep = many (nat_le dialect.nodes nodes) refl (leb-false dialect.depth (length lists) is_deep)

begin_term_fits : (dialect : Dialect) (lists : List OpenList) (nodes : ℕ) (token : Lexeme) (kind : TermKind)
    → Fits dialect lists None nodes (length lists) → StepFits dialect token (begin_term dialect lists nodes token kind) (length lists)
begin_term_fits dialect lists nodes token kind fits = many (nat_le dialect.nodes nodes) refl
  where
    found : (pair : Option (List ℕ × List ℕ)) → nodes < dialect.nodes → StepFits dialect token (bare_term lists (nodes + 1) token kind pair) (length lists)
    found None room = refl
    found (Some pair) room =
        deliver_fits dialect token lists (nodes + 1) (term_at token.column kind pair.0 pair.1) Plain fits.deep (omega (arith, fits.counted)) (omega arith)

    many : (b : Bool) → nat_le dialect.nodes nodes ≡ b
        → StepFits dialect token (cond b (refuse 38 token) (bare_term lists (nodes + 1) token kind (pair_of kind token.bytes))) (length lists)
    many true is_many = refl
    many false is_many = found (pair_of kind token.bytes) (leb-false dialect.nodes nodes is_many)

node_fits : (dialect : Dialect) (lists : List OpenList) (nodes : ℕ) (token : Lexeme) (missing : ℕ) (kind : TokenKind)
    → Fits dialect lists None nodes (length lists)
    → StepFits dialect token (node_token dialect lists nodes token missing kind) (open_after (length lists) kind)
node_fits dialect lists nodes token missing tokens.Left fits = begin_list_fits dialect lists nodes token fits
node_fits dialect lists nodes token missing tokens.Term fits = begin_term_fits dialect lists nodes token terms.Whole fits
node_fits dialect lists nodes token missing tokens.Stem fits = begin_term_fits dialect lists nodes token terms.Prefix fits
node_fits dialect lists nodes token missing kind fits = refl

close_fits : (dialect : Dialect) (list : OpenList) (lists : List OpenList) (nodes : ℕ) (token : Lexeme)
    → Fits dialect (list ∷ lists) None nodes (length (list ∷ lists))
    → StepFits dialect token (close dialect list lists nodes token) (open_after (length (list ∷ lists)) tokens.Right)
close_fits dialect list lists nodes token fits =
    recounted dialect token (close dialect list lists nodes token) (length lists) (open_after (length (list ∷ lists)) tokens.Right) (omega arith)
    (ends list.part fits.counted)
  where
    ends : (part : Part) → (1 + part_nodes part + list_nodes lists) + 0 ≤ nodes → StepFits dialect token (closed list lists nodes token (node_of dialect list part)) (length lists)
    ends (term_read column kind type_name key) counted =
        deliver_fits dialect token lists nodes _ list.mark (omega (arith, fits.deep)) (omega arith) fits.few
    ends (operands_read kind forest) counted =
        deliver_fits dialect token lists nodes _ list.mark (omega (arith, fits.deep)) (omega arith) fits.few
    ends (node_read join column type_name node) counted =
        deliver_fits dialect token lists nodes _ list.mark (omega (arith, fits.deep)) (omega arith) fits.few
    ends part counted = refl

option_fits : (dialect : Dialect) (list : OpenList) (lists : List OpenList) (nodes : ℕ) (token : Lexeme)
    → Fits dialect (list ∷ lists) None nodes (length (list ∷ lists))
    → StepFits dialect token (option_token dialect list lists nodes token) (length (list ∷ lists))
option_fits dialect list lists nodes token fits = found (option_of token.bytes)
  where
    may : (b : Bool) (name : OptionName)
        → StepFits dialect token (cond b (going_on (record list { tail = tails.ValueDue name } ∷ lists) nodes) (refuse 36 token)) (length (list ∷ lists))
    may true name = same_fits dialect token (record list { tail = tails.ValueDue name }) list lists nodes (omega arith) fits
    may false name = refl

    found : (name : Option OptionName) → StepFits dialect token (option_found dialect list lists nodes token name) (length (list ∷ lists))
    found None = refl
    found (Some name) = may (may_take dialect.format name list (parent_kind lists)) name

end_fits : (dialect : Dialect) (list : OpenList) (lists : List OpenList) (nodes : ℕ) (token : Lexeme) (kind : TokenKind)
    → Fits dialect (list ∷ lists) None nodes (length (list ∷ lists))
    → StepFits dialect token (end_token dialect list lists nodes token kind) (open_after (length (list ∷ lists)) kind)
end_fits dialect list lists nodes token tokens.Right fits = close_fits dialect list lists nodes token fits
end_fits dialect list lists nodes token tokens.Option fits = option_fits dialect list lists nodes token fits
end_fits dialect list lists nodes token kind fits = refl

after_fits : (dialect : Dialect) (list : OpenList) (lists : List OpenList) (nodes : ℕ) (token : Lexeme) (kind : TokenKind)
    → Fits dialect (list ∷ lists) None nodes (length (list ∷ lists))
    → StepFits dialect token (after_option dialect list lists nodes token kind) (open_after (length (list ∷ lists)) kind)
after_fits dialect list lists nodes token tokens.Right fits = close_fits dialect list lists nodes token fits
after_fits dialect list lists nodes token tokens.Option fits = option_fits dialect list lists nodes token fits
after_fits dialect list lists nodes token kind fits = refl

-- a list of operands: one more begins, or it ends, unless there are too many or too few
unless_fits : (dialect : Dialect) (b : Bool) (token : Lexeme) (code : ℕ) (result : Result State Refused) (count : ℕ)
    → StepFits dialect token result count → StepFits dialect token (cond b (refuse code token) result) count
unless_fits dialect true token code result count fits = refl
unless_fits dialect false token code result count fits = fits

operands_fits : (dialect : Dialect) (list : OpenList) (lists : List OpenList) (nodes : ℕ) (token : Lexeme) (kind : ListKind) (count : ℕ) (token_kind : TokenKind)
    → Fits dialect (list ∷ lists) None nodes (length (list ∷ lists))
    → StepFits dialect token (operands_token dialect list lists nodes token kind count token_kind) (open_after (length (list ∷ lists)) token_kind)
operands_fits dialect list lists nodes token kind count tokens.Left fits =
    unless_fits dialect (nat_le (most_operands dialect kind) count) token 35 (begin_list dialect (list ∷ lists) nodes token) _
    (begin_list_fits dialect (list ∷ lists) nodes token fits)
operands_fits dialect list lists nodes token kind count tokens.Term fits =
    unless_fits dialect (nat_le (most_operands dialect kind) count) token 35 (begin_term dialect (list ∷ lists) nodes token terms.Whole) _
    (begin_term_fits dialect (list ∷ lists) nodes token terms.Whole fits)
operands_fits dialect list lists nodes token kind count tokens.Stem fits =
    unless_fits dialect (nat_le (most_operands dialect kind) count) token 35 (begin_term dialect (list ∷ lists) nodes token terms.Prefix) _
    (begin_term_fits dialect (list ∷ lists) nodes token terms.Prefix fits)
operands_fits dialect list lists nodes token kind count tokens.Right fits =
    unless_fits dialect (nat_lt count (least_operands kind)) token 35 (close dialect list lists nodes token) _
    (close_fits dialect list lists nodes token fits)
operands_fits dialect list lists nodes token kind count tokens.Option fits =
    unless_fits dialect (nat_lt count (least_operands kind)) token 35 (option_token dialect list lists nodes token) _
    (option_fits dialect list lists nodes token fits)
operands_fits dialect list lists nodes token kind count other fits = refl

first_nodes : (operator : Operator) → part_nodes (first_part operator) ≡ 0
first_nodes operators.Term = refl
first_nodes (operators.List kind) = refl
first_nodes (operators.Join kind) = refl

operator_fits : (dialect : Dialect) (list : OpenList) (lists : List OpenList) (nodes : ℕ) (token : Lexeme) (kind : TokenKind)
    → Fits dialect (list ∷ lists) None nodes (length (list ∷ lists))
    → StepFits dialect token (operator_token list lists nodes token kind) (open_after (length (list ∷ lists)) kind)
operator_fits dialect list lists nodes token tokens.Name fits = found (operator_of token.bytes)
  where
    found : (operator : Option Operator) → StepFits dialect token (operator_found list lists nodes token operator) (length (list ∷ lists))
    found None = refl
    found (Some operator) =
        same_fits dialect token (record list { part = first_part operator }) list lists nodes (omega (arith, first_nodes operator)) fits
operator_fits dialect list lists nodes token kind fits = refl

term_found_fits : (dialect : Dialect) (list : OpenList) (lists : List OpenList) (nodes : ℕ) (token : Lexeme) (kind : TermKind) (pair : Option (List ℕ × List ℕ))
    → Fits dialect (list ∷ lists) None nodes (length (list ∷ lists))
    → StepFits dialect token (term_found list lists nodes token kind pair) (length (list ∷ lists))
term_found_fits dialect list lists nodes token kind None fits = refl
term_found_fits dialect list lists nodes token kind (Some pair) fits =
    same_fits dialect token (record list { part = term_read token.column kind pair.0 pair.1 }) list lists nodes (omega arith) fits

term_fits : (dialect : Dialect) (list : OpenList) (lists : List OpenList) (nodes : ℕ) (token : Lexeme) (kind : TokenKind)
    → Fits dialect (list ∷ lists) None nodes (length (list ∷ lists))
    → StepFits dialect token (term_token list lists nodes token kind) (open_after (length (list ∷ lists)) kind)
term_fits dialect list lists nodes token tokens.Term fits =
    term_found_fits dialect list lists nodes token terms.Whole (pair_of terms.Whole token.bytes) fits
term_fits dialect list lists nodes token tokens.Stem fits =
    term_found_fits dialect list lists nodes token terms.Prefix (pair_of terms.Prefix token.bytes) fits
term_fits dialect list lists nodes token kind fits = refl

prefix_fits : (dialect : Dialect) (list : OpenList) (lists : List OpenList) (nodes : ℕ) (token : Lexeme) (join : JoinKind) (kind : TokenKind)
    → Fits dialect (list ∷ lists) None nodes (length (list ∷ lists))
    → StepFits dialect token (prefix_token list lists nodes token join kind) (open_after (length (list ∷ lists)) kind)
prefix_fits dialect list lists nodes token join tokens.Prefix fits = found (prefix_of token.bytes)
  where
    found : (name : Option (List ℕ)) → StepFits dialect token (prefix_found list lists nodes token join name) (length (list ∷ lists))
    found None = refl
    found (Some name) =
        same_fits dialect token (record list { part = node_due join token.column name }) list lists nodes (omega arith) fits
prefix_fits dialect list lists nodes token join kind fits = refl

part_fits : (dialect : Dialect) (list : OpenList) (lists : List OpenList) (nodes : ℕ) (token : Lexeme) (part : Part)
    → Fits dialect (list ∷ lists) None nodes (length (list ∷ lists))
    → StepFits dialect token (part_token dialect list lists nodes token part) (open_after (length (list ∷ lists)) token.kind)
part_fits dialect list lists nodes token operator_due fits = operator_fits dialect list lists nodes token token.kind fits
part_fits dialect list lists nodes token term_due fits = term_fits dialect list lists nodes token token.kind fits
part_fits dialect list lists nodes token (term_read column kind type_name key) fits = end_fits dialect list lists nodes token token.kind fits
part_fits dialect list lists nodes token (operands_read kind forest) fits =
    operands_fits dialect list lists nodes token kind (operand_count forest) token.kind fits
part_fits dialect list lists nodes token (prefix_due join) fits = prefix_fits dialect list lists nodes token join token.kind fits
part_fits dialect list lists nodes token (node_due join column type_name) fits =
    node_fits dialect (list ∷ lists) nodes token 35 token.kind fits
part_fits dialect list lists nodes token (node_read join column type_name node) fits = end_fits dialect list lists nodes token token.kind fits

limit_fits : (dialect : Dialect) (list : OpenList) (lists : List OpenList) (nodes : ℕ) (token : Lexeme) (limit : Option ℕ)
    → Fits dialect (list ∷ lists) None nodes (length (list ∷ lists))
    → StepFits dialect token (with_limit list lists nodes token limit) (length (list ∷ lists))
limit_fits dialect list lists nodes token None fits = refl
limit_fits dialect list lists nodes token (Some limit) fits =
    same_fits dialect token (record list { limit = Some limit; tail = tails.OptionRead }) list lists nodes (omega arith) fits

mark_fits : (dialect : Dialect) (list : OpenList) (lists : List OpenList) (nodes : ℕ) (token : Lexeme) (mark : Option Mark)
    → Fits dialect (list ∷ lists) None nodes (length (list ∷ lists))
    → StepFits dialect token (with_mark list lists nodes token mark) (length (list ∷ lists))
mark_fits dialect list lists nodes token None fits = refl
mark_fits dialect list lists nodes token (Some mark) fits =
    same_fits dialect token (record list { mark = mark; tail = tails.OptionRead }) list lists nodes (omega arith) fits

-- a value is no parenthesis
limit_by_kind : (dialect : Dialect) (list : OpenList) (lists : List OpenList) (nodes : ℕ) (token : Lexeme) (kind : TokenKind)
    → Fits dialect (list ∷ lists) None nodes (length (list ∷ lists))
    → StepFits dialect token (with_limit list lists nodes token (limit_value dialect token kind)) (open_after (length (list ∷ lists)) kind)
limit_by_kind dialect list lists nodes token tokens.Number fits = limit_fits dialect list lists nodes token (limit_value dialect token tokens.Number) fits
limit_by_kind dialect list lists nodes token kind fits = refl

mark_by_kind : (dialect : Dialect) (list : OpenList) (lists : List OpenList) (nodes : ℕ) (token : Lexeme) (name : MarkKind) (kind : TokenKind)
    → Fits dialect (list ∷ lists) None nodes (length (list ∷ lists))
    → StepFits dialect token (with_mark list lists nodes token (mark_value name token kind)) (open_after (length (list ∷ lists)) kind)
mark_by_kind dialect list lists nodes token mark_kinds.Hits tokens.Number fits =
    mark_fits dialect list lists nodes token (mark_value mark_kinds.Hits token tokens.Number) fits
mark_by_kind dialect list lists nodes token mark_kinds.Weight tokens.Fraction fits =
    mark_fits dialect list lists nodes token (mark_value mark_kinds.Weight token tokens.Fraction) fits
mark_by_kind dialect list lists nodes token name kind fits = refl

value_fits : (dialect : Dialect) (list : OpenList) (lists : List OpenList) (nodes : ℕ) (token : Lexeme) (name : OptionName)
    → Fits dialect (list ∷ lists) None nodes (length (list ∷ lists))
    → StepFits dialect token (value_token dialect list lists nodes token name) (open_after (length (list ∷ lists)) token.kind)
value_fits dialect list lists nodes token options.Limit fits = limit_by_kind dialect list lists nodes token token.kind fits
value_fits dialect list lists nodes token (options.Mark name) fits =
    mark_by_kind dialect list lists nodes token name token.kind fits

tail_fits : (dialect : Dialect) (list : OpenList) (lists : List OpenList) (nodes : ℕ) (token : Lexeme) (tail : Tail)
    → Fits dialect (list ∷ lists) None nodes (length (list ∷ lists))
    → StepFits dialect token (tail_token dialect list lists nodes token tail) (open_after (length (list ∷ lists)) token.kind)
tail_fits dialect list lists nodes token tails.NoOption fits = part_fits dialect list lists nodes token list.part fits
tail_fits dialect list lists nodes token (tails.ValueDue name) fits = value_fits dialect list lists nodes token name fits
tail_fits dialect list lists nodes token tails.OptionRead fits = after_fits dialect list lists nodes token token.kind fits

pub step_fits : (dialect : Dialect) (lists : List OpenList) (whole : Option Tree) (nodes : ℕ) (token : Lexeme)
    → Fits dialect lists whole nodes (length lists)
    → StepFits dialect token (step_in dialect lists whole nodes token) (open_after (length lists) token.kind)
step_fits dialect [] None nodes token fits = node_fits dialect [] nodes token 31 token.kind fits
step_fits dialect [] (Some node) nodes token fits = refl
step_fits dialect (list ∷ lists) whole nodes token fits =
    tail_fits dialect list lists nodes token list.tail
    (record { are_open = refl; deep = fits.deep; counted = omega (arith, fits.counted); few = fits.few })

-- what was read is within the limits
pub record ReadWithin (dialect : Dialect) (count : ℕ) (rest : List Lexeme) (node : Tree) : Type 0 where
  pub deep : most_open count rest ≤ dialect.depth
  pub few : node_count node ≤ dialect.nodes

ended_within : (dialect : Dialect) (column : ℕ) (lists : List OpenList) (whole : Option Tree) (nodes : ℕ) (node : Tree)
    → Fits dialect lists whole nodes (length lists) → ended column whole ≡ Ok node → ReadWithin dialect (length lists) [] node
ended_within dialect column lists None nodes node fits is_ok = absurd (cc)
ended_within dialect column lists (Some whole) nodes node fits is_ok =
    let same : whole ≡ node = cc in
    let size : node_count whole ≡ node_count node = ap node_count same in
    record { deep = fits.deep; few = omega (arith, fits.counted, fits.few) }

-- after a step the rest is within the limits
goes_within : (dialect : Dialect) (column : ℕ) (lists : List OpenList) (whole : Option Tree) (nodes : ℕ) (token : Lexeme) (rest : List Lexeme) (node : Tree)
    (result : Result State Refused) → Fits dialect lists whole nodes (length lists)
    → StepFits dialect token result (open_after (length lists) token.kind)
    → ((next : State) → Fits dialect next.open_lists next.whole next.nodes (length next.open_lists)
    → read_from dialect column next rest ≡ Ok node → ReadWithin dialect (length next.open_lists) rest node)
    → go_on result (λ next. read_from dialect column next rest) ≡ Ok node → ReadWithin dialect (length lists) (token ∷ rest) node
goes_within dialect column lists whole nodes token rest node (Ok next) fits after later is_ok =
    let within : ReadWithin dialect (length next.open_lists) rest node =
    later next (subst (λ n. Fits dialect next.open_lists next.whole next.nodes n) (sym after.are_open) after) is_ok in
    let same : most_open (length next.open_lists) rest ≡ most_open (open_after (length lists) token.kind) rest =
    ap (λ n. most_open n rest) after.are_open in
    record { deep = omega (arith, within.deep, fits.deep); few = within.few }
goes_within dialect column lists whole nodes token rest node (Err fault) fits after later is_ok = absurd (cc)

read_within : (dialect : Dialect) (column : ℕ) (lists : List OpenList) (whole : Option Tree) (nodes : ℕ) (rest : List Lexeme) (node : Tree)
    → Fits dialect lists whole nodes (length lists)
    → read_from dialect column (record { open_lists = lists; whole = whole; nodes = nodes }) rest ≡ Ok node
    → ReadWithin dialect (length lists) rest node
read_within dialect column lists whole nodes [] node fits is_ok = ended_within dialect column lists whole nodes node fits is_ok
read_within dialect column lists whole nodes (token ∷ rest) node fits is_ok =
    goes_within dialect column lists whole nodes token rest node (step_in dialect lists whole nodes token) fits
    (step_fits dialect lists whole nodes token fits)
    (λ next within is_rest. read_within dialect column next.open_lists next.whole next.nodes rest node within is_rest) is_ok

-- at first nothing is open, and nothing was read
pub start_within : (dialect : Dialect) (column : ℕ) (rest : List Lexeme) (node : Tree)
    → read_from dialect column (record { open_lists = []; whole = None; nodes = 0 }) rest ≡ Ok node
    → ReadWithin dialect 0 rest node
start_within dialect column rest node is_ok =
    read_within dialect column [] None 0 rest node
    (record { are_open = refl; deep = omega arith; counted = omega arith; few = omega arith }) is_ok
