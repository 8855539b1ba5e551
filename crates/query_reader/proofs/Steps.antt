-- The steps by which what is spelled is read.
use Rattle.std.proofs.Common.{◌≡◌, ℕ, suc, ◌+◌, ◌<◌, ◌≤◌, ◌⊎◌, Bool, true, false, List, [], ◌∷◌, ◌++◌, length, Option, None, Some, Result, Ok, Err, refl, sym, ap, ◌∙◌, subst, arith, cond, inl, inr, append_assoc, leb-true}
use Rattle.std.specs.Prelude.{nat_le, nat_lt, ◌&&◌}
use Rattle.std.proofs.lemmas.Bool.Decides.{leb_tells}
use Rattle.query_tree.specs.declared.dialect.Dialect.{Dialect}
use Rattle.query_tree.specs.declared.kind.TermKind.{TermKind}
use Rattle.query_tree.specs.declared.kind.TermKind.TheVariants as terms
use Rattle.query_tree.specs.declared.kind.MarkKind.{MarkKind}
use Rattle.query_tree.specs.declared.kind.MarkKind.TheVariants as mark_kinds
use Rattle.query_tree.specs.declared.kind.ListKind.{ListKind}
use Rattle.query_tree.specs.declared.kind.JoinKind.{JoinKind}
use Rattle.query_tree.specs.declared.query.Mark.{Mark}
use Rattle.query_tree.specs.declared.query.Mark.TheVariants.{Plain, Hits, Weight}
use Rattle.query_tree.specs.Tree.{Tree, Forest, term_at, list_at, join_at, no_operands, with_operand}
use Rattle.query_tree.specs.Within.{operand_count}
use Rattle.query_reader.specs.declared.token.TokenKind.{TokenKind}
use Rattle.query_reader.specs.declared.token.TokenKind.TheVariants as tokens
use Rattle.query_reader.specs.declared.operator.Operator.{Operator}
use Rattle.query_reader.specs.declared.value.OptionName.{OptionName}
use Rattle.query_reader.specs.declared.value.OptionName.TheVariants as options
use Rattle.query_reader.specs.declared.open_list.Tail.{Tail}
use Rattle.query_reader.specs.declared.open_list.Tail.TheVariants as tails
use Rattle.query_reader.specs.Reading.{Lexeme, Refused, Part, operator_due, term_due, term_read, operands_read, prefix_due, node_due, node_read, OpenList, State, refuse, going_on, add_operand, deliver, pair_of, begin_list, bare_term, begin_term, node_token, first_part, operator_found, operator_token, term_found, term_token, prefix_found, prefix_token, parent_kind, is_join, is_plain, may_take, option_found, option_token, with_limit, with_mark, limit_value, mark_value, node_of, closed, close, end_token, least_operands, most_operands, operands_token, after_option, part_token, step_in, ended, go_on, read_from}
use Rattle.query_reader.specs.Grammar.{atom_of, IsOperator, IsPrefix, IsTerm, IsOption, LimitSpells, MarkSpells, OptionsSpell, Enclosed, MayHave, NodeSpells}
use Rattle.query_reader.proofs.Standing.{IsOfKind, stands_kind, not_plain, PartEnds}

-- reading goes on from these lists, and after this step
abbrev pub From : Dialect → ℕ → List OpenList → ℕ → List Lexeme → Result Tree Refused
From dialect column lists nodes rest = read_from dialect column (record { open_lists = lists; whole = None; nodes = nodes }) rest

abbrev pub After : Dialect → ℕ → Result State Refused → List Lexeme → Result Tree Refused
After dialect column result rest = go_on result (λ next. read_from dialect column next rest)

-- where a node is due
abbrev pub Begin : Dialect → ℕ → ℕ → List OpenList → ℕ → List Lexeme → Result Tree Refused
Begin dialect column missing lists nodes [] = ended column None
Begin dialect column missing lists nodes (token ∷ rest) = After dialect column (node_token dialect lists nodes token missing token.kind) rest

-- a list with a part
abbrev pub list_with : ℕ → Part → Mark → Option ℕ → Tail → OpenList
list_with at part mark limit tail = record { column = at; part = part; mark = mark; limit = limit; tail = tail }

abbrev pub bare_list : ℕ → Part → OpenList
bare_list at part = list_with at part Plain None tails.NoOption

-- no value is due
abbrev pub IsSettled : Tail → Type 0
IsSettled tails.NoOption = Unit {0}
IsSettled (tails.ValueDue name) = ⊥
IsSettled tails.OptionRead = Unit {0}

-- enough operands
pub enough : (count least : ℕ) → least ≤ count → nat_lt count least ≡ false
enough count least h =
    elim (leb_tells (suc count) least) [ inl few ↦ absurd (omega (arith, few.1)) | inr many ↦ many.0 ]

-- the step of an end, and of an option, in a list that may end
by_part : (dialect : Dialect) (list : OpenList) (lists : List OpenList) (nodes : ℕ) (token : Lexeme) (part : Part) (kind : TokenKind) (done : Result State Refused)
    → end_token dialect list lists nodes token kind ≡ done
    → ((operator : ListKind) (count : ℕ) → operands_token dialect list lists nodes token operator count kind ≡ cond (nat_lt count (least_operands operator)) (refuse 35 token) done)
    → PartEnds part → token.kind ≡ kind → part_token dialect list lists nodes token part ≡ done
by_part dialect list lists nodes token operator_due kind done ended operands ends is_kind = absurd ends
by_part dialect list lists nodes token term_due kind done ended operands ends is_kind = absurd ends
by_part dialect list lists nodes token (term_read column term type_name key) kind done ended operands ends is_kind =
    ap (λ (k : TokenKind). end_token dialect list lists nodes token k) is_kind ∙ ended
by_part dialect list lists nodes token (operands_read operator forest) kind done ended operands ends is_kind =
    ap (λ (k : TokenKind). operands_token dialect list lists nodes token operator (operand_count forest) k) is_kind
    ∙ operands operator (operand_count forest)
    ∙ ap (λ (b : Bool). cond b (refuse 35 token) done) (enough (operand_count forest) (least_operands operator) ends)
by_part dialect list lists nodes token (prefix_due join) kind done ended operands ends is_kind = absurd ends
by_part dialect list lists nodes token (node_due join column type_name) kind done ended operands ends is_kind = absurd ends
by_part dialect list lists nodes token (node_read join column type_name node) kind done ended operands ends is_kind =
    ap (λ (k : TokenKind). end_token dialect list lists nodes token k) is_kind ∙ ended

right_by_part : (dialect : Dialect) (list : OpenList) (lists : List OpenList) (nodes : ℕ) (token : Lexeme) (part : Part)
    → PartEnds part → token.kind ≡ tokens.Right → part_token dialect list lists nodes token part ≡ close dialect list lists nodes token
right_by_part dialect list lists nodes token part =
    by_part dialect list lists nodes token part tokens.Right (close dialect list lists nodes token) refl (λ operator count. refl)

option_by_part : (dialect : Dialect) (list : OpenList) (lists : List OpenList) (nodes : ℕ) (token : Lexeme) (part : Part)
    → PartEnds part → token.kind ≡ tokens.Option → part_token dialect list lists nodes token part ≡ option_token dialect list lists nodes token
option_by_part dialect list lists nodes token part =
    by_part dialect list lists nodes token part tokens.Option (option_token dialect list lists nodes token) refl (λ operator count. refl)

pub right_step : (dialect : Dialect) (at : ℕ) (part : Part) (mark : Mark) (limit : Option ℕ) (tail : Tail) (lists : List OpenList) (nodes : ℕ) (token : Lexeme)
    → IsSettled tail → PartEnds part → token.kind ≡ tokens.Right
    → step_in dialect (list_with at part mark limit tail ∷ lists) None nodes token ≡ close dialect (list_with at part mark limit tail) lists nodes token
right_step dialect at part mark limit tails.NoOption lists nodes token settled ends is_right =
    right_by_part dialect (list_with at part mark limit tails.NoOption) lists nodes token part ends is_right
right_step dialect at part mark limit (tails.ValueDue name) lists nodes token settled ends is_right = absurd settled
right_step dialect at part mark limit tails.OptionRead lists nodes token settled ends is_right =
    ap (λ (k : TokenKind). after_option dialect (list_with at part mark limit tails.OptionRead) lists nodes token k) is_right

pub name_step : (dialect : Dialect) (at : ℕ) (part : Part) (mark : Mark) (limit : Option ℕ) (tail : Tail) (lists : List OpenList) (nodes : ℕ) (token : Lexeme) (name : OptionName)
    → IsSettled tail → PartEnds part → IsOption name token → may_take dialect.format name (list_with at part mark limit tail) (parent_kind lists) ≡ true
    → step_in dialect (list_with at part mark limit tail ∷ lists) None nodes token ≡ going_on (list_with at part mark limit (tails.ValueDue name) ∷ lists) nodes
name_step dialect at part mark limit tail lists nodes token name settled ends (is_kind, is_name) may =
    named tail settled
    ∙ ap (λ (o : Option OptionName). option_found dialect (list_with at part mark limit tail) lists nodes token o) is_name
    ∙ ap (λ (b : Bool). cond b (going_on (list_with at part mark limit (tails.ValueDue name) ∷ lists) nodes) (refuse 36 token)) may
  where
    named : (tail : Tail) → IsSettled tail
        → step_in dialect (list_with at part mark limit tail ∷ lists) None nodes token ≡ option_token dialect (list_with at part mark limit tail) lists nodes token
    named tails.NoOption settled = option_by_part dialect (list_with at part mark limit tails.NoOption) lists nodes token part ends is_kind
    named (tails.ValueDue other) settled = absurd settled
    named tails.OptionRead settled = ap (λ (k : TokenKind). after_option dialect (list_with at part mark limit tails.OptionRead) lists nodes token k) is_kind

pub mark_may_take : (dialect : Dialect) (list : OpenList) (parent : Option ListKind) (kind : MarkKind) (mark : Mark) → IsOfKind kind mark
    → list.mark ≡ Plain → MayHave dialect parent mark → may_take dialect.format (options.Mark kind) list parent ≡ true
mark_may_take dialect list None kind mark of_kind was may = absurd (not_plain kind mark of_kind may)
mark_may_take dialect list (Some operator) kind mark of_kind was may =
    ap (λ (b : Bool). b && is_plain list.mark) (stands_kind dialect.format operator kind mark of_kind may) ∙ ap is_plain was

-- the tokens of a mark, and of a limit
given_read : (dialect : Dialect) (column at : ℕ) (part : Part) (mark : Mark) (limit : Option ℕ) (tail : Tail) (lists : List OpenList) (nodes : ℕ) (rest : List Lexeme)
    (name value : Lexeme) (kind : MarkKind) (value_kind : TokenKind)
    → IsSettled tail → PartEnds part → MayHave dialect (parent_kind lists) mark → IsOfKind kind mark → IsOption (options.Mark kind) name
    → value.kind ≡ value_kind → mark_value kind value value_kind ≡ Some mark
    → From dialect column (list_with at part Plain limit tail ∷ lists) nodes (name ∷ value ∷ rest)
    ≡ From dialect column (list_with at part mark limit tails.OptionRead ∷ lists) nodes rest
given_read dialect column at part mark limit tail lists nodes rest name value kind value_kind settled ends may of_kind is_name is_kind is_value =
    ap (λ r. After dialect column r (value ∷ rest))
    (name_step dialect at part Plain limit tail lists nodes name (options.Mark kind) settled ends is_name
    (mark_may_take dialect (list_with at part Plain limit tail) (parent_kind lists) kind mark of_kind refl may))
    ∙ ap (λ (k : TokenKind). After dialect column (with_mark (list_with at part Plain limit (tails.ValueDue (options.Mark kind))) lists nodes value (mark_value kind value k)) rest) is_kind
    ∙ ap (λ (m : Option Mark). After dialect column (with_mark (list_with at part Plain limit (tails.ValueDue (options.Mark kind))) lists nodes value m) rest) is_value

pub mark_read : (dialect : Dialect) (column at : ℕ) (part : Part) (mark : Mark) (limit : Option ℕ) (tail : Tail) (lists : List OpenList) (nodes : ℕ) (spelled rest : List Lexeme)
    → IsSettled tail → PartEnds part → MayHave dialect (parent_kind lists) mark → MarkSpells mark spelled
    → (after : Tail) × (IsSettled after × (From dialect column (list_with at part Plain limit tail ∷ lists) nodes (spelled ++ rest)
    ≡ From dialect column (list_with at part mark limit after ∷ lists) nodes rest))
mark_read dialect column at part Plain limit tail lists nodes spelled rest settled ends may spells =
    (tail, (settled, ap (λ xs. From dialect column (list_with at part Plain limit tail ∷ lists) nodes (xs ++ rest)) spells))
mark_read dialect column at part (Hits count) limit tail lists nodes spelled rest settled ends may (name, (value, (is_spelled, is_name, is_value))) = (
  tails.OptionRead,
  (
    tt,
    ap (λ xs. From dialect column (list_with at part Plain limit tail ∷ lists) nodes (xs ++ rest)) is_spelled
        ∙ given_read dialect column at part (Hits count) limit tail lists nodes rest name value mark_kinds.Hits tokens.Number settled ends may tt is_name is_value.0 is_value.1,
  ),
)
mark_read dialect column at part (Weight n d) limit tail lists nodes spelled rest settled ends may (name, (value, (is_spelled, is_name, is_value))) = (
  tails.OptionRead,
  (
    tt,
    ap (λ xs. From dialect column (list_with at part Plain limit tail ∷ lists) nodes (xs ++ rest)) is_spelled
        ∙ given_read dialect column at part (Weight n d) limit tail lists nodes rest name value mark_kinds.Weight tokens.Fraction settled ends may tt is_name is_value.0 is_value.1,
  ),
)

-- only a join has a limit
abbrev pub MayLimit : Part → Option ℕ → Type 0
MayLimit part None = Unit {0}
MayLimit part (Some limit) = is_join part ≡ true

pub limit_read : (dialect : Dialect) (column at : ℕ) (part : Part) (mark : Mark) (limit : Option ℕ) (tail : Tail) (lists : List OpenList) (nodes : ℕ) (spelled rest : List Lexeme)
    → IsSettled tail → PartEnds part → MayLimit part limit → LimitSpells dialect limit spelled
    → (after : Tail) × (IsSettled after × (From dialect column (list_with at part mark None tail ∷ lists) nodes (spelled ++ rest)
    ≡ From dialect column (list_with at part mark limit after ∷ lists) nodes rest))
limit_read dialect column at part mark None tail lists nodes spelled rest settled ends may spells =
    (tail, (settled, ap (λ xs. From dialect column (list_with at part mark None tail ∷ lists) nodes (xs ++ rest)) spells))
limit_read dialect column at part mark (Some limit) tail lists nodes spelled rest settled ends may (name, (value, (is_spelled, is_name, is_value))) = (
  tails.OptionRead,
  (
    tt,
    ap (λ xs. From dialect column (list_with at part mark None tail ∷ lists) nodes (xs ++ rest)) is_spelled
        ∙ ap (λ r. After dialect column r (value ∷ rest))
        (name_step dialect at part mark None tail lists nodes name options.Limit settled ends is_name
        (ap (λ (b : Bool). b && true) may))
        ∙ ap (λ (k : TokenKind). After dialect column (with_limit (list_with at part mark None (tails.ValueDue options.Limit)) lists nodes value (limit_value dialect value k)) rest) is_value.0
        ∙ ap (λ (m : Option ℕ). After dialect column (with_limit (list_with at part mark None (tails.ValueDue options.Limit)) lists nodes value m) rest) is_value.1,
  ),
)

-- options and the end of a list
pub rest_read : (dialect : Dialect) (column at : ℕ) (part : Part) (mark : Mark) (limit : Option ℕ) (lists : List OpenList) (nodes : ℕ) (given rest : List Lexeme) (right : Lexeme) (node : Tree)
    → PartEnds part → MayHave dialect (parent_kind lists) mark → MayLimit part limit → OptionsSpell dialect mark limit given → right.kind ≡ tokens.Right
    → ((tail : Tail) → node_of dialect (list_with at part mark limit tail) part ≡ Some node)
    → From dialect column (bare_list at part ∷ lists) nodes (given ++ right ∷ rest) ≡ After dialect column (deliver lists nodes node mark) rest
rest_read dialect column at part mark limit lists nodes given rest right node ends may may_limit (first, (second, (is_given, inl (mark_spells, limit_spells)))) is_right is_node =
    let one = mark_read dialect column at part mark None tails.NoOption lists nodes first (second ++ right ∷ rest) tt ends may mark_spells in
    let two = limit_read dialect column at part mark limit one.0 lists nodes second (right ∷ rest) one.1.0 ends may_limit limit_spells in
    ap (λ xs. From dialect column (bare_list at part ∷ lists) nodes (xs ++ right ∷ rest)) is_given
    ∙ ap (λ xs. From dialect column (bare_list at part ∷ lists) nodes xs) (append_assoc first second (right ∷ rest))
    ∙ one.1.1 ∙ two.1.1
    ∙ ap (λ r. After dialect column r rest) (right_step dialect at part mark limit two.0 lists nodes right two.1.0 ends is_right)
    ∙ ap (λ (n : Option Tree). After dialect column (closed (list_with at part mark limit two.0) lists nodes right n) rest) (is_node two.0)
rest_read dialect column at part mark limit lists nodes given rest right node ends may may_limit (first, (second, (is_given, inr (limit_spells, mark_spells)))) is_right is_node =
    let one = limit_read dialect column at part Plain limit tails.NoOption lists nodes first (second ++ right ∷ rest) tt ends may_limit limit_spells in
    let two = mark_read dialect column at part mark limit one.0 lists nodes second (right ∷ rest) one.1.0 ends may mark_spells in
    ap (λ xs. From dialect column (bare_list at part ∷ lists) nodes (xs ++ right ∷ rest)) is_given
    ∙ ap (λ xs. From dialect column (bare_list at part ∷ lists) nodes xs) (append_assoc first second (right ∷ rest))
    ∙ one.1.1 ∙ two.1.1
    ∙ ap (λ r. After dialect column r rest) (right_step dialect at part mark limit two.0 lists nodes right two.1.0 ends is_right)
    ∙ ap (λ (n : Option Tree). After dialect column (closed (list_with at part mark limit two.0) lists nodes right n) rest) (is_node two.0)

-- a query of so many nodes has too many of them
abbrev pub IsNodeFault : Dialect → ℕ → Result Tree Refused → Type 0
IsNodeFault dialect total (Ok tree) = ⊥
IsNodeFault dialect total (Err fault) = (fault.code ≡ 38) × (dialect.nodes < total)

-- the one result is the other, unless a query of `total` nodes has too many of them
pub data Leads (dialect : Dialect) (total : ℕ) (one other : Result Tree Refused) : Type 0 where
  reads : one ≡ other → Leads dialect total one other
  stops : IsNodeFault dialect total one → Leads dialect total one other

pub same : (dialect : Dialect) (total : ℕ) (one other : Result Tree Refused) → one ≡ other → Leads dialect total one other
same dialect total one other is_same = reads is_same

pub then_leads : (dialect : Dialect) (total : ℕ) (one two three : Result Tree Refused)
    → Leads dialect total one two → Leads dialect total two three → Leads dialect total one three
then_leads dialect total one two three (reads is_same) (reads also) = reads (is_same ∙ also)
then_leads dialect total one two three (reads is_same) (stops fault) = stops (subst (IsNodeFault dialect total) (sym is_same) fault)
then_leads dialect total one two three (stops fault) later = stops fault

-- where the limit of parentheses is not reached, it does not stop
not_full : (most count : ℕ) → count < most → nat_le most count ≡ false
not_full most count room = elim (leb_tells most count) [ inl full ↦ absurd (omega (arith, full.1)) | inr some ↦ some.0 ]

unless_many : (dialect : Dialect) (total column : ℕ) (b : Bool) (nodes : ℕ) (token : Lexeme) (result : Result State Refused) (rest : List Lexeme)
    → nat_le dialect.nodes nodes ≡ b → nodes < total
    → Leads dialect total (After dialect column (cond b (refuse 38 token) result) rest) (After dialect column result rest)
unless_many dialect total column true nodes token result rest many below =
    let over : dialect.nodes ≤ nodes = leb-true dialect.nodes nodes many in stops (refl, omega arith)
unless_many dialect total column false nodes token result rest few below = reads refl

-- a term's atom where a node is due, and in its parentheses
node_by_term : (dialect : Dialect) (lists : List OpenList) (nodes : ℕ) (token : Lexeme) (missing : ℕ) (kind : TermKind)
    → node_token dialect lists nodes token missing (atom_of kind) ≡ begin_term dialect lists nodes token kind
node_by_term dialect lists nodes token missing terms.Whole = refl
node_by_term dialect lists nodes token missing terms.Prefix = refl

term_by_term : (list : OpenList) (lists : List OpenList) (nodes : ℕ) (token : Lexeme) (kind : TermKind)
    → term_token list lists nodes token (atom_of kind) ≡ term_found list lists nodes token kind (pair_of kind token.bytes)
term_by_term list lists nodes token terms.Whole = refl
term_by_term list lists nodes token terms.Prefix = refl

operand_by_term : (dialect : Dialect) (list : OpenList) (lists : List OpenList) (nodes : ℕ) (token : Lexeme) (operator : ListKind) (count : ℕ) (kind : TermKind)
    → operands_token dialect list lists nodes token operator count (atom_of kind)
    ≡ cond (nat_le (most_operands dialect operator) count) (refuse 35 token) (begin_term dialect (list ∷ lists) nodes token kind)
operand_by_term dialect list lists nodes token operator count terms.Whole = refl
operand_by_term dialect list lists nodes token operator count terms.Prefix = refl

pub term_begins : (dialect : Dialect) (total column missing at : ℕ) (lists : List OpenList) (nodes : ℕ) (token : Lexeme) (kind : TermKind) (type_name key : List ℕ) (rest : List Lexeme)
    → IsTerm at kind type_name key token → nodes < total
    → Leads dialect total (Begin dialect column missing lists nodes (token ∷ rest)) (After dialect column (deliver lists (nodes + 1) (term_at at kind type_name key) Plain) rest)
term_begins dialect total column missing at lists nodes token kind type_name key rest (is_kind, is_column, is_pair) below =
    then_leads _ _ _ _ _
    (same _ _ _ _ (
    ap (λ (k : TokenKind). After dialect column (node_token dialect lists nodes token missing k) rest) is_kind
    ∙ ap (λ (r : Result State Refused). After dialect column r rest) (node_by_term dialect lists nodes token missing kind)
    ))
    (then_leads _ _ _ _ _
    (unless_many dialect total column (nat_le dialect.nodes nodes) nodes token (bare_term lists (nodes + 1) token kind (pair_of kind token.bytes)) rest refl below)
    (same _ _ _ _ (
    ap (λ (p : Option (List ℕ × List ℕ)). After dialect column (bare_term lists (nodes + 1) token kind p) rest) is_pair
    ∙ ap (λ (c : ℕ). After dialect column (deliver lists (nodes + 1) (term_at c kind type_name key) Plain) rest) is_column
    )))

pub list_begins : (dialect : Dialect) (total column missing at : ℕ) (lists : List OpenList) (nodes : ℕ) (left right : Lexeme) (body given spelled rest : List Lexeme)
    → spelled ≡ (left ∷ (body ++ given)) ++ right ∷ [] → left.kind ≡ tokens.Left → left.column ≡ at
    → length lists < dialect.depth → nodes < total
    → Leads dialect total (Begin dialect column missing lists nodes (spelled ++ rest))
    (From dialect column (bare_list at operator_due ∷ lists) (nodes + 1) (body ++ (given ++ right ∷ rest)))
list_begins dialect total column missing at lists nodes left right body given spelled rest is_spelled is_kind is_column shallow below =
    let later : ((body ++ given) ++ right ∷ []) ++ rest ≡ body ++ (given ++ right ∷ rest) =
    append_assoc (body ++ given) (right ∷ []) rest ∙ append_assoc body given (right ∷ rest) in
    let opened : Result State Refused = going_on (bare_list left.column operator_due ∷ lists) (nodes + 1) in
    then_leads _ _ _ _ _
    (same _ _ _ _ (
    ap (λ xs. Begin dialect column missing lists nodes (xs ++ rest)) is_spelled
    ∙ ap (λ xs. Begin dialect column missing lists nodes (left ∷ xs)) later
    ∙ ap (λ (k : TokenKind). After dialect column (node_token dialect lists nodes left missing k) (body ++ (given ++ right ∷ rest))) is_kind
    ∙ ap (λ (b : Bool). After dialect column (cond b (refuse 37 left) (cond (nat_le dialect.nodes nodes) (refuse 38 left) opened)) (body ++ (given ++ right ∷ rest)))
    (not_full dialect.depth (length lists) shallow)
    ))
    (then_leads _ _ _ _ _
    (unless_many dialect total column (nat_le dialect.nodes nodes) nodes left (going_on (bare_list left.column operator_due ∷ lists) (nodes + 1)) (body ++ (given ++ right ∷ rest)) refl below)
    (same _ _ _ _ (ap (λ (c : ℕ). From dialect column (bare_list c operator_due ∷ lists) (nodes + 1) (body ++ (given ++ right ∷ rest))) is_column)))

pub operator_read : (dialect : Dialect) (column at : ℕ) (lists : List OpenList) (nodes : ℕ) (name : Lexeme) (operator : Operator) (rest : List Lexeme)
    → IsOperator operator name
    → From dialect column (bare_list at operator_due ∷ lists) nodes (name ∷ rest) ≡ From dialect column (bare_list at (first_part operator) ∷ lists) nodes rest
operator_read dialect column at lists nodes name operator rest (is_kind, is_operator) =
    ap (λ (k : TokenKind). After dialect column (operator_token (bare_list at operator_due) lists nodes name k) rest) is_kind
    ∙ ap (λ (o : Option Operator). After dialect column (operator_found (bare_list at operator_due) lists nodes name o) rest) is_operator

pub term_atom_read : (dialect : Dialect) (column at place : ℕ) (lists : List OpenList) (nodes : ℕ) (term : Lexeme) (kind : TermKind) (type_name key : List ℕ) (rest : List Lexeme)
    → IsTerm place kind type_name key term
    → From dialect column (bare_list at term_due ∷ lists) nodes (term ∷ rest) ≡ From dialect column (bare_list at (term_read place kind type_name key) ∷ lists) nodes rest
term_atom_read dialect column at place lists nodes term kind type_name key rest (is_kind, is_column, is_pair) =
    ap (λ (k : TokenKind). After dialect column (term_token (bare_list at term_due) lists nodes term k) rest) is_kind
    ∙ ap (λ (r : Result State Refused). After dialect column r rest) (term_by_term (bare_list at term_due) lists nodes term kind)
    ∙ ap (λ (p : Option (List ℕ × List ℕ)). After dialect column (term_found (bare_list at term_due) lists nodes term kind p) rest) is_pair
    ∙ ap (λ (c : ℕ). From dialect column (bare_list at (term_read c kind type_name key) ∷ lists) nodes rest) is_column

pub prefix_read : (dialect : Dialect) (column at place : ℕ) (join : JoinKind) (lists : List OpenList) (nodes : ℕ) (prefix : Lexeme) (type_name : List ℕ) (rest : List Lexeme)
    → IsPrefix place type_name prefix
    → From dialect column (bare_list at (prefix_due join) ∷ lists) nodes (prefix ∷ rest) ≡ From dialect column (bare_list at (node_due join place type_name) ∷ lists) nodes rest
prefix_read dialect column at place join lists nodes prefix type_name rest (is_kind, is_column, is_prefix) =
    ap (λ (k : TokenKind). After dialect column (prefix_token (bare_list at (prefix_due join)) lists nodes prefix join k) rest) is_kind
    ∙ ap (λ (n : Option (List ℕ)). After dialect column (prefix_found (bare_list at (prefix_due join)) lists nodes prefix join n) rest) is_prefix
    ∙ ap (λ (c : ℕ). From dialect column (bare_list at (node_due join c type_name) ∷ lists) nodes rest) is_column

-- a node's first token
pub record Starts (spelled : List Lexeme) : Type 0 where
  pub first : Lexeme
  pub others : List Lexeme
  pub is_spelled : spelled ≡ first ∷ others
  pub begins : (first.kind ≡ tokens.Left) ⊎ ((kind : TermKind) × (first.kind ≡ atom_of kind))

pub enclosed_starts : (dialect : Dialect) (at : ℕ) (mark : Mark) (limit : Option ℕ) (Body : List Lexeme → Type 0) (spelled : List Lexeme)
    → Enclosed dialect at mark limit Body spelled → Starts spelled
enclosed_starts dialect at mark limit Body spelled (left, (body, (given, (right, (is_spelled, is_left, is_body, opts, is_right))))) =
    record { first = left; others = (body ++ given) ++ right ∷ []; is_spelled = is_spelled; begins = inl is_left.0 }

pub starts : (dialect : Dialect) (node : Tree) (mark : Mark) (spelled : List Lexeme) → NodeSpells dialect node mark spelled → Starts spelled
starts dialect (term_at column kind type_name key) mark spelled (inl (plain, (token, (is_spelled, is_term)))) =
    record { first = token; others = []; is_spelled = is_spelled; begins = inr (kind, is_term.0) }
starts dialect (term_at column kind type_name key) mark spelled (inr (outer, enclosed)) = enclosed_starts dialect outer mark None _ spelled enclosed
starts dialect (list_at column kind forest) mark spelled (few, enclosed) = enclosed_starts dialect column mark None _ spelled enclosed
starts dialect (join_at column join type_column type_name limit node) mark spelled (given, (is_limit, enclosed)) =
    enclosed_starts dialect column mark given _ spelled enclosed

-- an operand, and a join's node, begin where a node is due
pub operand_begins : (dialect : Dialect) (column at : ℕ) (kind : ListKind) (acc : Forest) (lists : List OpenList) (nodes : ℕ) (front rest : List Lexeme)
    → Starts front → operand_count acc < most_operands dialect kind
    → From dialect column (bare_list at (operands_read kind acc) ∷ lists) nodes (front ++ rest)
    ≡ Begin dialect column 35 (bare_list at (operands_read kind acc) ∷ lists) nodes (front ++ rest)
operand_begins dialect column at kind acc lists nodes front rest first room =
    let list : OpenList = bare_list at (operands_read kind acc) in
    let open_room : nat_le (most_operands dialect kind) (operand_count acc) ≡ false = not_full (most_operands dialect kind) (operand_count acc) room in
    ap (λ xs. From dialect column (list ∷ lists) nodes (xs ++ rest)) first.is_spelled
    ∙ by_kind list open_room first.begins
    ∙ ap (λ xs. Begin dialect column 35 (list ∷ lists) nodes (xs ++ rest)) (sym first.is_spelled)
  where
    by_kind : (list : OpenList) → nat_le (most_operands dialect kind) (operand_count acc) ≡ false
        → (first.first.kind ≡ tokens.Left) ⊎ ((term : TermKind) × (first.first.kind ≡ atom_of term))
        → After dialect column (operands_token dialect (bare_list at (operands_read kind acc)) lists nodes first.first kind (operand_count acc) first.first.kind) (first.others ++ rest)
        ≡ After dialect column (node_token dialect (bare_list at (operands_read kind acc) ∷ lists) nodes first.first 35 first.first.kind) (first.others ++ rest)
    by_kind list open_room (inl is_left) =
        ap (λ (k : TokenKind). After dialect column (operands_token dialect (bare_list at (operands_read kind acc)) lists nodes first.first kind (operand_count acc) k) (first.others ++ rest)) is_left
        ∙ ap (λ (b : Bool). After dialect column (cond b (refuse 35 first.first) (begin_list dialect (bare_list at (operands_read kind acc) ∷ lists) nodes first.first)) (first.others ++ rest)) open_room
        ∙ ap (λ (k : TokenKind). After dialect column (node_token dialect (bare_list at (operands_read kind acc) ∷ lists) nodes first.first 35 k) (first.others ++ rest)) (sym is_left)
    by_kind list open_room (inr (term, is_term)) =
        ap (λ (k : TokenKind). After dialect column (operands_token dialect (bare_list at (operands_read kind acc)) lists nodes first.first kind (operand_count acc) k) (first.others ++ rest)) is_term
        ∙ ap (λ (r : Result State Refused). After dialect column r (first.others ++ rest)) (operand_by_term dialect (bare_list at (operands_read kind acc)) lists nodes first.first kind (operand_count acc) term)
        ∙ ap (λ (b : Bool). After dialect column (cond b (refuse 35 first.first) (begin_term dialect (bare_list at (operands_read kind acc) ∷ lists) nodes first.first term)) (first.others ++ rest)) open_room
        ∙ ap (λ (r : Result State Refused). After dialect column r (first.others ++ rest)) (sym (node_by_term dialect (bare_list at (operands_read kind acc) ∷ lists) nodes first.first 35 term))
        ∙ ap (λ (k : TokenKind). After dialect column (node_token dialect (bare_list at (operands_read kind acc) ∷ lists) nodes first.first 35 k) (first.others ++ rest)) (sym is_term)

pub inner_begins : (dialect : Dialect) (column at place : ℕ) (join : JoinKind) (type_name : List ℕ) (lists : List OpenList) (nodes : ℕ) (front rest : List Lexeme)
    → Starts front
    → From dialect column (bare_list at (node_due join place type_name) ∷ lists) nodes (front ++ rest)
    ≡ Begin dialect column 35 (bare_list at (node_due join place type_name) ∷ lists) nodes (front ++ rest)
inner_begins dialect column at place join type_name lists nodes front rest first =
    ap (λ xs. From dialect column (bare_list at (node_due join place type_name) ∷ lists) nodes (xs ++ rest)) first.is_spelled
    ∙ ap (λ xs. Begin dialect column 35 (bare_list at (node_due join place type_name) ∷ lists) nodes (xs ++ rest)) (sym first.is_spelled)

-- operands one after the other
abbrev pub grown : Forest → Forest → Forest
grown acc no_operands = acc
grown acc (with_operand node mark others) = grown (add_operand acc node mark) others

abbrev pub chained : Forest → Forest → Forest
chained no_operands forest = forest
chained (with_operand node mark others) forest = with_operand node mark (chained others forest)

pub chained-nil : (acc : Forest) → chained acc no_operands ≡ acc
chained-nil no_operands = refl
chained-nil (with_operand node mark others) = ap (λ rest. with_operand node mark rest) (chained-nil others)

pub chained-add : (acc forest : Forest) (node : Tree) (mark : Mark)
    → chained (add_operand acc node mark) forest ≡ chained acc (with_operand node mark forest)
chained-add no_operands forest node mark = refl
chained-add (with_operand first first_mark others) forest node mark =
    ap (λ rest. with_operand first first_mark rest) (chained-add others forest node mark)

pub grown-chained : (acc forest : Forest) → grown acc forest ≡ chained acc forest
grown-chained acc no_operands = sym (chained-nil acc)
grown-chained acc (with_operand node mark others) =
    grown-chained (add_operand acc node mark) others ∙ chained-add acc others node mark
