-- What is written before a token, and the state of the reading there: the state is in what is written, and
-- a step refuses a token with the code that it has there.
use Rattle.std.proofs.Common.{◌≡◌, ℕ, suc, ◌+◌, ◌||◌, Bool, true, false, not, cond, List, [], ◌∷◌, length, Option, None, Some, is_some, Result, Ok, Err, refl, sym, ap, ◌∙◌, subst, arith}
use Rattle.std.specs.Prelude.{nat_le, nat_lt, is_none, ◌&&◌}
use Rattle.std.specs.Option.{option_map_or, option_map, option_and_then}
use Rattle.uni_base.specs.Fields.{cut_at}
use Rattle.uni_base.specs.Numbers.{number_between}
use Rattle.query_tree.specs.declared.dialect.Dialect.{Dialect}
use Rattle.query_tree.specs.declared.kind.JoinKind.{JoinKind}
use Rattle.query_tree.specs.declared.kind.ListKind.{ListKind}
use Rattle.query_tree.specs.declared.kind.ListKind.TheVariants.{Difference}
use Rattle.query_tree.specs.declared.kind.MarkKind.{MarkKind}
use Rattle.query_tree.specs.declared.kind.MarkKind.TheVariants as mark_kinds
use Rattle.query_tree.specs.declared.kind.TermKind.{TermKind}
use Rattle.query_tree.specs.declared.kind.TermKind.TheVariants as terms
use Rattle.query_tree.specs.declared.query.Mark.{Mark}
use Rattle.query_tree.specs.declared.query.Mark.TheVariants.{Plain, Hits, Weight}
use Rattle.query_tree.specs.Marks.{may_mark}
use Rattle.query_tree.specs.Tree.{Tree, Forest, term_at, no_operands}
use Rattle.query_tree.specs.Within.{operand_count}
use Rattle.query_reader.specs.declared.token.TokenKind.{TokenKind}
use Rattle.query_reader.specs.declared.token.TokenKind.TheVariants as tokens
use Rattle.query_reader.specs.declared.operator.Operator.{Operator}
use Rattle.query_reader.specs.declared.operator.Operator.TheVariants as operators
use Rattle.query_reader.specs.declared.value.OptionName.{OptionName}
use Rattle.query_reader.specs.declared.value.OptionName.TheVariants as options
use Rattle.query_reader.specs.declared.open_list.Tail.{Tail}
use Rattle.query_reader.specs.declared.open_list.Tail.TheVariants as tails
use Rattle.query_reader.specs.Operators.{operator_of}
use Rattle.query_reader.specs.Values.{option_of, hits_of, weight_of, weight_between, weight_over}
use Rattle.query_reader.specs.Reading.{Lexeme, Refused, Part, operator_due, term_due, term_read, operands_read, prefix_due, node_due, node_read, OpenList, State, refuse, going_on, add_operand, part_with, deliver, pair_of, prefix_of, begin_list, bare_term, begin_term, node_token, first_part, operator_found, operator_token, term_found, term_token, prefix_found, prefix_token, part_kind, parent_kind, is_join, is_plain, may_take, option_found, option_token, with_limit, with_mark, limit_value, mark_value, value_token, node_of, closed, close, end_token, least_operands, most_operands, operands_token, after_option, part_token, tail_token, step_in}
use Rattle.query_reader.specs.FaultCodes.{Item, atom, whole_list, Outline, operator_in, named_option, is_operand, is_prefix, least_of, most_of, term_code, prefix_code, outside_code, one_more, operands_in, has_prefix, has_option, value_due, excludes, is_excluded, is_allowed, operator_around, unless, many_code, node_code, option_code, is_value, operator_code, operands_code, after_code, body_code, inside_code, code_in, is_term, written, is_whole}
use Rattle.query_reader.proofs.Standing.{count_more}

-- what a part shows of its list: its operator, its operands, whether it has a prefix
abbrev pub part_operator : Part → Option Operator
part_operator operator_due = None
part_operator term_due = Some operators.Term
part_operator (term_read column kind type_name key) = Some operators.Term
part_operator (operands_read kind forest) = Some (operators.List kind)
part_operator (prefix_due join) = Some (operators.Join join)
part_operator (node_due join column type_name) = Some (operators.Join join)
part_operator (node_read join column type_name node) = Some (operators.Join join)

abbrev pub part_operands : Part → ℕ
part_operands (term_read column kind type_name key) = 1
part_operands (operands_read kind forest) = operand_count forest
part_operands (node_read join column type_name node) = 1
part_operands part = 0

abbrev pub part_prefixed : Part → Bool
part_prefixed (node_due join column type_name) = true
part_prefixed (node_read join column type_name node) = true
part_prefixed part = false

-- an operator is due where nothing stands in a list, and else it stands there
abbrev pub IsNamed : Part → List Item → Type 0
IsNamed operator_due own = own ≡ []
IsNamed part own = operator_in own ≡ part_operator part

-- what a tail shows of the options: whose value is due, whether there is one, and which are excluded by the due one
abbrev pub due_option : Tail → Option OptionName
due_option (tails.ValueDue name) = Some name
due_option tail = None

abbrev pub some_option : Tail → Bool
some_option tails.NoOption = false
some_option tail = true

abbrev pub due_excludes : Tail → OptionName → Bool
due_excludes (tails.ValueDue given) name = excludes given name
due_excludes tail name = false

-- a list with this part may end
abbrev pub MayEnd : Part → Type 0
MayEnd (term_read column kind type_name key) = Unit {0}
MayEnd (operands_read kind forest) = Unit {0}
MayEnd (node_read join column type_name node) = Unit {0}
MayEnd part = ⊥

abbrev pub TailStands : Tail → Part → Type 0
TailStands tails.NoOption part = Unit {0}
TailStands tail part = MayEnd part

-- what is read off a list's items is what the reading has of the list
pub record Outlined (part : Part) (mark : Mark) (limit : Option ℕ) (tail : Tail) (own : List Item) : Type 0 where
  pub named : IsNamed part own
  pub operands : operands_in own ≡ part_operands part
  pub prefixed : has_prefix own ≡ part_prefixed part
  pub due : value_due own ≡ due_option tail
  pub some : has_option own ≡ some_option tail
  pub limited : is_excluded options.Limit own ≡ due_excludes tail options.Limit || not (is_none limit)
  pub marked : (kind : MarkKind) → is_excluded (options.Mark kind) own ≡ due_excludes tail (options.Mark kind) || not (is_plain mark)
  pub stands : TailStands tail part

-- a node is due in a list with this part
abbrev pub Awaits : Part → Type 0
Awaits (operands_read kind forest) = Unit {0}
Awaits (node_due join column type_name) = Unit {0}
Awaits part = ⊥

-- the same of open lists in which a node is due, and nothing stands outside of them all
abbrev pub AreAround : List OpenList → List (List Item) → Type 0
AreAround [] ([] ∷ []) = Unit {0}
AreAround [] around = ⊥
AreAround (list ∷ lists) [] = ⊥
AreAround (list ∷ lists) (own ∷ around) =
    Outlined list.part list.mark list.limit tails.NoOption own × (list.tail ≡ tails.NoOption) × Awaits list.part × AreAround lists around

-- the same of a state
abbrev pub IsShown : List OpenList → Option Tree → List Item → List (List Item) → Type 0
IsShown [] None [] [] = Unit {0}
IsShown [] None own around = ⊥
IsShown [] (Some node) own around = is_whole own around ≡ true
IsShown (list ∷ lists) None own around = Outlined list.part list.mark list.limit list.tail own × AreAround lists around
IsShown (list ∷ lists) (Some node) own around = ⊥

-- a token that is taken has no code, and leads to what is written with it; one that is refused has the fault's code
abbrev pub StepShown : Result State Refused → Option ℕ → Outline → Type 0
StepShown (Ok next) code outline =
    (code ≡ None) × IsShown next.open_lists next.whole outline.own outline.around × (next.nodes ≡ outline.nodes)
StepShown (Err fault) code outline = code ≡ Some fault.code

-- the words of atoms, by their kinds
abbrev pub HasForm : TokenKind → List ℕ → Type 0
HasForm tokens.Term bytes = (pair : List ℕ × List ℕ) × (pair_of terms.Whole bytes ≡ Some pair)
HasForm tokens.Stem bytes = (pair : List ℕ × List ℕ) × (pair_of terms.Prefix bytes ≡ Some pair)
HasForm tokens.Prefix bytes = (name : List ℕ) × (prefix_of bytes ≡ Some name)
HasForm kind bytes = Unit {0}

abbrev list_of : ℕ → Part → Mark → Option ℕ → Tail → OpenList
list_of column part mark limit tail = record { column = column; part = part; mark = mark; limit = limit; tail = tail }

operator_more : (item : Item) (own : List Item) (operator : Operator) → operator_in own ≡ Some operator → operator_in (item ∷ own) ≡ Some operator
operator_more item [] operator named = absurd (cc)
operator_more item (before ∷ own) operator named = named

operator_is : (part : Part) (own : List Item) → IsNamed part own → operator_in own ≡ part_operator part
operator_is operator_due own named = ap operator_in named
operator_is term_due own named = named
operator_is (term_read column kind type_name key) own named = named
operator_is (operands_read kind forest) own named = named
operator_is (prefix_due join) own named = named
operator_is (node_due join column type_name) own named = named
operator_is (node_read join column type_name node) own named = named

some_around : (lists : List OpenList) → AreAround lists [] → ⊥
some_around [] shown = shown
some_around (list ∷ lists) shown = shown

around_length : (lists : List OpenList) (around : List (List Item)) → AreAround lists around → length around ≡ suc (length lists)
around_length [] [] shown = absurd shown
around_length [] ([] ∷ []) shown = refl
around_length [] ([] ∷ (items ∷ others)) shown = absurd shown
around_length [] ((item ∷ items) ∷ others) shown = absurd shown
around_length (list ∷ lists) [] shown = absurd shown
around_length (list ∷ lists) (own ∷ around) shown = ap suc (around_length lists around shown.3)

-- a list with one more item that is no option, and the part that follows
more_outlined : (part next : Part) (mark : Mark) (limit : Option ℕ) (own : List Item) (item : Item) → named_option item ≡ None
    → IsNamed next (item ∷ own) → one_more (is_operand item) (part_operands part) ≡ part_operands next
    → is_prefix item || part_prefixed part ≡ part_prefixed next
    → Outlined part mark limit tails.NoOption own → Outlined next mark limit tails.NoOption (item ∷ own)
more_outlined part next mark limit own item free named count prefixed shown = record {
  named = named;
  operands = ap (one_more (is_operand item)) shown.operands ∙ count;
  prefixed = ap (λ b. is_prefix item || b) shown.prefixed ∙ prefixed;
  due = free;
  some = ap (λ (o : Option OptionName). is_some o || has_option own) free ∙ shown.some;
  limited =
      ap (λ (o : Option OptionName). option_map_or (λ (given : OptionName). excludes given options.Limit) o false || is_excluded options.Limit own) free ∙ shown.limited;
  marked =
      λ kind.
      ap (λ (o : Option OptionName). option_map_or (λ (given : OptionName). excludes given (options.Mark kind)) o false || is_excluded (options.Mark kind) own) free
      ∙ shown.marked kind;
  stands = tt;
}

-- a list in which a node is due, with that node
node_outlined : (part : Part) (mark : Mark) (limit : Option ℕ) (own : List Item) (node : Tree) (node_mark : Mark) (item : Item)
    → named_option item ≡ None → is_operand item ≡ true → is_prefix item ≡ false
    → Outlined part mark limit tails.NoOption own → Awaits part → Outlined (part_with part node node_mark) mark limit tails.NoOption (item ∷ own)
node_outlined operator_due mark limit own node node_mark item free operand other shown awaits = absurd awaits
node_outlined term_due mark limit own node node_mark item free operand other shown awaits = absurd awaits
node_outlined (term_read column kind type_name key) mark limit own node node_mark item free operand other shown awaits = absurd awaits
node_outlined (operands_read kind forest) mark limit own node node_mark item free operand other shown awaits =
    more_outlined (operands_read kind forest) (operands_read kind (add_operand forest node node_mark)) mark limit own item free
    (operator_more item own (operators.List kind) shown.named)
    (ap (λ b. one_more b (operand_count forest)) operand ∙ sym (count_more forest node node_mark))
    (ap (λ b. b || false) other) shown
node_outlined (prefix_due join) mark limit own node node_mark item free operand other shown awaits = absurd awaits
node_outlined (node_due join column type_name) mark limit own node node_mark item free operand other shown awaits =
    more_outlined (node_due join column type_name) (node_read join column type_name node) mark limit own item free
    (operator_more item own (operators.Join join) shown.named)
    (ap (λ b. one_more b 0) operand) (ap (λ b. b || true) other) shown
node_outlined (node_read join column type_name old) mark limit own node node_mark item free operand other shown awaits = absurd awaits

-- a bare term stands in no list of the operator `term`
part_not_term : (part : Part) (own : List Item) → IsNamed part own → Awaits part → is_term (operator_in own) ≡ false
part_not_term operator_due own named awaits = absurd awaits
part_not_term term_due own named awaits = absurd awaits
part_not_term (term_read column kind type_name key) own named awaits = absurd awaits
part_not_term (operands_read kind forest) own named awaits = ap is_term named
part_not_term (prefix_due join) own named awaits = absurd awaits
part_not_term (node_due join column type_name) own named awaits = ap is_term named
part_not_term (node_read join column type_name node) own named awaits = absurd awaits

not_term : (lists : List OpenList) (own : List Item) (around : List (List Item)) → AreAround lists (own ∷ around) → is_term (operator_in own) ≡ false
not_term [] [] around shown = refl
not_term [] (item ∷ own) around shown = absurd shown
not_term (list ∷ lists) own around shown = part_not_term list.part own shown.0.named shown.2

either : (test : Bool) (one other : Result State Refused) (first second : Option ℕ) (outline : Outline) → StepShown one first outline → StepShown other second outline
    → StepShown (cond test one other) (cond test first second) outline
either true one other first second outline shown_one shown_other = shown_one
either false one other first second outline shown_one shown_other = shown_other

-- a node in its place
deliver_shown : (lists : List OpenList) (own : List Item) (around : List (List Item)) (nodes count : ℕ) (node : Tree) (mark : Mark) (item : Item)
    → named_option item ≡ None → is_operand item ≡ true → is_prefix item ≡ false → nodes ≡ count → AreAround lists (own ∷ around)
    → StepShown (deliver lists nodes node mark) None (record { own = item ∷ own; around = around; nodes = count })
deliver_shown [] [] [] nodes count node mark item free operand other same shown = (refl, refl, same)
deliver_shown [] [] (items ∷ around) nodes count node mark item free operand other same shown = absurd shown
deliver_shown [] (before ∷ own) around nodes count node mark item free operand other same shown = absurd shown
deliver_shown (list ∷ lists) own around nodes count node mark item free operand other same shown = (
  refl,
  (
    subst (λ (t : Tail). Outlined (part_with list.part node mark) list.mark list.limit t (item ∷ own)) (sym shown.1)
        (node_outlined list.part list.mark list.limit own node mark item free operand other shown.0 shown.2),
    shown.3,
  ),
  same,
)

-- the same numbers of operands
least_same : (kind : ListKind) → least_operands kind ≡ least_of kind
least_same Difference = refl
least_same kind = refl

most_same : (dialect : Dialect) (kind : ListKind) → most_operands dialect kind ≡ most_of dialect kind
most_same dialect Difference = refl
most_same dialect kind = refl

-- a list that may end has an operator, and keeps it
ends_named : (part : Part) (own : List Item) (item : Item) → MayEnd part → IsNamed part own → IsNamed part (item ∷ own)
ends_named operator_due own item ends named = absurd ends
ends_named term_due own item ends named = absurd ends
ends_named (term_read column kind type_name key) own item ends named = operator_more item own operators.Term named
ends_named (operands_read kind forest) own item ends named = operator_more item own (operators.List kind) named
ends_named (prefix_due join) own item ends named = absurd ends
ends_named (node_due join column type_name) own item ends named = absurd ends
ends_named (node_read join column type_name node) own item ends named = operator_more item own (operators.Join join) named

-- where a limit may stand
limit_may : (format : ℕ) (part : Part) (limit : Option ℕ) (around : Option Operator) → MayEnd part
    → is_join part && is_none limit ≡ is_allowed format options.Limit (part_operator part) around && not (not (is_none limit))
limit_may format operator_due limit around ends = absurd ends
limit_may format term_due limit around ends = absurd ends
limit_may format (term_read column kind type_name key) limit around ends = refl
limit_may format (operands_read kind forest) limit around ends = refl
limit_may format (prefix_due join) limit around ends = absurd ends
limit_may format (node_due join column type_name) limit around ends = absurd ends
limit_may format (node_read join column type_name node) None around ends = refl
limit_may format (node_read join column type_name node) (Some limit) around ends = refl

-- where a mark may stand
abbrev parent_operator : List OpenList → Option Operator
parent_operator [] = None
parent_operator (list ∷ lists) = part_operator list.part

parent_is : (lists : List OpenList) (around : List (List Item)) → AreAround lists around → operator_around around ≡ parent_operator lists
parent_is [] [] shown = absurd shown
parent_is [] ([] ∷ []) shown = refl
parent_is [] ([] ∷ (items ∷ others)) shown = absurd shown
parent_is [] ((item ∷ items) ∷ others) shown = absurd shown
parent_is (list ∷ lists) [] shown = absurd shown
parent_is (list ∷ lists) (own ∷ around) shown = operator_is list.part own shown.0.named

plain_twice : (mark : Mark) → is_plain mark ≡ not (not (is_plain mark))
plain_twice Plain = refl
plain_twice mark = refl

mark_in : (format : ℕ) (kind : MarkKind) (list : OpenList) (part : Part) (own : Option Operator)
    → may_take format (options.Mark kind) list (part_kind part) ≡ is_allowed format (options.Mark kind) own (part_operator part) && not (not (is_plain list.mark))
mark_in format kind list operator_due own = refl
mark_in format kind list term_due own = refl
mark_in format kind list (term_read column term_kind type_name key) own = refl
mark_in format kind list (operands_read operator forest) own = ap (λ b. may_mark format operator kind && b) (plain_twice list.mark)
mark_in format kind list (prefix_due join) own = refl
mark_in format kind list (node_due join column type_name) own = refl
mark_in format kind list (node_read join column type_name node) own = refl

mark_may : (format : ℕ) (kind : MarkKind) (list : OpenList) (lists : List OpenList) (own : Option Operator)
    → may_take format (options.Mark kind) list (parent_kind lists) ≡ is_allowed format (options.Mark kind) own (parent_operator lists) && not (not (is_plain list.mark))
mark_may format kind list [] own = refl
mark_may format kind list (parent ∷ lists) own = mark_in format kind list parent.part own

-- no value is due
abbrev IsSettled : Tail → Type 0
IsSettled (tails.ValueDue name) = ⊥
IsSettled tail = Unit {0}

none_due : (tail : Tail) (name : OptionName) (given : Bool) → IsSettled tail → due_excludes tail name || given ≡ given
none_due tails.NoOption name given settled = refl
none_due (tails.ValueDue due) name given settled = absurd settled
none_due tails.OptionRead name given settled = refl

-- an option's name, and its value, in a list that may end
option_outlined : (part : Part) (mark : Mark) (limit : Option ℕ) (tail : Tail) (own : List Item) (bytes : List ℕ) (name : OptionName) → option_of bytes ≡ Some name
    → MayEnd part → IsSettled tail → Outlined part mark limit tail own → Outlined part mark limit (tails.ValueDue name) (atom tokens.Option bytes ∷ own)
option_outlined part mark limit tail own bytes name is_name ends settled shown = record {
  named = ends_named part own (atom tokens.Option bytes) ends shown.named;
  operands = shown.operands;
  prefixed = shown.prefixed;
  due = is_name;
  some = ap (λ (o : Option OptionName). is_some o || has_option own) is_name;
  limited =
      ap (λ (o : Option OptionName). option_map_or (λ (given : OptionName). excludes given options.Limit) o false || is_excluded options.Limit own) is_name
      ∙ ap (λ b. excludes name options.Limit || b) (shown.limited ∙ none_due tail options.Limit (not (is_none limit)) settled);
  marked =
      λ kind.
      ap (λ (o : Option OptionName). option_map_or (λ (given : OptionName). excludes given (options.Mark kind)) o false || is_excluded (options.Mark kind) own) is_name
      ∙ ap (λ b. excludes name (options.Mark kind) || b) (shown.marked kind ∙ none_due tail (options.Mark kind) (not (is_plain mark)) settled);
  stands = ends;
}

limit_outlined : (part : Part) (mark : Mark) (old : Option ℕ) (value : ℕ) (own : List Item) (bytes : List ℕ)
    → Outlined part mark old (tails.ValueDue options.Limit) own → Outlined part mark (Some value) tails.OptionRead (atom tokens.Number bytes ∷ own)
limit_outlined part mark old value own bytes shown = record {
  named = ends_named part own (atom tokens.Number bytes) shown.stands shown.named;
  operands = shown.operands;
  prefixed = shown.prefixed;
  due = refl;
  some = shown.some;
  limited = shown.limited;
  marked = shown.marked;
  stands = shown.stands;
}

mark_outlined : (part : Part) (old mark : Mark) (limit : Option ℕ) (own : List Item) (kind : MarkKind) (item : Item)
    → named_option item ≡ None → is_operand item ≡ false → is_prefix item ≡ false → is_plain mark ≡ false
    → Outlined part old limit (tails.ValueDue (options.Mark kind)) own → Outlined part mark limit tails.OptionRead (item ∷ own)
mark_outlined part old mark limit own kind item free no_operand no_prefix given shown = record {
  named = ends_named part own item shown.stands shown.named;
  operands = ap (λ b. one_more b (operands_in own)) no_operand ∙ shown.operands;
  prefixed = ap (λ b. b || has_prefix own) no_prefix ∙ shown.prefixed;
  due = free;
  some = ap (λ (o : Option OptionName). is_some o || has_option own) free ∙ shown.some;
  limited =
      ap (λ (o : Option OptionName). option_map_or (λ (one : OptionName). excludes one options.Limit) o false || is_excluded options.Limit own) free ∙ shown.limited;
  marked =
      λ name.
      ap (λ (o : Option OptionName). option_map_or (λ (one : OptionName). excludes one (options.Mark name)) o false || is_excluded (options.Mark name) own) free
      ∙ shown.marked name ∙ sym (ap not given);
  stands = shown.stands;
}

-- a value is a mark that is not plain
hits_given : (count : Option ℕ) (mark : Mark) → option_map Hits count ≡ Some mark → is_plain mark ≡ false
hits_given None mark is_mark = absurd (cc)
hits_given (Some count) mark is_mark = let same : Hits count ≡ mark = cc in sym (ap is_plain same)

over_given : (denominator : ℕ) (numerator : Option ℕ) (mark : Mark) → option_map (λ n. Weight n denominator) numerator ≡ Some mark → is_plain mark ≡ false
over_given denominator None mark is_mark = absurd (cc)
over_given denominator (Some numerator) mark is_mark = let same : Weight numerator denominator ≡ mark = cc in sym (ap is_plain same)

denominator_given : (text : List ℕ) (denominator : Option ℕ) (mark : Mark) → option_and_then (weight_over text) denominator ≡ Some mark → is_plain mark ≡ false
denominator_given text None mark is_mark = absurd (cc)
denominator_given text (Some denominator) mark is_mark = over_given denominator (number_between 1 denominator text) mark is_mark

weight_given : (parts : Option (List ℕ × List ℕ)) (mark : Mark) → weight_between parts ≡ Some mark → is_plain mark ≡ false
weight_given None mark is_mark = absurd (cc)
weight_given (Some parts) mark is_mark = denominator_given parts.0 (number_between 1 1000 parts.1) mark is_mark

module _ (dialect : Dialect) (token : Lexeme) where
  begin_list_shown : (lists : List OpenList) (own : List Item) (around : List (List Item)) (nodes : ℕ) → AreAround lists (own ∷ around)
      → StepShown (begin_list dialect lists nodes token) (node_code dialect (length around) nodes tokens.Left) (written own around nodes tokens.Left token.bytes)
  begin_list_shown lists own around nodes shown =
      let outline : Outline = record { own = []; around = own ∷ around; nodes = nodes + 1 } in
      let opened : Result State Refused = going_on (list_of token.column operator_due Plain None tails.NoOption ∷ lists) (nodes + 1) in
      let inner : StepShown (cond (nat_le dialect.nodes nodes) (refuse 38 token) opened) (many_code dialect nodes) outline =
      either (nat_le dialect.nodes nodes) (refuse 38 token) opened (Some 38) None outline refl (
        refl,
        (
          record { named = refl; operands = refl; prefixed = refl; due = refl; some = refl; limited = refl; marked = λ kind. refl; stands = tt },
          shown,
        ),
        refl,
      ) in
      let same : length lists ≡ length around = omega (arith, around_length lists (own ∷ around) shown) in
      subst
      (λ (n : ℕ).
      StepShown (cond (nat_le dialect.depth (length lists)) (refuse 37 token) (cond (nat_le dialect.nodes nodes) (refuse 38 token) opened))
      (cond (nat_le dialect.depth n) (Some 37) (many_code dialect nodes)) outline)
      same
      (either (nat_le dialect.depth (length lists)) (refuse 37 token) (cond (nat_le dialect.nodes nodes) (refuse 38 token) opened) (Some 37) (many_code dialect nodes) outline refl inner)

  begin_term_shown : (lists : List OpenList) (own : List Item) (around : List (List Item)) (nodes : ℕ) (kind : TermKind) (item : Item) (pair : List ℕ × List ℕ)
      → pair_of kind token.bytes ≡ Some pair → named_option item ≡ None → is_operand item ≡ true → is_prefix item ≡ false → AreAround lists (own ∷ around)
      → StepShown (begin_term dialect lists nodes token kind) (many_code dialect nodes)
      (record { own = item ∷ own; around = around; nodes = one_more (not (is_term (operator_in own))) nodes })
  begin_term_shown lists own around nodes kind item pair is_pair free operand other shown =
      let outline : Outline = record { own = item ∷ own; around = around; nodes = one_more (not (is_term (operator_in own))) nodes } in
      let more : nodes + 1 ≡ outline.nodes = sym (ap (λ b. one_more (not b) nodes) (not_term lists own around shown)) in
      either (nat_le dialect.nodes nodes) (refuse 38 token) (bare_term lists (nodes + 1) token kind (pair_of kind token.bytes)) (Some 38) None outline refl
      (subst (λ (words : Option (List ℕ × List ℕ)). StepShown (bare_term lists (nodes + 1) token kind words) None outline) (sym is_pair)
      (deliver_shown lists own around (nodes + 1) outline.nodes (term_at token.column kind pair.0 pair.1) Plain item free operand other more shown))

  -- where a node is due outside of all lists
  outer_shown : (nodes : ℕ) (kind : TokenKind) → HasForm kind token.bytes
      → StepShown (node_token dialect [] nodes token 31 kind) (outside_code dialect [] nodes kind) (written [] [] nodes kind token.bytes)
  outer_shown nodes tokens.Left form = begin_list_shown [] [] [] nodes tt
  outer_shown nodes tokens.Term form = begin_term_shown [] [] [] nodes terms.Whole (atom tokens.Term token.bytes) form.0 form.1 refl refl refl tt
  outer_shown nodes tokens.Stem form = begin_term_shown [] [] [] nodes terms.Prefix (atom tokens.Stem token.bytes) form.0 form.1 refl refl refl tt
  outer_shown nodes tokens.Right form = refl
  outer_shown nodes kind form = refl

  whole_shown : (own : List Item) (around : List (List Item)) (nodes : ℕ) → is_whole own around ≡ true → code_in dialect own around nodes token.kind token.bytes ≡ Some 33
  whole_shown [] [] nodes whole = absurd (cc)
  whole_shown [] (items ∷ others) nodes whole = absurd (cc)
  whole_shown (item ∷ own) [] nodes whole = refl
  whole_shown (item ∷ own) (items ∷ others) nodes whole = absurd (cc)

  module _ (column : ℕ) (lists : List OpenList) (own : List Item) (around : List (List Item)) (nodes : ℕ) (around_shown : AreAround lists around) where
    operator_shown : (mark : Mark) (limit : Option ℕ) (kind : TokenKind) → Outlined operator_due mark limit tails.NoOption own
        → StepShown (operator_token (list_of column operator_due mark limit tails.NoOption) lists nodes token kind) (operator_code kind token.bytes)
        (written own around nodes kind token.bytes)
    operator_shown mark limit tokens.Name shown = found (operator_of token.bytes) refl
      where
        item : Item
        item = atom tokens.Name token.bytes

        opened : (operator : Operator) → operator_in (item ∷ own) ≡ Some operator → Outlined (first_part operator) mark limit tails.NoOption (item ∷ own)
        opened operators.Term named = more_outlined operator_due term_due mark limit own item refl named refl refl shown
        opened (operators.List kind) named = more_outlined operator_due (operands_read kind no_operands) mark limit own item refl named refl refl shown
        opened (operators.Join join) named = more_outlined operator_due (prefix_due join) mark limit own item refl named refl refl shown

        found : (name : Option Operator) → operator_of token.bytes ≡ name
            → StepShown (operator_found (list_of column operator_due mark limit tails.NoOption) lists nodes token name) (unless (is_some name) 34)
            (record { own = item ∷ own; around = around; nodes = nodes })
        found None named = refl
        found (Some operator) named =
            (refl, (opened operator (ap (λ (items : List Item). operator_in (item ∷ items)) shown.named ∙ named), around_shown), refl)
    operator_shown mark limit kind shown = refl

    -- the atom of `term`
    read_shown : (mark : Mark) (limit : Option ℕ) (kind : TermKind) (item : Item) (pair : List ℕ × List ℕ)
        → pair_of kind token.bytes ≡ Some pair → named_option item ≡ None → is_operand item ≡ true → is_prefix item ≡ false
        → Outlined term_due mark limit tails.NoOption own
        → StepShown (term_found (list_of column term_due mark limit tails.NoOption) lists nodes token kind (pair_of kind token.bytes)) None
        (record { own = item ∷ own; around = around; nodes = one_more (not (is_term (operator_in own))) nodes })
    read_shown mark limit kind item pair is_pair free operand other shown =
        let outline : Outline = record { own = item ∷ own; around = around; nodes = one_more (not (is_term (operator_in own))) nodes } in
        subst
        (λ (words : Option (List ℕ × List ℕ)).
        StepShown (term_found (list_of column term_due mark limit tails.NoOption) lists nodes token kind words) None outline)
        (sym is_pair) (
          refl,
          (
            more_outlined term_due (term_read token.column kind pair.0 pair.1) mark limit own item free (operator_more item own operators.Term shown.named)
                (ap (λ b. one_more b 0) operand) (ap (λ b. b || false) other) shown,
            around_shown,
          ),
          sym (ap (λ (o : Option Operator). one_more (not (is_term o)) nodes) shown.named),
        )

    term_shown : (mark : Mark) (limit : Option ℕ) (kind : TokenKind) → HasForm kind token.bytes → Outlined term_due mark limit tails.NoOption own
        → StepShown (term_token (list_of column term_due mark limit tails.NoOption) lists nodes token kind) (term_code kind)
        (written own around nodes kind token.bytes)
    term_shown mark limit tokens.Term form shown = read_shown mark limit terms.Whole (atom tokens.Term token.bytes) form.0 form.1 refl refl refl shown
    term_shown mark limit tokens.Stem form shown = read_shown mark limit terms.Prefix (atom tokens.Stem token.bytes) form.0 form.1 refl refl refl shown
    term_shown mark limit tokens.Right form shown = refl
    term_shown mark limit kind form shown = refl

    prefix_shown : (mark : Mark) (limit : Option ℕ) (join : JoinKind) (kind : TokenKind) → HasForm kind token.bytes
        → Outlined (prefix_due join) mark limit tails.NoOption own
        → StepShown (prefix_token (list_of column (prefix_due join) mark limit tails.NoOption) lists nodes token join kind) (prefix_code kind)
        (written own around nodes kind token.bytes)
    prefix_shown mark limit join tokens.Prefix form shown =
        subst
        (λ (word : Option (List ℕ)).
        StepShown (prefix_found (list_of column (prefix_due join) mark limit tails.NoOption) lists nodes token join word) None
        (record { own = atom tokens.Prefix token.bytes ∷ own; around = around; nodes = nodes }))
        (sym form.1) (
          refl,
          (
            more_outlined (prefix_due join) (node_due join token.column form.0) mark limit own (atom tokens.Prefix token.bytes) refl
                (operator_more (atom tokens.Prefix token.bytes) own (operators.Join join) shown.named) refl refl shown,
            around_shown,
          ),
          refl,
        )
    prefix_shown mark limit join tokens.Right form shown = refl
    prefix_shown mark limit join tokens.Option form shown = refl
    prefix_shown mark limit join kind form shown = refl

    -- a list's end
    close_shown : (part : Part) (mark : Mark) (limit : Option ℕ) (tail : Tail) → MayEnd part
        → StepShown (close dialect (list_of column part mark limit tail) lists nodes token) None (written own around nodes tokens.Right token.bytes)
    close_shown part mark limit tail ends = closes part ends around around_shown
      where
        delivered : (node : Tree) (levels : List (List Item)) → AreAround lists levels
            → StepShown (deliver lists nodes node mark) None (written own levels nodes tokens.Right token.bytes)
        delivered node [] shown = absurd (some_around lists shown)
        delivered node (items ∷ others) shown = deliver_shown lists items others nodes nodes node mark whole_list refl refl refl refl shown

        closes : (part : Part) → MayEnd part → (levels : List (List Item)) → AreAround lists levels
            → StepShown (closed (list_of column part mark limit tail) lists nodes token (node_of dialect (list_of column part mark limit tail) part)) None (written own levels nodes tokens.Right token.bytes)
        closes (term_read at kind type_name key) one levels shown = delivered _ levels shown
        closes (operands_read kind forest) one levels shown = delivered _ levels shown
        closes (node_read join at type_name node) one levels shown = delivered _ levels shown
        closes operator_due one levels shown = absurd one
        closes term_due one levels shown = absurd one
        closes (prefix_due join) one levels shown = absurd one
        closes (node_due join at type_name) one levels shown = absurd one

    option_found_shown : (part : Part) (mark : Mark) (limit : Option ℕ) (tail : Tail) (name : Option OptionName) → option_of token.bytes ≡ name
        → MayEnd part → IsSettled tail → Outlined part mark limit tail own
        → StepShown (option_found dialect (list_of column part mark limit tail) lists nodes token name) (option_code dialect own around name)
        (written own around nodes tokens.Option token.bytes)
    option_found_shown part mark limit tail None is_name ends settled shown = refl
    option_found_shown part mark limit tail (Some name) is_name ends settled shown =
        subst
        (λ b. StepShown (cond b next (refuse 36 token)) (option_code dialect own around (Some name)) outline)
        (sym (may name))
        (go (is_allowed dialect.format name (operator_in own) (operator_around around) && not (is_excluded name own)))
      where
        outline : Outline
        outline = record { own = atom tokens.Option token.bytes ∷ own; around = around; nodes = nodes }

        next : Result State Refused
        next = going_on (list_of column part mark limit (tails.ValueDue name) ∷ lists) nodes

        go : (b : Bool) → StepShown (cond b next (refuse 36 token)) (unless b 36) outline
        go true = (refl, (option_outlined part mark limit tail own token.bytes name is_name ends settled shown, around_shown), refl)
        go false = refl

        may : (name : OptionName) → may_take dialect.format name (list_of column part mark limit tail) (parent_kind lists)
            ≡ is_allowed dialect.format name (operator_in own) (operator_around around) && not (is_excluded name own)
        may options.Limit =
            limit_may dialect.format part limit (operator_around around) ends
            ∙ ap (λ o. is_allowed dialect.format options.Limit o (operator_around around) && not (not (is_none limit))) (sym (operator_is part own shown.named))
            ∙ ap (λ b. is_allowed dialect.format options.Limit (operator_in own) (operator_around around) && not b)
            (sym (shown.limited ∙ none_due tail options.Limit (not (is_none limit)) settled))
        may (options.Mark kind) =
            mark_may dialect.format kind (list_of column part mark limit tail) lists (operator_in own)
            ∙ ap (λ o. is_allowed dialect.format (options.Mark kind) (operator_in own) o && not (not (is_plain mark))) (sym (parent_is lists around around_shown))
            ∙ ap (λ b. is_allowed dialect.format (options.Mark kind) (operator_in own) (operator_around around) && not b)
            (sym (shown.marked kind ∙ none_due tail (options.Mark kind) (not (is_plain mark)) settled))

    option_shown : (part : Part) (mark : Mark) (limit : Option ℕ) (tail : Tail) → MayEnd part → IsSettled tail → Outlined part mark limit tail own
        → StepShown (option_token dialect (list_of column part mark limit tail) lists nodes token) (option_code dialect own around (option_of token.bytes))
        (written own around nodes tokens.Option token.bytes)
    option_shown part mark limit tail ends settled shown = option_found_shown part mark limit tail (option_of token.bytes) refl ends settled shown

    -- after its one operand a list may end
    end_shown : (part : Part) (mark : Mark) (limit : Option ℕ) (kind : TokenKind) (begun : Option ℕ) → MayEnd part → Outlined part mark limit tails.NoOption own
        → StepShown (end_token dialect (list_of column part mark limit tails.NoOption) lists nodes token kind)
        (operands_code 1 1 1 begun (option_code dialect own around (option_of token.bytes)) kind) (written own around nodes kind token.bytes)
    end_shown part mark limit tokens.Right begun ends shown = close_shown part mark limit tails.NoOption ends
    end_shown part mark limit tokens.Option begun ends shown = option_shown part mark limit tails.NoOption ends tt shown
    end_shown part mark limit tokens.Left begun ends shown = refl
    end_shown part mark limit tokens.Term begun ends shown = refl
    end_shown part mark limit tokens.Stem begun ends shown = refl
    end_shown part mark limit kind begun ends shown = refl

    -- after an option and its value too
    after_shown : (part : Part) (mark : Mark) (limit : Option ℕ) (kind : TokenKind) → Outlined part mark limit tails.OptionRead own
        → StepShown (after_option dialect (list_of column part mark limit tails.OptionRead) lists nodes token kind)
        (after_code (option_code dialect own around (option_of token.bytes)) kind) (written own around nodes kind token.bytes)
    after_shown part mark limit tokens.Right shown = close_shown part mark limit tails.OptionRead shown.stands
    after_shown part mark limit tokens.Option shown = option_shown part mark limit tails.OptionRead shown.stands tt shown
    after_shown part mark limit kind shown = refl

    -- a value
    limit_shown : (part : Part) (mark : Mark) (limit : Option ℕ) (kind : TokenKind) → Outlined part mark limit (tails.ValueDue options.Limit) own
        → StepShown (with_limit (list_of column part mark limit (tails.ValueDue options.Limit)) lists nodes token (limit_value dialect token kind))
        (unless (is_value dialect options.Limit kind token.bytes) 36) (written own around nodes kind token.bytes)
    limit_shown part mark limit tokens.Number shown = found (number_between 1 dialect.join_limit token.bytes)
      where
        found : (value : Option ℕ) → StepShown (with_limit (list_of column part mark limit (tails.ValueDue options.Limit)) lists nodes token value) (unless (is_some value) 36)
            (record { own = atom tokens.Number token.bytes ∷ own; around = around; nodes = nodes })
        found None = refl
        found (Some value) = (refl, (limit_outlined part mark limit value own token.bytes shown, around_shown), refl)
    limit_shown part mark limit kind shown = refl

    mark_found_shown : (part : Part) (mark : Mark) (limit : Option ℕ) (kind : MarkKind) (item : Item) (value : Option Mark)
        → named_option item ≡ None → is_operand item ≡ false → is_prefix item ≡ false → ((new : Mark) → value ≡ Some new → is_plain new ≡ false)
        → Outlined part mark limit (tails.ValueDue (options.Mark kind)) own
        → StepShown (with_mark (list_of column part mark limit (tails.ValueDue (options.Mark kind))) lists nodes token value) (unless (is_some value) 36)
        (record { own = item ∷ own; around = around; nodes = nodes })
    mark_found_shown part mark limit kind item None free no_operand no_prefix given shown = refl
    mark_found_shown part mark limit kind item (Some value) free no_operand no_prefix given shown =
        (refl, (mark_outlined part mark value limit own kind item free no_operand no_prefix (given value refl) shown, around_shown), refl)

    mark_shown : (part : Part) (mark : Mark) (limit : Option ℕ) (name : MarkKind) (kind : TokenKind) → Outlined part mark limit (tails.ValueDue (options.Mark name)) own
        → StepShown (with_mark (list_of column part mark limit (tails.ValueDue (options.Mark name))) lists nodes token (mark_value name token kind))
        (unless (is_value dialect (options.Mark name) kind token.bytes) 36) (written own around nodes kind token.bytes)
    mark_shown part mark limit mark_kinds.Hits tokens.Number shown =
        mark_found_shown part mark limit mark_kinds.Hits (atom tokens.Number token.bytes) (hits_of token.bytes) refl refl refl
        (hits_given (number_between 0 1000000 token.bytes)) shown
    mark_shown part mark limit mark_kinds.Weight tokens.Fraction shown =
        mark_found_shown part mark limit mark_kinds.Weight (atom tokens.Fraction token.bytes) (weight_of token.bytes) refl refl refl
        (weight_given (cut_at 47 token.bytes)) shown
    mark_shown part mark limit name kind shown = refl

    value_shown : (part : Part) (mark : Mark) (limit : Option ℕ) (name : OptionName) → Outlined part mark limit (tails.ValueDue name) own
        → StepShown (value_token dialect (list_of column part mark limit (tails.ValueDue name)) lists nodes token name)
        (unless (is_value dialect name token.kind token.bytes) 36) (written own around nodes token.kind token.bytes)
    value_shown part mark limit options.Limit shown = limit_shown part mark limit token.kind shown
    value_shown part mark limit (options.Mark name) shown = mark_shown part mark limit name token.kind shown

    -- a node in a list where one is due
    list_around : (part : Part) (mark : Mark) (limit : Option ℕ) → Outlined part mark limit tails.NoOption own → Awaits part
        → AreAround (list_of column part mark limit tails.NoOption ∷ lists) (own ∷ around)
    list_around part mark limit shown awaits = (shown, refl, awaits, around_shown)

    left_shown : (part : Part) (mark : Mark) (limit : Option ℕ) → Outlined part mark limit tails.NoOption own → Awaits part
        → StepShown (begin_list dialect (list_of column part mark limit tails.NoOption ∷ lists) nodes token) (node_code dialect (length around) nodes tokens.Left)
        (written own around nodes tokens.Left token.bytes)
    left_shown part mark limit shown awaits =
        begin_list_shown (list_of column part mark limit tails.NoOption ∷ lists) own around nodes (list_around part mark limit shown awaits)

    bare_shown : (part : Part) (mark : Mark) (limit : Option ℕ) (kind : TermKind) (item : Item) (pair : List ℕ × List ℕ)
        → pair_of kind token.bytes ≡ Some pair → named_option item ≡ None → is_operand item ≡ true → is_prefix item ≡ false
        → Outlined part mark limit tails.NoOption own → Awaits part
        → StepShown (begin_term dialect (list_of column part mark limit tails.NoOption ∷ lists) nodes token kind) (many_code dialect nodes)
        (record { own = item ∷ own; around = around; nodes = one_more (not (is_term (operator_in own))) nodes })
    bare_shown part mark limit kind item pair is_pair free operand other shown awaits =
        begin_term_shown (list_of column part mark limit tails.NoOption ∷ lists) own around nodes kind item pair is_pair free operand other
        (list_around part mark limit shown awaits)

    node_shown : (join : JoinKind) (at : ℕ) (type_name : List ℕ) (mark : Mark) (limit : Option ℕ) (kind : TokenKind) → HasForm kind token.bytes
        → Outlined (node_due join at type_name) mark limit tails.NoOption own
        → StepShown (node_token dialect (list_of column (node_due join at type_name) mark limit tails.NoOption ∷ lists) nodes token 35 kind)
        (operands_code 1 1 0 (node_code dialect (length around) nodes kind) (option_code dialect own around (option_of token.bytes)) kind)
        (written own around nodes kind token.bytes)
    node_shown join at type_name mark limit tokens.Left form shown = left_shown (node_due join at type_name) mark limit shown tt
    node_shown join at type_name mark limit tokens.Term form shown =
        bare_shown (node_due join at type_name) mark limit terms.Whole (atom tokens.Term token.bytes) form.0 form.1 refl refl refl shown tt
    node_shown join at type_name mark limit tokens.Stem form shown =
        bare_shown (node_due join at type_name) mark limit terms.Prefix (atom tokens.Stem token.bytes) form.0 form.1 refl refl refl shown tt
    node_shown join at type_name mark limit tokens.Right form shown = refl
    node_shown join at type_name mark limit tokens.Option form shown = refl
    node_shown join at type_name mark limit kind form shown = refl

    operands_shown : (list : ListKind) (forest : Forest) (mark : Mark) (limit : Option ℕ) (kind : TokenKind) → HasForm kind token.bytes
        → Outlined (operands_read list forest) mark limit tails.NoOption own
        → StepShown (operands_token dialect (list_of column (operands_read list forest) mark limit tails.NoOption) lists nodes token list (operand_count forest) kind)
        (operands_code (least_operands list) (most_operands dialect list) (operand_count forest) (node_code dialect (length around) nodes kind)
        (option_code dialect own around (option_of token.bytes)) kind)
        (written own around nodes kind token.bytes)
    operands_shown list forest mark limit tokens.Left form shown =
        either (nat_le (most_operands dialect list) (operand_count forest)) (refuse 35 token) _ (Some 35) (node_code dialect (length around) nodes tokens.Left)
        (written own around nodes tokens.Left token.bytes) refl (left_shown (operands_read list forest) mark limit shown tt)
    operands_shown list forest mark limit tokens.Term form shown =
        either (nat_le (most_operands dialect list) (operand_count forest)) (refuse 35 token) _ (Some 35) (many_code dialect nodes)
        (written own around nodes tokens.Term token.bytes) refl
        (bare_shown (operands_read list forest) mark limit terms.Whole (atom tokens.Term token.bytes) form.0 form.1 refl refl refl shown tt)
    operands_shown list forest mark limit tokens.Stem form shown =
        either (nat_le (most_operands dialect list) (operand_count forest)) (refuse 35 token) _ (Some 35) (many_code dialect nodes)
        (written own around nodes tokens.Stem token.bytes) refl
        (bare_shown (operands_read list forest) mark limit terms.Prefix (atom tokens.Stem token.bytes) form.0 form.1 refl refl refl shown tt)
    operands_shown list forest mark limit tokens.Right form shown =
        either (nat_lt (operand_count forest) (least_operands list)) (refuse 35 token) _ (Some 35) None
        (written own around nodes tokens.Right token.bytes) refl (close_shown (operands_read list forest) mark limit tails.NoOption tt)
    operands_shown list forest mark limit tokens.Option form shown =
        either (nat_lt (operand_count forest) (least_operands list)) (refuse 35 token) _ (Some 35) (option_code dialect own around (option_of token.bytes))
        (written own around nodes tokens.Option token.bytes) refl (option_shown (operands_read list forest) mark limit tails.NoOption tt tt shown)
    operands_shown list forest mark limit kind form shown = refl

    part_shown : (part : Part) (mark : Mark) (limit : Option ℕ) → HasForm token.kind token.bytes → Outlined part mark limit tails.NoOption own
        → StepShown (part_token dialect (list_of column part mark limit tails.NoOption) lists nodes token part)
        (body_code dialect (part_operator part) (part_prefixed part) (part_operands part) (node_code dialect (length around) nodes token.kind)
        (option_code dialect own around (option_of token.bytes)) token.kind token.bytes)
        (written own around nodes token.kind token.bytes)
    part_shown operator_due mark limit form shown = operator_shown mark limit token.kind shown
    part_shown term_due mark limit form shown = term_shown mark limit token.kind form shown
    part_shown (term_read at kind type_name key) mark limit form shown =
        end_shown (term_read at kind type_name key) mark limit token.kind (node_code dialect (length around) nodes token.kind) tt shown
    part_shown (operands_read list forest) mark limit form shown =
        subst
        (λ (n : ℕ).
        StepShown (operands_token dialect (list_of column (operands_read list forest) mark limit tails.NoOption) lists nodes token list (operand_count forest) token.kind)
        (operands_code n (most_of dialect list) (operand_count forest) (node_code dialect (length around) nodes token.kind)
        (option_code dialect own around (option_of token.bytes)) token.kind)
        (written own around nodes token.kind token.bytes))
        (least_same list)
        (subst
        (λ (n : ℕ).
        StepShown (operands_token dialect (list_of column (operands_read list forest) mark limit tails.NoOption) lists nodes token list (operand_count forest) token.kind)
        (operands_code (least_operands list) n (operand_count forest) (node_code dialect (length around) nodes token.kind)
        (option_code dialect own around (option_of token.bytes)) token.kind)
        (written own around nodes token.kind token.bytes))
        (most_same dialect list)
        (operands_shown list forest mark limit token.kind form shown))
    part_shown (prefix_due join) mark limit form shown = prefix_shown mark limit join token.kind form shown
    part_shown (node_due join at type_name) mark limit form shown = node_shown join at type_name mark limit token.kind form shown
    part_shown (node_read join at type_name node) mark limit form shown =
        end_shown (node_read join at type_name node) mark limit token.kind (node_code dialect (length around) nodes token.kind) tt shown

    -- what is read off a list's items is what the list has so far
    abbrev code_by : Option OptionName → Bool → Option Operator → Bool → ℕ → Option ℕ
    code_by due some operator prefixed count =
        option_map_or (λ (name : OptionName). unless (is_value dialect name token.kind token.bytes) 36) due (
        cond some (after_code (option_code dialect own around (option_of token.bytes)) token.kind)
        (body_code dialect operator prefixed count (node_code dialect (length around) nodes token.kind)
        (option_code dialect own around (option_of token.bytes)) token.kind token.bytes)
        )

    tail_shown : (part : Part) (mark : Mark) (limit : Option ℕ) (tail : Tail) → HasForm token.kind token.bytes → Outlined part mark limit tail own
        → StepShown (tail_token dialect (list_of column part mark limit tail) lists nodes token tail)
        (code_by (due_option tail) (some_option tail) (part_operator part) (part_prefixed part) (part_operands part))
        (written own around nodes token.kind token.bytes)
    tail_shown part mark limit tails.NoOption form shown = part_shown part mark limit form shown
    tail_shown part mark limit (tails.ValueDue name) form shown = value_shown part mark limit name shown
    tail_shown part mark limit tails.OptionRead form shown = after_shown part mark limit token.kind shown

    code_same : (part : Part) (mark : Mark) (limit : Option ℕ) (tail : Tail) → Outlined part mark limit tail own
        → code_by (due_option tail) (some_option tail) (part_operator part) (part_prefixed part) (part_operands part)
        ≡ inside_code dialect own around nodes token.kind token.bytes
    code_same part mark limit tail shown =
        ap (λ d. code_by d (some_option tail) (part_operator part) (part_prefixed part) (part_operands part)) (sym shown.due)
        ∙ ap (λ b. code_by (value_due own) b (part_operator part) (part_prefixed part) (part_operands part)) (sym shown.some)
        ∙ ap (λ o. code_by (value_due own) (has_option own) o (part_prefixed part) (part_operands part)) (sym (operator_is part own shown.named))
        ∙ ap (λ b. code_by (value_due own) (has_option own) (operator_in own) b (part_operands part)) (sym shown.prefixed)
        ∙ ap (λ n. code_by (value_due own) (has_option own) (operator_in own) (has_prefix own) n) (sym shown.operands)

    inside_shown : (part : Part) (mark : Mark) (limit : Option ℕ) (tail : Tail) → HasForm token.kind token.bytes → Outlined part mark limit tail own
        → StepShown (tail_token dialect (list_of column part mark limit tail) lists nodes token tail) (inside_code dialect own around nodes token.kind token.bytes)
        (written own around nodes token.kind token.bytes)
    inside_shown part mark limit tail form shown =
        subst
        (λ (code : Option ℕ). StepShown (tail_token dialect (list_of column part mark limit tail) lists nodes token tail) code (written own around nodes token.kind token.bytes))
        (code_same part mark limit tail shown) (tail_shown part mark limit tail form shown)

  -- each step
  list_shown : (list : OpenList) (lists : List OpenList) (own : List Item) (around : List (List Item)) (nodes : ℕ) → HasForm token.kind token.bytes
      → Outlined list.part list.mark list.limit list.tail own → AreAround lists around
      → StepShown (tail_token dialect list lists nodes token list.tail) (code_in dialect own around nodes token.kind token.bytes)
      (written own around nodes token.kind token.bytes)
  list_shown list lists own [] nodes form shown around_shown = absurd (some_around lists around_shown)
  list_shown list lists own (items ∷ others) nodes form shown around_shown =
      inside_shown list.column lists own (items ∷ others) nodes around_shown list.part list.mark list.limit list.tail form shown

  pub step_shown : (lists : List OpenList) (whole : Option Tree) (own : List Item) (around : List (List Item)) (nodes : ℕ) → HasForm token.kind token.bytes
      → IsShown lists whole own around
      → StepShown (step_in dialect lists whole nodes token) (code_in dialect own around nodes token.kind token.bytes)
      (written own around nodes token.kind token.bytes)
  step_shown [] None [] [] nodes form shown = outer_shown nodes token.kind form
  step_shown [] None [] (items ∷ others) nodes form shown = absurd shown
  step_shown [] None (item ∷ own) around nodes form shown = absurd shown
  step_shown [] (Some node) own around nodes form shown = whole_shown own around nodes shown
  step_shown (list ∷ lists) None own around nodes form shown = list_shown list lists own around nodes form shown.0 shown.1
  step_shown (list ∷ lists) (Some node) own around nodes form shown = absurd shown

-- a query is whole in the state where it is in what is written
pub whole_is : (lists : List OpenList) (whole : Option Tree) (own : List Item) (around : List (List Item)) → IsShown lists whole own around → is_whole own around ≡ is_some whole
whole_is [] None [] [] shown = refl
whole_is [] None [] (items ∷ others) shown = absurd shown
whole_is [] None (item ∷ own) around shown = absurd shown
whole_is [] (Some node) own around shown = shown
whole_is (list ∷ lists) None own [] shown = absurd (some_around lists shown.1)
whole_is (list ∷ lists) None [] (items ∷ others) shown = refl
whole_is (list ∷ lists) None (item ∷ own) (items ∷ others) shown = refl
whole_is (list ∷ lists) (Some node) own around shown = absurd shown
