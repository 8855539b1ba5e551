-- What a state of the reading stands for, and a node that goes to its place.
use Rattle.std.proofs.Common.{◌≡◌, ℕ, ◌+◌, ◌<◌, ◌≤◌, true, false, List, [], ◌∷◌, ◌++◌, Option, None, Some, Result, Ok, Err, refl, sym, ap, ◌∙◌, subst, arith, cond, inl, length, append_assoc, append-nil}
use Rattle.std.specs.Prelude.{nat_le}
use Rattle.query_tree.specs.declared.dialect.Dialect.{Dialect}
use Rattle.query_tree.specs.declared.kind.MarkKind.{MarkKind}
use Rattle.query_tree.specs.declared.kind.MarkKind.TheVariants as mark_kinds
use Rattle.query_tree.specs.declared.kind.TermKind.{TermKind}
use Rattle.query_tree.specs.declared.kind.TermKind.TheVariants as terms
use Rattle.query_tree.specs.declared.kind.ListKind.{ListKind}
use Rattle.query_tree.specs.declared.query.Mark.{Mark}
use Rattle.query_tree.specs.declared.query.Mark.TheVariants.{Plain, Hits, Weight}
use Rattle.query_tree.specs.Tree.{Tree, Forest, term_at, no_operands, with_operand}
use Rattle.query_tree.specs.Marks.{may_mark, MayStand}
use Rattle.query_tree.specs.Within.{operand_count}
use Rattle.query_reader.specs.declared.token.TokenKind.{TokenKind}
use Rattle.query_reader.specs.declared.token.TokenKind.TheVariants as tokens
use Rattle.query_reader.specs.declared.operator.Operator.TheVariants as operators
use Rattle.query_reader.specs.declared.open_list.Tail.{Tail}
use Rattle.query_reader.specs.declared.open_list.Tail.TheVariants as tails
use Rattle.query_reader.specs.Reading.{Lexeme, Refused, Part, operator_due, term_due, term_read, operands_read, prefix_due, node_due, node_read, OpenList, State, refuse, going_on, add_operand, part_with, deliver, pair_of, begin_list, bare_term, begin_term, node_token, part_kind, parent_kind, may_take, least_operands, most_operands}
use Rattle.query_reader.specs.Grammar.{atom_of, IsOperator, IsPrefix, IsOption, OptionsSpell, MayHave, TermBody, NodeSpells, ForestSpells}

-- a mark of a kind, which may stand where its kind may
abbrev pub IsOfKind : MarkKind → Mark → Type 0
IsOfKind mark_kinds.Hits (Hits count) = Unit {0}
IsOfKind mark_kinds.Weight (Weight numerator denominator) = Unit {0}
IsOfKind kind mark = ⊥

pub kind_stands : (format : ℕ) (operator : ListKind) (kind : MarkKind) (mark : Mark) → IsOfKind kind mark
    → may_mark format operator kind ≡ true → MayStand format operator mark
kind_stands format operator mark_kinds.Hits (Hits count) of_kind may = may
kind_stands format operator mark_kinds.Weight (Weight n d) of_kind may = may
kind_stands format operator kind mark of_kind may = absurd of_kind

pub stands_kind : (format : ℕ) (operator : ListKind) (kind : MarkKind) (mark : Mark) → IsOfKind kind mark
    → MayStand format operator mark → may_mark format operator kind ≡ true
stands_kind format operator mark_kinds.Hits (Hits count) of_kind may = may
stands_kind format operator mark_kinds.Weight (Weight n d) of_kind may = may
stands_kind format operator kind mark of_kind may = absurd of_kind

pub not_plain : (kind : MarkKind) (mark : Mark) → IsOfKind kind mark → mark ≡ Plain → ⊥
not_plain mark_kinds.Hits mark of_kind plain = subst (IsOfKind mark_kinds.Hits) plain of_kind
not_plain mark_kinds.Weight mark of_kind plain = subst (IsOfKind mark_kinds.Weight) plain of_kind

-- what the part of an open list spells
abbrev pub PartSpells : Dialect → Part → List Lexeme → Type 0
PartSpells dialect operator_due body = body ≡ []
PartSpells dialect term_due body = (name : Lexeme) × ((body ≡ name ∷ []) × IsOperator operators.Term name)
PartSpells dialect (term_read column kind type_name key) body = TermBody column kind type_name key body
PartSpells dialect (operands_read kind forest) body =
    (name : Lexeme) × ((inner : List Lexeme) × ((body ≡ name ∷ inner) × IsOperator (operators.List kind) name
    × ForestSpells dialect kind forest inner × (operand_count forest ≤ most_operands dialect kind)))
PartSpells dialect (prefix_due join) body =
    (name : Lexeme) × ((body ≡ name ∷ []) × IsOperator (operators.Join join) name)
PartSpells dialect (node_due join column type_name) body =
    (name : Lexeme) × ((prefix : Lexeme) × ((body ≡ name ∷ prefix ∷ []) × IsOperator (operators.Join join) name
    × IsPrefix column type_name prefix))
PartSpells dialect (node_read join column type_name node) body =
    (name : Lexeme) × ((prefix : Lexeme) × ((inner : List Lexeme) × ((body ≡ name ∷ prefix ∷ inner)
    × IsOperator (operators.Join join) name × IsPrefix column type_name prefix × NodeSpells dialect node Plain inner)))

-- a list with this part may end
abbrev pub PartEnds : Part → Type 0
PartEnds (term_read column kind type_name key) = Unit {0}
PartEnds (operands_read kind forest) = least_operands kind ≤ operand_count forest
PartEnds (node_read join column type_name node) = Unit {0}
PartEnds part = ⊥

-- a node is due in a list with this part
abbrev pub PartExpects : Dialect → Part → Type 0
PartExpects dialect (operands_read kind forest) = operand_count forest < most_operands dialect kind
PartExpects dialect (node_due join column type_name) = Unit {0}
PartExpects dialect part = ⊥

-- only a join has a limit
abbrev pub LimitStands : Part → Option ℕ → Type 0
LimitStands (node_read join column type_name node) limit = Unit {0}
LimitStands part limit = limit ≡ None

-- a list that may end, with its options so far
pub record Endable (dialect : Dialect) (part : Part) (mark : Mark) (limit : Option ℕ) (parent : Option ListKind) (given : List Lexeme) : Type 0 where
  pub spelled : OptionsSpell dialect mark limit given
  pub ends : PartEnds part
  pub may_have : MayHave dialect parent mark
  pub stands : LimitStands part limit

abbrev pub TailSpells : Dialect → Tail → OpenList → Option ListKind → List Lexeme → Type 0
TailSpells dialect tails.NoOption list parent given = (given ≡ []) × (list.mark ≡ Plain) × (list.limit ≡ None)
TailSpells dialect (tails.ValueDue name) list parent given =
    (before : List Lexeme) × ((option : Lexeme) × ((given ≡ before ++ option ∷ []) × IsOption name option
    × (may_take dialect.format name list parent ≡ true) × Endable dialect list.part list.mark list.limit parent before))
TailSpells dialect tails.OptionRead list parent given = Endable dialect list.part list.mark list.limit parent given

abbrev pub ListSpells : Dialect → OpenList → Option ListKind → List Lexeme → Type 0
ListSpells dialect list parent own =
    (left : Lexeme) × ((body : List Lexeme) × ((given : List Lexeme) × ((own ≡ left ∷ (body ++ given))
    × ((left.kind ≡ tokens.Left) × (left.column ≡ list.column))
    × PartSpells dialect list.part body
    × TailSpells dialect list.tail list parent given)))

-- open lists in the innermost of which a node is due
abbrev pub Waiting : Dialect → List OpenList → List Lexeme → Type 0
Waiting dialect [] done = done ≡ []
Waiting dialect (list ∷ lists) done =
    (outer : List Lexeme) × ((own : List Lexeme) × ((done ≡ outer ++ own) × ListSpells dialect list (parent_kind lists) own
    × (list.tail ≡ tails.NoOption) × PartExpects dialect list.part × Waiting dialect lists outer))

-- what a state stands for, after the tokens that were read
abbrev pub Stands : Dialect → List OpenList → Option Tree → List Lexeme → Type 0
Stands dialect [] None done = done ≡ []
Stands dialect [] (Some node) done = NodeSpells dialect node Plain done
Stands dialect (list ∷ lists) None done =
    (outer : List Lexeme) × ((own : List Lexeme) × ((done ≡ outer ++ own) × ListSpells dialect list (parent_kind lists) own
    × Waiting dialect lists outer))
Stands dialect (list ∷ lists) (Some node) done = ⊥

abbrev pub Holds : Dialect → Result State Refused → List Lexeme → Type 0
Holds dialect (Ok state) done = Stands dialect state.open_lists state.whole done
Holds dialect (Err fault) done = Unit {0}

-- no option was read
pub no_option : (dialect : Dialect) (tail : Tail) (list : OpenList) (parent : Option ListKind) (given : List Lexeme)
    → tail ≡ tails.NoOption → TailSpells dialect tail list parent given
    → (given ≡ []) × (list.mark ≡ Plain) × (list.limit ≡ None)
no_option dialect tail list parent given none spells =
    subst (λ (t : Tail). TailSpells dialect t list parent given) none spells

pub forest_more : (dialect : Dialect) (kind : ListKind) (forest : Forest) (node : Tree) (mark : Mark) (inner own : List Lexeme)
    → ForestSpells dialect kind forest inner → NodeSpells dialect node mark own → MayHave dialect (Some kind) mark
    → ForestSpells dialect kind (add_operand forest node mark) (inner ++ own)
forest_more dialect kind no_operands node mark inner own spells node_spells may =
    (own, ([], (ap (λ xs. xs ++ own) spells ∙ sym (append-nil own), may, node_spells, refl)))
forest_more dialect kind (with_operand first first_mark others) node mark inner own (front, (back, (is_inner, first_may, first_spells, others_spell))) node_spells may = (
  front,
  (
    back ++ own,
    (
      ap (λ xs. xs ++ own) is_inner ∙ append_assoc front back own,
      first_may,
      first_spells,
      forest_more dialect kind others node mark back own others_spell node_spells may,
    ),
  ),
)

pub count_more : (forest : Forest) (node : Tree) (mark : Mark) → operand_count (add_operand forest node mark) ≡ operand_count forest + 1
count_more no_operands node mark = refl
count_more (with_operand first first_mark others) node mark =
    let rest : operand_count (add_operand others node mark) ≡ operand_count others + 1 = count_more others node mark in omega arith

pub may_be_plain : (dialect : Dialect) (parent : Option ListKind) → MayHave dialect parent Plain
may_be_plain dialect None = refl
may_be_plain dialect (Some operator) = tt

pub part_grows : (dialect : Dialect) (part : Part) (node : Tree) (mark : Mark) (body own : List Lexeme)
    → PartExpects dialect part → PartSpells dialect part body → NodeSpells dialect node mark own → MayHave dialect (part_kind part) mark
    → PartSpells dialect (part_with part node mark) (body ++ own)
part_grows dialect operator_due node mark body own expects spells node_spells may = absurd expects
part_grows dialect term_due node mark body own expects spells node_spells may = absurd expects
part_grows dialect (term_read column kind type_name key) node mark body own expects spells node_spells may = absurd expects
part_grows dialect (operands_read kind forest) node mark body own expects (name, (inner, (is_body, is_name, forest_spells, few))) node_spells may =
    let more : operand_count (add_operand forest node mark) ≡ operand_count forest + 1 = count_more forest node mark in (
      name,
      (
        inner ++ own,
        (
          ap (λ xs. xs ++ own) is_body,
          is_name,
          forest_more dialect kind forest node mark inner own forest_spells node_spells may,
          omega arith,
        ),
      ),
    )
part_grows dialect (prefix_due join) node mark body own expects spells node_spells may = absurd expects
part_grows dialect (node_due join column type_name) node mark body own expects (name, (prefix, (is_body, is_name, is_prefix))) node_spells may = (
  name,
  (
    prefix,
    (
      own,
      (
        ap (λ xs. xs ++ own) is_body,
        is_name,
        is_prefix,
        subst (λ (m : Mark). NodeSpells dialect node m own) may node_spells,
      ),
    ),
  ),
)
part_grows dialect (node_read join column type_name old) node mark body own expects spells node_spells may = absurd expects

-- a node that is spelled in its place
pub deliver_holds : (dialect : Dialect) (lists : List OpenList) (nodes : ℕ) (node : Tree) (mark : Mark) (outer own : List Lexeme)
    → Waiting dialect lists outer → NodeSpells dialect node mark own → MayHave dialect (parent_kind lists) mark
    → Holds dialect (deliver lists nodes node mark) (outer ++ own)
deliver_holds dialect [] nodes node mark outer own waiting spells may =
    subst (λ (xs : List Lexeme). NodeSpells dialect node Plain (xs ++ own)) (sym waiting)
    (subst (λ (m : Mark). NodeSpells dialect node m own) may spells)
deliver_holds dialect (list ∷ lists) nodes node mark outer own (before, (own_before, (is_outer, (left, (body, (given, (is_own, is_left, part_spells, tail_spells)))), no_tail, expects, waiting))) spells may =
    let bare = no_option dialect list.tail list (parent_kind lists) given no_tail tail_spells in (
      before,
      (
        own_before ++ own,
        (
          ap (λ xs. xs ++ own) is_outer ∙ append_assoc before own_before own,
          (
            left,
            (
              body ++ own,
              (
                [],
                (
                  ap (λ xs. xs ++ own) is_own
                      ∙ ap (λ xs. (left ∷ (body ++ xs)) ++ own) bare.0
                      ∙ ap (λ xs. (left ∷ xs) ++ own) (append-nil body)
                      ∙ ap (λ xs. left ∷ xs) (sym (append-nil (body ++ own))),
                  is_left,
                  part_grows dialect list.part node mark body own expects part_spells spells may,
                  subst (λ (t : Tail). TailSpells dialect t (record list { part = part_with list.part node mark }) (parent_kind lists) []) (sym no_tail) (refl, bare.1, bare.2),
                ),
              ),
            ),
          ),
          waiting,
        ),
      ),
    )

pub begin_list_holds : (dialect : Dialect) (lists : List OpenList) (nodes : ℕ) (token : Lexeme) (done : List Lexeme)
    → Waiting dialect lists done → token.kind ≡ tokens.Left → Holds dialect (begin_list dialect lists nodes token) (done ++ token ∷ [])
begin_list_holds dialect lists nodes token done waiting is_left =
    let Goal : Result State Refused → Type 0 = λ r. Holds dialect r (done ++ token ∷ []) in
    let opened : Goal (going_on (record { column = token.column; part = operator_due; mark = Plain; limit = None; tail = tails.NoOption } ∷ lists) (nodes + 1)) =
    (done, (token ∷ [], (refl, (token, ([], ([], (refl, (is_left, refl), refl, (refl, refl, refl))))), waiting))) in
    elim (nat_le dialect.depth (length lists)) as (λ b. Goal (cond b (refuse 37 token) (cond (nat_le dialect.nodes nodes) (refuse 38 token) (going_on (record { column = token.column; part = operator_due; mark = Plain; limit = None; tail = tails.NoOption } ∷ lists) (nodes + 1))))) [
      | true ↦ tt
      | false ↦
          elim (nat_le dialect.nodes nodes) as (λ b. Goal (cond b (refuse 38 token) (going_on (record { column = token.column; part = operator_due; mark = Plain; limit = None; tail = tails.NoOption } ∷ lists) (nodes + 1)))) [
            | true ↦ tt
            | false ↦ opened
          ]
    ]

pub bare_term_holds : (dialect : Dialect) (lists : List OpenList) (nodes : ℕ) (token : Lexeme) (kind : TermKind) (done : List Lexeme) (pair : Option (List ℕ × List ℕ))
    → pair_of kind token.bytes ≡ pair → Waiting dialect lists done → token.kind ≡ atom_of kind
    → Holds dialect (bare_term lists nodes token kind pair) (done ++ token ∷ [])
bare_term_holds dialect lists nodes token kind done None is_pair waiting is_term = tt
bare_term_holds dialect lists nodes token kind done (Some pair) is_pair waiting is_term =
    deliver_holds dialect lists nodes (term_at token.column kind pair.0 pair.1) Plain done (token ∷ []) waiting
    (inl (refl, (token, (refl, (is_term, refl, is_pair))))) (may_be_plain dialect (parent_kind lists))

pub begin_term_holds : (dialect : Dialect) (lists : List OpenList) (nodes : ℕ) (token : Lexeme) (kind : TermKind) (done : List Lexeme)
    → Waiting dialect lists done → token.kind ≡ atom_of kind → Holds dialect (begin_term dialect lists nodes token kind) (done ++ token ∷ [])
begin_term_holds dialect lists nodes token kind done waiting is_term =
    elim (nat_le dialect.nodes nodes) as (λ b.
    Holds dialect (cond b (refuse 38 token) (bare_term lists (nodes + 1) token kind (pair_of kind token.bytes))) (done ++ token ∷ [])) [
      | true ↦ tt
      | false ↦ bare_term_holds dialect lists (nodes + 1) token kind done (pair_of kind token.bytes) refl waiting is_term
    ]

pub node_token_holds : (dialect : Dialect) (lists : List OpenList) (nodes : ℕ) (token : Lexeme) (missing : ℕ) (done : List Lexeme) (kind : TokenKind)
    → token.kind ≡ kind → Waiting dialect lists done
    → Holds dialect (node_token dialect lists nodes token missing kind) (done ++ token ∷ [])
node_token_holds dialect lists nodes token missing done tokens.Left is_kind waiting =
    begin_list_holds dialect lists nodes token done waiting is_kind
node_token_holds dialect lists nodes token missing done tokens.Term is_kind waiting =
    begin_term_holds dialect lists nodes token terms.Whole done waiting is_kind
node_token_holds dialect lists nodes token missing done tokens.Stem is_kind waiting =
    begin_term_holds dialect lists nodes token terms.Prefix done waiting is_kind
node_token_holds dialect lists nodes token missing done kind is_kind waiting = tt
