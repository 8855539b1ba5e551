-- What is read is spelled: step by step, from the left.
use Rattle.std.proofs.Common.{◌≡◌, ℕ, ◌≤◌, Bool, true, false, List, [], ◌∷◌, ◌++◌, Option, None, Some, Result, Ok, Err, refl, sym, ap, ◌∙◌, subst, arith, cond, inl, append_assoc, append-nil}
use Rattle.std.specs.Prelude.{nat_le, nat_lt}
use Rattle.std.proofs.lemmas.Bool.{leb-false, ltb-false}
use Rattle.query_tree.specs.declared.dialect.Dialect.{Dialect}
use Rattle.query_tree.specs.declared.kind.TermKind.{TermKind}
use Rattle.query_tree.specs.declared.kind.TermKind.TheVariants as terms
use Rattle.query_tree.specs.declared.kind.ListKind.{ListKind}
use Rattle.query_tree.specs.declared.kind.JoinKind.{JoinKind}
use Rattle.query_tree.specs.declared.query.Mark.{Mark}
use Rattle.query_tree.specs.declared.query.Mark.TheVariants.{Plain}
use Rattle.query_tree.specs.Tree.{Tree, Forest}
use Rattle.query_tree.specs.Within.{operand_count}
use Rattle.query_reader.specs.declared.token.TokenKind.{TokenKind}
use Rattle.query_reader.specs.declared.token.TokenKind.TheVariants as tokens
use Rattle.query_reader.specs.declared.operator.Operator.{Operator}
use Rattle.query_reader.specs.declared.operator.Operator.TheVariants as operators
use Rattle.query_reader.specs.declared.open_list.Tail.{Tail}
use Rattle.query_reader.specs.declared.open_list.Tail.TheVariants as tails
use Rattle.query_reader.specs.Operators.{operator_of}
use Rattle.query_reader.specs.Reading.{Lexeme, Refused, Part, operator_due, term_due, term_read, operands_read, prefix_due, node_due, node_read, OpenList, State, refuse, pair_of, prefix_of, begin_list, begin_term, node_token, first_part, with_part, operator_found, operator_token, term_found, term_token, prefix_found, prefix_token, parent_kind, option_token, close, end_token, least_operands, most_operands, operands_token, after_option, part_token, tail_token, step_in, step, ended, go_on, read_from}
use Rattle.query_reader.specs.Grammar.{atom_of, IsOperator, OptionsSpell, MayHave, NodeSpells}
use Rattle.query_reader.proofs.Standing.{PartSpells, PartEnds, PartExpects, LimitStands, Endable, TailSpells, Waiting, Stands, Holds, may_be_plain, begin_list_holds, begin_term_holds, node_token_holds}
use Rattle.query_reader.proofs.EndsSound.{close_holds}
use Rattle.query_reader.proofs.OptionsSound.{option_holds, value_holds}

-- where a list may end
end_holds : (dialect : Dialect) (list : OpenList) (lists : List OpenList) (nodes : ℕ) (token left : Lexeme)
    (body given outer own : List Lexeme) (kind : TokenKind) → token.kind ≡ kind
    → own ≡ left ∷ (body ++ given) → (left.kind ≡ tokens.Left) × (left.column ≡ list.column) → PartSpells dialect list.part body
    → Endable dialect list.part list.mark list.limit (parent_kind lists) given → Waiting dialect lists outer
    → Holds dialect (end_token dialect list lists nodes token kind) (outer ++ (own ++ token ∷ []))
end_holds dialect list lists nodes token left body given outer own tokens.Right is_kind is_own is_left spells endable waiting =
    close_holds dialect list lists nodes token left body given outer own is_own is_left spells endable waiting is_kind
end_holds dialect list lists nodes token left body given outer own tokens.Option is_kind is_own is_left spells endable waiting =
    option_holds dialect list lists nodes token left body given outer own is_own is_left spells endable waiting is_kind
end_holds dialect list lists nodes token left body given outer own kind is_kind is_own is_left spells endable waiting = tt

after_holds : (dialect : Dialect) (list : OpenList) (lists : List OpenList) (nodes : ℕ) (token left : Lexeme)
    (body given outer own : List Lexeme) (kind : TokenKind) → token.kind ≡ kind
    → own ≡ left ∷ (body ++ given) → (left.kind ≡ tokens.Left) × (left.column ≡ list.column) → PartSpells dialect list.part body
    → Endable dialect list.part list.mark list.limit (parent_kind lists) given → Waiting dialect lists outer
    → Holds dialect (after_option dialect list lists nodes token kind) (outer ++ (own ++ token ∷ []))
after_holds dialect list lists nodes token left body given outer own tokens.Right is_kind is_own is_left spells endable waiting =
    close_holds dialect list lists nodes token left body given outer own is_own is_left spells endable waiting is_kind
after_holds dialect list lists nodes token left body given outer own tokens.Option is_kind is_own is_left spells endable waiting =
    option_holds dialect list lists nodes token left body given outer own is_own is_left spells endable waiting is_kind
after_holds dialect list lists nodes token left body given outer own kind is_kind is_own is_left spells endable waiting = tt

-- a list without options, whose part is known
pub record Bare (dialect : Dialect) (list : OpenList) (part : Part) (left : Lexeme) (body own : List Lexeme) : Type 0 where
  pub is_own : own ≡ left ∷ (body ++ [])
  pub is_left : (left.kind ≡ tokens.Left) × (left.column ≡ list.column)
  pub is_part : list.part ≡ part
  pub spells : PartSpells dialect part body
  pub is_tail : list.tail ≡ tails.NoOption
  pub plain : list.mark ≡ Plain
  pub limitless : list.limit ≡ None

pub none_stands : (part : Part) → LimitStands part None
none_stands operator_due = refl
none_stands term_due = refl
none_stands (term_read column kind type_name key) = refl
none_stands (operands_read kind forest) = refl
none_stands (prefix_due join) = refl
none_stands (node_due join column type_name) = refl
none_stands (node_read join column type_name node) = tt

endable_bare : (dialect : Dialect) (list : OpenList) (part : Part) (left : Lexeme) (body own : List Lexeme) (parent : Option ListKind)
    → Bare dialect list part left body own → PartEnds part → Endable dialect list.part list.mark list.limit parent []
endable_bare dialect list part left body own parent bare ends = record {
  spelled =
      subst (λ (m : Mark). OptionsSpell dialect m list.limit []) (sym bare.plain)
      (subst (λ (l : Option ℕ). OptionsSpell dialect Plain l []) (sym bare.limitless) ([], ([], (refl, inl (refl, refl)))));
  ends = subst PartEnds (sym bare.is_part) ends;
  may_have = subst (λ (m : Mark). MayHave dialect parent m) (sym bare.plain) (may_be_plain dialect parent);
  stands = subst (λ (l : Option ℕ). LimitStands list.part l) (sym bare.limitless) (none_stands list.part);
}

bare_end_holds : (dialect : Dialect) (list : OpenList) (lists : List OpenList) (nodes : ℕ) (token left : Lexeme)
    (body outer own : List Lexeme) (part : Part) → Bare dialect list part left body own → PartEnds part → Waiting dialect lists outer
    → Holds dialect (end_token dialect list lists nodes token token.kind) (outer ++ (own ++ token ∷ []))
bare_end_holds dialect list lists nodes token left body outer own part bare ends waiting =
    end_holds dialect list lists nodes token left body [] outer own token.kind refl bare.is_own bare.is_left
    (subst (λ (p : Part). PartSpells dialect p body) (sym bare.is_part) bare.spells)
    (endable_bare dialect list part left body own (parent_kind lists) bare ends) waiting

-- a list that got another part by a token
with_part_holds : (dialect : Dialect) (list : OpenList) (lists : List OpenList) (nodes : ℕ) (token left : Lexeme)
    (body outer own : List Lexeme) (old new : Part) → Bare dialect list old left body own → PartSpells dialect new (body ++ token ∷ [])
    → Waiting dialect lists outer → Holds dialect (with_part list lists nodes new) (outer ++ (own ++ token ∷ []))
with_part_holds dialect list lists nodes token left body outer own old new bare spells waiting = (
  outer,
  (
    own ++ token ∷ [],
    (
      refl,
      (
        left,
        (
          body ++ token ∷ [],
          (
            [],
            (
              ap (λ xs. xs ++ token ∷ []) bare.is_own
                  ∙ ap (λ xs. (left ∷ xs) ++ token ∷ []) (append-nil body)
                  ∙ ap (λ xs. left ∷ xs) (sym (append-nil (body ++ token ∷ []))),
              bare.is_left,
              spells,
              subst (λ (t : Tail). TailSpells dialect t (record list { part = new }) (parent_kind lists) []) (sym bare.is_tail) (refl, bare.plain, bare.limitless),
            ),
          ),
        ),
      ),
      waiting,
    ),
  ),
)

waiting_more : (dialect : Dialect) (list : OpenList) (lists : List OpenList) (left : Lexeme) (body outer own : List Lexeme) (part : Part)
    → Bare dialect list part left body own → PartExpects dialect part → Waiting dialect lists outer
    → Waiting dialect (list ∷ lists) (outer ++ own)
waiting_more dialect list lists left body outer own part bare expects waiting = (
  outer,
  (
    own,
    (
      refl,
      (
        left,
        (
          body,
          (
            [],
            (
              bare.is_own,
              bare.is_left,
              subst (λ (p : Part). PartSpells dialect p body) (sym bare.is_part) bare.spells,
              subst (λ (t : Tail). TailSpells dialect t list (parent_kind lists) []) (sym bare.is_tail) (refl, bare.plain, bare.limitless),
            ),
          ),
        ),
      ),
      bare.is_tail,
      subst (PartExpects dialect) (sym bare.is_part) expects,
      waiting,
    ),
  ),
)

-- the same tokens, put together otherwise
regrouped : (dialect : Dialect) (result : Result State Refused) (outer own : List Lexeme) (token : Lexeme)
    → Holds dialect result ((outer ++ own) ++ token ∷ []) → Holds dialect result (outer ++ (own ++ token ∷ []))
regrouped dialect result outer own token holds =
    subst (λ (xs : List Lexeme). Holds dialect result xs) (append_assoc outer own (token ∷ [])) holds

-- a node begins as an operand, if one more may follow
operand_holds : (dialect : Dialect) (list : OpenList) (lists : List OpenList) (nodes : ℕ) (token left : Lexeme)
    (body outer own : List Lexeme) (kind : ListKind) (forest : Forest) (begun : Result State Refused) (full : Bool)
    → nat_le (most_operands dialect kind) (operand_count forest) ≡ full
    → Bare dialect list (operands_read kind forest) left body own → Waiting dialect lists outer
    → (Waiting dialect (list ∷ lists) (outer ++ own) → Holds dialect begun ((outer ++ own) ++ token ∷ []))
    → Holds dialect (cond full (refuse 35 token) begun) (outer ++ (own ++ token ∷ []))
operand_holds dialect list lists nodes token left body outer own kind forest begun true is_full bare waiting begins = tt
operand_holds dialect list lists nodes token left body outer own kind forest begun false is_full bare waiting begins =
    regrouped dialect begun outer own token
    (begins (waiting_more dialect list lists left body outer own (operands_read kind forest) bare
    (leb-false (most_operands dialect kind) (operand_count forest) is_full) waiting))

-- a list over operands ends, if it has enough of them
enough_holds : (dialect : Dialect) (list : OpenList) (lists : List OpenList) (token left : Lexeme)
    (body outer own : List Lexeme) (kind : ListKind) (forest : Forest) (ended : Result State Refused) (few : Bool)
    → nat_lt (operand_count forest) (least_operands kind) ≡ few
    → (least_operands kind ≤ operand_count forest → Holds dialect ended (outer ++ (own ++ token ∷ [])))
    → Holds dialect (cond few (refuse 35 token) ended) (outer ++ (own ++ token ∷ []))
enough_holds dialect list lists token left body outer own kind forest ended true is_few ends = tt
enough_holds dialect list lists token left body outer own kind forest ended false is_few ends =
    ends (ltb-false (operand_count forest) (least_operands kind) is_few)

operands_hold : (dialect : Dialect) (list : OpenList) (lists : List OpenList) (nodes : ℕ) (token left : Lexeme)
    (body outer own : List Lexeme) (kind : ListKind) (forest : Forest) (token_kind : TokenKind) → token.kind ≡ token_kind
    → Bare dialect list (operands_read kind forest) left body own → Waiting dialect lists outer
    → Holds dialect (operands_token dialect list lists nodes token kind (operand_count forest) token_kind) (outer ++ (own ++ token ∷ []))
operands_hold dialect list lists nodes token left body outer own kind forest tokens.Left is_kind bare waiting =
    operand_holds dialect list lists nodes token left body outer own kind forest (begin_list dialect (list ∷ lists) nodes token) _ refl bare waiting
    (λ waits. begin_list_holds dialect (list ∷ lists) nodes token (outer ++ own) waits is_kind)
operands_hold dialect list lists nodes token left body outer own kind forest tokens.Term is_kind bare waiting =
    operand_holds dialect list lists nodes token left body outer own kind forest (begin_term dialect (list ∷ lists) nodes token terms.Whole) _ refl bare waiting
    (λ waits. begin_term_holds dialect (list ∷ lists) nodes token terms.Whole (outer ++ own) waits is_kind)
operands_hold dialect list lists nodes token left body outer own kind forest tokens.Stem is_kind bare waiting =
    operand_holds dialect list lists nodes token left body outer own kind forest (begin_term dialect (list ∷ lists) nodes token terms.Prefix) _ refl bare waiting
    (λ waits. begin_term_holds dialect (list ∷ lists) nodes token terms.Prefix (outer ++ own) waits is_kind)
operands_hold dialect list lists nodes token left body outer own kind forest tokens.Right is_kind bare waiting =
    enough_holds dialect list lists token left body outer own kind forest (close dialect list lists nodes token) _ refl
    (λ enough. end_holds dialect list lists nodes token left body [] outer own tokens.Right is_kind bare.is_own bare.is_left
    (subst (λ (p : Part). PartSpells dialect p body) (sym bare.is_part) bare.spells)
    (endable_bare dialect list (operands_read kind forest) left body own (parent_kind lists) bare enough) waiting)
operands_hold dialect list lists nodes token left body outer own kind forest tokens.Option is_kind bare waiting =
    enough_holds dialect list lists token left body outer own kind forest (option_token dialect list lists nodes token) _ refl
    (λ enough. end_holds dialect list lists nodes token left body [] outer own tokens.Option is_kind bare.is_own bare.is_left
    (subst (λ (p : Part). PartSpells dialect p body) (sym bare.is_part) bare.spells)
    (endable_bare dialect list (operands_read kind forest) left body own (parent_kind lists) bare enough) waiting)
operands_hold dialect list lists nodes token left body outer own kind forest other is_kind bare waiting = tt

first_spells : (dialect : Dialect) (operator : Operator) (token : Lexeme) (body : List Lexeme) → body ≡ [] → IsOperator operator token
    → PartSpells dialect (first_part operator) (body ++ token ∷ [])
first_spells dialect operators.Term token body nothing is_operator = (token, (ap (λ xs. xs ++ token ∷ []) nothing, is_operator))
first_spells dialect (operators.List kind) token body nothing is_operator =
    (token, ([], (ap (λ xs. xs ++ token ∷ []) nothing, is_operator, refl, omega arith)))
first_spells dialect (operators.Join join) token body nothing is_operator =
    (token, (ap (λ xs. xs ++ token ∷ []) nothing, is_operator))

operator_found_holds : (dialect : Dialect) (list : OpenList) (lists : List OpenList) (nodes : ℕ) (token left : Lexeme)
    (body outer own : List Lexeme) (operator : Option Operator) → operator_of token.bytes ≡ operator → token.kind ≡ tokens.Name
    → Bare dialect list operator_due left body own → Waiting dialect lists outer
    → Holds dialect (operator_found list lists nodes token operator) (outer ++ (own ++ token ∷ []))
operator_found_holds dialect list lists nodes token left body outer own None is_operator is_kind bare waiting = tt
operator_found_holds dialect list lists nodes token left body outer own (Some operator) is_operator is_kind bare waiting =
    with_part_holds dialect list lists nodes token left body outer own operator_due (first_part operator) bare
    (first_spells dialect operator token body bare.spells (is_kind, is_operator)) waiting

operator_holds : (dialect : Dialect) (list : OpenList) (lists : List OpenList) (nodes : ℕ) (token left : Lexeme)
    (body outer own : List Lexeme) (kind : TokenKind) → token.kind ≡ kind
    → Bare dialect list operator_due left body own → Waiting dialect lists outer
    → Holds dialect (operator_token list lists nodes token kind) (outer ++ (own ++ token ∷ []))
operator_holds dialect list lists nodes token left body outer own tokens.Name is_kind bare waiting =
    operator_found_holds dialect list lists nodes token left body outer own _ refl is_kind bare waiting
operator_holds dialect list lists nodes token left body outer own kind is_kind bare waiting = tt

term_spells : (dialect : Dialect) (token : Lexeme) (kind : TermKind) (body : List Lexeme) (pair : List ℕ × List ℕ) → PartSpells dialect term_due body
    → token.kind ≡ atom_of kind → pair_of kind token.bytes ≡ Some pair → PartSpells dialect (term_read token.column kind pair.0 pair.1) (body ++ token ∷ [])
term_spells dialect token kind body pair (name, (is_body, is_name)) is_kind is_pair =
    (name, (token, (ap (λ xs. xs ++ token ∷ []) is_body, is_name, (is_kind, refl, is_pair))))

term_found_holds : (dialect : Dialect) (list : OpenList) (lists : List OpenList) (nodes : ℕ) (token left : Lexeme) (kind : TermKind)
    (body outer own : List Lexeme) (pair : Option (List ℕ × List ℕ)) → pair_of kind token.bytes ≡ pair → token.kind ≡ atom_of kind
    → Bare dialect list term_due left body own → Waiting dialect lists outer
    → Holds dialect (term_found list lists nodes token kind pair) (outer ++ (own ++ token ∷ []))
term_found_holds dialect list lists nodes token left kind body outer own None is_pair is_kind bare waiting = tt
term_found_holds dialect list lists nodes token left kind body outer own (Some pair) is_pair is_kind bare waiting =
    with_part_holds dialect list lists nodes token left body outer own term_due (term_read token.column kind pair.0 pair.1) bare
    (term_spells dialect token kind body pair bare.spells is_kind is_pair) waiting

term_holds : (dialect : Dialect) (list : OpenList) (lists : List OpenList) (nodes : ℕ) (token left : Lexeme)
    (body outer own : List Lexeme) (kind : TokenKind) → token.kind ≡ kind
    → Bare dialect list term_due left body own → Waiting dialect lists outer
    → Holds dialect (term_token list lists nodes token kind) (outer ++ (own ++ token ∷ []))
term_holds dialect list lists nodes token left body outer own tokens.Term is_kind bare waiting =
    term_found_holds dialect list lists nodes token left terms.Whole body outer own _ refl is_kind bare waiting
term_holds dialect list lists nodes token left body outer own tokens.Stem is_kind bare waiting =
    term_found_holds dialect list lists nodes token left terms.Prefix body outer own _ refl is_kind bare waiting
term_holds dialect list lists nodes token left body outer own kind is_kind bare waiting = tt

prefix_spells : (dialect : Dialect) (join : JoinKind) (token : Lexeme) (body : List Lexeme) (name : List ℕ)
    → PartSpells dialect (prefix_due join) body → token.kind ≡ tokens.Prefix → prefix_of token.bytes ≡ Some name
    → PartSpells dialect (node_due join token.column name) (body ++ token ∷ [])
prefix_spells dialect join token body type_name (name, (is_body, is_name)) is_kind is_prefix =
    (name, (token, (ap (λ xs. xs ++ token ∷ []) is_body, is_name, (is_kind, refl, is_prefix))))

prefix_found_holds : (dialect : Dialect) (list : OpenList) (lists : List OpenList) (nodes : ℕ) (token left : Lexeme)
    (body outer own : List Lexeme) (join : JoinKind) (name : Option (List ℕ)) → prefix_of token.bytes ≡ name → token.kind ≡ tokens.Prefix
    → Bare dialect list (prefix_due join) left body own → Waiting dialect lists outer
    → Holds dialect (prefix_found list lists nodes token join name) (outer ++ (own ++ token ∷ []))
prefix_found_holds dialect list lists nodes token left body outer own join None is_prefix is_kind bare waiting = tt
prefix_found_holds dialect list lists nodes token left body outer own join (Some name) is_prefix is_kind bare waiting =
    with_part_holds dialect list lists nodes token left body outer own (prefix_due join) (node_due join token.column name) bare
    (prefix_spells dialect join token body name bare.spells is_kind is_prefix) waiting

prefix_holds : (dialect : Dialect) (list : OpenList) (lists : List OpenList) (nodes : ℕ) (token left : Lexeme)
    (body outer own : List Lexeme) (join : JoinKind) (kind : TokenKind) → token.kind ≡ kind
    → Bare dialect list (prefix_due join) left body own → Waiting dialect lists outer
    → Holds dialect (prefix_token list lists nodes token join kind) (outer ++ (own ++ token ∷ []))
prefix_holds dialect list lists nodes token left body outer own join tokens.Prefix is_kind bare waiting =
    prefix_found_holds dialect list lists nodes token left body outer own join _ refl is_kind bare waiting
prefix_holds dialect list lists nodes token left body outer own join kind is_kind bare waiting = tt

part_holds : (dialect : Dialect) (list : OpenList) (lists : List OpenList) (nodes : ℕ) (token left : Lexeme)
    (body outer own : List Lexeme) (part : Part) → Bare dialect list part left body own → Waiting dialect lists outer
    → Holds dialect (part_token dialect list lists nodes token part) (outer ++ (own ++ token ∷ []))
part_holds dialect list lists nodes token left body outer own operator_due bare waiting =
    operator_holds dialect list lists nodes token left body outer own token.kind refl bare waiting
part_holds dialect list lists nodes token left body outer own term_due bare waiting =
    term_holds dialect list lists nodes token left body outer own token.kind refl bare waiting
part_holds dialect list lists nodes token left body outer own (term_read column kind type_name key) bare waiting =
    bare_end_holds dialect list lists nodes token left body outer own (term_read column kind type_name key) bare tt waiting
part_holds dialect list lists nodes token left body outer own (operands_read kind forest) bare waiting =
    operands_hold dialect list lists nodes token left body outer own kind forest token.kind refl bare waiting
part_holds dialect list lists nodes token left body outer own (prefix_due join) bare waiting =
    prefix_holds dialect list lists nodes token left body outer own join token.kind refl bare waiting
part_holds dialect list lists nodes token left body outer own (node_due join column type_name) bare waiting =
    regrouped dialect (node_token dialect (list ∷ lists) nodes token 35 token.kind) outer own token
    (node_token_holds dialect (list ∷ lists) nodes token 35 (outer ++ own) token.kind refl
    (waiting_more dialect list lists left body outer own (node_due join column type_name) bare tt waiting))
part_holds dialect list lists nodes token left body outer own (node_read join column type_name node) bare waiting =
    bare_end_holds dialect list lists nodes token left body outer own (node_read join column type_name node) bare tt waiting

tail_holds : (dialect : Dialect) (list : OpenList) (lists : List OpenList) (nodes : ℕ) (token left : Lexeme)
    (body given outer own : List Lexeme) (tail : Tail) → list.tail ≡ tail
    → own ≡ left ∷ (body ++ given) → (left.kind ≡ tokens.Left) × (left.column ≡ list.column) → PartSpells dialect list.part body
    → TailSpells dialect tail list (parent_kind lists) given → Waiting dialect lists outer
    → Holds dialect (tail_token dialect list lists nodes token tail) (outer ++ (own ++ token ∷ []))
tail_holds dialect list lists nodes token left body given outer own tails.NoOption is_tail is_own is_left spells tail_spells waiting =
    part_holds dialect list lists nodes token left body outer own list.part
    (record {
      is_own = is_own ∙ ap (λ xs. left ∷ (body ++ xs)) tail_spells.0;
      is_left = is_left;
      is_part = refl;
      spells = spells;
      is_tail = is_tail;
      plain = tail_spells.1;
      limitless = tail_spells.2;
    })
    waiting
tail_holds dialect list lists nodes token left body given outer own (tails.ValueDue name) is_tail is_own is_left spells (before, (option, (is_given, is_option, may, endable))) waiting =
    value_holds dialect list lists nodes token option left body before given outer own name is_own is_left spells is_given is_option may endable waiting
tail_holds dialect list lists nodes token left body given outer own tails.OptionRead is_tail is_own is_left spells endable waiting =
    after_holds dialect list lists nodes token left body given outer own token.kind refl is_own is_left spells endable waiting

pub step_holds : (dialect : Dialect) (lists : List OpenList) (whole : Option Tree) (nodes : ℕ) (token : Lexeme) (done : List Lexeme)
    → Stands dialect lists whole done → Holds dialect (step_in dialect lists whole nodes token) (done ++ token ∷ [])
step_holds dialect [] None nodes token done stands = node_token_holds dialect [] nodes token 31 done token.kind refl stands
step_holds dialect [] (Some node) nodes token done stands = tt
step_holds dialect (list ∷ lists) None nodes token done (outer, (own, (is_done, (left, (body, (given, (is_own, is_left, spells, tail_spells)))), waiting))) =
    subst (λ (xs : List Lexeme). Holds dialect (tail_token dialect list lists nodes token list.tail) xs)
    (sym (ap (λ xs. xs ++ token ∷ []) is_done ∙ append_assoc outer own (token ∷ [])))
    (tail_holds dialect list lists nodes token left body given outer own list.tail refl is_own is_left spells tail_spells waiting)
step_holds dialect (list ∷ lists) (Some node) nodes token done stands = absurd stands

ended_sound : (dialect : Dialect) (column : ℕ) (lists : List OpenList) (whole : Option Tree) (done : List Lexeme) (node : Tree)
    → Stands dialect lists whole done → ended column whole ≡ Ok node → NodeSpells dialect node Plain done
ended_sound dialect column lists None done node stands is_ok = absurd (cc)
ended_sound dialect column [] (Some whole) done node stands is_ok =
    let same : whole ≡ node = cc in subst (λ (tree : Tree). NodeSpells dialect tree Plain done) same stands
ended_sound dialect column (list ∷ lists) (Some whole) done node stands is_ok = absurd stands

go_on_sound : (dialect : Dialect) (result : Result State Refused) (others : State → Result Tree Refused) (done rest : List Lexeme) (node : Tree)
    → Holds dialect result done → go_on result others ≡ Ok node
    → ((state : State) → Stands dialect state.open_lists state.whole done → others state ≡ Ok node → NodeSpells dialect node Plain (done ++ rest))
    → NodeSpells dialect node Plain (done ++ rest)
go_on_sound dialect (Ok state) others done rest node holds is_ok later = later state holds is_ok
go_on_sound dialect (Err fault) others done rest node holds is_ok later = absurd (cc)

-- what is read is spelled by the tokens
pub read_sound : (dialect : Dialect) (column : ℕ) (state : State) (done rest : List Lexeme) (node : Tree)
    → Stands dialect state.open_lists state.whole done → read_from dialect column state rest ≡ Ok node
    → NodeSpells dialect node Plain (done ++ rest)
read_sound dialect column state done [] node stands is_ok =
    subst (λ (xs : List Lexeme). NodeSpells dialect node Plain xs) (sym (append-nil done))
    (ended_sound dialect column state.open_lists state.whole done node stands is_ok)
read_sound dialect column state done (token ∷ rest) node stands is_ok =
    subst (λ (xs : List Lexeme). NodeSpells dialect node Plain xs) (append_assoc done (token ∷ []) rest)
    (go_on_sound dialect (step dialect state token) (λ next. read_from dialect column next rest) (done ++ token ∷ []) rest node
    (step_holds dialect state.open_lists state.whole state.nodes token done stands) is_ok
    (λ next holds is_rest. read_sound dialect column next (done ++ token ∷ []) rest node holds is_rest))
