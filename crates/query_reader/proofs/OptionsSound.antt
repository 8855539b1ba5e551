-- Options, as the reading stands for them.
use Rattle.std.proofs.Common.{◌≡◌, ℕ, Bool, true, false, List, [], ◌∷◌, ◌++◌, Option, None, Some, refl, sym, ap, ◌∙◌, subst, cond, inl, inr, append_assoc, append-nil}
use Rattle.std.proofs.lemmas.Bool.{and_parts}
use Rattle.std.specs.Prelude.{◌&&◌, is_none}
use Rattle.std.specs.Option.{option_map, option_and_then}
use Rattle.uni_base.specs.Fields.{cut_at}
use Rattle.uni_base.specs.Numbers.{number_between}
use Rattle.query_tree.specs.declared.dialect.Dialect.{Dialect}
use Rattle.query_tree.specs.declared.kind.MarkKind.{MarkKind}
use Rattle.query_tree.specs.declared.kind.MarkKind.TheVariants as mark_kinds
use Rattle.query_tree.specs.declared.kind.ListKind.{ListKind}
use Rattle.query_tree.specs.declared.query.Mark.{Mark}
use Rattle.query_tree.specs.declared.query.Mark.TheVariants.{Plain, Hits, Weight}
use Rattle.query_tree.specs.Marks.{may_mark}
use Rattle.query_reader.specs.declared.token.TokenKind.{TokenKind}
use Rattle.query_reader.specs.declared.token.TokenKind.TheVariants as tokens
use Rattle.query_reader.specs.declared.value.OptionName.{OptionName}
use Rattle.query_reader.specs.declared.value.OptionName.TheVariants as options
use Rattle.query_reader.specs.declared.open_list.Tail.{Tail}
use Rattle.query_reader.specs.declared.open_list.Tail.TheVariants as tails
use Rattle.query_reader.specs.Values.{option_of, weight_over, weight_between}
use Rattle.query_reader.specs.Reading.{Lexeme, Part, operator_due, term_due, term_read, operands_read, prefix_due, node_due, node_read, OpenList, refuse, going_on, parent_kind, is_join, is_plain, may_take, option_found, option_token, with_limit, with_mark, limit_value, mark_value, value_token}
use Rattle.query_reader.specs.Grammar.{IsOption, LimitSpells, MarkSpells, OptionsSpell, MayHave}
use Rattle.query_reader.proofs.Standing.{IsOfKind, kind_stands, PartSpells, LimitStands, Endable, TailSpells, Waiting, Holds}

-- whether an option may stand does not depend on what is due
pub may_same : (format : ℕ) (name : OptionName) (list : OpenList) (parent : Option ListKind) (tail : Tail)
    → may_take format name (record list { tail = tail }) parent ≡ may_take format name list parent
may_same format options.Limit list parent tail = refl
may_same format (options.Mark kind) list None tail = refl
may_same format (options.Mark kind) list (Some operator) tail = refl

-- one more token in a list whose part stays
stays_holds : (dialect : Dialect) (new : OpenList) (lists : List OpenList) (nodes : ℕ) (token left : Lexeme) (body given outer own : List Lexeme)
    → own ≡ left ∷ (body ++ given) → (left.kind ≡ tokens.Left) × (left.column ≡ new.column) → PartSpells dialect new.part body
    → TailSpells dialect new.tail new (parent_kind lists) (given ++ token ∷ []) → Waiting dialect lists outer
    → Holds dialect (going_on (new ∷ lists) nodes) (outer ++ (own ++ token ∷ []))
stays_holds dialect new lists nodes token left body given outer own is_own is_left spells tail waiting =
    let is_more : own ++ token ∷ [] ≡ left ∷ (body ++ (given ++ token ∷ [])) =
    ap (λ xs. xs ++ token ∷ []) is_own ∙ ap (λ xs. left ∷ xs) (append_assoc body given (token ∷ [])) in
    (outer, (own ++ token ∷ [], (refl, (left, (body, (given ++ token ∷ [], (is_more, is_left, spells, tail)))), waiting)))

pub option_found_holds : (dialect : Dialect) (list : OpenList) (lists : List OpenList) (nodes : ℕ) (token : Lexeme)
    (left : Lexeme) (body given outer own : List Lexeme) (name : Option OptionName)
    → option_of token.bytes ≡ name
    → own ≡ left ∷ (body ++ given) → (left.kind ≡ tokens.Left) × (left.column ≡ list.column) → PartSpells dialect list.part body
    → Endable dialect list.part list.mark list.limit (parent_kind lists) given → Waiting dialect lists outer → token.kind ≡ tokens.Option
    → Holds dialect (option_found dialect list lists nodes token name) (outer ++ (own ++ token ∷ []))
option_found_holds dialect list lists nodes token left body given outer own None is_name is_own is_left spells endable waiting is_option = tt
option_found_holds dialect list lists nodes token left body given outer own (Some name) is_name is_own is_left spells endable waiting is_option =
    go (may_take dialect.format name list (parent_kind lists)) refl
  where
    go : (may : Bool) → may_take dialect.format name list (parent_kind lists) ≡ may
        → Holds dialect (cond may (going_on (record list { tail = tails.ValueDue name } ∷ lists) nodes) (refuse 36 token)) (outer ++ (own ++ token ∷ []))
    go true may =
        stays_holds dialect (record list { tail = tails.ValueDue name }) lists nodes token left body given outer own is_own is_left spells
        (given, (token, (refl, (is_option, is_name), may_same dialect.format name list (parent_kind lists) (tails.ValueDue name) ∙ may, endable)))
        waiting
    go false may = tt

pub option_holds : (dialect : Dialect) (list : OpenList) (lists : List OpenList) (nodes : ℕ) (token : Lexeme)
    (left : Lexeme) (body given outer own : List Lexeme)
    → own ≡ left ∷ (body ++ given) → (left.kind ≡ tokens.Left) × (left.column ≡ list.column) → PartSpells dialect list.part body
    → Endable dialect list.part list.mark list.limit (parent_kind lists) given → Waiting dialect lists outer → token.kind ≡ tokens.Option
    → Holds dialect (option_token dialect list lists nodes token) (outer ++ (own ++ token ∷ []))
option_holds dialect list lists nodes token left body given outer own is_own is_left spells endable waiting is_option =
    option_found_holds dialect list lists nodes token left body given outer own (option_of token.bytes) refl is_own is_left spells endable waiting is_option

-- a mark alone, or a limit alone
pub mark_alone : (dialect : Dialect) (mark : Mark) (given : List Lexeme) → OptionsSpell dialect mark None given → MarkSpells mark given
mark_alone dialect mark given (first, (second, (is_given, inl both))) =
    subst (λ (xs : List Lexeme). MarkSpells mark xs)
    (sym (is_given ∙ ap (λ xs. first ++ xs) both.1 ∙ append-nil first)) both.0
mark_alone dialect mark given (first, (second, (is_given, inr both))) =
    subst (λ (xs : List Lexeme). MarkSpells mark xs) (sym (is_given ∙ ap (λ xs. xs ++ second) both.0)) both.1

pub limit_alone : (dialect : Dialect) (limit : Option ℕ) (given : List Lexeme) → OptionsSpell dialect Plain limit given → LimitSpells dialect limit given
limit_alone dialect limit given (first, (second, (is_given, inl both))) =
    subst (λ (xs : List Lexeme). LimitSpells dialect limit xs) (sym (is_given ∙ ap (λ xs. xs ++ second) both.0)) both.1
limit_alone dialect limit given (first, (second, (is_given, inr both))) =
    subst (λ (xs : List Lexeme). LimitSpells dialect limit xs)
    (sym (is_given ∙ ap (λ xs. first ++ xs) both.1 ∙ append-nil first)) both.0

-- what an option that may stand says of its list
pub limit_may : (list : OpenList) (parent : Option ListKind) (part : Part) (limit : Option ℕ)
    → is_join part && is_none limit ≡ true → ((other : Option ℕ) → LimitStands part other) × (limit ≡ None)
limit_may list parent (node_read join column type_name node) None may = (λ other. tt, refl)
limit_may list parent (node_read join column type_name node) (Some limit) may = absurd (cc)
limit_may list parent operator_due limit may = absurd (cc)
limit_may list parent term_due limit may = absurd (cc)
limit_may list parent (term_read column kind type_name key) limit may = absurd (cc)
limit_may list parent (operands_read kind forest) limit may = absurd (cc)
limit_may list parent (prefix_due join) limit may = absurd (cc)
limit_may list parent (node_due join column type_name) limit may = absurd (cc)

pub plain_may : (mark : Mark) → is_plain mark ≡ true → mark ≡ Plain
plain_may Plain may = refl
plain_may (Hits count) may = absurd (cc)
plain_may (Weight numerator denominator) may = absurd (cc)

pub mark_may : (dialect : Dialect) (list : OpenList) (kind : MarkKind) (parent : Option ListKind)
    → may_take dialect.format (options.Mark kind) list parent ≡ true
    → ((mark : Mark) → IsOfKind kind mark → MayHave dialect parent mark) × (list.mark ≡ Plain)
mark_may dialect list kind None may = absurd (cc)
mark_may dialect list kind (Some operator) may =
    let both = and_parts (may_mark dialect.format operator kind) (is_plain list.mark) may in
    (λ mark of_kind. kind_stands dialect.format operator kind mark of_kind both.0, plain_may list.mark both.1)

-- a value after its option's name
pub valued : (before given : List Lexeme) (option token : Lexeme) → given ≡ before ++ option ∷ []
    → given ++ token ∷ [] ≡ before ++ (option ∷ token ∷ [])
valued before given option token is_given = ap (λ xs. xs ++ token ∷ []) is_given ∙ append_assoc before (option ∷ []) (token ∷ [])

pub with_limit_holds : (dialect : Dialect) (list : OpenList) (lists : List OpenList) (nodes : ℕ) (token option left : Lexeme)
    (body before given outer own : List Lexeme) (value : Option ℕ)
    → token.kind ≡ tokens.Number → number_between 1 dialect.join_limit token.bytes ≡ value
    → own ≡ left ∷ (body ++ given) → (left.kind ≡ tokens.Left) × (left.column ≡ list.column) → PartSpells dialect list.part body
    → given ≡ before ++ option ∷ [] → IsOption options.Limit option → may_take dialect.format options.Limit list (parent_kind lists) ≡ true
    → Endable dialect list.part list.mark list.limit (parent_kind lists) before → Waiting dialect lists outer
    → Holds dialect (with_limit list lists nodes token value) (outer ++ (own ++ token ∷ []))
with_limit_holds dialect list lists nodes token option left body before given outer own None is_kind is_value is_own is_left spells is_given is_option may endable waiting = tt
with_limit_holds dialect list lists nodes token option left body before given outer own (Some limit) is_kind is_value is_own is_left spells is_given is_option may endable waiting =
    let free = limit_may list (parent_kind lists) list.part list.limit may in
    let mark = mark_alone dialect list.mark before (subst (λ (l : Option ℕ). OptionsSpell dialect list.mark l before) free.1 endable.spelled) in
    stays_holds dialect (record list { limit = Some limit; tail = tails.OptionRead }) lists nodes token left body given outer own is_own is_left spells
    (record {
      spelled = (
        before,
        (option ∷ token ∷ [], (valued before given option token is_given, inl (mark, (option, (token, (refl, is_option, (is_kind, is_value))))))),
      );
      ends = endable.ends;
      may_have = endable.may_have;
      stands = free.0 (Some limit);
    })
    waiting

pub marked_holds : (dialect : Dialect) (list : OpenList) (lists : List OpenList) (nodes : ℕ) (token option left : Lexeme)
    (body before given outer own : List Lexeme) (mark : Mark)
    → MarkSpells mark (option ∷ token ∷ []) → MayHave dialect (parent_kind lists) mark → list.mark ≡ Plain
    → own ≡ left ∷ (body ++ given) → (left.kind ≡ tokens.Left) × (left.column ≡ list.column) → PartSpells dialect list.part body
    → given ≡ before ++ option ∷ []
    → Endable dialect list.part list.mark list.limit (parent_kind lists) before → Waiting dialect lists outer
    → Holds dialect (with_mark list lists nodes token (Some mark)) (outer ++ (own ++ token ∷ []))
marked_holds dialect list lists nodes token option left body before given outer own mark mark_spells may was_plain is_own is_left spells is_given endable waiting =
    let limit = limit_alone dialect list.limit before (subst (λ (m : Mark). OptionsSpell dialect m list.limit before) was_plain endable.spelled) in
    stays_holds dialect (record list { mark = mark; tail = tails.OptionRead }) lists nodes token left body given outer own is_own is_left spells
    (record {
      spelled = (before, (option ∷ token ∷ [], (valued before given option token is_given, inr (limit, mark_spells))));
      ends = endable.ends;
      may_have = may;
      stands = endable.stands;
    })
    waiting

-- the mark that a value gives its option
pub record MarkGiven (kind : MarkKind) (option token : Lexeme) (mark : Mark) : Type 0 where
  pub of_kind : IsOfKind kind mark
  pub spells : MarkSpells mark (option ∷ token ∷ [])

hits_is : (count : Option ℕ) (mark : Mark) → option_map Hits count ≡ Some mark → (n : ℕ) × (mark ≡ Hits n)
hits_is None mark is_mark = absurd (cc)
hits_is (Some count) mark is_mark = (count, cc)

weight_over_is : (denominator : ℕ) (numerator : Option ℕ) (mark : Mark) → option_map (λ (n : ℕ). Weight n denominator) numerator ≡ Some mark
    → (n : ℕ) × ((d : ℕ) × (mark ≡ Weight n d))
weight_over_is denominator None mark is_mark = absurd (cc)
weight_over_is denominator (Some numerator) mark is_mark = (numerator, (denominator, cc))

weight_under_is : (numerator : List ℕ) (denominator : Option ℕ) (mark : Mark) → option_and_then (weight_over numerator) denominator ≡ Some mark
    → (n : ℕ) × ((d : ℕ) × (mark ≡ Weight n d))
weight_under_is numerator None mark is_mark = absurd (cc)
weight_under_is numerator (Some denominator) mark is_mark =
    weight_over_is denominator (number_between 1 denominator numerator) mark is_mark

weight_is : (parts : Option (List ℕ × List ℕ)) (mark : Mark) → weight_between parts ≡ Some mark
    → (n : ℕ) × ((d : ℕ) × (mark ≡ Weight n d))
weight_is None mark is_mark = absurd (cc)
weight_is (Some parts) mark is_mark = weight_under_is parts.0 (number_between 1 1000 parts.1) mark is_mark

pub mark_given : (kind : MarkKind) (option token : Lexeme) (token_kind : TokenKind) (mark : Mark) → token.kind ≡ token_kind
    → mark_value kind token token_kind ≡ Some mark → IsOption (options.Mark kind) option → MarkGiven kind option token mark
mark_given mark_kinds.Hits option token tokens.Number mark is_kind is_value is_option =
    let shape = hits_is (number_between 0 1000000 token.bytes) mark is_value in
    subst (MarkGiven mark_kinds.Hits option token) (sym shape.1)
    (record { of_kind = tt; spells = (option, (token, (refl, is_option, (is_kind, is_value ∙ ap Some shape.1)))) })
mark_given mark_kinds.Weight option token tokens.Fraction mark is_kind is_value is_option =
    let shape = weight_is (cut_at 47 token.bytes) mark is_value in
    subst (MarkGiven mark_kinds.Weight option token) (sym shape.1.1)
    (record { of_kind = tt; spells = (option, (token, (refl, is_option, (is_kind, is_value ∙ ap Some shape.1.1)))) })
mark_given kind option token token_kind mark is_kind is_value is_option = absurd (cc)

marks_hold : (dialect : Dialect) (list : OpenList) (lists : List OpenList) (nodes : ℕ) (token option left : Lexeme)
    (body before given outer own : List Lexeme) (name : MarkKind) (mark : Option Mark) → mark_value name token token.kind ≡ mark
    → own ≡ left ∷ (body ++ given) → (left.kind ≡ tokens.Left) × (left.column ≡ list.column) → PartSpells dialect list.part body
    → given ≡ before ++ option ∷ [] → IsOption (options.Mark name) option → may_take dialect.format (options.Mark name) list (parent_kind lists) ≡ true
    → Endable dialect list.part list.mark list.limit (parent_kind lists) before → Waiting dialect lists outer
    → Holds dialect (with_mark list lists nodes token mark) (outer ++ (own ++ token ∷ []))
marks_hold dialect list lists nodes token option left body before given outer own name None is_value is_own is_left spells is_given is_option may endable waiting = tt
marks_hold dialect list lists nodes token option left body before given outer own name (Some mark) is_value is_own is_left spells is_given is_option may endable waiting =
    let free = mark_may dialect list name (parent_kind lists) may in
    let value : MarkGiven name option token mark = mark_given name option token token.kind mark refl is_value is_option in
    marked_holds dialect list lists nodes token option left body before given outer own mark value.spells (free.0 mark value.of_kind) free.1 is_own is_left spells is_given endable waiting

-- a limit by its token's kind
limit_by_kind : (dialect : Dialect) (list : OpenList) (lists : List OpenList) (nodes : ℕ) (token option left : Lexeme)
    (body before given outer own : List Lexeme) (kind : TokenKind) → token.kind ≡ kind
    → own ≡ left ∷ (body ++ given) → (left.kind ≡ tokens.Left) × (left.column ≡ list.column) → PartSpells dialect list.part body
    → given ≡ before ++ option ∷ [] → IsOption options.Limit option → may_take dialect.format options.Limit list (parent_kind lists) ≡ true
    → Endable dialect list.part list.mark list.limit (parent_kind lists) before → Waiting dialect lists outer
    → Holds dialect (with_limit list lists nodes token (limit_value dialect token kind)) (outer ++ (own ++ token ∷ []))
limit_by_kind dialect list lists nodes token option left body before given outer own tokens.Number is_kind is_own is_left spells is_given is_option may endable waiting =
    with_limit_holds dialect list lists nodes token option left body before given outer own _ is_kind refl is_own is_left spells is_given is_option may endable waiting
limit_by_kind dialect list lists nodes token option left body before given outer own kind is_kind is_own is_left spells is_given is_option may endable waiting = tt

pub value_holds : (dialect : Dialect) (list : OpenList) (lists : List OpenList) (nodes : ℕ) (token option left : Lexeme)
    (body before given outer own : List Lexeme) (name : OptionName)
    → own ≡ left ∷ (body ++ given) → (left.kind ≡ tokens.Left) × (left.column ≡ list.column) → PartSpells dialect list.part body
    → given ≡ before ++ option ∷ [] → IsOption name option → may_take dialect.format name list (parent_kind lists) ≡ true
    → Endable dialect list.part list.mark list.limit (parent_kind lists) before → Waiting dialect lists outer
    → Holds dialect (value_token dialect list lists nodes token name) (outer ++ (own ++ token ∷ []))
value_holds dialect list lists nodes token option left body before given outer own options.Limit =
    limit_by_kind dialect list lists nodes token option left body before given outer own token.kind refl
value_holds dialect list lists nodes token option left body before given outer own (options.Mark name) =
    marks_hold dialect list lists nodes token option left body before given outer own name (mark_value name token token.kind) refl
