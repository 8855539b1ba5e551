-- What was read can be continued to a query.
use Rattle.std.proofs.Common.{◌≡◌, ℕ, zero, suc, ◌+◌, ◌-◌, ◌≤◌, true, cond, List, [], ◌∷◌, ◌++◌, Option, None, Some, refl, sym, ap, ◌∙◌, subst, arith, inl, inr, append_assoc, append-nil, codes}
use Rattle.std.specs.Prelude.{nat_le}
use Rattle.uni_base.specs.Numbers.{number_between}
use Rattle.query_tree.specs.declared.dialect.Dialect.{Dialect}
use Rattle.query_tree.specs.declared.kind.TermKind.TheVariants as terms
use Rattle.query_tree.specs.declared.kind.MarkKind.{MarkKind}
use Rattle.query_tree.specs.declared.kind.MarkKind.TheVariants as mark_kinds
use Rattle.query_tree.specs.declared.kind.ListKind.{ListKind}
use Rattle.query_tree.specs.declared.kind.ListKind.TheVariants.{And, Or, Difference, WeakAnd, StrongOr}
use Rattle.query_tree.specs.declared.query.Mark.{Mark}
use Rattle.query_tree.specs.declared.query.Mark.TheVariants.{Plain, Hits, Weight}
use Rattle.query_tree.specs.Tree.{Tree, Forest, term_at}
use Rattle.query_tree.specs.Within.{operand_count}
use Rattle.query_reader.specs.declared.token.TokenKind.{TokenKind}
use Rattle.query_reader.specs.declared.token.TokenKind.TheVariants as tokens
use Rattle.query_reader.specs.declared.value.OptionName.{OptionName}
use Rattle.query_reader.specs.declared.value.OptionName.TheVariants as options
use Rattle.query_reader.specs.declared.open_list.Tail.{Tail}
use Rattle.query_reader.specs.declared.open_list.Tail.TheVariants as tails
use Rattle.query_reader.specs.Reading.{Lexeme, Part, operator_due, term_due, term_read, operands_read, prefix_due, node_due, node_read, OpenList, add_operand, part_with, parent_kind, may_take, least_operands, most_operands}
use Rattle.query_reader.specs.Depth.{open_after, most_open}
use Rattle.query_reader.specs.Grammar.{IsOption, OptionsSpell, MayHave, NodeSpells}
use Rattle.query_reader.specs.FirstFault.{BeginQuery}
use Rattle.query_reader.proofs.Balance.{opened, opened-append, most-append}
use Rattle.query_reader.proofs.Standing.{PartSpells, PartEnds, Endable, TailSpells, Waiting, Stands, no_option, count_more, may_be_plain, part_grows}
use Rattle.query_reader.proofs.EndsSound.{list_node}
use Rattle.query_reader.proofs.OptionsSound.{mark_alone, limit_alone, limit_may, mark_may, MarkGiven, mark_given}
use Rattle.query_reader.proofs.Sound.{none_stands}

-- tokens that open nothing
abbrev Falls : List Lexeme → Type 0
Falls spelled = (count : ℕ) → (most_open count spelled ≤ count) × (opened count spelled ≤ count)

falls-none : Falls []
falls-none count = (omega arith, omega arith)

falls-append : (front back : List Lexeme) → Falls front → Falls back → Falls (front ++ back)
falls-append front back one two count =
    let first = one count in
    let later = two (opened count front) in
    (omega (arith, most-append count front back, first.0, first.1, later.0), omega (arith, opened-append count front back, first.1, later.1))

abbrev OpensNothing : TokenKind → Type 0
OpensNothing tokens.Left = ⊥
OpensNothing kind = Unit {0}

no_more : (kind : TokenKind) (count : ℕ) → OpensNothing kind → open_after count kind ≤ count
no_more tokens.Left count none = absurd none
no_more tokens.Right count none = omega arith
no_more kind count none = omega arith

falls-cons : (token : Lexeme) (others : List Lexeme) → OpensNothing token.kind → Falls others → Falls (token ∷ others)
falls-cons token others none falls count =
    let down : open_after count token.kind ≤ count = no_more token.kind count none in
    let later = falls (open_after count token.kind) in
    (omega (arith, down, later.0), omega (arith, down, later.1))

-- tokens to go on with
abbrev a_term : Lexeme
a_term = record { column = 0; kind = tokens.Term; bytes = codes "a:1" }

abbrev a_tree : Tree
a_tree = term_at 0 terms.Whole (codes "a") (codes "1")

abbrev an_operator : Lexeme
an_operator = record { column = 0; kind = tokens.Name; bytes = codes "term" }

abbrev a_prefix : Lexeme
a_prefix = record { column = 0; kind = tokens.Prefix; bytes = codes "a:" }

abbrev a_right : Lexeme
a_right = record { column = 0; kind = tokens.Right; bytes = codes ")" }

abbrev a_number : Lexeme
a_number = record { column = 0; kind = tokens.Number; bytes = codes "1" }

abbrev a_fraction : Lexeme
a_fraction = record { column = 0; kind = tokens.Fraction; bytes = codes "1/1" }

-- a value for an option of each kind
abbrev a_value : MarkKind → Lexeme
a_value mark_kinds.Hits = a_number
a_value mark_kinds.Weight = a_fraction

abbrev a_mark : MarkKind → Mark
a_mark mark_kinds.Hits = Hits 1
a_mark mark_kinds.Weight = Weight 1 1

a_value_given : (kind : MarkKind) (option : Lexeme) → IsOption (options.Mark kind) option → MarkGiven kind option (a_value kind) (a_mark kind)
a_value_given mark_kinds.Hits option is_option =
    mark_given mark_kinds.Hits option a_number tokens.Number (Hits 1) refl refl is_option
a_value_given mark_kinds.Weight option is_option =
    mark_given mark_kinds.Weight option a_fraction tokens.Fraction (Weight 1 1) refl refl is_option

value_opens_nothing : (kind : MarkKind) → OpensNothing (a_value kind).kind
value_opens_nothing mark_kinds.Hits = tt
value_opens_nothing mark_kinds.Weight = tt

a_node : (dialect : Dialect) → NodeSpells dialect a_tree Plain (a_term ∷ [])
a_node dialect = inl (refl, (a_term, (refl, (refl, refl, refl))))

-- the body of a list, up to where the list may end
record PartEnded (dialect : Dialect) (body : List Lexeme) : Type 0 where
  more : List Lexeme
  ended : Part
  falls : Falls more
  spells : PartSpells dialect ended (body ++ more)
  ends : PartEnds ended

already_ended : (dialect : Dialect) (part : Part) (body : List Lexeme) → PartSpells dialect part body → PartEnds part → PartEnded dialect body
already_ended dialect part body spells ends = record {
  more = [];
  ended = part;
  falls = falls-none;
  spells = subst (λ (xs : List Lexeme). PartSpells dialect part xs) (sym (append-nil body)) spells;
  ends = ends;
}

-- operands, as many as are missing
add_terms : (dialect : Dialect) (kind : ListKind) (missing : ℕ) (forest : Forest) (body : List Lexeme)
    → PartSpells dialect (operands_read kind forest) body → least_operands kind ≤ operand_count forest + missing
    → operand_count forest + missing ≤ most_operands dialect kind → PartEnded dialect body
add_terms dialect kind zero forest body spells enough room =
    already_ended dialect (operands_read kind forest) body spells (omega arith)
add_terms dialect kind (suc missing) forest body spells enough room =
    let count : operand_count (add_operand forest a_tree Plain) ≡ operand_count forest + 1 = count_more forest a_tree Plain in
    let others : PartEnded dialect (body ++ a_term ∷ []) =
    add_terms dialect kind missing (add_operand forest a_tree Plain) (body ++ a_term ∷ [])
    (part_grows dialect (operands_read kind forest) a_tree Plain body (a_term ∷ []) (omega arith) spells (a_node dialect) (may_be_plain dialect (Some kind)))
    (omega arith) (omega arith) in
    record {
      more = a_term ∷ others.more;
      ended = others.ended;
      falls = falls-cons a_term others.more tt others.falls;
      spells = subst (λ (xs : List Lexeme). PartSpells dialect others.ended xs) (append_assoc body (a_term ∷ []) others.more) others.spells;
      ends = others.ends;
    }

least_most : (dialect : Dialect) (kind : ListKind) → 1 ≤ dialect.operands → least_operands kind ≤ most_operands dialect kind
least_most dialect And some = omega (arith, some)
least_most dialect Or some = omega (arith, some)
least_most dialect Difference some = omega arith
least_most dialect WeakAnd some = omega (arith, some)
least_most dialect StrongOr some = omega (arith, some)

end_part : (dialect : Dialect) (part : Part) (body : List Lexeme) → 1 ≤ dialect.operands → PartSpells dialect part body → PartEnded dialect body
end_part dialect operator_due body some spells = record {
  more = an_operator ∷ a_term ∷ [];
  ended = term_read 0 terms.Whole (codes "a") (codes "1");
  falls = falls-cons an_operator (a_term ∷ []) tt (falls-cons a_term [] tt falls-none);
  spells = (an_operator, (a_term, (ap (λ xs. xs ++ an_operator ∷ a_term ∷ []) spells, (refl, refl), (refl, refl, refl))));
  ends = tt;
}
end_part dialect term_due body some (name, (is_body, is_name)) = record {
  more = a_term ∷ [];
  ended = term_read 0 terms.Whole (codes "a") (codes "1");
  falls = falls-cons a_term [] tt falls-none;
  spells = (name, (a_term, (ap (λ xs. xs ++ a_term ∷ []) is_body, is_name, (refl, refl, refl))));
  ends = tt;
}
end_part dialect (term_read column kind type_name key) body some spells = already_ended dialect (term_read column kind type_name key) body spells tt
end_part dialect (operands_read kind forest) body some (name, (inner, (is_body, is_name, forest_spells, few))) =
    add_terms dialect kind (least_operands kind - operand_count forest) forest body (name, (inner, (is_body, is_name, forest_spells, few)))
    (omega arith) (omega (arith, few, least_most dialect kind some))
end_part dialect (prefix_due join) body some (name, (is_body, is_name)) = record {
  more = a_prefix ∷ a_term ∷ [];
  ended = node_read join 0 (codes "a") a_tree;
  falls = falls-cons a_prefix (a_term ∷ []) tt (falls-cons a_term [] tt falls-none);
  spells = (
    name,
    (a_prefix, (a_term ∷ [], (ap (λ xs. xs ++ a_prefix ∷ a_term ∷ []) is_body, is_name, (refl, refl, refl), a_node dialect))),
  );
  ends = tt;
}
end_part dialect (node_due join column type_name) body some spells = record {
  more = a_term ∷ [];
  ended = node_read join column type_name a_tree;
  falls = falls-cons a_term [] tt falls-none;
  spells = part_grows dialect (node_due join column type_name) a_tree Plain body (a_term ∷ []) tt spells (a_node dialect) refl;
  ends = tt;
}
end_part dialect (node_read join column type_name node) body some spells = already_ended dialect (node_read join column type_name node) body spells tt

-- an open list
abbrev list_of : ℕ → Part → Mark → Option ℕ → OpenList
list_of column part mark limit = record { column = column; part = part; mark = mark; limit = limit; tail = tails.NoOption }

-- the innermost list, with what is missing
record ListEnded (dialect : Dialect) (parent : Option ListKind) (own : List Lexeme) : Type 0 where
  more : List Lexeme
  node : Tree
  mark : Mark
  falls : Falls more
  spelled : NodeSpells dialect node mark (own ++ more)
  may_have : MayHave dialect parent mark

end_bare : (dialect : Dialect) (column : ℕ) (parent : Option ListKind) (left : Lexeme) (body own : List Lexeme)
    → (left.kind ≡ tokens.Left) × (left.column ≡ column) → own ≡ left ∷ body → PartEnded dialect body → ListEnded dialect parent own
end_bare dialect column parent left body own is_left is_own ended =
    let closed = list_node dialect (list_of column ended.ended Plain None) ended.ended parent left a_right (body ++ ended.more) [] is_left ended.spells
    (record {
      spelled = ([], ([], (refl, inl (refl, refl))));
      ends = ended.ends;
      may_have = may_be_plain dialect parent;
      stands = none_stands ended.ended;
    }) refl in
    let same : (left ∷ ((body ++ ended.more) ++ [])) ++ a_right ∷ [] ≡ own ++ (ended.more ++ a_right ∷ []) =
    ap (λ xs. (left ∷ xs) ++ a_right ∷ []) (append-nil (body ++ ended.more))
    ∙ ap (λ xs. left ∷ xs) (append_assoc body ended.more (a_right ∷ []))
    ∙ ap (λ xs. xs ++ (ended.more ++ a_right ∷ [])) (sym is_own) in
    record {
      more = ended.more ++ a_right ∷ [];
      node = closed.0;
      mark = Plain;
      falls = falls-append ended.more (a_right ∷ []) ended.falls (falls-cons a_right [] tt falls-none);
      spelled = subst (λ (xs : List Lexeme). NodeSpells dialect closed.0 Plain xs) same closed.1.1;
      may_have = may_be_plain dialect parent;
    }

-- after an option's name and its value
end_valued : (dialect : Dialect) (column : ℕ) (part : Part) (mark : Mark) (limit : Option ℕ) (parent : Option ListKind) (left option value : Lexeme) (body before given own : List Lexeme)
    → (left.kind ≡ tokens.Left) × (left.column ≡ column) → own ≡ left ∷ (body ++ given) → given ≡ before ++ option ∷ []
    → OpensNothing value.kind → PartSpells dialect part body → Endable dialect part mark limit parent (before ++ option ∷ value ∷ [])
    → ListEnded dialect parent own
end_valued dialect column part mark limit parent left option value body before given own is_left is_own is_given none spells endable =
    let closed = list_node dialect (list_of column part mark limit) part parent left a_right body (before ++ option ∷ value ∷ []) is_left spells endable refl in
    let same : (left ∷ (body ++ (before ++ option ∷ value ∷ []))) ++ a_right ∷ [] ≡ own ++ value ∷ a_right ∷ [] =
    ap (λ xs. left ∷ xs) (append_assoc body (before ++ option ∷ value ∷ []) (a_right ∷ []))
    ∙ ap (λ xs. left ∷ (body ++ xs)) (append_assoc before (option ∷ value ∷ []) (a_right ∷ []))
    ∙ ap (λ xs. left ∷ (body ++ xs)) (sym (append_assoc before (option ∷ []) (value ∷ a_right ∷ [])))
    ∙ ap (λ xs. left ∷ (body ++ (xs ++ value ∷ a_right ∷ []))) (sym is_given)
    ∙ ap (λ xs. left ∷ xs) (sym (append_assoc body given (value ∷ a_right ∷ [])))
    ∙ ap (λ xs. xs ++ value ∷ a_right ∷ []) (sym is_own) in
    record {
      more = value ∷ a_right ∷ [];
      node = closed.0;
      mark = mark;
      falls = falls-cons value (a_right ∷ []) none (falls-cons a_right [] tt falls-none);
      spelled = subst (λ (xs : List Lexeme). NodeSpells dialect closed.0 mark xs) same closed.1.1;
      may_have = endable.may_have;
    }

one_within : (most : ℕ) → 1 ≤ most → number_between 1 most (codes "1") ≡ Some 1
one_within most some = ap (λ b. cond b (Some 1) None) (at_most most some)
  where
    at_most : (most : ℕ) → 1 ≤ most → nat_le 1 most ≡ true
    at_most most some = grind arith

value_due : (dialect : Dialect) (list : OpenList) (parent : Option ListKind) (left option : Lexeme) (body before given own : List Lexeme) (name : OptionName)
    → 1 ≤ dialect.join_limit → (left.kind ≡ tokens.Left) × (left.column ≡ list.column) → own ≡ left ∷ (body ++ given) → given ≡ before ++ option ∷ []
    → PartSpells dialect list.part body → IsOption name option → may_take dialect.format name list parent ≡ true
    → Endable dialect list.part list.mark list.limit parent before → ListEnded dialect parent own
value_due dialect list parent left option body before given own options.Limit some is_left is_own is_given spells is_option may endable =
    let free = limit_may list parent list.part list.limit may in
    end_valued dialect list.column list.part list.mark (Some 1) parent left option a_number body before given own is_left is_own is_given tt spells
    (record {
      spelled = (
        before,
        (
          option ∷ a_number ∷ [],
          (
            refl,
            inl (
              mark_alone dialect list.mark before (subst (λ (l : Option ℕ). OptionsSpell dialect list.mark l before) free.1 endable.spelled),
              (option, (a_number, (refl, is_option, (refl, one_within dialect.join_limit some)))),
            ),
          ),
        ),
      );
      ends = endable.ends;
      may_have = endable.may_have;
      stands = free.0 (Some 1);
    })
value_due dialect list parent left option body before given own (options.Mark kind) some is_left is_own is_given spells is_option may endable =
    let free = mark_may dialect list kind parent may in
    let value : MarkGiven kind option (a_value kind) (a_mark kind) = a_value_given kind option is_option in
    end_valued dialect list.column list.part (a_mark kind) list.limit parent left option (a_value kind) body before given own is_left is_own is_given
    (value_opens_nothing kind) spells
    (record {
      spelled = (
        before,
        (
          option ∷ a_value kind ∷ [],
          (
            refl,
            inr (
              limit_alone dialect list.limit before (subst (λ (m : Mark). OptionsSpell dialect m list.limit before) free.1 endable.spelled),
              value.spells,
            ),
          ),
        ),
      );
      ends = endable.ends;
      may_have = free.0 (a_mark kind) value.of_kind;
      stands = endable.stands;
    })

end_list : (dialect : Dialect) (list : OpenList) (parent : Option ListKind) (own : List Lexeme) (tail : Tail) (left : Lexeme) (body given : List Lexeme)
    → 1 ≤ dialect.operands → 1 ≤ dialect.join_limit → own ≡ left ∷ (body ++ given) → (left.kind ≡ tokens.Left) × (left.column ≡ list.column)
    → PartSpells dialect list.part body → TailSpells dialect tail list parent given → ListEnded dialect parent own
end_list dialect list parent own tails.NoOption left body given some_operand some_hit is_own is_left spells tail_spells =
    end_bare dialect list.column parent left body own is_left (is_own ∙ ap (λ xs. left ∷ (body ++ xs)) tail_spells.0 ∙ ap (λ xs. left ∷ xs) (append-nil body))
    (end_part dialect list.part body some_operand spells)
end_list dialect list parent own (tails.ValueDue name) left body given some_operand some_hit is_own is_left spells (before, (option, (is_given, is_option, may, endable))) =
    value_due dialect list parent left option body before given own name some_hit is_left is_own is_given spells is_option may endable
end_list dialect list parent own tails.OptionRead left body given some_operand some_hit is_own is_left spells endable =
    let closed = list_node dialect list list.part parent left a_right body given is_left spells endable refl in
    record {
      more = a_right ∷ [];
      node = closed.0;
      mark = list.mark;
      falls = falls-cons a_right [] tt falls-none;
      spelled = subst (λ (xs : List Lexeme). NodeSpells dialect closed.0 list.mark (xs ++ a_right ∷ [])) (sym is_own) closed.1.1;
      may_have = endable.may_have;
    }

-- a query, with what is missing
record Finished (dialect : Dialect) (done : List Lexeme) : Type 0 where
  more : List Lexeme
  tree : Tree
  falls : Falls more
  spelled : NodeSpells dialect tree Plain (done ++ more)

finish_more : (dialect : Dialect) (outer own more : List Lexeme) → Falls more → Finished dialect (outer ++ (own ++ more)) → Finished dialect (outer ++ own)
finish_more dialect outer own more falls finished =
    let same : (outer ++ (own ++ more)) ++ finished.more ≡ (outer ++ own) ++ (more ++ finished.more) =
    ap (λ xs. xs ++ finished.more) (sym (append_assoc outer own more)) ∙ append_assoc (outer ++ own) more finished.more in
    record {
      more = more ++ finished.more;
      tree = finished.tree;
      falls = falls-append more finished.more falls finished.falls;
      spelled = subst (λ (xs : List Lexeme). NodeSpells dialect finished.tree Plain xs) same finished.spelled;
    }

finish_all : (dialect : Dialect) (lists : List OpenList) (outer own : List Lexeme) (node : Tree) (mark : Mark) → 1 ≤ dialect.operands
    → Waiting dialect lists outer → NodeSpells dialect node mark own → MayHave dialect (parent_kind lists) mark → Finished dialect (outer ++ own)
finish_all dialect [] outer own node mark some waiting spells may =
    let same : own ≡ (outer ++ own) ++ [] = sym (append-nil (outer ++ own) ∙ ap (λ xs. xs ++ own) waiting) in
    record {
      more = [];
      tree = node;
      falls = falls-none;
      spelled =
          subst (λ (xs : List Lexeme). NodeSpells dialect node Plain xs) same
          (subst (λ (m : Mark). NodeSpells dialect node m own) may spells);
    }
finish_all dialect (list ∷ lists) outer own node mark some (before, (own_before, (is_outer, (left, (body, (given, (is_own, is_left, part_spells, tail_spells)))), no_tail, expects, waiting))) spells may =
    let bare = no_option dialect list.tail list (parent_kind lists) given no_tail tail_spells in
    let grown = part_grows dialect list.part node mark body own expects part_spells spells may in
    let all : own_before ++ own ≡ left ∷ (body ++ own) =
    ap (λ xs. xs ++ own) (is_own ∙ ap (λ xs. left ∷ (body ++ xs)) bare.0 ∙ ap (λ xs. left ∷ xs) (append-nil body)) in
    let ended : ListEnded dialect (parent_kind lists) (own_before ++ own) =
    end_bare dialect list.column (parent_kind lists) left (body ++ own) (own_before ++ own) is_left all
    (end_part dialect (part_with list.part node mark) (body ++ own) some grown) in
    let finished : Finished dialect (before ++ (own_before ++ own)) =
    finish_more dialect before (own_before ++ own) ended.more ended.falls
    (finish_all dialect lists before ((own_before ++ own) ++ ended.more) ended.node ended.mark some waiting ended.spelled ended.may_have) in
    subst (λ (xs : List Lexeme). Finished dialect xs) (sym (ap (λ xs. xs ++ own) is_outer ∙ append_assoc before own_before own)) finished

finish : (dialect : Dialect) (lists : List OpenList) (whole : Option Tree) (done : List Lexeme) → 1 ≤ dialect.operands → 1 ≤ dialect.join_limit
    → Stands dialect lists whole done → Finished dialect done
finish dialect [] None done some_operand some_hit stands = record {
  more = a_term ∷ [];
  tree = a_tree;
  falls = falls-cons a_term [] tt falls-none;
  spelled = subst (λ (xs : List Lexeme). NodeSpells dialect a_tree Plain (xs ++ a_term ∷ [])) (sym stands) (a_node dialect);
}
finish dialect [] (Some node) done some_operand some_hit stands = record {
  more = [];
  tree = node;
  falls = falls-none;
  spelled = subst (λ (xs : List Lexeme). NodeSpells dialect node Plain xs) (sym (append-nil done)) stands;
}
finish dialect (list ∷ lists) None done some_operand some_hit (outer, (own, (is_done, (left, (body, (given, (is_own, is_left, spells, tail_spells)))), waiting))) =
    let ended : ListEnded dialect (parent_kind lists) own =
    end_list dialect list (parent_kind lists) own list.tail left body given some_operand some_hit is_own is_left spells tail_spells in
    subst (λ (xs : List Lexeme). Finished dialect xs) (sym is_done)
    (finish_more dialect outer own ended.more ended.falls
    (finish_all dialect lists outer (own ++ ended.more) ended.node ended.mark some_operand waiting ended.spelled ended.may_have))
finish dialect (list ∷ lists) (Some node) done some_operand some_hit stands = absurd stands

opened-most : (count : ℕ) (spelled : List Lexeme) → opened count spelled ≤ most_open count spelled
opened-most count [] = omega arith
opened-most count (token ∷ others) = omega (arith, opened-most (open_after count token.kind) others)

-- what was read begins a query
pub begins : (dialect : Dialect) (lists : List OpenList) (whole : Option Tree) (done : List Lexeme) → 1 ≤ dialect.operands → 1 ≤ dialect.join_limit
    → Stands dialect lists whole done → most_open 0 done ≤ dialect.depth → BeginQuery dialect done
begins dialect lists whole done some_operand some_hit stands shallow =
    let finished : Finished dialect done = finish dialect lists whole done some_operand some_hit stands in
    let down = finished.falls (opened 0 done) in
    (finished.more, (finished.tree, (finished.spelled, omega (arith, shallow, most-append 0 done finished.more, down.0, opened-most 0 done))))
