-- Ends of lists, as the reading stands for them.
use Rattle.std.proofs.Common.{◌≡◌, ℕ, ◌≤◌, List, [], ◌∷◌, ◌++◌, Option, Some, refl, sym, subst, arith, inr}
use Rattle.std.specs.Prelude.{unwrap_or}
use Rattle.query_tree.specs.declared.dialect.Dialect.{Dialect}
use Rattle.query_tree.specs.declared.kind.ListKind.{ListKind}
use Rattle.query_tree.specs.declared.kind.ListKind.TheVariants.{And, Or, Difference, WeakAnd, StrongOr}
use Rattle.query_tree.specs.Tree.{Tree, term_at, list_at, join_at}
use Rattle.query_tree.specs.Within.{IsOperandCount, limit_unless_given, operand_count}
use Rattle.query_reader.specs.declared.token.TokenKind.TheVariants as tokens
use Rattle.query_reader.specs.Reading.{Lexeme, Part, operator_due, term_due, term_read, operands_read, prefix_due, node_due, node_read, OpenList, parent_kind, node_of, closed, close, least_operands, most_operands}
use Rattle.query_reader.specs.Grammar.{OptionsSpell, NodeSpells}
use Rattle.query_reader.proofs.Standing.{PartSpells, Endable, Waiting, Holds, deliver_holds}

count_fits : (dialect : Dialect) (kind : ListKind) (count : ℕ) → least_operands kind ≤ count → count ≤ most_operands dialect kind
    → IsOperandCount dialect kind count
count_fits dialect And count least most = (omega arith, omega arith)
count_fits dialect Or count least most = (omega arith, omega arith)
count_fits dialect Difference count least most = omega arith
count_fits dialect WeakAnd count least most = (omega arith, omega arith)
count_fits dialect StrongOr count least most = (omega arith, omega arith)

-- the node of a list that may end, with its end
pub list_node : (dialect : Dialect) (list : OpenList) (part : Part) (parent : Option ListKind) (left right : Lexeme) (body given : List Lexeme)
    → (left.kind ≡ tokens.Left) × (left.column ≡ list.column) → PartSpells dialect part body
    → Endable dialect part list.mark list.limit parent given → right.kind ≡ tokens.Right
    → (node : Tree) × ((node_of dialect list part ≡ Some node) × NodeSpells dialect node list.mark ((left ∷ (body ++ given)) ++ right ∷ []))
list_node dialect list operator_due parent left right body given is_left spells endable is_right = absurd endable.ends
list_node dialect list term_due parent left right body given is_left spells endable is_right = absurd endable.ends
list_node dialect list (term_read column kind type_name key) parent left right body given is_left spells endable is_right =
    let opts = subst (λ (l : Option ℕ). OptionsSpell dialect list.mark l given) endable.stands endable.spelled in
    (term_at column kind type_name key, (refl, inr (list.column, (left, (body, (given, (right, (refl, is_left, spells, opts, is_right))))))))
list_node dialect list (operands_read kind forest) parent left right body given is_left (name, (inner, (is_body, is_name, forest_spells, few))) endable is_right =
    let opts = subst (λ (l : Option ℕ). OptionsSpell dialect list.mark l given) endable.stands endable.spelled in
    let fits = count_fits dialect kind (operand_count forest) endable.ends few in (
      list_at list.column kind forest,
      (refl, (fits, (left, (body, (given, (right, (refl, is_left, (name, (inner, (is_body, is_name, forest_spells))), opts, is_right))))))),
    )
list_node dialect list (prefix_due join) parent left right body given is_left spells endable is_right = absurd endable.ends
list_node dialect list (node_due join column type_name) parent left right body given is_left spells endable is_right = absurd endable.ends
list_node dialect list (node_read join column type_name node) parent left right body given is_left spells endable is_right = (
  join_at list.column join column type_name (unwrap_or list.limit (limit_unless_given dialect)) node,
  (refl, (list.limit, (refl, (left, (body, (given, (right, (refl, is_left, spells, endable.spelled, is_right)))))))),
)

pub close_holds : (dialect : Dialect) (list : OpenList) (lists : List OpenList) (nodes : ℕ) (token : Lexeme)
    (left : Lexeme) (body given outer own : List Lexeme)
    → own ≡ left ∷ (body ++ given) → (left.kind ≡ tokens.Left) × (left.column ≡ list.column) → PartSpells dialect list.part body
    → Endable dialect list.part list.mark list.limit (parent_kind lists) given → Waiting dialect lists outer → token.kind ≡ tokens.Right
    → Holds dialect (close dialect list lists nodes token) (outer ++ (own ++ token ∷ []))
close_holds dialect list lists nodes token left body given outer own is_own is_left spells endable waiting is_right =
    let ended = list_node dialect list list.part (parent_kind lists) left token body given is_left spells endable is_right in
    let spelled : NodeSpells dialect ended.0 list.mark (own ++ token ∷ []) =
    subst (λ (xs : List Lexeme). NodeSpells dialect ended.0 list.mark (xs ++ token ∷ [])) (sym is_own) ended.1.1 in
    subst (λ (n : Option Tree). Holds dialect (closed list lists nodes token n) (outer ++ (own ++ token ∷ []))) (sym ended.1.0)
    (deliver_holds dialect lists nodes ended.0 list.mark outer (own ++ token ∷ []) waiting spelled endable.may_have)
