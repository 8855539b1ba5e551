-- The grammar of queries: which tokens spell which query.
use Rattle.std.specs.Prelude.{ℕ, ◌≡◌, ◌⊎◌, ◌≤◌, List, [], ◌∷◌, ◌++◌, Option, Some, None, unwrap_or, map}
use Rattle.uni_base.specs.Numbers.{number_between}
use Rattle.query_tree.specs.declared.dialect.Dialect.{Dialect}
use Rattle.query_tree.specs.declared.kind.ListKind.{ListKind}
use Rattle.query_tree.specs.declared.kind.TermKind.{TermKind}
use Rattle.query_tree.specs.declared.kind.TermKind.TheVariants as terms
use Rattle.query_tree.specs.declared.kind.MarkKind.TheVariants as mark_kinds
use Rattle.query_tree.specs.declared.query.Mark.{Mark}
use Rattle.query_tree.specs.declared.query.Mark.TheVariants as marks
use Rattle.query_tree.specs.declared.refusal.QueryRefusal.{QueryRefusal}
use Rattle.query_tree.specs.declared.refusal.QueryRefusal.TheVariants.{Fault, Memory}
use Rattle.query_tree.specs.Tree.{Tree, Forest, term_at, list_at, join_at, no_operands, with_operand}
use Rattle.query_tree.specs.Size.{node_count}
use Rattle.query_tree.specs.Marks.{MayStand}
use Rattle.query_tree.specs.Within.{limit_unless_given, IsOperandCount, operand_count}
use Rattle.query_reader.specs.declared.token.Token.{Token}
use Rattle.query_reader.specs.declared.token.TokenKind.{TokenKind}
use Rattle.query_reader.specs.declared.token.TokenKind.TheVariants as tokens
use Rattle.query_reader.specs.declared.operator.Operator.{Operator}
use Rattle.query_reader.specs.declared.operator.Operator.TheVariants as operators
use Rattle.query_reader.specs.declared.value.OptionName.{OptionName}
use Rattle.query_reader.specs.declared.value.OptionName.TheVariants as options
use Rattle.query_reader.specs.Spans.{AreTokensOf}
use Rattle.query_reader.specs.Operators.{operator_of}
use Rattle.query_reader.specs.Values.{option_of, hits_of, weight_of}
use Rattle.query_reader.specs.Reading.{Lexeme, lexeme_of, pair_of, prefix_of, QueryFault}
use Rattle.query_reader.specs.Depth.{most_open}

-- single tokens
abbrev pub IsOperator : Operator → Lexeme → Type 0
IsOperator operator token = (token.kind ≡ tokens.Name) × (operator_of token.bytes ≡ Some operator)

abbrev pub IsPrefix : ℕ → List ℕ → Lexeme → Type 0
IsPrefix column type_name token =
    (token.kind ≡ tokens.Prefix) × (token.column ≡ column) × (prefix_of token.bytes ≡ Some type_name)

-- the atom of a term: with a star where its key is a prefix
abbrev pub atom_of : TermKind → TokenKind
atom_of terms.Whole = tokens.Term
atom_of terms.Prefix = tokens.Stem

abbrev pub IsTerm : ℕ → TermKind → List ℕ → List ℕ → Lexeme → Type 0
IsTerm column kind type_name key token =
    (token.kind ≡ atom_of kind) × (token.column ≡ column) × (pair_of kind token.bytes ≡ Some (type_name, key))

abbrev pub IsOption : OptionName → Lexeme → Type 0
IsOption name token = (token.kind ≡ tokens.Option) × (option_of token.bytes ≡ Some name)

-- the value of an option: a number up to the greatest limit of a join, a number up to a million, or
-- a fraction above 0 and at most 1
abbrev pub IsLimitValue : Dialect → ℕ → Lexeme → Type 0
IsLimitValue dialect limit token =
    (token.kind ≡ tokens.Number) × (number_between 1 dialect.join_limit token.bytes ≡ Some limit)

abbrev pub IsHitsValue : ℕ → Lexeme → Type 0
IsHitsValue count token = (token.kind ≡ tokens.Number) × (hits_of token.bytes ≡ Some (marks.Hits count))

abbrev pub IsWeightValue : ℕ → ℕ → Lexeme → Type 0
IsWeightValue numerator denominator token =
    (token.kind ≡ tokens.Fraction) × (weight_of token.bytes ≡ Some (marks.Weight numerator denominator))

-- an option and its value
abbrev pub OptionSpells : OptionName → (Lexeme → Type 0) → List Lexeme → Type 0
OptionSpells option IsValue spelled =
    (name : Lexeme) × ((value : Lexeme) × ((spelled ≡ name ∷ value ∷ []) × IsOption option name × IsValue value))

-- or nothing
abbrev pub LimitSpells : Dialect → Option ℕ → List Lexeme → Type 0
LimitSpells dialect None spelled = spelled ≡ []
LimitSpells dialect (Some limit) spelled = OptionSpells options.Limit (IsLimitValue dialect limit) spelled

abbrev pub MarkSpells : Mark → List Lexeme → Type 0
MarkSpells marks.Plain spelled = spelled ≡ []
MarkSpells (marks.Hits count) spelled = OptionSpells (options.Mark mark_kinds.Hits) (IsHitsValue count) spelled
MarkSpells (marks.Weight numerator denominator) spelled =
    OptionSpells (options.Mark mark_kinds.Weight) (IsWeightValue numerator denominator) spelled

-- the options of a list, in any order
abbrev pub OptionsSpell : Dialect → Mark → Option ℕ → List Lexeme → Type 0
OptionsSpell dialect mark limit spelled =
    (first : List Lexeme) × ((second : List Lexeme) × ((spelled ≡ first ++ second)
    × ((MarkSpells mark first × LimitSpells dialect limit second) ⊎ (LimitSpells dialect limit first × MarkSpells mark second))))

-- a body and options between parentheses
abbrev pub Enclosed : Dialect → ℕ → Mark → Option ℕ → (List Lexeme → Type 0) → List Lexeme → Type 0
Enclosed dialect column mark limit Body spelled =
    (left : Lexeme) × ((body : List Lexeme) × ((given : List Lexeme) × ((right : Lexeme) × (
    (spelled ≡ (left ∷ (body ++ given)) ++ right ∷ [])
    × ((left.kind ≡ tokens.Left) × (left.column ≡ column))
    × Body body
    × OptionsSpell dialect mark limit given
    × (right.kind ≡ tokens.Right)
    ))))

-- the option that a node may have, by the list of which it is an operand; only operands have one
abbrev pub MayHave : Dialect → Option ListKind → Mark → Type 0
MayHave dialect None mark = mark ≡ marks.Plain
MayHave dialect (Some operator) mark = MayStand dialect.format operator mark

abbrev pub TermBody : ℕ → TermKind → List ℕ → List ℕ → List Lexeme → Type 0
TermBody column kind type_name key body =
    (name : Lexeme) × ((term : Lexeme) × ((body ≡ name ∷ term ∷ []) × IsOperator operators.Term name × IsTerm column kind type_name key term))

-- A node with the mark that it has as an operand. A term may stand bare where it has no mark. A
-- node's column is that of its parenthesis, or of a term's atom.
abbrev mutual
  pub NodeSpells : Dialect → Tree → Mark → List Lexeme → Type 0
  NodeSpells dialect (term_at column kind type_name key) mark spelled =
      ((mark ≡ marks.Plain) × ((token : Lexeme) × ((spelled ≡ token ∷ []) × IsTerm column kind type_name key token)))
      ⊎ ((outer : ℕ) × Enclosed dialect outer mark None (TermBody column kind type_name key) spelled)
  NodeSpells dialect (list_at column kind forest) mark spelled =
      IsOperandCount dialect kind (operand_count forest)
      × Enclosed dialect column mark None
      (λ body. (name : Lexeme) × ((inner : List Lexeme) × ((body ≡ name ∷ inner)
      × IsOperator (operators.List kind) name × ForestSpells dialect kind forest inner)))
      spelled
  NodeSpells dialect (join_at column join type_column type_name limit node) mark spelled =
      (given : Option ℕ) × ((limit ≡ unwrap_or given (limit_unless_given dialect))
      × Enclosed dialect column mark given
      (λ body. (name : Lexeme) × ((prefix : Lexeme) × ((inner : List Lexeme) × ((body ≡ name ∷ prefix ∷ inner)
      × IsOperator (operators.Join join) name × IsPrefix type_column type_name prefix
      × NodeSpells dialect node marks.Plain inner))))
      spelled)

  pub ForestSpells : Dialect → ListKind → Forest → List Lexeme → Type 0
  ForestSpells dialect kind no_operands spelled = spelled ≡ []
  ForestSpells dialect kind (with_operand node mark others) spelled =
      (front : List Lexeme) × ((back : List Lexeme) × ((spelled ≡ front ++ back)
      × MayHave dialect (Some kind) mark × NodeSpells dialect node mark front × ForestSpells dialect kind others back))

-- A text spells a query: its tokens spell the tree, which has no more nodes than are allowed, and no
-- more parentheses are open at once than are allowed.
pub record QuerySpells (dialect : Dialect) (text : List ℕ) (tree : Tree) : Type 0 where
  pub lexed : List Token
  pub of_text : AreTokensOf dialect.format text lexed
  pub spelled : NodeSpells dialect tree marks.Plain (map (lexeme_of text) lexed)
  pub nodes : node_count tree ≤ dialect.nodes
  pub depth : most_open 0 (map (lexeme_of text) lexed) ≤ dialect.depth

-- a refusal of a text: its first fault, or want of memory, which is free
abbrev pub IsQueryRefusal : Dialect → List ℕ → QueryRefusal → Type 0
IsQueryRefusal dialect text (Fault code column) = QueryFault dialect text code column
IsQueryRefusal dialect text Memory = Unit {0}
