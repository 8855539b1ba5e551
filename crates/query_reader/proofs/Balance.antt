-- What is spelled closes each parenthesis that it opens.
use Rattle.std.proofs.Common.{◌≡◌, ℕ, ◌+◌, ◌≤◌, max, List, [], ◌∷◌, ◌++◌, Option, None, Some, refl, ap, ◌∙◌, subst, sym, arith, inl, inr}
use Rattle.query_tree.specs.declared.dialect.Dialect.{Dialect}
use Rattle.query_tree.specs.declared.kind.TermKind.{TermKind}
use Rattle.query_tree.specs.declared.kind.TermKind.TheVariants as terms
use Rattle.query_tree.specs.declared.kind.ListKind.{ListKind}
use Rattle.query_tree.specs.declared.query.Mark.{Mark}
use Rattle.query_tree.specs.declared.query.Mark.TheVariants.{Plain, Hits, Weight}
use Rattle.query_tree.specs.Tree.{Tree, Forest, term_at, list_at, join_at, no_operands, with_operand}
use Rattle.query_reader.specs.declared.token.TokenKind.{TokenKind}
use Rattle.query_reader.specs.declared.token.TokenKind.TheVariants as tokens
use Rattle.query_reader.specs.Reading.{Lexeme}
use Rattle.query_reader.specs.Depth.{open_after, most_open}
use Rattle.query_reader.specs.Grammar.{atom_of, LimitSpells, MarkSpells, OptionsSpell, Enclosed, NodeSpells, ForestSpells}

-- how many parentheses are open after tokens
abbrev pub opened : ℕ → List Lexeme → ℕ
opened count [] = count
opened count (token ∷ others) = opened (open_after count token.kind) others

pub opened-append : (count : ℕ) (front back : List Lexeme) → opened count (front ++ back) ≡ opened (opened count front) back
opened-append count [] back = refl
opened-append count (token ∷ front) back = opened-append (open_after count token.kind) front back

pub most-first : (count : ℕ) (spelled : List Lexeme) → count ≤ most_open count spelled
most-first count [] = omega arith
most-first count (token ∷ others) = omega arith

pub most-append : (count : ℕ) (front back : List Lexeme)
    → most_open count (front ++ back) ≡ max (most_open count front) (most_open (opened count front) back)
most-append count [] back = omega (arith, most-first count back)
most-append count (token ∷ front) back = omega (arith, most-append (open_after count token.kind) front back)

-- as many are open after these tokens as before them
abbrev pub Balanced : List Lexeme → Type 0
Balanced spelled = (count : ℕ) → opened count spelled ≡ count

pub balanced-append : (front back : List Lexeme) → Balanced front → Balanced back → Balanced (front ++ back)
balanced-append front back one other count =
    opened-append count front back ∙ ap (λ n. opened n back) (one count) ∙ other count

-- a token that is no parenthesis
abbrev pub IsFlat : TokenKind → Type 0
IsFlat tokens.Left = ⊥
IsFlat tokens.Right = ⊥
IsFlat kind = Unit {0}

pub flat-after : (kind : TokenKind) (count : ℕ) → IsFlat kind → open_after count kind ≡ count
flat-after tokens.Left count flat = absurd flat
flat-after tokens.Right count flat = absurd flat
flat-after kind count flat = refl

pub balanced-cons : (token : Lexeme) (others : List Lexeme) (kind : TokenKind) → token.kind ≡ kind → IsFlat kind
    → Balanced others → Balanced (token ∷ others)
balanced-cons token others kind is_kind flat balanced count =
    ap (λ n. opened n others) (ap (open_after count) is_kind ∙ flat-after kind count flat) ∙ balanced count

pub balanced-mark : (mark : Mark) (spelled : List Lexeme) → MarkSpells mark spelled → Balanced spelled
balanced-mark Plain spelled nothing = subst Balanced (sym nothing) (λ count. refl)
balanced-mark (Hits hits) spelled (name, (value, (is_spelled, is_name, is_value))) =
    subst Balanced (sym is_spelled)
    (balanced-cons name (value ∷ []) tokens.Option is_name.0 tt (balanced-cons value [] tokens.Number is_value.0 tt (λ count. refl)))
balanced-mark (Weight n d) spelled (name, (value, (is_spelled, is_name, is_value))) =
    subst Balanced (sym is_spelled)
    (balanced-cons name (value ∷ []) tokens.Option is_name.0 tt (balanced-cons value [] tokens.Fraction is_value.0 tt (λ count. refl)))

pub balanced-limit : (dialect : Dialect) (limit : Option ℕ) (spelled : List Lexeme) → LimitSpells dialect limit spelled → Balanced spelled
balanced-limit dialect None spelled nothing = subst Balanced (sym nothing) (λ count. refl)
balanced-limit dialect (Some limit) spelled (name, (value, (is_spelled, is_name, is_value))) =
    subst Balanced (sym is_spelled)
    (balanced-cons name (value ∷ []) tokens.Option is_name.0 tt (balanced-cons value [] tokens.Number is_value.0 tt (λ count. refl)))

pub balanced-options : (dialect : Dialect) (mark : Mark) (limit : Option ℕ) (spelled : List Lexeme)
    → OptionsSpell dialect mark limit spelled → Balanced spelled
balanced-options dialect mark limit spelled (first, (second, (is_spelled, inl both))) =
    subst Balanced (sym is_spelled)
    (balanced-append first second (balanced-mark mark first both.0) (balanced-limit dialect limit second both.1))
balanced-options dialect mark limit spelled (first, (second, (is_spelled, inr both))) =
    subst Balanced (sym is_spelled)
    (balanced-append first second (balanced-limit dialect limit first both.0) (balanced-mark mark second both.1))

-- what is between parentheses, and the end
pub balanced-between : (left right : Lexeme) (inner : List Lexeme) → left.kind ≡ tokens.Left → right.kind ≡ tokens.Right
    → Balanced inner → Balanced ((left ∷ inner) ++ right ∷ [])
balanced-between left right inner is_left is_right balanced count =
    ap (λ n. opened n (inner ++ right ∷ [])) (ap (open_after count) is_left)
    ∙ opened-append (count + 1) inner (right ∷ [])
    ∙ ap (λ n. open_after n right.kind) (balanced (count + 1))
    ∙ ap (open_after (count + 1)) is_right
    ∙ omega arith

pub balanced-enclosed : (dialect : Dialect) (column : ℕ) (mark : Mark) (limit : Option ℕ) (Body : List Lexeme → Type 0) (spelled : List Lexeme)
    → ((body : List Lexeme) → Body body → Balanced body) → Enclosed dialect column mark limit Body spelled → Balanced spelled
balanced-enclosed dialect column mark limit Body spelled bodies (left, (body, (given, (right, (is_spelled, is_left, is_body, opts, is_right))))) =
    subst Balanced (sym is_spelled)
    (balanced-between left right (body ++ given) is_left.0 is_right
    (balanced-append body given (bodies body is_body) (balanced-options dialect mark limit given opts)))

pub flat-term : (kind : TermKind) → IsFlat (atom_of kind)
flat-term terms.Whole = tt
flat-term terms.Prefix = tt

mutual
  pub balanced-node : (dialect : Dialect) (node : Tree) (mark : Mark) (spelled : List Lexeme) → NodeSpells dialect node mark spelled → Balanced spelled
  balanced-node dialect (term_at column kind type_name key) mark spelled (inl (plain, (token, (is_spelled, is_term)))) =
      subst Balanced (sym is_spelled) (balanced-cons token [] (atom_of kind) is_term.0 (flat-term kind) (λ count. refl))
  balanced-node dialect (term_at column kind type_name key) mark spelled (inr (outer, enclosed)) =
      balanced-enclosed dialect outer mark None _ spelled
      (λ body is_body. subst Balanced (sym is_body.1.1.0)
      (balanced-cons is_body.0 (is_body.1.0 ∷ []) tokens.Name is_body.1.1.1.0 tt
      (balanced-cons is_body.1.0 [] (atom_of kind) is_body.1.1.2.0 (flat-term kind) (λ count. refl))))
      enclosed
  balanced-node dialect (list_at column kind forest) mark spelled (few, enclosed) =
      balanced-enclosed dialect column mark None _ spelled
      (λ body is_body. subst Balanced (sym is_body.1.1.0)
      (balanced-cons is_body.0 is_body.1.0 tokens.Name is_body.1.1.1.0 tt
      (balanced-forest dialect kind forest is_body.1.0 is_body.1.1.2)))
      enclosed
  balanced-node dialect (join_at column join type_column type_name limit node) mark spelled (given, (is_limit, enclosed)) =
      balanced-enclosed dialect column mark given _ spelled
      (λ body is_body. subst Balanced (sym is_body.1.1.1.0)
      (balanced-cons is_body.0 (is_body.1.0 ∷ is_body.1.1.0) tokens.Name is_body.1.1.1.1.0 tt
      (balanced-cons is_body.1.0 is_body.1.1.0 tokens.Prefix is_body.1.1.1.2.0 tt
      (balanced-node dialect node Plain is_body.1.1.0 is_body.1.1.1.3))))
      enclosed

  pub balanced-forest : (dialect : Dialect) (kind : ListKind) (forest : Forest) (spelled : List Lexeme) → ForestSpells dialect kind forest spelled → Balanced spelled
  balanced-forest dialect kind no_operands spelled nothing = subst Balanced (sym nothing) (λ count. refl)
  balanced-forest dialect kind (with_operand node mark others) spelled (front, (back, (is_spelled, may, node_spells, others_spell))) =
      subst Balanced (sym is_spelled)
      (balanced-append front back (balanced-node dialect node mark front node_spells) (balanced-forest dialect kind others back others_spell))
