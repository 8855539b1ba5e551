-- The tokens of marks, limits, terms and joins' heads in a print.
use Rattle.std.proofs.Common.{◌≡◌, ℕ, ◌+◌, ◌≤◌, ◌==◌, Bool, true, false, cond, List, [], ◌∷◌, ◌++◌, length, drop, Option, Some, None, refl, sym, ap, ◌∙◌, arith, inl, inr, append_assoc, append-nil, codes, decimal}
use Rattle.std.specs.Prelude.{unwrap_or}
use Rattle.std.proofs.lemmas.Bool.Decides.{eqb_tells}
use Rattle.query_tree.specs.declared.dialect.Dialect.{Dialect}
use Rattle.query_tree.specs.declared.kind.TermKind.{TermKind}
use Rattle.query_tree.specs.declared.kind.ListKind.{ListKind}
use Rattle.query_tree.specs.declared.kind.ListKind.TheVariants as lists
use Rattle.query_tree.specs.declared.kind.JoinKind.{JoinKind}
use Rattle.query_tree.specs.declared.kind.JoinKind.TheVariants as joins
use Rattle.query_tree.specs.declared.query.Mark.{Mark}
use Rattle.query_tree.specs.declared.query.Mark.TheVariants.{Plain, Hits, Weight}
use Rattle.query_tree.specs.Text.{list_name, join_name, mark_text, default_limit, limit_text, pair_text}
use Rattle.query_tree.specs.Marks.{IsMarkValue}
use Rattle.query_tree.specs.Within.{IsTypeName, IsKeyText, MayBegin, IsJoinLimit, limit_unless_given}
use Rattle.query_reader.specs.Spans.{AtomEnds}
use Rattle.query_reader.specs.declared.token.TokenKind.{TokenKind}
use Rattle.query_reader.specs.declared.token.TokenKind.TheVariants as kinds
use Rattle.query_reader.specs.declared.operator.Operator.TheVariants as operators
use Rattle.query_reader.specs.Operators.{operator_of}
use Rattle.query_reader.specs.Reading.{Lexeme}
use Rattle.query_reader.specs.Grammar.{atom_of, LimitSpells, MarkSpells, OptionsSpell, Enclosed, TermBody}
use Rattle.query_reader.proofs.Balance.{Balanced, balanced-cons, flat-term, balanced-mark}
use Rattle.query_reader.proofs.AtomForms.{IsAtom, term-atom, term-pair, prefix-atom, number-atom, fraction-atom, fraction-weight, hits-value, decimal-within}
use Rattle.query_reader.proofs.Segments.{Segment, parts, both, as_text, nothing, space, lexeme, left, right, atom}
use Rattle.query_reader.proofs.Deep.{Deep, deep-flat, deep-between}

-- an option's name between spaces
option_written : (format : ℕ) (whole : List ℕ) (at : ℕ) (name rest : List ℕ) → IsAtom format name kinds.Option
    → drop at whole ≡ (((32 ∷ []) ++ name) ++ 32 ∷ []) ++ rest
    → Segment format whole at (((32 ∷ []) ++ name) ++ 32 ∷ []) rest (lexeme (at + 1) kinds.Option name ∷ [])
option_written format whole at name rest is_atom is_here =
    let outer = parts whole at ((32 ∷ []) ++ name) (32 ∷ []) rest is_here in
    let inner = parts whole at (32 ∷ []) name ((32 ∷ []) ++ rest) outer.here in
    both format whole at ((32 ∷ []) ++ name) (32 ∷ []) rest (lexeme (at + 1) kinds.Option name ∷ []) []
    (both format whole at (32 ∷ []) name ((32 ∷ []) ++ rest) [] (lexeme (at + 1) kinds.Option name ∷ [])
    (space format whole at (name ++ ((32 ∷ []) ++ rest)))
    (atom format whole (at + 1) name ((32 ∷ []) ++ rest) kinds.Option inner.next is_atom refl))
    (space format whole (at + length ((32 ∷ []) ++ name)) rest)

-- a mark's tokens
pub record MarkWritten (format : ℕ) (whole : List ℕ) (at : ℕ) (mark : Mark) (rest : List ℕ) : Type 0 where
  pub lexemes : List Lexeme
  pub segment : Segment format whole at (mark_text mark) rest lexemes
  pub spelled : MarkSpells mark lexemes
  pub deep : Deep 0 lexemes

flat-two : (name value : Lexeme) (kind : TokenKind) → name.kind ≡ kinds.Option → value.kind ≡ kind → Balanced (value ∷ []) → Deep 0 (value ∷ []) → Deep 0 (name ∷ value ∷ [])
flat-two name value kind is_name is_value balanced deep = deep-flat 0 name (value ∷ []) kinds.Option is_name tt deep

pub ends_mark : (mark : Mark) (rest : List ℕ) → AtomEnds rest → AtomEnds (mark_text mark ++ rest)
ends_mark Plain rest ends = ends
ends_mark (Hits count) rest ends = refl
ends_mark (Weight n d) rest ends = refl

pub mark_written : (format : ℕ) (whole : List ℕ) (at : ℕ) (mark : Mark) (rest : List ℕ) → IsMarkValue mark
    → drop at whole ≡ mark_text mark ++ rest → AtomEnds rest → MarkWritten format whole at mark rest
mark_written format whole at Plain rest value is_here ends =
    record { lexemes = []; segment = nothing format whole at rest; spelled = refl; deep = λ count. omega arith }
mark_written format whole at (Hits count) rest value is_here ends =
    let split = parts whole at (codes " :optional-hits ") (decimal count) rest is_here in
    let name : Lexeme = lexeme (at + 1) kinds.Option (codes ":optional-hits") in
    let given : Lexeme = lexeme (at + length (codes " :optional-hits ")) kinds.Number (decimal count) in
    record {
      lexemes = name ∷ given ∷ [];
      segment =
          both format whole at (codes " :optional-hits ") (decimal count) rest (name ∷ []) (given ∷ [])
          (option_written format whole at (codes ":optional-hits") (decimal count ++ rest) (record { some = omega arith; all = refl; form = refl }) split.here)
          (atom format whole (at + length (codes " :optional-hits ")) (decimal count) rest kinds.Number split.next (number-atom format count value) ends);
      spelled = (name, (given, (refl, (refl, refl), (refl, hits-value count value))));
      deep = λ n. omega arith;
    }
mark_written format whole at (Weight n d) rest value is_here ends =
    let fraction : List ℕ = decimal n ++ 47 ∷ decimal d in
    let same : codes " :optional-weight " ++ (decimal n ++ 47 ∷ decimal d) ≡ mark_text (Weight n d) =
    sym (append_assoc (codes " :optional-weight " ++ decimal n) (codes "/") (decimal d)
    ∙ append_assoc (codes " :optional-weight ") (decimal n) (47 ∷ decimal d)) in
    let split = parts whole at (codes " :optional-weight ") (decimal n ++ 47 ∷ decimal d) rest (is_here ∙ ap (λ xs. xs ++ rest) (sym same)) in
    let name : Lexeme = lexeme (at + 1) kinds.Option (codes ":optional-weight") in
    let given : Lexeme = lexeme (at + length (codes " :optional-weight ")) kinds.Fraction (decimal n ++ 47 ∷ decimal d) in
    record {
      lexemes = name ∷ given ∷ [];
      segment =
          as_text format whole at (codes " :optional-weight " ++ (decimal n ++ 47 ∷ decimal d)) (mark_text (Weight n d)) rest (name ∷ given ∷ []) same
          (both format whole at (codes " :optional-weight ") (decimal n ++ 47 ∷ decimal d) rest (name ∷ []) (given ∷ [])
          (option_written format whole at (codes ":optional-weight") ((decimal n ++ 47 ∷ decimal d) ++ rest) (record { some = omega arith; all = refl; form = refl }) split.here)
          (atom format whole (at + length (codes " :optional-weight ")) (decimal n ++ 47 ∷ decimal d) rest kinds.Fraction split.next
          (fraction-atom format n d (omega (arith, value.1, value.2)) (omega (arith, value.2))) ends));
      spelled = (name, (given, (refl, (refl, refl), (refl, fraction-weight n d value.0 value.1 value.2))));
      deep = λ m. omega arith;
    }

-- a limit's tokens
pub record LimitWritten (dialect : Dialect) (whole : List ℕ) (at limit : ℕ) (rest : List ℕ) : Type 0 where
  pub given : Option ℕ
  pub is_limit : limit ≡ unwrap_or given (limit_unless_given dialect)
  pub lexemes : List Lexeme
  pub segment : Segment dialect.format whole at (limit_text limit) rest lexemes
  pub spelled : LimitSpells dialect given lexemes
  pub deep : Deep 0 lexemes

abbrev limit_text_if : ℕ → Bool → List ℕ
limit_text_if limit b = cond b [] (codes " :limit " ++ decimal limit)

ends_limit_if : (limit : ℕ) (b : Bool) (rest : List ℕ) → AtomEnds rest → AtomEnds (limit_text_if limit b ++ rest)
ends_limit_if limit true rest ends = ends
ends_limit_if limit false rest ends = refl

pub ends_limit : (limit : ℕ) (rest : List ℕ) → AtomEnds rest → AtomEnds (limit_text limit ++ rest)
ends_limit limit rest ends = ends_limit_if limit (limit == default_limit) rest ends

pub limit_written : (dialect : Dialect) (whole : List ℕ) (at limit : ℕ) (rest : List ℕ) → dialect.join_limit ≤ 1000000
    → IsJoinLimit dialect limit → drop at whole ≡ limit_text limit ++ rest → AtomEnds rest → LimitWritten dialect whole at limit rest
limit_written dialect whole at limit rest small allowed is_here ends =
    elim (eqb_tells limit default_limit) [
      | inl default ↦
          let same : [] ≡ limit_text limit = sym (ap (limit_text_if limit) default.0) in
          record {
            given = None;
            is_limit = omega (arith, default.1, allowed.1);
            lexemes = [];
            segment = as_text dialect.format whole at [] (limit_text limit) rest [] same (nothing dialect.format whole at rest);
            spelled = refl;
            deep = λ count. omega arith;
          }
      | inr other ↦
          let within = allowed in
          let same : codes " :limit " ++ decimal limit ≡ limit_text limit = sym (ap (limit_text_if limit) other.0) in
          let split = parts whole at (codes " :limit ") (decimal limit) rest (is_here ∙ ap (λ xs. xs ++ rest) (sym same)) in
          let name : Lexeme = lexeme (at + 1) kinds.Option (codes ":limit") in
          let value : Lexeme = lexeme (at + length (codes " :limit ")) kinds.Number (decimal limit) in
          let bound : limit ≤ 1000000 = omega (arith, within.1, small) in
          record {
            given = Some limit;
            is_limit = refl;
            lexemes = name ∷ value ∷ [];
            segment =
                as_text dialect.format whole at (codes " :limit " ++ decimal limit) (limit_text limit) rest (name ∷ value ∷ []) same
                (both dialect.format whole at (codes " :limit ") (decimal limit) rest (name ∷ []) (value ∷ [])
                (option_written dialect.format whole at (codes ":limit") (decimal limit ++ rest) (record { some = omega arith; all = refl; form = refl }) split.here)
                (atom dialect.format whole (at + length (codes " :limit ")) (decimal limit) rest kinds.Number split.next (number-atom dialect.format limit bound) ends));
            spelled = (name, (value, (refl, (refl, refl), (refl, decimal-within 1 dialect.join_limit limit bound within.0 within.1))));
            deep = λ count. omega arith;
          }
    ]

-- a term in parentheses
pub record TermWritten (dialect : Dialect) (whole : List ℕ) (at : ℕ) (kind : TermKind) (type_name key : List ℕ) (mark : Mark) (rest : List ℕ) : Type 0 where
  pub column : ℕ
  pub lexemes : List Lexeme
  pub segment : Segment dialect.format whole at (((codes "(term " ++ pair_text kind type_name key) ++ mark_text mark) ++ codes ")") rest lexemes
  pub spelled : (outer : ℕ) × Enclosed dialect outer mark None (TermBody column kind type_name key) lexemes
  pub deep : Deep 1 lexemes

pub mark_options : (dialect : Dialect) (mark : Mark) (lexemes : List Lexeme) → MarkSpells mark lexemes → OptionsSpell dialect mark None lexemes
mark_options dialect mark lexemes spelled = (lexemes, ([], (sym (append-nil lexemes), inl (spelled, refl))))

term_head : (format : ℕ) (whole : List ℕ) (at : ℕ) (rest : List ℕ) → drop at whole ≡ codes "(term " ++ rest
    → Segment format whole at (codes "(term ") rest (lexeme at kinds.Left (40 ∷ []) ∷ lexeme (at + 1) kinds.Name (codes "term") ∷ [])
term_head format whole at rest is_here =
    let outer = parts whole at (codes "(term") (32 ∷ []) rest is_here in
    let inner = parts whole at (40 ∷ []) (codes "term") ((32 ∷ []) ++ rest) outer.here in
    let opened : Lexeme = lexeme at kinds.Left (40 ∷ []) in
    let name : Lexeme = lexeme (at + 1) kinds.Name (codes "term") in
    both format whole at (codes "(term") (32 ∷ []) rest (opened ∷ name ∷ []) []
    (both format whole at (40 ∷ []) (codes "term") ((32 ∷ []) ++ rest) (opened ∷ []) (name ∷ [])
    (left format whole at (codes "term" ++ ((32 ∷ []) ++ rest)) inner.here)
    (atom format whole (at + 1) (codes "term") ((32 ∷ []) ++ rest) kinds.Name inner.next (record { some = omega arith; all = refl; form = refl }) refl))
    (space format whole (at + length (codes "(term")) rest)

pub term_written : (dialect : Dialect) (whole : List ℕ) (at : ℕ) (kind : TermKind) (type_name key : List ℕ) (mark : Mark) (rest : List ℕ)
    → IsTypeName type_name → IsKeyText key → MayBegin dialect.format kind → IsMarkValue mark
    → drop at whole ≡ (((codes "(term " ++ pair_text kind type_name key) ++ mark_text mark) ++ codes ")") ++ rest
    → TermWritten dialect whole at kind type_name key mark rest
term_written dialect whole at kind type_name key mark rest is_name is_key begins value is_here =
    let three = parts whole at ((codes "(term " ++ pair_text kind type_name key) ++ mark_text mark) (41 ∷ []) rest is_here in
    let two = parts whole at (codes "(term " ++ pair_text kind type_name key) (mark_text mark) (41 ∷ rest) three.here in
    let one = parts whole at (codes "(term ") (pair_text kind type_name key) (mark_text mark ++ 41 ∷ rest) two.here in
    let marked = mark_written dialect.format whole (at + length (codes "(term " ++ pair_text kind type_name key)) mark (41 ∷ rest) value two.next refl in
    let opened : Lexeme = lexeme at kinds.Left (40 ∷ []) in
    let name : Lexeme = lexeme (at + 1) kinds.Name (codes "term") in
    let term : Lexeme = lexeme (at + length (codes "(term ")) (atom_of kind) (pair_text kind type_name key) in
    let closed : Lexeme = lexeme (at + length ((codes "(term " ++ pair_text kind type_name key) ++ mark_text mark)) kinds.Right (41 ∷ []) in
    record {
      column = (at + length (codes "(term ")) + 1;
      lexemes = (opened ∷ ((name ∷ term ∷ []) ++ marked.lexemes)) ++ closed ∷ [];
      segment =
          both dialect.format whole at ((codes "(term " ++ pair_text kind type_name key) ++ mark_text mark) (41 ∷ []) rest
          ((opened ∷ name ∷ term ∷ []) ++ marked.lexemes) (closed ∷ [])
          (both dialect.format whole at (codes "(term " ++ pair_text kind type_name key) (mark_text mark) (41 ∷ rest) (opened ∷ name ∷ term ∷ []) marked.lexemes
          (both dialect.format whole at (codes "(term ") (pair_text kind type_name key) (mark_text mark ++ 41 ∷ rest) (opened ∷ name ∷ []) (term ∷ [])
          (term_head dialect.format whole at (pair_text kind type_name key ++ (mark_text mark ++ 41 ∷ rest)) one.here)
          (atom dialect.format whole (at + length (codes "(term ")) (pair_text kind type_name key) (mark_text mark ++ 41 ∷ rest) (atom_of kind) one.next
          (term-atom dialect.format kind type_name key is_name is_key begins) (ends_mark mark (41 ∷ rest) refl)))
          marked.segment)
          (right dialect.format whole (at + length ((codes "(term " ++ pair_text kind type_name key) ++ mark_text mark)) rest three.next);
      spelled = (
        at + 1,
        (
          opened,
          (
            name ∷ term ∷ [],
            (
              marked.lexemes,
              (
                closed,
                (
                  refl,
                  (refl, refl),
                  (name, (term, (refl, (refl, refl), (refl, refl, term-pair kind type_name key is_name is_key)))),
                  mark_options dialect mark marked.lexemes marked.spelled,
                  refl,
                ),
              ),
            ),
          ),
        ),
      );
      deep =
          deep-between 0 opened closed ((name ∷ term ∷ []) ++ marked.lexemes) refl refl
          (balanced-cons name (term ∷ marked.lexemes) kinds.Name refl tt
          (balanced-cons term marked.lexemes (atom_of kind) refl (flat-term kind) (balanced-mark mark marked.lexemes marked.spelled)))
          (deep-flat 0 name (term ∷ marked.lexemes) kinds.Name refl tt (deep-flat 0 term marked.lexemes (atom_of kind) refl (flat-term kind) marked.deep));
    }

-- the names of operators
pub list-atom : (format : ℕ) (kind : ListKind) → IsAtom format (list_name kind) kinds.Name
list-atom format lists.And = record { some = omega arith; all = refl; form = refl }
list-atom format lists.Or = record { some = omega arith; all = refl; form = refl }
list-atom format lists.Difference = record { some = omega arith; all = refl; form = refl }
list-atom format lists.WeakAnd = record { some = omega arith; all = refl; form = refl }
list-atom format lists.StrongOr = record { some = omega arith; all = refl; form = refl }

pub list-operator : (kind : ListKind) → operator_of (list_name kind) ≡ Some (operators.List kind)
list-operator lists.And = refl
list-operator lists.Or = refl
list-operator lists.Difference = refl
list-operator lists.WeakAnd = refl
list-operator lists.StrongOr = refl

join-atom : (format : ℕ) (kind : JoinKind) → IsAtom format (join_name kind) kinds.Name
join-atom format joins.Apply = record { some = omega arith; all = refl; form = refl }
join-atom format joins.Extract = record { some = omega arith; all = refl; form = refl }

pub join-operator : (kind : JoinKind) → operator_of (join_name kind) ≡ Some (operators.Join kind)
join-operator joins.Apply = refl
join-operator joins.Extract = refl

-- a join's operator and prefix
abbrev pub join_head : JoinKind → List ℕ → List ℕ
join_head kind type_name = (((codes "(" ++ join_name kind) ++ codes " ") ++ type_name) ++ codes ": "

abbrev prefixed : JoinKind → List ℕ → List ℕ
prefixed kind type_name = (((codes "(" ++ join_name kind) ++ codes " ") ++ (type_name ++ 58 ∷ [])) ++ 32 ∷ []

head-same : (kind : JoinKind) (type_name : List ℕ) → prefixed kind type_name ≡ join_head kind type_name
head-same kind type_name =
    let front : List ℕ = (codes "(" ++ join_name kind) ++ codes " " in
    ap (λ xs. xs ++ 32 ∷ []) (sym (append_assoc ((codes "(" ++ join_name kind) ++ codes " ") type_name (58 ∷ [])))
    ∙ append_assoc (((codes "(" ++ join_name kind) ++ codes " ") ++ type_name) (58 ∷ []) (32 ∷ [])

abbrev pub join_opened : ℕ → Lexeme
join_opened at = lexeme at kinds.Left (40 ∷ [])

abbrev pub join_named : ℕ → JoinKind → Lexeme
join_named at kind = lexeme (at + 1) kinds.Name (join_name kind)

abbrev pub join_prefix : ℕ → JoinKind → List ℕ → Lexeme
join_prefix at kind type_name =
    lexeme (at + length ((codes "(" ++ join_name kind) ++ codes " ")) kinds.Prefix (type_name ++ 58 ∷ [])

pub head_written : (format : ℕ) (whole : List ℕ) (at : ℕ) (kind : JoinKind) (type_name rest : List ℕ) → IsTypeName type_name
    → drop at whole ≡ join_head kind type_name ++ rest
    → Segment format whole at (join_head kind type_name) rest (join_opened at ∷ join_named at kind ∷ join_prefix at kind type_name ∷ [])
head_written format whole at kind type_name rest is_name is_here =
    let prefix : List ℕ = type_name ++ 58 ∷ [] in
    let four = parts whole at (((codes "(" ++ join_name kind) ++ codes " ") ++ (type_name ++ 58 ∷ [])) (32 ∷ []) rest (is_here ∙ ap (λ xs. xs ++ rest) (sym (head-same kind type_name))) in
    let three = parts whole at ((codes "(" ++ join_name kind) ++ codes " ") (type_name ++ 58 ∷ []) (32 ∷ rest) four.here in
    let two = parts whole at (codes "(" ++ join_name kind) (32 ∷ []) ((type_name ++ 58 ∷ []) ++ 32 ∷ rest) three.here in
    let one = parts whole at (40 ∷ []) (join_name kind) (32 ∷ ((type_name ++ 58 ∷ []) ++ 32 ∷ rest)) two.here in
    as_text format whole at (prefixed kind type_name) (join_head kind type_name) rest (join_opened at ∷ join_named at kind ∷ join_prefix at kind type_name ∷ []) (head-same kind type_name)
    (both format whole at (((codes "(" ++ join_name kind) ++ codes " ") ++ (type_name ++ 58 ∷ [])) (32 ∷ []) rest (join_opened at ∷ join_named at kind ∷ join_prefix at kind type_name ∷ []) []
    (both format whole at ((codes "(" ++ join_name kind) ++ codes " ") (type_name ++ 58 ∷ []) (32 ∷ rest) (join_opened at ∷ join_named at kind ∷ []) (join_prefix at kind type_name ∷ [])
    (both format whole at (codes "(" ++ join_name kind) (32 ∷ []) ((type_name ++ 58 ∷ []) ++ 32 ∷ rest) (join_opened at ∷ join_named at kind ∷ []) []
    (both format whole at (40 ∷ []) (join_name kind) (32 ∷ ((type_name ++ 58 ∷ []) ++ 32 ∷ rest)) (join_opened at ∷ []) (join_named at kind ∷ [])
    (left format whole at (join_name kind ++ (32 ∷ ((type_name ++ 58 ∷ []) ++ 32 ∷ rest))) one.here)
    (atom format whole (at + 1) (join_name kind) (32 ∷ ((type_name ++ 58 ∷ []) ++ 32 ∷ rest)) kinds.Name one.next (join-atom format kind) refl))
    (space format whole (at + length (codes "(" ++ join_name kind)) ((type_name ++ 58 ∷ []) ++ 32 ∷ rest)))
    (atom format whole (at + length ((codes "(" ++ join_name kind) ++ codes " ")) (type_name ++ 58 ∷ []) (32 ∷ rest) kinds.Prefix three.next (prefix-atom format type_name is_name) refl))
    (space format whole (at + length (((codes "(" ++ join_name kind) ++ codes " ") ++ (type_name ++ 58 ∷ []))) rest))
