-- The tokens of a print spell the query, with the columns that its parts have there.
use Rattle.std.proofs.Common.{◌≡◌, ℕ, ◌+◌, ◌≤◌, max, List, [], ◌∷◌, ◌++◌, length, drop, refl, sym, ap, ◌∙◌, subst, arith, inl, inr, append_assoc, codes}
use Rattle.query_tree.specs.declared.dialect.Dialect.{Dialect}
use Rattle.query_tree.specs.declared.kind.TermKind.{TermKind}
use Rattle.query_tree.specs.declared.kind.ListKind.{ListKind}
use Rattle.query_tree.specs.declared.kind.JoinKind.{JoinKind}
use Rattle.query_tree.specs.declared.query.Mark.{Mark}
use Rattle.query_tree.specs.declared.query.Mark.TheVariants.{Plain, Hits, Weight}
use Rattle.query_tree.specs.Tree.{Tree, Forest, term_at, list_at, join_at, no_operands, with_operand}
use Rattle.query_tree.specs.Size.{node_count, operand_nodes, mark_depth, tree_depth, operand_depth}
use Rattle.query_tree.specs.Columns.{without_columns, operands_without_columns, AreSameButColumns}
use Rattle.query_tree.specs.Text.{list_name, mark_text, limit_text, pair_text, node_text, operands_text}
use Rattle.query_tree.specs.Marks.{IsMarkValue}
use Rattle.query_tree.specs.Within.{IsTypeName, IsKeyText, MayBegin, IsOperandCount, IsJoinLimit, operand_count, IsAllowed, AreAllowed}
use Rattle.query_reader.specs.declared.token.TokenKind.TheVariants as kinds
use Rattle.query_reader.specs.Reading.{Lexeme}
use Rattle.query_reader.specs.Spans.{AtomEnds}
use Rattle.query_reader.specs.Grammar.{atom_of, NodeSpells, ForestSpells}
use Rattle.query_reader.proofs.Balance.{flat-term, balanced-cons, balanced-append, balanced-mark, balanced-limit, balanced-node, balanced-forest}
use Rattle.query_reader.proofs.AtomForms.{term-atom, term-pair, prefix-name}
use Rattle.query_reader.proofs.Segments.{Segment, parts, both, nothing, space, lexeme, left, right, atom}
use Rattle.query_reader.proofs.Deep.{Deep, deep-more, deep-flat, deep-append, deep-between}
use Rattle.query_reader.proofs.Written.{MarkWritten, ends_mark, mark_written, LimitWritten, ends_limit, limit_written, mark_options, TermWritten, term_written, list-atom, list-operator, join-operator, join_head, join_opened, join_named, join_prefix, head_written}

-- a node in a print: its tokens, and the node that they spell
pub record NodeWritten (dialect : Dialect) (whole : List ℕ) (at : ℕ) (node : Tree) (mark : Mark) (rest : List ℕ) : Type 0 where
  pub again : Tree
  pub lexemes : List Lexeme
  pub segment : Segment dialect.format whole at (node_text node mark) rest lexemes
  pub same : AreSameButColumns again node
  pub spelled : NodeSpells dialect again mark lexemes
  pub nodes : node_count again ≡ node_count node
  pub deep : Deep (max (mark_depth mark) (tree_depth node)) lexemes

-- and operands
pub record ForestWritten (dialect : Dialect) (whole : List ℕ) (at : ℕ) (kind : ListKind) (forest : Forest) (rest : List ℕ) : Type 0 where
  pub again : Forest
  pub lexemes : List Lexeme
  pub segment : Segment dialect.format whole at (operands_text forest) rest lexemes
  pub same : operands_without_columns again ≡ operands_without_columns forest
  pub spelled : ForestSpells dialect kind again lexemes
  pub count : operand_count again ≡ operand_count forest
  pub nodes : operand_nodes again ≡ operand_nodes forest
  pub deep : Deep (operand_depth forest) lexemes

ends_operands : (forest : Forest) (rest : List ℕ) → AtomEnds rest → AtomEnds (operands_text forest ++ rest)
ends_operands no_operands rest ends = ends
ends_operands (with_operand node mark others) rest ends = refl

-- terms
marked_term : (dialect : Dialect) (whole : List ℕ) (at column : ℕ) (kind : TermKind) (type_name key : List ℕ) (mark : Mark) (rest : List ℕ)
    → IsTypeName type_name → IsKeyText key → MayBegin dialect.format kind → IsMarkValue mark → mark_depth mark ≡ 1
    → node_text (term_at column kind type_name key) mark ≡ (((codes "(term " ++ pair_text kind type_name key) ++ mark_text mark) ++ codes ")")
    → drop at whole ≡ node_text (term_at column kind type_name key) mark ++ rest
    → NodeWritten dialect whole at (term_at column kind type_name key) mark rest
marked_term dialect whole at column kind type_name key mark rest is_name is_key begins value one is_text is_here =
    let written : TermWritten dialect whole at kind type_name key mark rest =
    term_written dialect whole at kind type_name key mark rest is_name is_key begins value (is_here ∙ ap (λ xs. xs ++ rest) is_text) in
    record {
      again = term_at written.column kind type_name key;
      lexemes = written.lexemes;
      segment = subst (λ xs. Segment dialect.format whole at xs rest written.lexemes) (sym is_text) written.segment;
      same = refl;
      spelled = inr written.spelled;
      nodes = refl;
      deep = deep-more 1 (max (mark_depth mark) 0) written.lexemes (omega arith) written.deep;
    }

a_term_written : (dialect : Dialect) (whole : List ℕ) (at column : ℕ) (kind : TermKind) (type_name key : List ℕ) (mark : Mark) (rest : List ℕ)
    → IsTypeName type_name → IsKeyText key → MayBegin dialect.format kind → IsMarkValue mark
    → drop at whole ≡ node_text (term_at column kind type_name key) mark ++ rest → AtomEnds rest
    → NodeWritten dialect whole at (term_at column kind type_name key) mark rest
a_term_written dialect whole at column kind type_name key Plain rest is_name is_key begins value is_here ends =
    let token : Lexeme = lexeme at (atom_of kind) (pair_text kind type_name key) in
    record {
      again = term_at (at + 1) kind type_name key;
      lexemes = token ∷ [];
      segment = atom dialect.format whole at (pair_text kind type_name key) rest (atom_of kind) is_here (term-atom dialect.format kind type_name key is_name is_key begins) ends;
      same = refl;
      spelled = inl (refl, (token, (refl, (refl, refl, term-pair kind type_name key is_name is_key))));
      nodes = refl;
      deep = deep-flat 0 token [] (atom_of kind) refl (flat-term kind) (λ count. omega arith);
    }
a_term_written dialect whole at column kind type_name key (Hits count) rest is_name is_key begins value is_here ends =
    marked_term dialect whole at column kind type_name key (Hits count) rest is_name is_key begins value refl refl is_here
a_term_written dialect whole at column kind type_name key (Weight n d) rest is_name is_key begins value is_here ends =
    marked_term dialect whole at column kind type_name key (Weight n d) rest is_name is_key begins value refl refl is_here

-- a list, once its operands are written
abbrev list_head : ListKind → List ℕ
list_head kind = codes "(" ++ list_name kind

list_around : (dialect : Dialect) (whole : List ℕ) (at column : ℕ) (kind : ListKind) (forest : Forest) (mark : Mark) (rest : List ℕ)
    → IsOperandCount dialect kind (operand_count forest) → IsMarkValue mark
    → drop at whole ≡ node_text (list_at column kind forest) mark ++ rest
    → ((drop (at + length (list_head kind)) whole ≡ operands_text forest ++ (mark_text mark ++ 41 ∷ rest))
    → ForestWritten dialect whole (at + length (list_head kind)) kind forest (mark_text mark ++ 41 ∷ rest))
    → NodeWritten dialect whole at (list_at column kind forest) mark rest
list_around dialect whole at column kind forest mark rest few value is_here operands_written =
    let four = parts whole at ((list_head kind ++ operands_text forest) ++ mark_text mark) (41 ∷ []) rest is_here in
    let three = parts whole at (list_head kind ++ operands_text forest) (mark_text mark) (41 ∷ rest) four.here in
    let two = parts whole at (list_head kind) (operands_text forest) (mark_text mark ++ 41 ∷ rest) three.here in
    let one = parts whole at (40 ∷ []) (list_name kind) (operands_text forest ++ (mark_text mark ++ 41 ∷ rest)) two.here in
    let inner : ForestWritten dialect whole (at + length (list_head kind)) kind forest (mark_text mark ++ 41 ∷ rest) = operands_written two.next in
    let marked : MarkWritten dialect.format whole (at + length (list_head kind ++ operands_text forest)) mark (41 ∷ rest) =
    mark_written dialect.format whole (at + length (list_head kind ++ operands_text forest)) mark (41 ∷ rest) value three.next refl in
    let opened : Lexeme = lexeme at kinds.Left (40 ∷ []) in
    let name : Lexeme = lexeme (at + 1) kinds.Name (list_name kind) in
    let closed : Lexeme = lexeme (at + length ((list_head kind ++ operands_text forest) ++ mark_text mark)) kinds.Right (41 ∷ []) in
    record {
      again = list_at (at + 1) kind inner.again;
      lexemes = (opened ∷ ((name ∷ inner.lexemes) ++ marked.lexemes)) ++ closed ∷ [];
      segment =
          both dialect.format whole at ((list_head kind ++ operands_text forest) ++ mark_text mark) (41 ∷ []) rest
          (((opened ∷ name ∷ []) ++ inner.lexemes) ++ marked.lexemes) (closed ∷ [])
          (both dialect.format whole at (list_head kind ++ operands_text forest) (mark_text mark) (41 ∷ rest) ((opened ∷ name ∷ []) ++ inner.lexemes) marked.lexemes
          (both dialect.format whole at (list_head kind) (operands_text forest) (mark_text mark ++ 41 ∷ rest) (opened ∷ name ∷ []) inner.lexemes
          (both dialect.format whole at (40 ∷ []) (list_name kind) (operands_text forest ++ (mark_text mark ++ 41 ∷ rest)) (opened ∷ []) (name ∷ [])
          (left dialect.format whole at (list_name kind ++ (operands_text forest ++ (mark_text mark ++ 41 ∷ rest))) one.here)
          (atom dialect.format whole (at + 1) (list_name kind) (operands_text forest ++ (mark_text mark ++ 41 ∷ rest)) kinds.Name one.next (list-atom dialect.format kind)
          (ends_operands forest (mark_text mark ++ 41 ∷ rest) (ends_mark mark (41 ∷ rest) refl))))
          inner.segment)
          marked.segment)
          (right dialect.format whole (at + length ((list_head kind ++ operands_text forest) ++ mark_text mark)) rest four.next);
      same = ap (list_at 1 kind) inner.same;
      spelled = (
        subst (IsOperandCount dialect kind) (sym inner.count) few,
        (
          opened,
          (
            name ∷ inner.lexemes,
            (
              marked.lexemes,
              (
                closed,
                (
                  refl,
                  (refl, refl),
                  (name, (inner.lexemes, (refl, (refl, list-operator kind), inner.spelled))),
                  mark_options dialect mark marked.lexemes marked.spelled,
                  refl,
                ),
              ),
            ),
          ),
        ),
      );
      nodes = omega (arith, inner.nodes);
      deep =
          deep-more (1 + max (operand_depth forest) 0) (max (mark_depth mark) (1 + operand_depth forest))
          ((opened ∷ ((name ∷ inner.lexemes) ++ marked.lexemes)) ++ closed ∷ []) (omega arith)
          (deep-between (max (operand_depth forest) 0) opened closed ((name ∷ inner.lexemes) ++ marked.lexemes) refl refl
          (balanced-cons name (inner.lexemes ++ marked.lexemes) kinds.Name refl tt
          (balanced-append inner.lexemes marked.lexemes (balanced-forest dialect kind inner.again inner.lexemes inner.spelled) (balanced-mark mark marked.lexemes marked.spelled)))
          (deep-flat (max (operand_depth forest) 0) name (inner.lexemes ++ marked.lexemes) kinds.Name refl tt
          (deep-append (operand_depth forest) 0 inner.lexemes marked.lexemes (balanced-forest dialect kind inner.again inner.lexemes inner.spelled) inner.deep marked.deep)));
    }

-- a join, once its node is written
join_around : (dialect : Dialect) (whole : List ℕ) (at column : ℕ) (kind : JoinKind) (type_column : ℕ) (type_name : List ℕ) (limit : ℕ) (node : Tree) (mark : Mark) (rest : List ℕ)
    → dialect.join_limit ≤ 1000000 → IsTypeName type_name → IsJoinLimit dialect limit → IsMarkValue mark
    → drop at whole ≡ node_text (join_at column kind type_column type_name limit node) mark ++ rest
    → ((drop (at + length (join_head kind type_name)) whole ≡ node_text node Plain ++ (limit_text limit ++ (mark_text mark ++ 41 ∷ rest)))
    → NodeWritten dialect whole (at + length (join_head kind type_name)) node Plain (limit_text limit ++ (mark_text mark ++ 41 ∷ rest)))
    → NodeWritten dialect whole at (join_at column kind type_column type_name limit node) mark rest
join_around dialect whole at column kind type_column type_name limit node mark rest small is_name allowed value is_here node_is_written =
    let text : List ℕ = node_text node Plain in
    let four = parts whole at (((join_head kind type_name ++ node_text node Plain) ++ limit_text limit) ++ mark_text mark) (41 ∷ []) rest is_here in
    let three = parts whole at ((join_head kind type_name ++ node_text node Plain) ++ limit_text limit) (mark_text mark) (41 ∷ rest) four.here in
    let two = parts whole at (join_head kind type_name ++ node_text node Plain) (limit_text limit) (mark_text mark ++ 41 ∷ rest) three.here in
    let one = parts whole at (join_head kind type_name) (node_text node Plain) (limit_text limit ++ (mark_text mark ++ 41 ∷ rest)) two.here in
    let inner : NodeWritten dialect whole (at + length (join_head kind type_name)) node Plain (limit_text limit ++ (mark_text mark ++ 41 ∷ rest)) =
    node_is_written one.next in
    let limited : LimitWritten dialect whole (at + length (join_head kind type_name ++ node_text node Plain)) limit (mark_text mark ++ 41 ∷ rest) =
    limit_written dialect whole (at + length (join_head kind type_name ++ node_text node Plain)) limit (mark_text mark ++ 41 ∷ rest) small allowed two.next (ends_mark mark (41 ∷ rest) refl) in
    let marked : MarkWritten dialect.format whole (at + length ((join_head kind type_name ++ node_text node Plain) ++ limit_text limit)) mark (41 ∷ rest) =
    mark_written dialect.format whole (at + length ((join_head kind type_name ++ node_text node Plain) ++ limit_text limit)) mark (41 ∷ rest) value three.next refl in
    let opened : Lexeme = join_opened at in
    let name : Lexeme = join_named at kind in
    let prefix : Lexeme = join_prefix at kind type_name in
    let closed : Lexeme = lexeme (at + length (((join_head kind type_name ++ node_text node Plain) ++ limit_text limit) ++ mark_text mark)) kinds.Right (41 ∷ []) in
    let given : List Lexeme = limited.lexemes ++ marked.lexemes in
    let together : ((inner.lexemes ++ limited.lexemes) ++ marked.lexemes) ≡ inner.lexemes ++ (limited.lexemes ++ marked.lexemes) =
    append_assoc inner.lexemes limited.lexemes marked.lexemes in
    record {
      again = join_at (at + 1) kind prefix.column type_name limit inner.again;
      lexemes = (opened ∷ ((name ∷ prefix ∷ inner.lexemes) ++ (limited.lexemes ++ marked.lexemes))) ++ closed ∷ [];
      segment =
          subst (λ (xs : List Lexeme). Segment dialect.format whole at (node_text (join_at column kind type_column type_name limit node) mark) rest (opened ∷ name ∷ prefix ∷ (xs ++ closed ∷ []))) together
          (both dialect.format whole at (((join_head kind type_name ++ node_text node Plain) ++ limit_text limit) ++ mark_text mark) (41 ∷ []) rest
          ((((opened ∷ name ∷ prefix ∷ []) ++ inner.lexemes) ++ limited.lexemes) ++ marked.lexemes) (closed ∷ [])
          (both dialect.format whole at ((join_head kind type_name ++ node_text node Plain) ++ limit_text limit) (mark_text mark) (41 ∷ rest)
          (((opened ∷ name ∷ prefix ∷ []) ++ inner.lexemes) ++ limited.lexemes) marked.lexemes
          (both dialect.format whole at (join_head kind type_name ++ node_text node Plain) (limit_text limit) (mark_text mark ++ 41 ∷ rest)
          ((opened ∷ name ∷ prefix ∷ []) ++ inner.lexemes) limited.lexemes
          (both dialect.format whole at (join_head kind type_name) (node_text node Plain) (limit_text limit ++ (mark_text mark ++ 41 ∷ rest))
          (opened ∷ name ∷ prefix ∷ []) inner.lexemes
          (head_written dialect.format whole at kind type_name (node_text node Plain ++ (limit_text limit ++ (mark_text mark ++ 41 ∷ rest))) is_name one.here)
          inner.segment)
          limited.segment)
          marked.segment)
          (right dialect.format whole (at + length (((join_head kind type_name ++ node_text node Plain) ++ limit_text limit) ++ mark_text mark)) rest four.next));
      same = ap (join_at 1 kind 1 type_name limit) inner.same;
      spelled = (
        limited.given,
        (
          limited.is_limit,
          (
            opened,
            (
              name ∷ prefix ∷ inner.lexemes,
              (
                limited.lexemes ++ marked.lexemes,
                (
                  closed,
                  (
                    refl,
                    (refl, refl),
                    (
                      name,
                      (
                        prefix,
                        (inner.lexemes, (refl, (refl, join-operator kind), (refl, refl, prefix-name type_name is_name), inner.spelled)),
                      ),
                    ),
                    (limited.lexemes, (marked.lexemes, (refl, inr (limited.spelled, marked.spelled)))),
                    refl,
                  ),
                ),
              ),
            ),
          ),
        ),
      );
      nodes = omega (arith, inner.nodes);
      deep =
          let inside = balanced-node dialect inner.again Plain inner.lexemes inner.spelled in
          let after = balanced-append limited.lexemes marked.lexemes (balanced-limit dialect limited.given limited.lexemes limited.spelled) (balanced-mark mark marked.lexemes marked.spelled) in
          deep-more (1 + max (max 0 (tree_depth node)) (max 0 0)) (max (mark_depth mark) (1 + tree_depth node))
          ((opened ∷ ((name ∷ prefix ∷ inner.lexemes) ++ (limited.lexemes ++ marked.lexemes))) ++ closed ∷ []) (omega arith)
          (deep-between (max (max 0 (tree_depth node)) (max 0 0)) opened closed ((name ∷ prefix ∷ inner.lexemes) ++ (limited.lexemes ++ marked.lexemes)) refl refl
          (balanced-cons name (prefix ∷ (inner.lexemes ++ (limited.lexemes ++ marked.lexemes))) kinds.Name refl tt
          (balanced-cons prefix (inner.lexemes ++ (limited.lexemes ++ marked.lexemes)) kinds.Prefix refl tt
          (balanced-append inner.lexemes (limited.lexemes ++ marked.lexemes) inside after)))
          (deep-flat (max (max 0 (tree_depth node)) (max 0 0)) name (prefix ∷ (inner.lexemes ++ (limited.lexemes ++ marked.lexemes))) kinds.Name refl tt
          (deep-flat (max (max 0 (tree_depth node)) (max 0 0)) prefix (inner.lexemes ++ (limited.lexemes ++ marked.lexemes)) kinds.Prefix refl tt
          (deep-append (max 0 (tree_depth node)) (max 0 0) inner.lexemes (limited.lexemes ++ marked.lexemes) inside inner.deep
          (deep-append 0 0 limited.lexemes marked.lexemes (balanced-limit dialect limited.given limited.lexemes limited.spelled) limited.deep marked.deep)))));
    }

mutual
  pub node_written : (dialect : Dialect) (whole : List ℕ) (at : ℕ) (node : Tree) (mark : Mark) (rest : List ℕ)
      → dialect.join_limit ≤ 1000000 → IsAllowed dialect node → IsMarkValue mark
      → drop at whole ≡ node_text node mark ++ rest → AtomEnds rest → NodeWritten dialect whole at node mark rest
  node_written dialect whole at (term_at column kind type_name key) mark rest small allowed value is_here ends =
      a_term_written dialect whole at column kind type_name key mark rest allowed.0 allowed.1 allowed.2 value is_here ends
  node_written dialect whole at (list_at column kind forest) mark rest small allowed value is_here ends =
      list_around dialect whole at column kind forest mark rest allowed.0 value is_here
      (λ inside. forest_written dialect whole (at + length (list_head kind)) kind forest (mark_text mark ++ 41 ∷ rest) small allowed.1 inside
      (ends_mark mark (41 ∷ rest) refl))
  node_written dialect whole at (join_at column kind type_column type_name limit node) mark rest small allowed value is_here ends =
      join_around dialect whole at column kind type_column type_name limit node mark rest small allowed.0 allowed.1 value is_here
      (λ inside. node_written dialect whole (at + length (join_head kind type_name)) node Plain (limit_text limit ++ (mark_text mark ++ 41 ∷ rest)) small allowed.2 tt inside
      (ends_limit limit (mark_text mark ++ 41 ∷ rest) (ends_mark mark (41 ∷ rest) refl)))

  forest_written : (dialect : Dialect) (whole : List ℕ) (at : ℕ) (kind : ListKind) (forest : Forest) (rest : List ℕ)
      → dialect.join_limit ≤ 1000000 → AreAllowed dialect kind forest
      → drop at whole ≡ operands_text forest ++ rest → AtomEnds rest → ForestWritten dialect whole at kind forest rest
  forest_written dialect whole at kind no_operands rest small allowed is_here ends = record {
    again = no_operands;
    lexemes = [];
    segment = nothing dialect.format whole at rest;
    same = refl;
    spelled = refl;
    count = refl;
    nodes = refl;
    deep = λ count. omega arith;
  }
  forest_written dialect whole at kind (with_operand node mark others) rest small allowed is_here ends =
      let two = parts whole at ((32 ∷ []) ++ node_text node mark) (operands_text others) rest is_here in
      let one = parts whole at (32 ∷ []) (node_text node mark) (operands_text others ++ rest) two.here in
      let first : NodeWritten dialect whole (at + 1) node mark (operands_text others ++ rest) =
      node_written dialect whole (at + 1) node mark (operands_text others ++ rest) small allowed.1 allowed.0.1 one.next
      (ends_operands others rest ends) in
      let later : ForestWritten dialect whole (at + length (codes " " ++ node_text node mark)) kind others rest =
      forest_written dialect whole (at + length (codes " " ++ node_text node mark)) kind others rest small allowed.2 two.next ends in
      record {
        again = with_operand first.again mark later.again;
        lexemes = first.lexemes ++ later.lexemes;
        segment =
            both dialect.format whole at ((32 ∷ []) ++ node_text node mark) (operands_text others) rest first.lexemes later.lexemes
            (both dialect.format whole at (32 ∷ []) (node_text node mark) (operands_text others ++ rest) [] first.lexemes
            (space dialect.format whole at (node_text node mark ++ (operands_text others ++ rest))) first.segment)
            later.segment;
        same =
            ap (λ one. with_operand one mark (operands_without_columns later.again)) first.same
            ∙ ap (λ all. with_operand (without_columns node) mark all) later.same;
        spelled = (first.lexemes, (later.lexemes, (refl, allowed.0.0, first.spelled, later.spelled)));
        count = omega (arith, later.count);
        nodes = omega (arith, first.nodes, later.nodes);
        deep =
            deep-append (max (mark_depth mark) (tree_depth node)) (operand_depth others) first.lexemes later.lexemes
            (balanced-node dialect first.again mark first.lexemes first.spelled) first.deep later.deep;
      }
