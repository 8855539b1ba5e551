-- How long a print is.
use Rattle.std.proofs.Common.{◌≡◌, ℕ, ◌+◌, ◌*◌, ◌<◌, ◌≤◌, ◌==◌, ◌&&◌, Bool, true, false, cond, List, [], ◌++◌, length, refl, arith, length-append, leb-true, codes, decimal}
use Rattle.std.proofs.lemmas.Bool.{and_parts}
use Rattle.std.specs.Prelude.{nat_le}
use Rattle.std.specs.List.{list_all}
use Rattle.std.proofs.lemmas.Fmt.{length-decimal-le}
use Rattle.query_tree.specs.declared.dialect.Dialect.{Dialect}
use Rattle.query_tree.specs.declared.kind.TermKind.{TermKind}
use Rattle.query_tree.specs.declared.kind.TermKind.TheVariants as terms
use Rattle.uni_base.specs.Words.{is_word_byte, is_word}
use Rattle.query_tree.specs.declared.kind.ListKind.{ListKind}
use Rattle.query_tree.specs.declared.kind.ListKind.TheVariants as lists
use Rattle.query_tree.specs.declared.kind.JoinKind.{JoinKind}
use Rattle.query_tree.specs.declared.kind.JoinKind.TheVariants as joins
use Rattle.query_tree.specs.declared.query.Mark.{Mark}
use Rattle.query_tree.specs.declared.query.Mark.TheVariants.{Plain, Hits, Weight}
use Rattle.query_tree.specs.Tree.{Tree, Forest, term_at, list_at, join_at, no_operands, with_operand}
use Rattle.query_tree.specs.Size.{node_count, operand_nodes}
use Rattle.query_tree.specs.Text.{key_text, list_name, join_name, mark_text, default_limit, limit_text, pair_text, node_text, operands_text}
use Rattle.query_tree.specs.Marks.{IsMarkValue}
use Rattle.query_tree.specs.Within.{IsTypeName, IsKeyText, IsJoinLimit, IsAllowed, AreAllowed}

-- parts of a text, one after the other
length-three : (a b c : List ℕ) → length ((a ++ b) ++ c) ≡ (length a + length b) + length c
length-three a b c = omega (arith, length-append (a ++ b) c, length-append a b)

length-four : (a b c d : List ℕ) → length (((a ++ b) ++ c) ++ d) ≡ ((length a + length b) + length c) + length d
length-four a b c d = omega (arith, length-append ((a ++ b) ++ c) d, length-three a b c)

-- a word, and a number up to a million
word_short : (text : List ℕ) → is_word text ≡ true → length text ≤ 32
word_short text word =
    let bounds = (and_parts (nat_le 1 (length text) && nat_le (length text) 32) (list_all is_word_byte text) word).0 in
    leb-true (length text) 32 (and_parts (nat_le 1 (length text)) (nat_le (length text) 32) bounds).1

number_short : (n : ℕ) → n ≤ 1000000 → length (decimal n) ≤ 7
number_short n small = length-decimal-le 7 n (omega arith) (omega arith) (omega arith)

key_short : (kind : TermKind) (key : List ℕ) → IsKeyText key → length (key_text kind key) ≤ 33
key_short terms.Whole key word = omega (arith, word_short key word)
key_short terms.Prefix key word =
    let star : length (codes "*") ≡ 1 = refl in
    omega (arith, length-append key (codes "*"), word_short key word)

pair_short : (kind : TermKind) (type_name key : List ℕ) → IsTypeName type_name → IsKeyText key → length (pair_text kind type_name key) ≤ 66
pair_short kind type_name key name word =
    let colon : length (codes ":") ≡ 1 = refl in
    omega (arith, length-three type_name (codes ":") (key_text kind key), word_short type_name name.0, key_short kind key word)

mark_short : (mark : Mark) → IsMarkValue mark → length (mark_text mark) ≤ 40
mark_short Plain value = omega arith
mark_short (Hits count) value =
    let name : length (codes " :optional-hits ") ≡ 16 = refl in
    omega (arith, length-append (codes " :optional-hits ") (decimal count), number_short count value)
mark_short (Weight n d) value =
    let name : length (codes " :optional-weight ") ≡ 18 = refl in
    let slash : length (codes "/") ≡ 1 = refl in
    omega (
      arith,
      length-four (codes " :optional-weight ") (decimal n) (codes "/") (decimal d),
      number_short n (omega (arith, value.1, value.2)),
      number_short d (omega (arith, value.2)),
    )

limit_if_short : (limit : ℕ) (b : Bool) → limit ≤ 1000000 → length (cond b [] (codes " :limit " ++ decimal limit)) ≤ 15
limit_if_short limit true small = omega arith
limit_if_short limit false small =
    let name : length (codes " :limit ") ≡ 8 = refl in
    omega (arith, length-append (codes " :limit ") (decimal limit), number_short limit small)

join_limit_small : (dialect : Dialect) (limit : ℕ) → dialect.join_limit ≤ 1000000 → IsJoinLimit dialect limit → limit ≤ 1000000
join_limit_small dialect limit small allowed = omega (arith, allowed.1)

list_name_short : (kind : ListKind) → length (list_name kind) ≤ 10
list_name_short lists.And = omega arith
list_name_short lists.Or = omega arith
list_name_short lists.Difference = omega arith
list_name_short lists.WeakAnd = omega arith
list_name_short lists.StrongOr = omega arith

join_name_short : (kind : JoinKind) → length (join_name kind) ≤ 7
join_name_short joins.Apply = omega arith
join_name_short joins.Extract = omega arith

marked_short : (kind : TermKind) (type_name key : List ℕ) (mark : Mark) → IsTypeName type_name → IsKeyText key → IsMarkValue mark
    → length (((codes "(term " ++ pair_text kind type_name key) ++ mark_text mark) ++ codes ")") ≤ 113
marked_short kind type_name key mark name word value =
    let head : length (codes "(term ") ≡ 6 = refl in
    let end : length (codes ")") ≡ 1 = refl in
    omega (arith, length-four (codes "(term ") (pair_text kind type_name key) (mark_text mark) (codes ")"), pair_short kind type_name key name word, mark_short mark value)

term_short : (column : ℕ) (kind : TermKind) (type_name key : List ℕ) (mark : Mark) → IsTypeName type_name → IsKeyText key → IsMarkValue mark
    → length (node_text (term_at column kind type_name key) mark) ≤ 113
term_short column kind type_name key Plain name word value = omega (arith, pair_short kind type_name key name word)
term_short column kind type_name key (Hits count) name word value = marked_short kind type_name key (Hits count) name word value
term_short column kind type_name key (Weight n d) name word value = marked_short kind type_name key (Weight n d) name word value

-- so many bytes for each node
mutual
  node_short : (dialect : Dialect) (node : Tree) (mark : Mark) → dialect.join_limit ≤ 1000000 → IsAllowed dialect node → IsMarkValue mark
      → length (node_text node mark) + 1 ≤ 200 * node_count node
  node_short dialect (term_at column kind type_name key) mark small allowed value =
      omega (arith, term_short column kind type_name key mark allowed.0 allowed.1 value)
  node_short dialect (list_at column kind forest) mark small allowed value =
      let head : length (codes "(") ≡ 1 = refl in
      let end : length (codes ")") ≡ 1 = refl in
      omega (
        arith,
        length-append (((codes "(" ++ list_name kind) ++ operands_text forest) ++ mark_text mark) (codes ")"),
        length-four (codes "(") (list_name kind) (operands_text forest) (mark_text mark),
        list_name_short kind,
        mark_short mark value,
        forest_short dialect kind forest small allowed.1,
      )
  node_short dialect (join_at column kind type_column type_name limit node) mark small allowed value =
      let front : List ℕ = (((codes "(" ++ join_name kind) ++ codes " ") ++ type_name) ++ codes ": " in
      let head : length (codes "(") ≡ 1 = refl in
      let blank : length (codes " ") ≡ 1 = refl in
      let colon : length (codes ": ") ≡ 2 = refl in
      let end : length (codes ")") ≡ 1 = refl in
      omega (
        arith,
        length-four (((((codes "(" ++ join_name kind) ++ codes " ") ++ type_name) ++ codes ": ") ++ node_text node Plain) (limit_text limit) (mark_text mark) (codes ")"),
        length-append ((((codes "(" ++ join_name kind) ++ codes " ") ++ type_name) ++ codes ": ") (node_text node Plain),
        length-append (((codes "(" ++ join_name kind) ++ codes " ") ++ type_name) (codes ": "),
        length-four (codes "(") (join_name kind) (codes " ") type_name,
        join_name_short kind,
        word_short type_name allowed.0.0,
        node_short dialect node Plain small allowed.2 tt,
        limit_if_short limit (limit == default_limit) (join_limit_small dialect limit small allowed.1),
        mark_short mark value,
      )

  forest_short : (dialect : Dialect) (kind : ListKind) (forest : Forest) → dialect.join_limit ≤ 1000000 → AreAllowed dialect kind forest
      → length (operands_text forest) ≤ 200 * operand_nodes forest
  forest_short dialect kind no_operands small allowed = omega arith
  forest_short dialect kind (with_operand node mark others) small allowed =
      let blank : length (codes " ") ≡ 1 = refl in
      omega (
        arith,
        length-three (codes " ") (node_text node mark) (operands_text others),
        node_short dialect node mark small allowed.1 allowed.0.1,
        forest_short dialect kind others small allowed.2,
      )

pub print_short : (dialect : Dialect) (tree : Tree) → dialect.join_limit ≤ 1000000 → IsAllowed dialect tree → node_count tree ≤ 256
    → length (node_text tree Plain) < 65536
print_short dialect tree small allowed few = omega (arith, node_short dialect tree Plain small allowed tt)
