-- The text of a query.
use Rattle.std.specs.Prelude.{ℕ, ◌==◌, List, [], ◌++◌, codes, if◌then◌else◌}
use Rattle.std.specs.Fmt.{decimal}
use Rattle.query_tree.specs.declared.query.Mark.{Mark}
use Rattle.query_tree.specs.declared.query.Mark.TheVariants.{Plain, Hits, Weight}
use Rattle.query_tree.specs.declared.kind.ListKind.{ListKind}
use Rattle.query_tree.specs.declared.kind.ListKind.TheVariants.{And, Or, Difference, WeakAnd, StrongOr}
use Rattle.query_tree.specs.declared.kind.TermKind.{TermKind}
use Rattle.query_tree.specs.declared.kind.TermKind.TheVariants as terms
use Rattle.query_tree.specs.declared.kind.JoinKind.{JoinKind}
use Rattle.query_tree.specs.declared.kind.JoinKind.TheVariants.{Apply, Extract}
use Rattle.query_tree.specs.Tree.{Tree, Forest, term_at, list_at, join_at, no_operands, with_operand}

abbrev pub list_name : ListKind → List ℕ
list_name And = codes "and"
list_name Or = codes "or"
list_name Difference = codes "difference"
list_name WeakAnd = codes "weak-and"
list_name StrongOr = codes "strong-or"

abbrev pub join_name : JoinKind → List ℕ
join_name Apply = codes "apply"
join_name Extract = codes "extract"

-- an operand's option
abbrev pub mark_text : Mark → List ℕ
mark_text Plain = []
mark_text (Hits count) = codes " :optional-hits " ++ decimal count
mark_text (Weight numerator denominator) =
    codes " :optional-weight " ++ decimal numerator ++ codes "/" ++ decimal denominator

-- how many hits a join follows where no option says it
abbrev pub default_limit : ℕ
default_limit = 1000

-- a join's limit, which is left out where its absence says it
abbrev pub limit_text : ℕ → List ℕ
limit_text limit = if limit == default_limit then [] else codes " :limit " ++ decimal limit

-- a star ends the key of a prefix term
abbrev pub key_text : TermKind → List ℕ → List ℕ
key_text terms.Whole key = key
key_text terms.Prefix key = key ++ codes "*"

abbrev pub pair_text : TermKind → List ℕ → List ℕ → List ℕ
pair_text kind type_name key = type_name ++ codes ":" ++ key_text kind key

-- a term with the option of its mark; without one it stands bare
abbrev pub term_text : List ℕ → Mark → List ℕ
term_text pair Plain = pair
term_text pair (Hits count) = codes "(term " ++ pair ++ mark_text (Hits count) ++ codes ")"
term_text pair (Weight numerator denominator) = codes "(term " ++ pair ++ mark_text (Weight numerator denominator) ++ codes ")"

-- a node as an operand with a mark, and operands, each after a space
abbrev mutual
  pub node_text : Tree → Mark → List ℕ
  node_text (term_at column kind type_name key) mark = term_text (pair_text kind type_name key) mark
  node_text (list_at column kind operands) mark =
      codes "(" ++ list_name kind ++ operands_text operands ++ mark_text mark ++ codes ")"
  node_text (join_at column kind type_column type_name limit node) mark =
      codes "(" ++ join_name kind ++ codes " " ++ type_name ++ codes ": " ++ node_text node Plain ++ limit_text limit ++ mark_text mark ++ codes ")"

  pub operands_text : Forest → List ℕ
  operands_text no_operands = []
  operands_text (with_operand node mark others) = codes " " ++ node_text node mark ++ operands_text others

-- the whole text of a query: one space between parts, no option that says what its absence says
abbrev pub query_text : Tree → List ℕ
query_text tree = node_text tree Plain
