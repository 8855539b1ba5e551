-- Queries with their texts and sizes, by computation.
use Rattle.std.specs.Prelude.{ℕ, ◌≡◌, List, codes}
use Rattle.query_tree.specs.declared.query.Mark.{Mark}
use Rattle.query_tree.specs.declared.query.Mark.TheVariants.{Plain, Hits, Weight}
use Rattle.query_tree.specs.declared.kind.ListKind.{ListKind}
use Rattle.query_tree.specs.declared.kind.ListKind.TheVariants.{And, Or, Difference, WeakAnd, StrongOr}
use Rattle.query_tree.specs.declared.kind.JoinKind.TheVariants.{Apply, Extract}
use Rattle.query_tree.specs.declared.kind.TermKind.TheVariants.{Whole, Prefix}
use Rattle.query_tree.specs.Tree.{Tree, term_at, list_at, join_at, no_operands, with_operand}
use Rattle.query_tree.specs.Size.{node_count, tree_depth}
use Rattle.query_tree.specs.Text.{query_text, default_limit}

-- the tree's text, its number of nodes and its depth
abbrev pub IsPrinted : Tree → List ℕ → ℕ → ℕ → Type 0
IsPrinted tree text nodes depth = (query_text tree ≡ text) × (node_count tree ≡ nodes) × (tree_depth tree ≡ depth)

-- columns are left at 1: no text, and no size, depends on them
abbrev pub friends : Tree
friends = term_at 1 Whole (codes "friend") (codes "1")

abbrev pub romans : Tree
romans = term_at 1 Whole (codes "lives") (codes "rome")

abbrev pub towns : Tree
towns = term_at 1 Prefix (codes "lives") (codes "ro")

abbrev pub list_of_two : ListKind → Tree → Mark → Tree → Mark → Tree
list_of_two kind first first_mark second second_mark =
    list_at 1 kind (with_operand first first_mark (with_operand second second_mark no_operands))

abbrev pub tagged : ℕ → Tree → Tree
tagged limit node = join_at 1 Apply 1 (codes "tagged") limit node

-- queries of every kind
pub record WorkedQueries : Type 0 where
  pub a_term : IsPrinted friends (codes "friend:1") 1 0
  pub a_prefix : IsPrinted towns (codes "lives:ro*") 1 0
  pub a_marked_prefix :
      IsPrinted (list_of_two WeakAnd towns (Weight 1 2) romans Plain)
      (codes "(weak-and (term lives:ro* :optional-weight 1/2) lives:rome)") 3 2
  pub a_list : IsPrinted (list_of_two And friends Plain romans Plain) (codes "(and friend:1 lives:rome)") 3 1
  pub a_difference :
      IsPrinted (list_of_two Difference friends Plain romans Plain) (codes "(difference friend:1 lives:rome)") 3 1
  -- a term with an option has parentheses of its own
  pub a_weak_and :
      IsPrinted (list_of_two WeakAnd friends (Hits 1) romans Plain)
      (codes "(weak-and (term friend:1 :optional-hits 1) lives:rome)") 3 2
  pub a_strong_or :
      IsPrinted (list_of_two StrongOr friends Plain romans (Weight 1 2))
      (codes "(strong-or friend:1 (term lives:rome :optional-weight 1/2))") 3 2
  -- the limit that an absent option means is not written
  pub a_apply : IsPrinted (tagged default_limit friends) (codes "(apply tagged: friend:1)") 2 1
  pub a_limited : IsPrinted (tagged 1 friends) (codes "(apply tagged: friend:1 :limit 1)") 2 1
  pub a_extract :
      IsPrinted (join_at 1 Extract 1 (codes "shows") default_limit (tagged default_limit friends))
      (codes "(extract shows: (apply tagged: friend:1))") 3 2
  pub a_nested :
      IsPrinted
      (list_of_two And (list_of_two WeakAnd friends (Hits 1) romans Plain) Plain
      (list_at 1 Or (with_operand romans Plain no_operands)) Plain)
      (codes "(and (weak-and (term friend:1 :optional-hits 1) lives:rome) (or lives:rome))") 6 3
  -- a join's own limit stands before the option that it has as an operand
  pub a_marked_join :
      IsPrinted (list_of_two WeakAnd (tagged 5 friends) (Hits 3) romans Plain)
      (codes "(weak-and (apply tagged: friend:1 :limit 5 :optional-hits 3) lives:rome)") 4 2
