-- The operators by their names.
use Rattle.std.specs.Prelude.{ℕ, List, Option, Some, None, codes, if◌then◌else◌}
use Rattle.uni_base.specs.Fields.{same}
use Rattle.query_tree.specs.declared.kind.ListKind.TheVariants.{And, Or, Difference, WeakAnd, StrongOr}
use Rattle.query_tree.specs.declared.kind.JoinKind.TheVariants.{Apply, Extract}
use Rattle.query_tree.specs.Text.{list_name, join_name}
use Rattle.query_reader.specs.declared.operator.Operator as operator_type
use Rattle.query_reader.specs.declared.operator.Operator.TheVariants as operators

-- the first of these that a name is
abbrev pub operator_of : List ℕ → Option operator_type.Operator
operator_of name =
    if same name (codes "term") then Some operators.Term
    else (if same name (list_name And) then Some (operators.List And)
    else (if same name (list_name Or) then Some (operators.List Or)
    else (if same name (list_name Difference) then Some (operators.List Difference)
    else (if same name (list_name WeakAnd) then Some (operators.List WeakAnd)
    else (if same name (list_name StrongOr) then Some (operators.List StrongOr)
    else (if same name (join_name Apply) then Some (operators.Join Apply)
    else (if same name (join_name Extract) then Some (operators.Join Extract)
    else None)))))))
