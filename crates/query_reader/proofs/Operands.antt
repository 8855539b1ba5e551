-- Operands that are added at the end.
use Rattle.std.proofs.Common.{◌≡◌, List, [], ◌∷◌, ◌++◌, map, length, refl, ap, ◌∙◌, arith}
use Rattle.std.proofs.lemmas.List.{length-reverse, length-map}
use Rattle.query_tree.specs.declared.query.Operand.{Operand}
use Rattle.query_tree.specs.declared.query.Query.TheViews.{out-Operand}
use Rattle.query_tree.specs.Tree.{no_operands, with_operand, Marked, Forest, tree_of, marked_of, operands_of}
use Rattle.query_tree.proofs.Folds.{operand_is}
use Rattle.query_tree.specs.Within.{operand_count}
use Rattle.query_reader.specs.declared.open_list.OpenList as code_list
use Rattle.query_reader.specs.Reading.{add_operand}
use Rattle.query_reader.specs.Seen.{all_open, open_of}

pub operands_more : (operands : List Operand) (last : Operand)
    → operands_of (operands ++ last ∷ []) ≡ add_operand (operands_of operands) (tree_of (out-Operand last).node) (out-Operand last).mark
operands_more [] last = ap (λ (one : Marked). with_operand one.node one.mark no_operands) (operand_is last)
operands_more (first ∷ operands) last =
    ap (λ (others : Forest). with_operand (marked_of first).node (marked_of first).mark others) (operands_more operands last)

pub operands_counted : (operands : List Operand) → operand_count (operands_of operands) ≡ length operands
operands_counted [] = refl
operands_counted (first ∷ operands) =
    let others : operand_count (operands_of operands) ≡ length operands = operands_counted operands in omega arith

pub length_all_open : (lists : List code_list.OpenList) → length (all_open lists) ≡ length lists
length_all_open lists = length-reverse (map open_of lists) ∙ length-map lists open_of
