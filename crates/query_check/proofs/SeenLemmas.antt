-- What is seen of a checked query, and what stands at a place of operands.
use Rattle.std.proofs.Common.{◌≡◌, ℕ, zero, suc, ◌+◌, ◌<◌, ◌≤◌, List, [], ◌∷◌, length, drop, get_or, sym, ap, ◌∙◌, refl, arith}
use Rattle.std.proofs.Math.Seq.{drop-cons}
use Rattle.query_tree.specs.declared.query.Operand.{Operand}
use Rattle.query_tree.specs.declared.query.Query.TheViews.{out-Operand}
use Rattle.query_tree.specs.Tree.{Marked, no_operands, with_operand, tree_of, operands_of}
use Rattle.query_tree.proofs.Folds.{operand_is}
use Rattle.query_check.specs.declared.checked.Checked.{Checked}
use Rattle.query_check.specs.declared.checked.CheckedNode.TheViews.{out-Checked}
use Rattle.query_check.specs.declared.checked.CheckedNode.TheFolds.{fold_out-Checked}
use Rattle.query_check.specs.Plan.{Seen, SeenQuery, SeenOperand, node_step, query_step, operand_step, seen, seen_node}

-- a query with its vertical over its node
abbrev pub over : Seen → ℕ → SeenQuery
over node vertical = record { stated = record { plan = node.plan; vertical = vertical }; inner = node.inner }

pub seen_is : (query : Checked) → seen query ≡ over (seen_node (out-Checked query).node) (out-Checked query).vertical
seen_is query = fold_out-Checked Seen SeenQuery SeenOperand node_step query_step operand_step query

-- the first of the operands from a place on
pub operands_here : (items : List Operand) (i : ℕ) (item : Operand) → i < length items → item ≡ get_or items i item
    → operands_of (drop i items) ≡ with_operand (tree_of (out-Operand item).node) (out-Operand item).mark (operands_of (drop (i + 1) items))
operands_here items i item within is_item =
    let next : suc i ≡ i + 1 = omega arith in
    ap operands_of (drop-cons items i item within)
    ∙ ap (λ (o : Operand). operands_of (o ∷ drop (suc i) items)) (sym is_item)
    ∙ ap (λ (m : Marked). with_operand m.node m.mark (operands_of (drop (suc i) items))) (operand_is item)
    ∙ ap (λ (n : ℕ). with_operand (tree_of (out-Operand item).node) (out-Operand item).mark (operands_of (drop n items))) next

drop-nil : (i : ℕ) → drop {A = Operand} i [] ≡ []
drop-nil zero = refl
drop-nil (suc i) = refl

-- and none of them at the end
pub operands_none : (items : List Operand) (i : ℕ) → length items ≤ i → operands_of (drop i items) ≡ no_operands
operands_none [] i past = ap operands_of (drop-nil i)
operands_none (item ∷ items) zero past = absurd (omega arith)
operands_none (item ∷ items) (suc i) past = operands_none items i (omega arith)
