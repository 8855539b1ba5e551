-- What is seen of resolved nodes and operands.
use Rattle.std.proofs.Common.{◌≡◌, ◌<◌, ◌≤◌, ◌+◌, ℕ, zero, suc, List, [], ◌∷◌, ◌++◌, Vec, Global, length, map, get_or, rules, refl, ap, arith}
use Rattle.query_tree.specs.declared.query.Mark.{Mark}
use Rattle.shard_eval.specs.declared.resolved.Resolved as nodes
use Rattle.shard_eval.specs.declared.resolved.ListedHit.{ListedHit}
use Rattle.shard_eval.specs.declared.resolved.ResolvedOperand.{ResolvedOperand}
use Rattle.shard_eval.specs.declared.resolved.Resolved.TheFolds.{fold_out-Resolved, fold_out-ResolvedOperand}
use Rattle.shard_eval.specs.declared.resolved.Resolved.TheViews.{the_lemmas}
use Rattle.layer_stack.specs.Postings.{PostingTable}
use Rattle.shard_eval.specs.Found.{Found}
use Rattle.shard_eval.specs.Resolution.{Resolution, Resolutions, all_found, found, listing_of, marks_of, nodes_of, operand_of, resolution, term_node, prefix_node, list_node, joined_node, listed_node, no_nodes, with_node, AreReady, IsReady}

-- how large a query is
abbrev mutual
  pub size : Resolution → ℕ
  size (term_node number key) = 1
  size (prefix_node number from) = 1
  size (list_node kind nodes) = 1 + sizes nodes
  size (joined_node number inner) = 1
  size (listed_node number inner) = 1

  pub sizes : Resolutions → ℕ
  sizes no_nodes = 0
  sizes (with_node node mark others) = 1 + size node + sizes others

-- an operand is its node and its mark
pub operand_is : (operand : ResolvedOperand) → operand_of operand ≡ (resolution operand.node, operand.mark)
operand_is operand = search (rules, the_lemmas, fold_out-ResolvedOperand)

-- an operand of operands that can be asked can be asked, and is smaller than they are
pub ready_at : (operands : List ResolvedOperand) (i : ℕ) (d : ResolvedOperand) → i < length operands → AreReady (nodes_of (map operand_of operands)) → IsReady (operand_of (get_or operands i d)).0
ready_at [] i d here ready = absurd (omega (arith, here))
ready_at (o ∷ operands) zero d here ready = ready.1
ready_at (o ∷ operands) (suc i) d here ready = ready_at operands i d (omega (arith, here)) ready.2

pub smaller_at : (operands : List ResolvedOperand) (i : ℕ) (d : ResolvedOperand) → i < length operands → size (operand_of (get_or operands i d)).0 + 1 ≤ sizes (nodes_of (map operand_of operands))
smaller_at [] i d here = absurd (omega (arith, here))
smaller_at (o ∷ operands) zero d here = omega arith
smaller_at (o ∷ operands) (suc i) d here = omega (arith, smaller_at operands i d (omega (arith, here)))

-- what operands find, and their marks, with one more
pub all_append : (table : PostingTable) (os : List (Resolution × Mark)) (o : Resolution × Mark) → all_found table (nodes_of (os ++ o ∷ [])) ≡ all_found table (nodes_of os) ++ found table o.0 ∷ []
all_append table [] o = refl
all_append table (x ∷ os) o = ap (λ (ls : List (List Found)). found table x.0 ∷ ls) (all_append table os o)

pub marks_append : (os : List (Resolution × Mark)) (o : Resolution × Mark) → marks_of (nodes_of (os ++ o ∷ [])) ≡ marks_of (nodes_of os) ++ o.1 ∷ []
marks_append [] o = refl
marks_append (x ∷ os) o = ap (λ (ms : List Mark). x.1 ∷ ms) (marks_append os o)

-- what is seen of a join by forward edges
pub seen_listed : (number : ℕ) (inner : Vec ListedHit Global) → resolution (nodes.Listed number inner) ≡ listed_node number (map listing_of inner.items)
seen_listed number inner = search (rules, the_lemmas, fold_out-Resolved)
