-- What is seen of queries whose joins are answered.
use Rattle.std.proofs.Common.{rules, ◌≡◌, ◌<◌, ◌≤◌, ◌+◌, ℕ, zero, suc, List, [], ◌∷◌, Vec, Global, length, map, get_or, arith}
use Rattle.query_tree.specs.declared.kind.ListKind.{ListKind}
use Rattle.shard_eval.specs.declared.resolved.InnerHit.{InnerHit}
use Rattle.shard_eval.specs.declared.resolved.Resolved as nodes
use Rattle.shard_eval.specs.declared.resolved.Resolved.TheFolds.{fold_out-Resolved}
use Rattle.shard_eval.specs.declared.resolved.Resolved.TheViews.{the_lemmas as the_views}
use Rattle.shard_eval.specs.Resolution.{joined_node, list_node, listed_node, nodes_of, resolution}
use Rattle.shard_eval.proofs.ResolvedNodes.{size, sizes}
use Rattle.apply_extract.specs.declared.answered.Answered as answers
use Rattle.apply_extract.specs.declared.answered.AnsweredOperand.{AnsweredOperand}
use Rattle.apply_extract.specs.declared.answered.Led.{Led}
use Rattle.apply_extract.specs.declared.answered.Answered.TheFolds.{fold_out-Answered}
use Rattle.apply_extract.specs.declared.answered.Answered.TheViews.{the_lemmas}
use Rattle.apply_extract.specs.Answered.{answered_in, in_place, listing_in, operand_in}

pub seen_joined : (number : ℕ) (inner : Vec InnerHit Global) → resolution (nodes.Joined number inner) ≡ joined_node number inner.items
seen_joined number inner = search (rules, the_views, fold_out-Resolved)

pub answered_joined : (number : ℕ) (inner : Vec InnerHit Global) (shard : ℕ) → answered_in (answers.Joined number inner) shard ≡ joined_node number inner.items
answered_joined number inner shard = search (rules, the_lemmas, fold_out-Answered)

pub answered_listed : (number : ℕ) (inner : Vec Led Global) (shard : ℕ) → answered_in (answers.Listed number inner) shard ≡ listed_node number (map (listing_in shard) inner.items)
answered_listed number inner shard = search (rules, the_lemmas, fold_out-Answered)

pub answered_list : (kind : ListKind) (operands : Vec AnsweredOperand Global) (shard : ℕ) → answered_in (answers.List kind operands) shard ≡ list_node kind (nodes_of (map (in_place shard) (map operand_in operands.items)))
answered_list kind operands shard = search (rules, the_lemmas, fold_out-Answered)

-- an operand is smaller than its list
pub smaller_in : (shard : ℕ) (operands : List AnsweredOperand) (i : ℕ) (d : AnsweredOperand) → i < length operands → size ((operand_in (get_or operands i d)).0 shard) + 1 ≤ sizes (nodes_of (map (in_place shard) (map operand_in operands)))
smaller_in shard [] i d here = absurd (omega (arith, here))
smaller_in shard (o ∷ operands) zero d here = omega arith
smaller_in shard (o ∷ operands) (suc i) d here = omega (arith, smaller_in shard operands i d (omega (arith, here)))
