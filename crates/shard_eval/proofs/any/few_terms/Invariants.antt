use Rattle.std.proofs.Common.{◌≡◌, map, take}
use Rattle.layer_stack.specs.Postings.{PostingTable}
use Rattle.shard_eval.specs.Found.{found_term}
use Rattle.shard_eval.specs.Resolution.{all_found, nodes_of, operand_of}
use Rattle.shard_eval.proofs.any.few_terms.Given as goal

abbrev pub invariant-loop-operand : goal.invariant-loop-operand
invariant-loop-operand l = (table : PostingTable) → all_found table (nodes_of (map operand_of (take l.operand-index l.operand-items))) ≡ map (found_term table) l.leaves.items
