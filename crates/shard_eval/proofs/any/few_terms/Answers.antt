use Rattle.std.proofs.Common.{◌≡◌, ◌+◌, ◌++◌, ◌∷◌, [], List, map, take, take-suc, suc, ap, sym, ◌∙◌, arith}
use Rattle.std.proofs.lemmas.List.{map-append}
use Rattle.query_tree.specs.declared.query.Mark.{Mark}
use Rattle.shard_eval.specs.declared.resolved.ResolvedOperand.{ResolvedOperand}
use Rattle.shard_eval.specs.Found.{found_term}
use Rattle.shard_eval.specs.Resolution.{Resolution, all_found, nodes_of, operand_of, resolution}
use Rattle.shard_eval.proofs.ResolvedNodes.{all_append, operand_is}
use Rattle.shard_eval.proofs.any.few_terms.Goals as goal

pub loop-operand-preserved : goal.loop-operand-preserved
loop-operand-preserved c = λ table.
    let items = c.deref-operand-items.result.now in
    let i = c.loop-operand.operand-index in
    let item = c.operand-item.result in
    let past = map operand_of (take i items) in
    let more : map operand_of (take (i + 1) items) ≡ past ++ (resolution item.node, item.mark) ∷ [] =
    ap (λ n. map operand_of (take n items)) (let e : i + 1 ≡ suc i = omega arith in e)
    ∙ ap (map operand_of) (take-suc items i item c.loop-operand-test.true ∙ ap (λ (o : ResolvedOperand). take i items ++ o ∷ []) (sym c.operand-item.is))
    ∙ map-append operand_of (take i items) (item ∷ [])
    ∙ ap (λ (o : Resolution × Mark). past ++ o ∷ []) (operand_is item) in
    let whole = c.loop-operand.invariant table in
    let one = c.in-Some.ensures {u = tt} table in
    ap (λ (os : List (Resolution × Mark)). all_found table (nodes_of os)) more ∙ all_append table past (resolution item.node, item.mark)
    ∙ (λ j. whole j ++ one j ∷ [])
    ∙ sym (ap (map (found_term table)) (c.in_ok-push.ensures {u = tt}).items ∙ map-append (found_term table) c.loop-operand.leaves.items (c.in-Some.leaf ∷ []))
