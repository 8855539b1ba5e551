use Rattle.std.proofs.Common.{◌≡◌, ◌+◌, ◌++◌, ◌∷◌, [], List, map, get_or, take, take-suc, suc, ap, sym, ◌∙◌, arith}
use Rattle.std.proofs.lemmas.List.{map-append}
use Rattle.query_tree.specs.declared.query.Mark.{Mark}
use Rattle.shard_eval.specs.declared.resolved.ResolvedOperand.{ResolvedOperand}
use Rattle.shard_eval.specs.Resolution.{Resolution, nodes_of, operand_of}
use Rattle.shard_eval.proofs.ResolvedNodes.{operand_is, size, sizes}
use Rattle.apply_extract.specs.declared.answered.AnsweredOperand.{AnsweredOperand}
use Rattle.apply_extract.specs.Answered.{answered_in, in_place, operand_in}
use Rattle.apply_extract.proofs.InShards.{smaller_in}
use Rattle.apply_extract.proofs.Lists.{answered_operand}
use Rattle.apply_extract.proofs.in_shard.+in_shard.Goals as goal

pub operands_in_shard-in_shard-requires : goal.operands_in_shard-in_shard-requires
operands_in_shard-in_shard-requires t c =
    let items = c.deref-operand-items.result.now in
    let i = c.loop-operand.operand-index in
    let item = c.operand-item.result in
    let shard = c.args.shard in
    let node : size ((operand_in (get_or items i item)).0 shard) ≡ size (answered_in item.node shard) =
    ap (λ (o : AnsweredOperand). size ((operand_in o).0 shard)) (sym c.operand-item.is) ∙ ap (λ (o : (_ → Resolution) × Mark). size (o.0 shard)) (answered_operand item) in
    let smaller = smaller_in shard items i item c.loop-operand-test.true in
    let whole = ap (λ (os : List AnsweredOperand). sizes (nodes_of (map (in_place shard) (map operand_in os)))) c.deref-operand-items.ensures.value in
    (omega (arith, c.decreases, smaller, whole, node), tt)

pub operands_in_shard-loop-operand-preserved : goal.operands_in_shard-loop-operand-preserved
operands_in_shard-loop-operand-preserved t c =
    let items = c.deref-operand-items.result.now in
    let i = c.loop-operand.operand-index in
    let item = c.operand-item.result in
    let shard = c.args.shard in
    let past = map operand_in (take i items) in
    let made : ResolvedOperand = record { node = c.in_ok-node.node; mark = item.mark } in
    let more : map operand_in (take (i + 1) items) ≡ past ++ (answered_in item.node, item.mark) ∷ [] =
    ap (λ n. map operand_in (take n items)) (let e : i + 1 ≡ suc i = omega arith in e)
    ∙ ap (map operand_in) (take-suc items i item c.loop-operand-test.true ∙ ap (λ (o : AnsweredOperand). take i items ++ o ∷ []) (sym c.operand-item.is))
    ∙ map-append operand_in (take i items) (item ∷ [])
    ∙ ap (λ (o : (_ → Resolution) × Mark). past ++ o ∷ []) (answered_operand item) in
    let here : operand_of made ≡ (answered_in item.node shard, item.mark) = operand_is made ∙ ap (λ (r : Resolution). (r, item.mark)) c.in_ok-node.ensures in
    ap (map operand_of) c.in_ok-push.ensures.items
    ∙ map-append operand_of c.loop-operand.found.items (made ∷ [])
    ∙ (λ j. c.loop-operand.invariant j ++ here j ∷ [])
    ∙ sym (ap (map (in_place shard)) more ∙ map-append (in_place shard) past ((answered_in item.node, item.mark) ∷ []))
