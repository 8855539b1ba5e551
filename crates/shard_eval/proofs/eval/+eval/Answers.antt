use Rattle.std.proofs.Common.{◌≡◌, ◌+◌, ◌++◌, ◌∷◌, [], All, List, map, get_or, take, take-suc, suc, ap, subst, sym, ◌∙◌, arith}
use Rattle.std.proofs.lemmas.List.{map-append}
use Rattle.layer_base.specs.Layers.{stack_table}
use Rattle.query_tree.specs.declared.query.Mark.{Mark}
use Rattle.shard_eval.specs.declared.resolved.ListedHit.{ListedHit}
use Rattle.shard_eval.specs.declared.resolved.ResolvedOperand.{ResolvedOperand}
use Rattle.shard_eval.specs.declared.source.Source.{Source}
use Rattle.shard_eval.specs.Found.{Found}
use Rattle.shard_eval.specs.Kept.{IsShare}
use Rattle.shard_eval.specs.Resolution.{Resolution, all_found, listing_of, marks_of, nodes_of, operand_of, resolution, listed_node, AreReady, IsReady}
use Rattle.shard_eval.specs.Sources.{found_by, found_lists, source_marks, AreRanked}
use Rattle.shard_eval.proofs.FoundRanked.{all_ranked, marks_ready}
use Rattle.shard_eval.proofs.ResolvedNodes.{all_append, marks_append, operand_is, ready_at, seen_listed, size, sizes, smaller_at}
use Rattle.shard_eval.proofs.eval.+eval.Goals as goal

pub eval-listed_hits-requires : goal.eval-listed_hits-requires
eval-listed_hits-requires t c =
    let number = c.in-Listed.type_no in
    let ready : IsReady (listed_node number (map listing_of c.in-Listed.inner.items)) = subst IsReady (ap resolution c.in-Listed.is ∙ seen_listed number c.in-Listed.inner) c.requires in
    subst (λ (hits : List ListedHit). IsReady (listed_node number (map listing_of hits))) (sym c.as_slice-in-Listed.ensures.value) ready

pub eval_list-list_hits-requires-clause-shares : goal.eval_list-list_hits-requires-clause-shares
eval_list-list_hits-requires-clause-shares t c =
    subst (All IsShare) (sym c.in_ok-sources.ensures.marks) (marks_ready (nodes_of (map operand_of c.args.operands.now.items)) c.requires)

pub eval_list-list_hits-requires-clause-ranked : goal.eval_list-list_hits-requires-clause-ranked
eval_list-list_hits-requires-clause-ranked t c =
    let table = stack_table c.args.stack.now.0 in
    subst AreRanked (sym c.in_ok-sources.ensures.lists) (all_ranked table (nodes_of (map operand_of c.args.operands.now.items)) c.requires)

pub sources-source-requires : goal.sources-source-requires
sources-source-requires t c =
    let items = c.deref-operand-items.result.now in
    let i = c.loop-operand.operand-index in
    let item = c.operand-item.result in
    let all = subst (λ (os : List ResolvedOperand). AreReady (nodes_of (map operand_of os))) (sym c.deref-operand-items.ensures.value) c.requires in
    let node : (operand_of (get_or items i item)).0 ≡ resolution item.node = ap (λ (o : ResolvedOperand). (operand_of o).0) (sym c.operand-item.is) ∙ ap (λ (o : Resolution × Mark). o.0) (operand_is item) in
    let smaller = smaller_at items i item c.loop-operand-test.true in
    let whole = ap (λ (os : List ResolvedOperand). sizes (nodes_of (map operand_of os))) c.deref-operand-items.ensures.value in
    (omega (arith, c.decreases, smaller, whole, ap size node), subst IsReady node (ready_at items i item c.loop-operand-test.true all))

pub sources-loop-operand-preserved : goal.sources-loop-operand-preserved
sources-loop-operand-preserved t c =
    let table = stack_table c.args.stack.now.0 in
    let items = c.deref-operand-items.result.now in
    let i = c.loop-operand.operand-index in
    let item = c.operand-item.result in
    let more : map operand_of (take (i + 1) items) ≡ map operand_of (take i items) ++ (resolution item.node, item.mark) ∷ [] =
    ap (λ n. map operand_of (take n items)) (let e : i + 1 ≡ suc i = omega arith in e)
    ∙ ap (map operand_of) (take-suc items i item c.loop-operand-test.true ∙ ap (λ (o : ResolvedOperand). take i items ++ o ∷ []) (sym c.operand-item.is))
    ∙ map-append operand_of (take i items) (item ∷ [])
    ∙ ap (λ (o : Resolution × Mark). map operand_of (take i items) ++ o ∷ []) (operand_is item) in
    let past = map operand_of (take i items) in
    let next : Resolution × Mark = (resolution item.node, item.mark) in
    record {
      lists = ap (found_lists table) c.in_ok-push.ensures.items ∙ map-append (λ (s : Source × Mark). found_by table s.0) c.loop-operand.sources.items _
          ∙ ap (λ (ls : List (List Found)). ls ++ found_by table c.in_ok-source.source ∷ []) c.loop-operand.invariant.lists
          ∙ ap (λ (fs : List Found). all_found table (nodes_of past) ++ fs ∷ []) c.in_ok-source.ensures
          ∙ sym (ap (λ (os : List (Resolution × Mark)). all_found table (nodes_of os)) more ∙ all_append table past next);
      marks = ap source_marks c.in_ok-push.ensures.items ∙ map-append (λ (s : Source × Mark). s.1) c.loop-operand.sources.items _
          ∙ ap (λ (ms : List Mark). ms ++ item.mark ∷ []) c.loop-operand.invariant.marks
          ∙ sym (ap (λ (os : List (Resolution × Mark)). marks_of (nodes_of os)) more ∙ marks_append past next);
    }
