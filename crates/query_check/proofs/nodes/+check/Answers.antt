use Rattle.std.proofs.Common.{◌+◌, ◌≤◌, List, length, None, arith, sym, ap, ◌∙◌, subst, ◌∷◌, Ok, drop}
use Rattle.std.proofs.lemmas.Result.{err_from_is_err_and}
use Rattle.uni_schema.specs.declared.schema.Store.{Store}
use Rattle.query_tree.specs.declared.query.Query.{Query}
use Rattle.query_tree.specs.declared.query.Operand.{Operand}
use Rattle.query_tree.specs.Tree.{Forest, Joined, Listed, joined, tree_of, operands_of}
use Rattle.query_tree.proofs.Folds.{join_fields, joined_is, listed_is}
use Rattle.query_check.specs.declared.checked.Checked.{Checked}
use Rattle.query_check.specs.Verticals.{AreStated}
use Rattle.query_check.specs.Plan.{Seen, SeenQuery, seen, seen_node, plans_of, operands_seen, stated_of}
use Rattle.query_check.specs.Typing.{type_kept, typed, operands_typed, IsFault}
use Rattle.query_check.proofs.Faults.{join_found, join_inner}
use Rattle.query_check.proofs.Operands.{after_plans, due_more, due_end, inner_more}
use Rattle.query_check.proofs.SeenLemmas.{seen_is, operands_here, operands_none, over}
use Rattle.query_check.proofs.Declares.{typed_is}
use Rattle.query_check.proofs.nodes.+check.Goals as goal

pub check_join-returns-in_err-found-clause-typed : goal.check_join-returns-in_err-found-clause-typed
check_join-returns-in_err-found-clause-typed t c =
    let p = err_from_is_err_and c.from_residual.result c.from_residual.ensures.1 in
    rw (p.1, p.2)
    (subst (λ (join : Joined). IsFault (typed c.args.schema.now c.args.joins c.args.around (joined c.args.kind join)) c.in_err-found.field-0.0)
    (sym (joined_is c.args.join.now))
    (join_found c.args.schema.now c.args.joins c.args.around c.args.kind (join_fields c.args.join.now) c.in_err-found.field-0.0 c.if-around-joins.false
    (subst (λ (store : Store). IsFault (type_kept c.args.schema.now store c.args.join.now.type_column c.args.join.now.type_name) c.in_err-found.field-0.0)
    c.join_store.ensures c.in_err-found.ensures.kept)))

pub check_join-returns-in_err-inner-clause-typed : goal.check_join-returns-in_err-inner-clause-typed
check_join-returns-in_err-inner-clause-typed t c =
    let p = err_from_is_err_and c.from_residual-in_err-inner.result c.from_residual-in_err-inner.ensures.1 in
    rw (p.1, p.2)
    (subst (λ (join : Joined). IsFault (typed c.args.schema.now c.args.joins c.args.around (joined c.args.kind join)) c.in_err-inner.field-0.0)
    (sym (joined_is c.args.join.now))
    (join_inner c.args.schema.now c.args.joins c.args.around c.args.kind (join_fields c.args.join.now) _ c.in_err-inner.field-0.0 c.if-around-joins.false
    (ap (λ (store : Store). type_kept c.args.schema.now store c.args.join.now.type_column c.args.join.now.type_name) (sym c.join_store.ensures) ∙ c.in_ok-found.ensures.kept)
    (subst (λ (q : Query). IsFault (typed c.args.schema.now c.args.joins (c.args.around + 1) (tree_of q)) c.in_err-inner.field-0.0)
    c.deref.ensures c.in_err-inner.ensures.typed)))

pub check_join-returns-clause-inner : goal.check_join-returns-clause-inner
check_join-returns-clause-inner t c =
    subst (λ (q : SeenQuery). AreStated c.args.schema.now q.inner)
    (sym (seen_is _ ∙ ap (λ (s : Seen). over s c.in_ok-found.found.def.target) c.join.ensures))
    (subst (λ (q : Checked). AreStated c.args.schema.now ((seen q).stated ∷ (seen q).inner)) (sym c.in-Ok.ensures.ok)
    (typed_is c.args.schema.now c.args.joins (c.args.around + 1) (tree_of c.deref.result.now) (stated_of c.in_ok-inner.inner) c.in_ok-inner.ensures.typed, c.in_ok-inner.ensures.inner))

pub check_operands-loop-operand-preserved : goal.check_operands-loop-operand-preserved
check_operands-loop-operand-preserved t c = record {
  read =
      due_more c.args.schema.now c.args.joins c.args.around
      (operands_typed c.args.schema.now c.args.joins c.args.around None (operands_of c.deref-operand-items.result.now))
      (operands_seen c.loop-operand.operands.items) (operands_seen c.push_operand.new.operands.items) c.loop-operand.vertical
      (tree_of c.operand-item.result.node) c.operand-item.result.mark
      (operands_of (drop (c.loop-operand.operand-index + 1) c.deref-operand-items.result.now))
      (seen_node c.in_ok-checked.checked.node) c.in_ok-checked.checked.vertical
      (c.in_ok-checked.ensures.typed ∙ ap (λ (q : SeenQuery). Ok q.stated) (seen_is c.in_ok-checked.checked))
      (sym c.is_other.ensures ∙ c.if-is_other.false)
      c.in_ok-push_operand.ensures
      (c.loop-operand.invariant.read
      ∙ ap (λ (operands : Forest). after_plans (plans_of (operands_seen c.loop-operand.operands.items)) (operands_typed c.args.schema.now c.args.joins c.args.around c.loop-operand.vertical operands))
      (operands_here c.deref-operand-items.result.now c.loop-operand.operand-index c.operand-item.result c.loop-operand-test.true c.operand-item.is));
  stated =
      inner_more c.args.schema.now (operands_seen c.loop-operand.operands.items) (operands_seen c.push_operand.new.operands.items)
      (record { node = seen_node c.in_ok-checked.checked.node; mark = c.operand-item.result.mark })
      c.loop-operand.invariant.stated
      (subst (λ (q : SeenQuery). AreStated c.args.schema.now q.inner) (seen_is c.in_ok-checked.checked) c.in_ok-checked.ensures.inner)
      c.in_ok-push_operand.ensures;
}

pub check_operands-returns-clause-typed : goal.check_operands-returns-clause-typed
check_operands-returns-clause-typed t c =
    let past : length c.deref-operand-items.result.now ≤ c.loop-operand.operand-index = omega arith in
    ap (λ (list : Listed). operands_typed c.args.schema.now c.args.joins c.args.around None list.operands) (listed_is c.args.list.now)
    ∙ ap (λ (items : List Operand). operands_typed c.args.schema.now c.args.joins c.args.around None (operands_of items)) (sym c.deref-operand-items.ensures.value)
    ∙ due_end c.args.schema.now c.args.joins c.args.around _ (operands_seen c.loop-operand.operands.items) c.loop-operand.vertical
    (c.loop-operand.invariant.read
    ∙ ap (λ (operands : Forest). after_plans (plans_of (operands_seen c.loop-operand.operands.items)) (operands_typed c.args.schema.now c.args.joins c.args.around c.loop-operand.vertical operands))
    (operands_none c.deref-operand-items.result.now c.loop-operand.operand-index past))
