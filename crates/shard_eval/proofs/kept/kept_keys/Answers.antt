use Rattle.std.proofs.Common.{◌≡◌, List, IfOk, subst, sym, ◌∙◌, ap}
use Rattle.uni_base.specs.declared.entity.DocKey.{DocKey}
use Rattle.weak_strong.specs.Marks.{strong_quota, weak_quota}
use Rattle.shard_eval.specs.Kept.{kept, up_to}
use Rattle.shard_eval.specs.Operands.{keys_in, marks_in, operand_keys}
use Rattle.shard_eval.proofs.Quotas.{strong_kept, weak_kept}
use Rattle.shard_eval.proofs.kept.kept_keys.Goals as goal

pub returns-in_ok-new-in-WeakAnd : goal.returns-in_ok-new-in-WeakAnd
returns-in_ok-new-in-WeakAnd c =
    let items = c.in_ok-operands-in-WeakAnd.operands.items in
    let made = c.in_ok-operands-in-WeakAnd.ensures {u = tt} in
    let marks = marks_in c.args.operands.items in
    let lists = operand_keys c.args.operands.items in
    subst (λ (all : List DocKey). IfOk c.first_keys-in-WeakAnd.result (λ keys. keys ≡ up_to c.args.limit all))
    ((c.in_ok-new-in-WeakAnd.ensures {u = tt}).keys ∙ weak_kept (λ o. keys_in o.0) (λ o. weak_quota o.1) items marks lists made.0 made.1 ∙ ap (λ k. kept k marks lists) (sym c.in-WeakAnd.is))
    c.first_keys-in-WeakAnd.ensures

pub returns-in_ok-new-in-StrongOr : goal.returns-in_ok-new-in-StrongOr
returns-in_ok-new-in-StrongOr c =
    let items = c.in_ok-operands-in-StrongOr.operands.items in
    let made = c.in_ok-operands-in-StrongOr.ensures {u = tt} in
    let marks = marks_in c.args.operands.items in
    let lists = operand_keys c.args.operands.items in
    subst (λ (all : List DocKey). IfOk c.first_keys-in-StrongOr.result (λ keys. keys ≡ up_to c.args.limit all))
    ((c.in_ok-new-in-StrongOr.ensures {u = tt}).keys ∙ strong_kept (λ o. keys_in o.0) (λ o. strong_quota o.1) items marks lists made.0 made.1 ∙ ap (λ k. kept k marks lists) (sym c.in-StrongOr.is))
    c.first_keys-in-StrongOr.ensures
