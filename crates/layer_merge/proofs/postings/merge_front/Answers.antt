use Rattle.std.proofs.Common.{◌≡◌, ◌∷◌, take, drop, ap, ◌∙◌}
use Rattle.std.proofs.lemmas.Result.{IfOk-weaker}
use Rattle.layer_base.specs.Layers.{stack_table}
use Rattle.layer_stack.specs.Postings.{putting_all}
use Rattle.layer_merge.proofs.Merges.{front_same}
use Rattle.layer_merge.proofs.postings.merge_front.Goals as goal

pub returns-clause-same : goal.returns-clause-same
returns-clause-same c =
    let layers = c.args.stack.now.0 in let n = c.args.count in
    IfOk-weaker c.combined.result (λ layer. layer ≡ putting_all (stack_table (take n layers))) (λ layer. stack_table (layer ∷ drop n layers) ≡ stack_table layers)
    (λ layer is. ap (λ l. stack_table (l ∷ drop n layers)) is ∙ front_same layers n) c.combined.ensures
