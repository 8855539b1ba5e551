use Rattle.std.proofs.Common.{◌≡◌, ◌∷◌, take, drop, ap, ◌∙◌, sym, subst}
use Rattle.std.proofs.lemmas.Result.{IfOk-weaker}
use Rattle.forward_data.specs.Records.{records_of, AreFull}
use Rattle.forward_data.proofs.Newest.{full_of, front_same}
use Rattle.layer_merge.proofs.forward.merge_forward.Goals as goal

pub returns-clause-full : goal.returns-clause-full
returns-clause-full c =
    let layers = c.args.stack.now.0 in let n = c.args.count in
    IfOk-weaker c.combined.result (λ layer. layer ≡ records_of (take n layers)) AreFull (λ layer is. subst AreFull (sym is) (full_of (take n layers))) c.combined.ensures

pub returns-clause-same : goal.returns-clause-same
returns-clause-same c =
    let layers = c.args.stack.now.0 in let n = c.args.count in
    IfOk-weaker c.combined.result (λ layer. layer ≡ records_of (take n layers)) (λ layer. records_of (layer ∷ drop n layers) ≡ records_of layers)
    (λ layer is. ap (λ l. records_of (l ∷ drop n layers)) is ∙ front_same layers n) c.combined.ensures
