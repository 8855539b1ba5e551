use Rattle.std.proofs.Common.{rules, arith, ◌≡◌, ◌+◌, ◌≤◌, ◌++◌, ◌∷◌, [], Some, drop, length, ap, ◌∙◌, slice_get}
use Rattle.shard_index.proofs.IndexParts.{moved}
use Rattle.shard_index.proofs.index.ShardIndex.with_front.Goals as goal

pub loop-i-preserved : goal.loop-i-preserved
loop-i-preserved c =
    let layers = c.args.self.now.0 in let i = c.loop-i.i in
    let layer = c.in_ok-layer.field-0 in
    let at : slice_get layers i ≡ Some layer = search rules in
    let pushed : c.push_layer_reserved.new.self.0 ≡ c.loop-i.index.0 ++ layer ∷ [] = search rules in
    let room : length layers ≤ i + 1 + c.push_layer_reserved.new.self.1 = omega (arith, c.push_layer_reserved.ensures.room, c.loop-i.invariant) in
    (ap (λ stack. stack ++ drop (i + 1) layers) pushed ∙ moved c.loop-i.index.0 (c.args.layer ∷ drop c.args.count layers) layers i layer c.loop-i.invariant.0 at, room)
