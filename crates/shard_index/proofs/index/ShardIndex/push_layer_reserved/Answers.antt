use Rattle.std.proofs.Common.{◌++◌, ◌∷◌, [], ◌∙◌}
use Rattle.shard_index.specs.Joined.{joined}
use Rattle.shard_index.proofs.JoinedLayers.{joined-snoc}
use Rattle.shard_index.proofs.index.ShardIndex.push_layer_reserved.Goals as goal

pub returns-clause-layers : goal.returns-clause-layers
returns-clause-layers c =
    let s = c.self.inside in let l = c.layer.inside in
    (λ i. joined (c.push_reserved.ensures.layers i) (c.push_reserved-2.ensures.layers i) (c.push_reserved-3.ensures.layers i))
    ∙ joined-snoc s.entities.0 s.postings.0 s.forward.0 l.entities.value l.postings.value l.forward.value c.self.invariant
    ∙ (λ i. (c.self.view_is i).0 ++ c.layer.view_is i ∷ [])
