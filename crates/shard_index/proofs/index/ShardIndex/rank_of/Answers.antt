use Rattle.std.proofs.Common.{ap, ◌∙◌, sym}
use Rattle.std.specs.FinMap as finite
use Rattle.layer_base.specs.Layers.{stack_table}
use Rattle.shard_index.proofs.IndexParts.{parts_of}
use Rattle.shard_index.proofs.StackLaws.{entities_of-stack}
use Rattle.shard_index.proofs.index.ShardIndex.rank_of.Goals as goal

pub returns : goal.returns
returns c =
    let parts = parts_of c.self.inside.entities c.self.inside.postings c.self.inside.forward c.args.self.now c.self.invariant c.self.view_is in
    c.rank_in.ensures ∙ ap (λ layers. finite.get (stack_table layers) c.args.id) (sym parts.entities) ∙ ap (λ table. finite.get table c.args.id) (sym (entities_of-stack c.args.self.now.0))
