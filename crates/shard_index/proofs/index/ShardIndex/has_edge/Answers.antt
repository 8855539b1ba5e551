use Rattle.std.proofs.Common.{rules, ◌≡◌, ap, ◌∙◌, sym, is_some, false}
use Rattle.std.specs.FinMap as finite
use Rattle.std.specs.Option.{option_map_or}
use Rattle.layer_base.specs.Layers.{stack_table}
use Rattle.layer_stack.specs.Places.{term_of}
use Rattle.layer_stack.specs.Postings.{place_of}
use Rattle.shard_index.specs.Rows.{stack_rows}
use Rattle.shard_index.proofs.IndexParts.{parts_of}
use Rattle.shard_index.proofs.StackLaws.{postings_of-stack}
use Rattle.shard_index.proofs.index.ShardIndex.has_edge.Goals as goal

pub returns : goal.returns
returns c =
    let parts = parts_of c.self.inside.entities c.self.inside.postings c.self.inside.forward c.args.self.now c.self.invariant c.self.view_is in
    let edge = c.args.edge.now in let rows = stack_rows c.args.self.now.0 in
    let place = place_of (term_of edge.type_no edge.key) (record { rank = c.in-Some.rank; id = edge.target }) in
    let found : c.is_some.result ≡ is_some c.find.result = search rules in
    found ∙ ap is_some (c.find.ensures ∙ ap (λ layers. finite.get (stack_table layers) place) (sym parts.postings) ∙ ap (λ table. finite.get table place) (sym (postings_of-stack c.args.self.now.0)))
    ∙ ap (λ o. option_map_or (λ rank. is_some (finite.get rows.postings (place_of (term_of edge.type_no edge.key) (record { rank = rank; id = edge.target })))) o false) c.in-Some.ensures
