use Rattle.std.proofs.Common.{rules, arith, ◌≡◌, ◌+◌, Some, ap, ◌∙◌, sym, slice_get}
use Rattle.std.specs.Option.{option_map}
use Rattle.shard_index.specs.Rows.{entries}
use Rattle.shard_index.specs.Rows.{layer_of}
use Rattle.shard_index.proofs.IndexParts.{parts_of}
use Rattle.shard_index.proofs.JoinedLayers.{slice_get-joined}
use Rattle.shard_index.proofs.index.ShardIndex.layer_entries.Goals as goal

pub layer-requires : goal.layer-requires
layer-requires c =
    let parts = parts_of c.self.inside.entities c.self.inside.postings c.self.inside.forward c.args.self.now c.self.invariant c.self.view_is in
    omega (arith, parts.entity_layers, c.requires)

pub layer-requires-2 : goal.layer-requires-2
layer-requires-2 c =
    let parts = parts_of c.self.inside.entities c.self.inside.postings c.self.inside.forward c.args.self.now c.self.invariant c.self.view_is in
    omega (arith, parts.posting_layers, c.requires)

pub layer-requires-3 : goal.layer-requires-3
layer-requires-3 c =
    let parts = parts_of c.self.inside.entities c.self.inside.postings c.self.inside.forward c.args.self.now c.self.invariant c.self.view_is in
    omega (arith, parts.record_layers, c.requires)

pub returns : goal.returns
returns c =
    let e = c.layer.result.now.value in let p = c.layer-2.result.now.value in let f = c.layer-3.result.now.value in
    let at = slice_get-joined c.self.inside.entities.0 c.self.inside.postings.0 c.self.inside.forward.0 c.args.i e p f c.layer.ensures c.layer-2.ensures c.layer-3.ensures in
    let first : c.deref.result.now ≡ e = search rules in
    let second : c.deref-2.result.now ≡ p = search rules in
    let third : c.deref-3.result.now ≡ f = search rules in
    let sum : c.entries.result + c.entries-2.result + c.entries-3.result ≡ entries (layer_of e p f) =
    (λ i. c.entries.ensures.entries i + c.entries-2.ensures.entries i + c.entries-3.ensures.entries i) ∙ (λ i. entries (layer_of (first i) (second i) (third i))) in
    ap (λ v. option_map entries (slice_get v.0 c.args.i)) (sym c.self.view_is) ∙ ap (option_map entries) at ∙ ap Some (sym sum)
