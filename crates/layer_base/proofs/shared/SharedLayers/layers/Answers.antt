use Rattle.std.proofs.Common.{rules, arith, ◌≡◌, length, ap}
use Rattle.std.proofs.lemmas.List.{length-map}
use Rattle.layer_base.specs.Shared.{values}
use Rattle.layer_base.proofs.Frozen.{length-layers_of}
use Rattle.layer_base.proofs.shared.SharedLayers.layers.Goals as goal

pub returns : goal.returns
returns g c =
    let all = length-layers_of (values c.self.inside.blocks.items) c.self.inside.recent.items c.self.invariant.each in
    let blocks : c.len.result ≡ length c.self.inside.blocks.items = search rules in
    let recent : c.len-2.result ≡ length c.self.inside.recent.items = search rules in
    omega (arith, all, blocks, recent, length-map c.self.inside.blocks.items (λ r. r.value), ap (λ v. length v.0) c.self.view_is)
