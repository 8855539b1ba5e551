use Rattle.std.proofs.Common.{◌≡◌, ◌+◌, ◌++◌, ◌∷◌, [], length, drop, refl, sym, ap, ◌∙◌}
use Rattle.std.proofs.lemmas.List.{map-append}
use Rattle.std.proofs.lemmas.Option.{slice_get_read}
use Rattle.layer_base.proofs.Frozen.{slice_get-map}
use Rattle.shard_index.specs.Versions.{layers_of}
use Rattle.version_catalog.specs.Spread.{with_layers}
use Rattle.version_catalog.proofs.Shares.{with_more}
use Rattle.version_catalog.proofs.stacks.longer_stacks.Goals as goal

pub loop-number-preserved : goal.loop-number-preserved
loop-number-preserved c =
    let stacks = c.args.stacks.now in let layers = c.args.layers.now in let i = c.loop-number.number in
    let stack = c.index-stacks-number.result in let layer = c.index-layers-number.result in let longer = c.loop-number.longer.items in
    let at = slice_get-map (λ index. index.0) stacks i stack (slice_get_read stacks (length stacks) i stack refl c.loop-number-test.true c.index-stacks-number.is) in
    let there = slice_get_read layers (length stacks) i layer (sym c.requires) c.loop-number-test.true c.index-layers-number.is in
    let pushed : layers_of c.push.new.self.items ≡ layers_of longer ++ (stack.0 ++ layer ∷ []) ∷ [] =
    ap layers_of (c.in_ok-push.ensures {u = tt}).items ∙ map-append (λ index. index.0) longer (c.in_ok-with_layer.field-0 ∷ []) ∙ ap (λ s. layers_of longer ++ s ∷ []) (c.in_ok-with_layer.ensures {u = tt}) in
    ap (λ ls. ls ++ with_layers (drop (i + 1) (layers_of stacks)) (drop (i + 1) layers)) pushed
    ∙ with_more (layers_of stacks) layers (layers_of longer) i stack.0 layer at there ∙ c.loop-number.invariant
