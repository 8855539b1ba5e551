use Rattle.std.proofs.Common.{rules, arith, ◌≡◌, ◌+◌, Some, map, get_or, refl, subst}
use Rattle.uni_schema.specs.Schema.{Declarations, vertical_at}
use Rattle.shard_index.specs.Rows.{stack_rows}
use Rattle.shard_index.specs.Versions.{layers_of}
use Rattle.shard_index.proofs.ShardNumbers.{firsts_long}
use Rattle.shard_index.proofs.FullLayers.{layer_stands, layer_within}
use Rattle.shard_index.proofs.Standing.{shard_added}
use Rattle.shard_index.proofs.stacks.add_vertical.Goals as goal

pub bounds-firsts-vertical : goal.bounds-firsts-vertical
bounds-firsts-vertical c = omega (arith, firsts_long c.args.table.now.schema c.args.firsts.now c.requires.firsts, c.requires.vertical)

pub bounds-layers-first : goal.bounds-layers-first
bounds-layers-first c =
    let table = c.args.table.now in let d = c.vertical-declared.result.now in
    let same : c.deref.result.now ≡ table.schema = search rules in
    let at : vertical_at table.schema c.args.vertical ≡ Some d = subst (λ (s : Declarations). vertical_at s c.args.vertical ≡ Some d) same c.vertical-declared.ensures.at in
    layer_within table.schema table.contents c.args.firsts.now c.requires.firsts c.args.layers.now c.requires.layers c.args.vertical c.loop-shard.shard (get_or c.args.firsts.now c.args.vertical 0 + c.loop-shard.shard) d at c.loop-shard-test.true refl

pub overflow_add-base : goal.overflow_add-base
overflow_add-base c =
    let table = c.args.table.now in let d = c.vertical-declared.result.now in
    let same : c.deref.result.now ≡ table.schema = search rules in
    let at : vertical_at table.schema c.args.vertical ≡ Some d = subst (λ (s : Declarations). vertical_at s c.args.vertical ≡ Some d) same c.vertical-declared.ensures.at in
    let within = layer_within table.schema table.contents c.args.firsts.now c.requires.firsts c.args.layers.now c.requires.layers c.args.vertical c.loop-shard.shard (get_or c.args.firsts.now c.args.vertical 0 + c.loop-shard.shard) d at c.loop-shard-test.true refl in
    search (rules, arith)

pub offset_bounds-layers-first : goal.offset_bounds-layers-first
offset_bounds-layers-first c =
    let table = c.args.table.now in let d = c.vertical-declared.result.now in
    let same : c.deref.result.now ≡ table.schema = search rules in
    let at : vertical_at table.schema c.args.vertical ≡ Some d = subst (λ (s : Declarations). vertical_at s c.args.vertical ≡ Some d) same c.vertical-declared.ensures.at in
    let within = layer_within table.schema table.contents c.args.firsts.now c.requires.firsts c.args.layers.now c.requires.layers c.args.vertical c.loop-shard.shard (get_or c.args.firsts.now c.args.vertical 0 + c.loop-shard.shard) d at c.loop-shard-test.true refl in
    search (rules, arith)

pub loop-shard-preserved : goal.loop-shard-preserved
loop-shard-preserved c =
    let table = c.args.table.now in let d = c.vertical-declared.result.now in
    let same : c.deref.result.now ≡ table.schema = search rules in
    let at : vertical_at table.schema c.args.vertical ≡ Some d = subst (λ (s : Declarations). vertical_at s c.args.vertical ≡ Some d) same c.vertical-declared.ensures.at in
    let base = c.index-layers-first.result in
    let stands = layer_stands table.schema table.contents c.args.firsts.now c.requires.firsts c.args.layers.now c.requires.layers c.args.vertical c.loop-shard.shard (get_or c.args.firsts.now c.args.vertical 0 + c.loop-shard.shard) d at c.loop-shard-test.true refl base c.index-layers-first.is in
    shard_added table.schema table.contents c.args.vertical d.replicas c.loop-shard.shard base (layers_of c.loop-shard.stacks.items) (layers_of c.add_stacks.new.stacks.items)
    (map stack_rows (layers_of c.args.stacks.now.items)) stands (c.in_ok-add_stacks.ensures {u = tt}) c.loop-shard.invariant
