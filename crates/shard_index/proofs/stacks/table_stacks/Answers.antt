use Rattle.std.proofs.Common.{rules, ◌<◌, length, map}
use Rattle.shard_index.specs.Rows.{stack_rows}
use Rattle.shard_index.specs.Versions.{layers_of}
use Rattle.shard_index.proofs.Standing.{vertical_added}
use Rattle.shard_index.proofs.stacks.table_stacks.Goals as goal

pub loop-vertical-preserved : goal.loop-vertical-preserved
loop-vertical-preserved c =
    let table = c.args.table.now in
    let below : c.loop-vertical.vertical < length table.schema.verticals = search rules in
    vertical_added table.schema table.contents c.loop-vertical.vertical (map stack_rows (layers_of c.loop-vertical.stacks.items)) (map stack_rows (layers_of c.add_vertical.new.stacks.items)) below
    (c.in_ok-add_vertical.ensures {u = tt}) c.loop-vertical.invariant
