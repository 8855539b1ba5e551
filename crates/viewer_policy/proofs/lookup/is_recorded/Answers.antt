use Rattle.std.proofs.Common.{◌≡◌, ◌==◌, List, ap, subst, sym, ◌∙◌}
use Rattle.std.specs.List.{list_any}
use Rattle.std.specs.List.Sorted.{IsStrictlySortedBy}
use Rattle.std.specs.Ordering.{nat_cmp}
use Rattle.uni_schema.specs.Schema.{Declarations, shard_of}
use Rattle.forward_data.specs.Records.{record_key}
use Rattle.forward_data.specs.declared.record.ForwardItem.{ForwardItem}
use Rattle.shard_index.specs.Places.{IsStack}
use Rattle.shard_index.specs.Rows.{record_at, stack_rows}
use Rattle.shard_index.specs.Versions.{StandsAt}
use Rattle.viewer_policy.specs.Judged.{targets}
use Rattle.viewer_policy.proofs.Edges.{first_replica, recorded, recorded_in_order}
use Rattle.viewer_policy.proofs.lookup.is_recorded.Goals as goal

pub shard-requires : goal.shard-requires
shard-requires c =
    let schema = c.args.version.now.schema in
    let is : c.shard_of-shard.result ≡ shard_of schema c.args.vertical c.args.source = c.shard_of-shard.ensures ∙ ap (λ (s : Declarations). shard_of s c.args.vertical c.args.source) c.schema.ensures in
    subst (λ shard. IsStack schema c.args.vertical shard 0) (sym is) (first_replica schema c.requires.schema c.args.vertical c.args.source c.requires.within)

pub returns : goal.returns
returns c limits table stands =
    let version = c.args.version.now in
    let layers = c.shard.result.now.0 in
    let number = c.args.type_no in let id = c.args.source in
    let is : c.shard_of-shard.result ≡ shard_of version.schema c.args.vertical id = c.shard_of-shard.ensures ∙ ap (λ (s : Declarations). shard_of s c.args.vertical id) c.schema.ensures in
    let at : StandsAt version layers c.args.vertical (shard_of version.schema c.args.vertical id) = subst (StandsAt version layers c.args.vertical) is c.shard.ensures.rows in
    let read : c.forward.result.now ≡ record_at (stack_rows layers) (record_key number id) = c.forward.ensures in
    c.leads.ensures (subst (λ (items : List ForwardItem). IsStrictlySortedBy nat_cmp (targets items)) (sym read) (recorded_in_order version limits table stands layers c.args.vertical number id c.requires.starts at))
    ∙ ap (list_any (λ (item : ForwardItem). item.target == c.args.target)) read
    ∙ recorded version limits table stands layers c.args.vertical number id c.requires.starts at c.args.target
