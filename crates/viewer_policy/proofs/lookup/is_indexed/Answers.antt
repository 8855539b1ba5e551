use Rattle.std.proofs.Common.{◌≡◌, ap, subst, sym, ◌∙◌}
use Rattle.uni_schema.specs.Schema.{Declarations, shard_of}
use Rattle.shard_index.specs.Places.{IsStack}
use Rattle.shard_index.specs.Versions.{StandsAt}
use Rattle.viewer_policy.proofs.Edges.{first_replica, indexed}
use Rattle.viewer_policy.proofs.lookup.is_indexed.Goals as goal

pub shard-requires : goal.shard-requires
shard-requires c =
    let schema = c.args.version.now.schema in
    let is : c.shard_of-shard.result ≡ shard_of schema c.args.vertical c.args.target = c.shard_of-shard.ensures ∙ ap (λ (s : Declarations). shard_of s c.args.vertical c.args.target) c.schema.ensures in
    subst (λ shard. IsStack schema c.args.vertical shard 0) (sym is) (first_replica schema c.requires.schema c.args.vertical c.args.target c.requires.within)

pub returns : goal.returns
returns c limits table stands =
    let version = c.args.version.now in
    let layers = c.shard.result.now.0 in
    let is : c.shard_of-shard.result ≡ shard_of version.schema c.args.vertical c.args.target = c.shard_of-shard.ensures ∙ ap (λ (s : Declarations). shard_of s c.args.vertical c.args.target) c.schema.ensures in
    c.has_edge.ensures
    ∙ indexed version limits table stands layers c.args.vertical c.args.type_no c.args.key.now c.args.target c.requires.leads (subst (StandsAt version layers c.args.vertical) is c.shard.ensures.rows)
