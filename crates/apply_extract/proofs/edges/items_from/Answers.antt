use Rattle.std.proofs.Common.{◌≡◌, ap, subst, sym, ◌∙◌}
use Rattle.uni_schema.specs.Schema.{Declarations, shard_of}
use Rattle.shard_index.specs.Places.{IsStack}
use Rattle.shard_index.specs.Versions.{StandsAt}
use Rattle.viewer_policy.proofs.Edges.{first_replica}
use Rattle.apply_extract.proofs.ReadVersions.{record_read}
use Rattle.apply_extract.proofs.edges.items_from.Goals as goal

pub shard-requires : goal.shard-requires
shard-requires c =
    let schema = c.args.version.now.schema in
    let is : c.shard_of-shard.result ≡ shard_of schema c.args.source c.args.id = c.shard_of-shard.ensures ∙ ap (λ (s : Declarations). shard_of s c.args.source c.args.id) c.schema.ensures in
    subst (λ shard. IsStack schema c.args.source shard 0) (sym is) (first_replica schema c.requires.schema c.args.source c.args.id c.requires.source)

pub returns : goal.returns
returns c limits table stands forward =
    let version = c.args.version.now in
    let layers = c.shard.result.now.0 in
    let is : c.shard_of-shard.result ≡ shard_of version.schema c.args.source c.args.id = c.shard_of-shard.ensures ∙ ap (λ (s : Declarations). shard_of s c.args.source c.args.id) c.schema.ensures in
    c.forward.ensures ∙ record_read version limits table stands layers c.args.source c.args.id (subst (StandsAt version layers c.args.source) is c.shard.ensures.rows) c.args.type_no forward
