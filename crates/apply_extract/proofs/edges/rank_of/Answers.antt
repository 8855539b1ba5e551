use Rattle.std.proofs.Common.{◌≡◌, ap, subst, sym, ◌∙◌}
use Rattle.uni_schema.specs.Schema.{Declarations, shard_of}
use Rattle.shard_index.specs.Places.{IsStack}
use Rattle.shard_index.specs.Versions.{StandsAt}
use Rattle.viewer_policy.proofs.Edges.{first_replica}
use Rattle.apply_extract.proofs.ReadVersions.{rank_read}
use Rattle.apply_extract.proofs.edges.rank_of.Goals as goal

pub shard-requires : goal.shard-requires
shard-requires c =
    let schema = c.args.version.now.schema in let v = c.args.vertical in let id = c.args.id in
    let is : c.shard_of-shard.result ≡ shard_of schema v id = c.shard_of-shard.ensures ∙ ap (λ (s : Declarations). shard_of s v id) c.schema.ensures in
    subst (λ shard. IsStack schema v shard 0) (sym is) (first_replica schema c.requires.schema v id c.requires.vertical)

pub returns : goal.returns
returns c limits table stands =
    let version = c.args.version.now in let v = c.args.vertical in let id = c.args.id in let layers = c.shard.result.now.0 in
    let is : c.shard_of-shard.result ≡ shard_of version.schema v id = c.shard_of-shard.ensures ∙ ap (λ (s : Declarations). shard_of s v id) c.schema.ensures in
    c.rank_of.ensures ∙ rank_read version limits table stands layers v id (subst (StandsAt version layers v) is c.shard.ensures.rows)
