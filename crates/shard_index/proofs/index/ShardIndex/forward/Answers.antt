use Rattle.std.proofs.Common.{[], ap, ◌∙◌, sym}
use Rattle.std.specs.FinMap as finite
use Rattle.std.specs.Option.{unwrap_or}
use Rattle.forward_data.specs.Records.{record_key, record_of}
use Rattle.shard_index.proofs.IndexParts.{parts_of}
use Rattle.shard_index.proofs.StackLaws.{records_of-stack}
use Rattle.shard_index.proofs.index.ShardIndex.forward.Goals as goal

pub returns : goal.returns
returns c =
    let parts = parts_of c.self.inside.entities c.self.inside.postings c.self.inside.forward c.args.self.now c.self.invariant c.self.view_is in
    let key = record_key c.args.type_no c.args.id in
    c.lookup.ensures ∙ ap (record_of key) (sym parts.records) ∙ ap (λ records. unwrap_or (finite.get records key) []) (sym (records_of-stack c.args.self.now.0))
