use Rattle.std.proofs.Common.{ap, ◌∙◌}
use Rattle.std.specs.FinMap as finite
use Rattle.std.specs.Ordering.{nat_cmp}
use Rattle.shard_index.specs.Entities.{entity_changes}
use Rattle.shard_index.proofs.EntityRows.{none_sorted}
use Rattle.shard_index.proofs.entities.EntityLayer.of_rows.Goals as goal

pub returns : goal.returns
returns c = ap (λ d. entity_changes d (finite.from_sorted {R = nat_cmp} c.args.puts.items)) (ap (finite.from_sorted {R = nat_cmp}) c.new-deletes.ensures.items ∙ none_sorted)
