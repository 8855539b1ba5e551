use Rattle.uni_table.proofs.Kept.{nothing_kept}
use Rattle.uni_table.proofs.table.Table.new.Goals as goal

pub invariant_of-result : goal.invariant_of-result
invariant_of-result c = rw c.new.ensures (record { contents = nothing_kept c.args.schema.value c.args.limits; published = nothing_kept c.args.schema.value c.args.limits })
