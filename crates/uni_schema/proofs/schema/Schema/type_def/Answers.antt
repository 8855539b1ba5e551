use Rattle.std.specs.HashMap.{values}
use Rattle.uni_schema.proofs.Kept.{passes_at}
use Rattle.uni_schema.proofs.schema.Schema.type_def.Goals as goal

pub returns-clause-kept : goal.returns-clause-kept
returns-clause-kept c = rw (← c.self.view_is) (passes_at _ (values c.self.inside.types) c.args.no c.index.result.now c.self.invariant.1.types c.index.ensures)
