use Rattle.std.specs.HashMap.{values}
use Rattle.uni_schema.proofs.Kept.{passes_at}
use Rattle.uni_schema.proofs.schema.Schema.vertical.Goals as goal

pub returns-clause-kept : goal.returns-clause-kept
returns-clause-kept c = passes_at _ (values c.self.inside.verticals) c.args.no c.index.result.now c.self.invariant.1.verticals c.index.ensures
