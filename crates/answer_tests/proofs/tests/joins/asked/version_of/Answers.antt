use Rattle.std.proofs.Common.{subst, sym}
use Rattle.uni_schema.specs.Schema.{Declarations}
use Rattle.uni_table.specs.TableState.{IsKept}
use Rattle.answer_tests.proofs.tests.joins.asked.version_of.Goals as goal

pub returns-in-Ok-clause-standing : goal.returns-in-Ok-clause-standing
returns-in-Ok-clause-standing c =
    let table = c.args.table.now in
    (table.limits, (table.contents, record { kept = subst (λ (s : Declarations). IsKept s table.limits table.contents) (sym c.in-Ok.ensures.schema) c.schema.ensures.kept; stands = c.in-Ok.ensures.stands }))
