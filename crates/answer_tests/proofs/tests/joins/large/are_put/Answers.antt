use Rattle.answer_tests.proofs.tests.joins.large.are_put.Goals as goal

-- A change told of another user is declared as the change that was read is.
pub put-requires : goal.put-requires
put-requires c = c.told_of.ensures c.loop-number.table.schema c.loop-number.invariant
