use Rattle.feed_reader.specs.Names.{AreOf}
use Rattle.table_tests.proofs.tests.lines.have_codes.Given as goal

abbrev pub invariant-loop-number : goal.invariant-loop-number
invariant-loop-number l = AreOf l.first l.first_names × AreOf l.second l.second_names
