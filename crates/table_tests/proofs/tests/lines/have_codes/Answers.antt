use Rattle.table_tests.proofs.tests.lines.have_codes.Goals as goal

pub loop-number-init : goal.loop-number-init
loop-number-init c = (c.new-first_names.ensures c.args.first.now, c.new-second_names.ensures c.args.second.now)
