use Rattle.unicorn_round.proofs.TextsTell.{answers_tell}
use Rattle.unicorn_round.proofs.laws.answers_tell.Goals as goal

pub returns : goal.returns
returns c = answers_tell c.numbers_rise.ensures c.words_are_unbroken.ensures c.faults_are_near.ensures c.faults_stand_in.ensures c.lines_are_unbroken.ensures c.heads_by_text.ensures
