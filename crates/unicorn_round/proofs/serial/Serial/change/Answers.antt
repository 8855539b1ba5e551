use Rattle.unicorn_round.proofs.SerialSteps.{change_taken}
use Rattle.unicorn_round.proofs.serial.Serial.change.Goals as goal

pub returns-in-Ok-clause-answered : goal.returns-in-Ok-clause-answered
returns-in-Ok-clause-answered c = λ s st. change_taken c.args.self.now c.put.new.self s c.args.line c.args.command.now st c.in-Ok.ensures.taken c.in-Ok.ensures.ok
