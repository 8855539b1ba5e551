-- the text so far
use Rattle.std.proofs.Common.{◌≡◌, map}
use Rattle.reply_text.specs.Printed.{answers_text}
use Rattle.unicorn_round.specs.SerialState.{filled_at}
use Rattle.unicorn_round.proofs.serial.Serial.write.Given as goal

abbrev pub invariant-loop-answer : goal.invariant-loop-answer
invariant-loop-answer l = l.text ≡ answers_text l.self.terms.schema (map (filled_at l.self.publishes l.self.covers) l.yielded)
