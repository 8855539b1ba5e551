use Rattle.std.proofs.Common.{arith}
use Rattle.reply_text.proofs.Spaced.{numbers_end}
use Rattle.reply_text.proofs.field.add_numbers.Goals as goal

pub returns : goal.returns
returns c = numbers_end c.args.text.now c.loop-number.text c.args.word.now c.args.numbers.now c.loop-number.number-index (omega arith) c.loop-number.invariant
