use Rattle.std.proofs.Common.{arith, sym}
use Rattle.std.proofs.lemmas.Grind.{common_steps}
use Rattle.feed_reader.proofs.FrontWords.{no_word, word_goes_on, word_taken}
use Rattle.feed_reader.proofs.fields.first_word.Goals as goal

pub returns-in_default : goal.returns-in_default
returns-in_default c = sym (no_word c.args.text.now c.in_default.ensures)

pub returns-in-Some-fields_after : goal.returns-in-Some-fields_after
returns-in-Some-fields_after c =
    let front = c.in-Some.ensures in
    let taken = word_taken c.args.text.now c.in-Some.word c.in-Some.after.now c.in-Some-fields_after.rest front.0 front.2 in
    grind (arith, common_steps, taken)

pub returns-in-None : goal.returns-in-None
returns-in-None c =
    let front = c.in-Some.ensures in
    let none = word_goes_on c.args.text.now c.in-Some.word c.in-Some.after.now front.0 front.1 front.2 in
    grind (arith, common_steps, none)
