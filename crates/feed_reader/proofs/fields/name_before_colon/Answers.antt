use Rattle.std.proofs.Common.{arith}
use Rattle.std.proofs.lemmas.Grind.{common_steps}
use Rattle.feed_reader.proofs.FrontWords.{name_taken, no_colon, no_name}
use Rattle.feed_reader.proofs.fields.name_before_colon.Goals as goal

pub returns-in_default-clause-name : goal.returns-in_default-clause-name
returns-in_default-clause-name c = no_name c.args.text.now c.in_default.ensures

pub returns-in-Some-after_colon-clause-name : goal.returns-in-Some-after_colon-clause-name
returns-in-Some-after_colon-clause-name c =
    let taken = name_taken c.args.text.now c.in-Some.word c.in-Some.after.now c.in-Some-after_colon.rest.now in
    grind (arith, common_steps, taken)

pub returns-in-None-clause-name : goal.returns-in-None-clause-name
returns-in-None-clause-name c =
    let front = c.in-Some.ensures in
    let none = no_colon c.args.text.now c.in-Some.word c.in-Some.after.now front.1 front.2 in
    grind (arith, common_steps, none)
