use Rattle.feed_reader.proofs.Fronts.{front_cases, no_front}
use Rattle.feed_reader.proofs.fields.after_front.Goals as goal

pub returns-in_default : goal.returns-in_default
returns-in_default c = no_front c.args.word.now c.args.text.now c.in_default.ensures.cases

pub returns : goal.returns
returns c =
    front_cases c.args.word.now c.args.text.now c.in-Some.rest.now c.after_colon.result
    c.in-Some.ensures.cases.0 c.in-Some.ensures.cases.1 c.after_colon.ensures
