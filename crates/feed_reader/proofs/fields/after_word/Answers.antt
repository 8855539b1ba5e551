use Rattle.feed_reader.proofs.Fronts.{after_cases, other_begun}
use Rattle.feed_reader.proofs.fields.after_word.Goals as goal

pub returns-in_default : goal.returns-in_default
returns-in_default c = other_begun c.args.word.now c.args.text.now c.in_default.ensures.cases

pub returns : goal.returns
returns c =
    after_cases c.args.word.now c.args.text.now c.in-Some.rest.now c.fields_after.result c.requires
    c.in-Some.ensures.cases.0 c.in-Some.ensures.cases.1 c.fields_after.ensures
