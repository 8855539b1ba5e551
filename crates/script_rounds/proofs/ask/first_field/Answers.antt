use Rattle.script_rounds.proofs.Fields.{cut_at-short}
use Rattle.script_rounds.proofs.ask.first_field.Goals as goal

pub returns-in-Some-clause-short : goal.returns-in-Some-clause-short
returns-in-Some-clause-short c = cut_at-short 32 c.args.text.now (c.in-Some.parts.0.now, c.in-Some.parts.1.now) c.in-Some.ensures
