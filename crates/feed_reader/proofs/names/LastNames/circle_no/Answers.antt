use Rattle.uni_schema.specs.Schema.{type_no}
use Rattle.feed_reader.proofs.Circles.{last_front}
use Rattle.feed_reader.proofs.names.LastNames.circle_no.Goals as goal

pub returns-in-Some-clause-number : goal.returns-in-Some-clause-number
returns-in-Some-clause-number c =
    last_front (type_no c.args.schema.now) c.args.self.now.circle c.args.fields.now c.take_last_front.new.fields c.in-Some.number c.requires.circle c.in-Some.ensures
