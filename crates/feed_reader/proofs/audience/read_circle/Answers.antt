use Rattle.std.proofs.Common.{arith}
use Rattle.std.proofs.lemmas.Grind.{common_steps}
use Rattle.feed_reader.proofs.Circles.{circle_first}
use Rattle.feed_reader.proofs.audience.read_circle.Goals as goal

pub returns-in_err-key-clause-circle : goal.returns-in_err-key-clause-circle
returns-in_err-key-clause-circle c =
    let read = circle_first c.args.schema.now c.args.fields.now in
    grind (arith, common_steps, read)
