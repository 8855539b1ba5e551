use Rattle.std.proofs.Common.{arith}
use Rattle.std.proofs.lemmas.Grind.{common_steps}
use Rattle.feed_reader.proofs.Forms.{cut_target}
use Rattle.feed_reader.proofs.read.read_cut.Goals as goal

pub returns-in_err-target-clause-line : goal.returns-in_err-target-clause-line
returns-in_err-target-clause-line c =
    let none = cut_target c.args.schema.now c.args.fields c.type_no.new.fields c.word.new.self c.in_ok-type_no.type_no c.in_ok-key.key in
    grind (arith, common_steps, none)
