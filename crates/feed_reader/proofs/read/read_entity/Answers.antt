use Rattle.std.proofs.Common.{arith}
use Rattle.std.proofs.lemmas.Grind.{common_steps}
use Rattle.feed_reader.proofs.Forms.{entity_id, entity_rank, entity_end, entity_told}
use Rattle.feed_reader.proofs.read.read_entity.Goals as goal

pub returns-in_err-id-clause-line : goal.returns-in_err-id-clause-line
returns-in_err-id-clause-line c =
    let none = entity_id c.args.schema.now c.args.fields c.vertical_no.new.fields c.in_ok-vertical.vertical in
    grind (arith, common_steps, none)

pub returns-in_err-rank-clause-line : goal.returns-in_err-rank-clause-line
returns-in_err-rank-clause-line c =
    let none = entity_rank c.args.schema.now c.args.fields c.vertical_no.new.fields c.id.new.self c.in_ok-vertical.vertical c.in_ok-id.id in
    grind (arith, common_steps, none)

pub returns-in_err-end-clause-line : goal.returns-in_err-end-clause-line
returns-in_err-end-clause-line c =
    let none = entity_end c.args.schema.now c.args.fields c.vertical_no.new.fields c.id.new.self c.number.new.self c.in_ok-vertical.vertical c.in_ok-id.id c.in_ok-rank.rank in
    grind (arith, common_steps, none)

pub returns-in_err-vertical-2-clause-line : goal.returns-in_err-vertical-2-clause-line
returns-in_err-vertical-2-clause-line c =
    let told = entity_told c.args.schema.now c.args.fields c.vertical_no.new.fields c.id.new.self c.number.new.self c.in_ok-vertical.vertical c.in_ok-id.id c.in_ok-rank.rank in
    grind (arith, common_steps, told)

pub returns-clause-line : goal.returns-clause-line
returns-clause-line c =
    let told = entity_told c.args.schema.now c.args.fields c.vertical_no.new.fields c.id.new.self c.number.new.self c.in_ok-vertical.vertical c.in_ok-id.id c.in_ok-rank.rank in
    grind (arith, common_steps, told)
