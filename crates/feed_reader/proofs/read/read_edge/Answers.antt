use Rattle.std.proofs.Common.{sym, arith}
use Rattle.std.proofs.lemmas.Grind.{common_steps}
use Rattle.feed_reader.proofs.Forms.{edge_target, edge_audience, edge_until, edge_told}
use Rattle.feed_reader.proofs.read.read_edge.Goals as goal

pub returns-in_err-target-clause-line : goal.returns-in_err-target-clause-line
returns-in_err-target-clause-line c =
    let none = edge_target c.args.schema.now c.args.schema.now.format c.args.fields c.type_no.new.fields c.word.new.self c.in_ok-type_no.type_no c.in_ok-key.key in
    grind (arith, common_steps, none)

pub returns-in_err-audience-clause-line : goal.returns-in_err-audience-clause-line
returns-in_err-audience-clause-line c =
    let none = edge_audience c.args.schema.now c.args.schema.now.format c.args.fields c.type_no.new.fields c.word.new.self c.id.new.self
    c.in_ok-type_no.type_no c.in_ok-key.key c.in_ok-target.target in
    grind (arith, common_steps, none)

pub returns-in_err-until-clause-line : goal.returns-in_err-until-clause-line
returns-in_err-until-clause-line c =
    let none = edge_until c.args.schema.now c.args.fields c.type_no.new.fields c.word.new.self c.id.new.self c.read_audience.new.fields
    c.in_ok-type_no.type_no c.in_ok-key.key c.in_ok-target.target c.in_ok-audience.audience c.in_err-until.field-0.0
    c.in_ok-type_no.ensures.number c.in_ok-key.ensures c.in_ok-target.ensures c.in_ok-audience.ensures.audience (sym c.in_err-until.ensures) in
    grind (arith, common_steps, none)

pub returns-in_err-type_no-2-clause-line : goal.returns-in_err-type_no-2-clause-line
returns-in_err-type_no-2-clause-line c =
    let told = edge_told c.args.schema.now c.args.fields c.type_no.new.fields c.word.new.self c.id.new.self c.read_audience.new.fields
    c.in_ok-type_no.type_no c.in_ok-key.key c.in_ok-target.target c.in_ok-audience.audience c.in_ok-until.until in
    grind (arith, common_steps, told)

pub returns-in_err-audience-2-clause-line : goal.returns-in_err-audience-2-clause-line
returns-in_err-audience-2-clause-line c =
    let told = edge_told c.args.schema.now c.args.fields c.type_no.new.fields c.word.new.self c.id.new.self c.read_audience.new.fields
    c.in_ok-type_no.type_no c.in_ok-key.key c.in_ok-target.target c.in_ok-audience.audience c.in_ok-until.until in
    grind (arith, common_steps, told)

pub returns-clause-line : goal.returns-clause-line
returns-clause-line c =
    let told = edge_told c.args.schema.now c.args.fields c.type_no.new.fields c.word.new.self c.id.new.self c.read_audience.new.fields
    c.in_ok-type_no.type_no c.in_ok-key.key c.in_ok-target.target c.in_ok-audience.audience c.in_ok-until.until in
    grind (arith, common_steps, told)
