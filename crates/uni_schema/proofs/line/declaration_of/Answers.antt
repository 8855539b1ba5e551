use Rattle.std.proofs.Common.{◌∙◌, ap}
use Rattle.uni_schema.specs.Lines.{declared_by}
use Rattle.uni_schema.proofs.Texts.{written_if}
use Rattle.uni_schema.proofs.line.declaration_of.Goals as goal

pub returns-clause-written : goal.returns-clause-written
returns-clause-written c = written_if c.args.line.now _ (c.declared_by.ensures ∙ ap declared_by c.of.ensures)
