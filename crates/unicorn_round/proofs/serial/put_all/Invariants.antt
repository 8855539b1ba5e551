-- with the commands that are left, the table comes to what all of them make of it
use Rattle.std.proofs.Common.{◌≡◌, drop}
use Rattle.uni_table.specs.Journals.{after_commands}
use Rattle.unicorn_round.proofs.serial.put_all.Given as goal

abbrev pub invariant-loop-command : goal.invariant-loop-command
invariant-loop-command l = record {
  schema : l.table.schema ≡ l.fn.table.schema;
  limits : l.table.limits ≡ l.fn.table.limits;
  published : l.table.published ≡ l.fn.table.published;
  rest : after_commands l.fn.table.schema l.table.contents (drop l.command-index l.commands) ≡ after_commands l.fn.table.schema l.fn.table.contents l.commands;
}
