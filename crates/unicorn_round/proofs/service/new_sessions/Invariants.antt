-- the sessions so far are new, and the feeder is as it was
use Rattle.std.proofs.Common.{◌≡◌}
use Rattle.version_catalog.specs.Seats.{IsFeederOf, feeder_batch, feeder_journal, feeder_sessions, feeder_table, feeder_turns}
use Rattle.unicorn_round.specs.Service.{AreNew}
use Rattle.unicorn_round.proofs.service.new_sessions.Given as goal

abbrev pub invariant-loop : goal.invariant-loop
invariant-loop l = record {
  feeder : IsFeederOf l.catalogue l.feeder;
  made : feeder_sessions l.feeder ≡ l.counter;
  kept : (feeder_journal l.feeder ≡ feeder_journal l.fn.feeder) × (feeder_turns l.feeder ≡ feeder_turns l.fn.feeder) × (feeder_table l.feeder ≡ feeder_table l.fn.feeder) × (feeder_batch l.feeder ≡ feeder_batch l.fn.feeder);
  sessions : AreNew l.catalogue l.counter l.sessions.items;
}
