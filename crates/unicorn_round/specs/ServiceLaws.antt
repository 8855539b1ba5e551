-- What a service says of its text.
use Rattle.std.specs.Prelude.{ℕ, List}
use Rattle.script_rounds.specs.Entries.{Entry}
use Rattle.round_feed.specs.Seats.{feed_of}
use Rattle.unicorn_round.specs.Modes.{Serves}
use Rattle.unicorn_round.specs.ServedLaws.{served_claims}
use Rattle.unicorn_round.specs.Service.{ServiceStands, service_stacks, service_terms}
use Rattle.unicorn_round.specs.declared.service.Service.{Service}

pub service_claims : (service : Service) (rounds : List (List Entry)) (text : List ℕ) → ServiceStands service rounds text → Serves (service_terms service) rounds text
service_claims service rounds text s = served_claims (service_terms service) rounds (feed_of service.feeder) (service_stacks service) s.said text s.served s.writes
