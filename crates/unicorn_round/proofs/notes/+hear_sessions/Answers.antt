use Rattle.std.proofs.Common.{◌≡◌, ◌∷◌, sym, subst}
use Rattle.std.specs.List.{AllByRecursion}
use mathlib.Core.List.{IsPrefix}
use Rattle.version_catalog.specs.Seats.{feeder_journal, session_journal}
use Rattle.unicorn_round.proofs.RoundSeats.{heard_by}
use Rattle.unicorn_round.proofs.notes.+hear_sessions.Goals as goal

pub returns-clause-heard : goal.returns-clause-heard
returns-clause-heard t c =
    let is : c.args.sessions.now ≡ c.in-Some.first.now ∷ c.in-Some.others.now = (c.in-Some.ensures {u = tt}).cases.0 in
    subst (AllByRecursion (λ session. IsPrefix (session_journal session) (feeder_journal c.args.feeder.now))) (sym is)
    (c.hear_session.ensures.heard, heard_by c.args.feeder.now c.hear_session.new.feeder c.hear_session.ensures.feeder.feed c.in-Some.others.now c.hear_sessions.ensures.heard)
