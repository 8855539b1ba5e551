use Rattle.std.proofs.Common.{◌++◌, ap, sym, subst, ◌∙◌}
use mathlib.Core.List.{IsPrefix}
use Rattle.session_asks.specs.Seats.{AllHaveTaken, AllReplied}
use Rattle.version_catalog.specs.Seats.{compactor_journal, settings_of}
use Rattle.round_feed.specs.Compacted.{compact_entries, installs_by}
use Rattle.round_feed.specs.Feeds.{Feed}
use Rattle.unicorn_round.specs.Work.{MayAsk}
use Rattle.unicorn_round.proofs.Results.{at_if_ok}
use Rattle.unicorn_round.proofs.RoundSeats.{answered_round, heard_by, may_rest, may_still, taken_rest, taken_through}
use Rattle.unicorn_round.proofs.round.run_round.Goals as goal

pub tell_sessions-requires-clause-sessions : goal.tell_sessions-requires-clause-sessions
tell_sessions-requires-clause-sessions g c = may_rest c.args.catalogue.now c.args.sessions.now c.args.parts.now.asks.items c.requires.sessions.may

pub work-fed-requires-clause-sessions : goal.work-fed-requires-clause-sessions
work-fed-requires-clause-sessions g c κs within =
    subst (λ asks. MayAsk c.args.catalogue.now asks c.tell_sessions.new.sessions) (sym c.as_slice.ensures.value)
    (record {
      may = may_still c.args.catalogue.now c.args.sessions.now c.tell_sessions.new.sessions c.args.parts.now.asks.items c.requires.sessions.may c.tell_sessions.ensures.sessions;
      typed = c.requires.sessions.typed;
    })

pub hear_sessions-requires-clause-sessions : goal.hear_sessions-requires-clause-sessions
hear_sessions-requires-clause-sessions g c = taken_rest c.args.catalogue.now c.tell_sessions.new.sessions c.work-fed.new.sessions c.as_slice.result.now c.work-fed.ensures.asked.taken

pub returns-in_err-fed-clause-sessions : goal.returns-in_err-fed-clause-sessions
returns-in_err-fed-clause-sessions g c =
    taken_through c.args.catalogue.now c.args.sessions.now c.tell_sessions.new.sessions c.work-fed.new.sessions c.hear_sessions.new.sessions c.args.parts.now.asks.items
    c.tell_sessions.ensures.sessions (subst (AllHaveTaken c.args.catalogue.now c.tell_sessions.new.sessions c.work-fed.new.sessions) c.as_slice.ensures.value c.work-fed.ensures.asked.taken) c.hear_sessions.ensures.sessions

pub returns-in_err-compacted-clause-sessions : goal.returns-in_err-compacted-clause-sessions
returns-in_err-compacted-clause-sessions g c =
    taken_through c.args.catalogue.now c.args.sessions.now c.tell_sessions.new.sessions c.work-fed.new.sessions c.hear_sessions.new.sessions c.args.parts.now.asks.items
    c.tell_sessions.ensures.sessions (subst (AllHaveTaken c.args.catalogue.now c.tell_sessions.new.sessions c.work-fed.new.sessions) c.as_slice.ensures.value c.work-fed.ensures.asked.taken) c.hear_sessions.ensures.sessions

pub returns-in_err-asked-clause-sessions : goal.returns-in_err-asked-clause-sessions
returns-in_err-asked-clause-sessions g c =
    taken_through c.args.catalogue.now c.args.sessions.now c.tell_sessions.new.sessions c.work-fed.new.sessions c.hear_sessions.new.sessions c.args.parts.now.asks.items
    c.tell_sessions.ensures.sessions (subst (AllHaveTaken c.args.catalogue.now c.tell_sessions.new.sessions c.work-fed.new.sessions) c.as_slice.ensures.value c.work-fed.ensures.asked.taken) c.hear_sessions.ensures.sessions

pub returns-clause-sessions : goal.returns-clause-sessions
returns-clause-sessions g c =
    taken_through c.args.catalogue.now c.args.sessions.now c.tell_sessions.new.sessions c.work-fed.new.sessions c.hear_sessions.new.sessions c.args.parts.now.asks.items
    c.tell_sessions.ensures.sessions (subst (AllHaveTaken c.args.catalogue.now c.tell_sessions.new.sessions c.work-fed.new.sessions) c.as_slice.ensures.value c.work-fed.ensures.asked.taken) c.hear_sessions.ensures.sessions

pub returns-clause-answered : goal.returns-clause-answered
returns-clause-answered g c =
    let kept = c.hear_compactor.ensures.feeder.feed ∙ c.hear_sessions.ensures.feeder.feed in
    answered_round c.args.catalogue.now c.args.parts.now c.args.feeder.now c.tell_compactor.new.feeder c.work-fed.new.feeder c.hear_compactor.new.feeder
    c.tell_compactor.new.compactor c.work-fed.new.compactor c.tell_sessions.new.sessions c.work-fed.new.sessions
    (record { fed = c.in_ok-fed.field-0; compacted = c.in_ok-compacted.field-0; asked = c.in_ok-asked.field-0 })
    (c.tell_compactor.ensures.feeder.feed ∙ c.tell_sessions.ensures.feeder.feed) kept
    (at_if_ok _ c.work-fed.result.0 c.in_ok-fed.field-0 (c.in_ok-fed.was {u = tt}) c.work-fed.ensures.fed.fed)
    (at_if_ok _ c.work-fed.result.1.0 c.in_ok-compacted.field-0 (c.in_ok-compacted.was {u = tt}) c.work-fed.ensures.compacted.compacted)
    (subst (λ (f : Feed). IsPrefix f.journal (compactor_journal c.tell_compactor.new.compactor)) c.tell_sessions.ensures.feeder.feed c.tell_compactor.ensures.told)
    (subst (λ (f : Feed). IsPrefix (compactor_journal c.work-fed.new.compactor) f.journal) (sym c.hear_compactor.ensures.feeder.feed) c.hear_compactor.ensures.heard)
    (subst (λ asks. AllReplied (settings_of c.args.catalogue.now).schema c.tell_sessions.new.sessions c.work-fed.new.sessions asks c.in_ok-asked.field-0.items) c.as_slice.ensures.value
    (at_if_ok _ c.work-fed.result.1.1 c.in_ok-asked.field-0 (c.in_ok-asked.was {u = tt}) c.work-fed.ensures.asked.replied))
    (subst (AllHaveTaken c.args.catalogue.now c.tell_sessions.new.sessions c.work-fed.new.sessions) c.as_slice.ensures.value c.work-fed.ensures.asked.taken)
    c.tell_sessions.ensures.told
    (heard_by c.hear_compactor.new.feeder c.work-fed.new.feeder (sym kept) c.work-fed.new.sessions c.hear_sessions.ensures.heard)

pub returns-clause-installed : goal.returns-clause-installed
returns-clause-installed g c =
    c.hear_compactor.ensures.kept
    ∙ at_if_ok _ c.work-fed.result.1.0 c.in_ok-compacted.field-0 (c.in_ok-compacted.was {u = tt}) c.work-fed.ensures.compacted.installed
    ∙ ap (λ is. is ++ installs_by (compact_entries c.args.parts.now.compactions) c.in_ok-compacted.field-0) c.tell_compactor.ensures.kept
