use Rattle.std.proofs.Common.{◌≡◌, ◌++◌, ◌+◌, arith, length, sym, subst, ap}
use Rattle.version_catalog.specs.Seats.{compactor_installs, feeder_journal, settings_of}
use Rattle.round_feed.specs.Feeds.{Feed}
use Rattle.unicorn_round.specs.Ending.{IsEnded}
use Rattle.unicorn_round.specs.Parted.{slots_in}
use Rattle.unicorn_round.specs.Queues.{answers_at, shown_by}
use Rattle.unicorn_round.specs.Told.{AreWithin, stacks_told}
use Rattle.unicorn_round.specs.Weaving.{merged}
use Rattle.unicorn_round.proofs.EndingSteps.{is_ended, seen_alike}
use Rattle.unicorn_round.proofs.Results.{if_ok, on_ok}
use Rattle.unicorn_round.proofs.tidy.end_round.Goals as goal

pub returns-clause-within : goal.returns-clause-within
returns-clause-within g c =
    let made = c.publishes-made.result in
    let seen = seen_alike c.args.feeder.now c.tell_compactor.new.feeder c.tell_compactor.new.compactor c.tidy_due.new.compactor made c.tell_compactor.ensures.told c.tidy_due.ensures.compactor.later c.hear_compactor.ensures.heard
    c.tell_compactor.ensures.feeder.feed c.publishes-made.ensures in
    let tidied = (c.in_ok-tidied.ensures {u = tt}).tidied seen.0 seen.1 in
    let fed : length (feeder_journal c.args.feeder.now) ≡ made = omega (arith, ap (λ (f : Feed). length f.journal) c.tell_compactor.ensures.feeder.feed, c.publishes-made.ensures) in
    let end : made ≡ length (feeder_journal c.hear_compactor.new.feeder) = omega (arith, c.publishes-made.ensures, ap (λ (f : Feed). length f.journal) c.hear_compactor.ensures.feeder.feed) in
    let kept : AreWithin made (compactor_installs c.tell_compactor.new.compactor) = subst (AreWithin made) (sym c.tell_compactor.ensures.kept) (subst (λ n. AreWithin n (compactor_installs c.args.compactor.now)) fed c.requires.within) in
    on_ok c.put_together.result (subst (λ n. AreWithin n (compactor_installs c.hear_compactor.new.compactor)) end (subst (AreWithin made) (sym c.hear_compactor.ensures.kept) (tidied.within kept)))

pub returns-clause-ended : goal.returns-clause-ended
returns-clause-ended g c =
    let schema = (settings_of c.args.catalogue.now).schema in
    let made = c.publishes-made.result in
    let stacks = c.in_ok-tidied.stacks in
    let answers = c.args.answers in
    let seen = seen_alike c.args.feeder.now c.tell_compactor.new.feeder c.tell_compactor.new.compactor c.tidy_due.new.compactor made c.tell_compactor.ensures.told c.tidy_due.ensures.compactor.later c.hear_compactor.ensures.heard
    c.tell_compactor.ensures.feeder.feed c.publishes-made.ensures in
    let tidied = (c.in_ok-tidied.ensures {u = tt}).tidied seen.0 seen.1 in
    let end : made ≡ length (feeder_journal c.hear_compactor.new.feeder) = omega (arith, c.publishes-made.ensures, ap (λ (f : Feed). length f.journal) c.hear_compactor.ensures.feeder.feed) in
    if_ok (λ said. said ≡ merged (shown_by made stacks) (slots_in c.args.parts) answers.fed (answers_at answers.asked.items) answers.compacted ++ c.in_ok-tidied.tidied.items)
    (IsEnded (length (feeder_journal c.hear_compactor.new.feeder)) (stacks_told schema (compactor_installs c.args.compactor.now)) (stacks_told schema (compactor_installs c.hear_compactor.new.compactor)) c.args.parts answers) c.put_together.result
    (λ said says.
    is_ended schema made _ (compactor_installs c.tell_compactor.new.compactor) (compactor_installs c.args.compactor.now) (compactor_installs c.tidy_due.new.compactor) (compactor_installs c.hear_compactor.new.compactor)
    stacks c.in_ok-tidied.tidied.items c.args.parts answers said end c.tell_compactor.ensures.kept (sym c.hear_compactor.ensures.kept) tidied says)
    c.put_together.ensures
