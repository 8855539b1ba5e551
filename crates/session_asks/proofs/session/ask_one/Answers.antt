use Rattle.std.proofs.Common.{subst, sym}
use Rattle.turn_lock.specs.Seats.{seat_seen}
use Rattle.version_catalog.specs.Journals.{batches}
use Rattle.version_catalog.specs.Seats.{settings_of, IsVersionOf}
use Rattle.session_asks.proofs.Replied.{replied_newest}
use Rattle.session_asks.proofs.session.ask_one.Goals as goal

pub returns-in-Ok-answer-clause-replied : goal.returns-in-Ok-answer-clause-replied
returns-in-Ok-answer-clause-replied g c =
    let settings = settings_of c.args.catalogue.now in
    let journal = batches (seat_seen c.pin.new.session) in
    let is : IsVersionOf settings journal c.version-version.result.now = subst (IsVersionOf settings journal) (sym c.version-version.ensures) (c.in-Ok.ensures {u = tt}).is in
    replied_newest settings _ journal _ c.args.ask.now c.in-Ok-answer.reply c.tables_are_kept.ensures c.pin.ensures.later is (c.in-Ok-answer.ensures {u = tt})
