use Rattle.turn_lock.specs.Seats.{seat_seen}
use Rattle.version_catalog.specs.Journals.{batches}
use Rattle.version_catalog.proofs.Histories.{batches_prefix, stands_after, stands_for}
use Rattle.version_catalog.proofs.Installs.{base_later}
use Rattle.version_catalog.proofs.catalogue.Catalogue.install.Goals as goal

pub install_in-installed-requires-clause-told : goal.install_in-installed-requires-clause-told
install_in-installed-requires-clause-told g c = (stands_after c.enter-turn.result.value c.args.self.now.settings _ _ c.requires.of.history c.enter-turn.ensures.later c.enter-turn.ensures.value).2

pub install_in-installed-requires-clause-base : goal.install_in-installed-requires-clause-base
install_in-installed-requires-clause-base g c =
    let settings = c.args.self.now.settings in
    let after = stands_after c.enter-turn.result.value settings _ _ c.requires.of.history c.enter-turn.ensures.later c.enter-turn.ensures.value in (
      batches (seat_seen c.enter-turn.new.seat),
      after.1,
      base_later settings.schema _ _ c.args.vertical c.args.shard c.args.replica c.args.covers c.args.base (batches_prefix _ _ c.enter-turn.ensures.later) c.requires.base,
    )

pub leave-requires-clause-value : goal.leave-requires-clause-value
leave-requires-clause-value g c =
    let settings = c.args.self.now.settings in
    let after = stands_after c.enter-turn.result.value settings _ _ c.requires.of.history c.enter-turn.ensures.later c.enter-turn.ensures.value in
    let base = base_later settings.schema _ _ c.args.vertical c.args.shard c.args.replica c.args.covers c.args.base (batches_prefix _ _ c.enter-turn.ensures.later) c.requires.base in
    stands_for c.install_in-installed.new.state settings (seat_seen c.enter-turn.new.seat) after.0
    (c.install_in-installed.ensures.keeps (batches (seat_seen c.enter-turn.new.seat)) after.1 base) c.install_in-installed.ensures.told

pub returns-clause-later : goal.returns-clause-later
returns-clause-later g c = rw c.leave.ensures.kept.1 (batches_prefix _ _ c.enter-turn.ensures.later)
