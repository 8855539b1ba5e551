use Rattle.std.proofs.Common.{rules, ◌≡◌, length, sym, ◌∙◌, ap, subst}
use Rattle.std.specs.Arc.{arc_value}
use Rattle.turn_lock.specs.Seats.{seat_seen}
use Rattle.twin_list.specs.Halves.{half_list}
use Rattle.version_catalog.specs.Journals.{batches}
use Rattle.version_catalog.specs.States.{version_in, StandsFor}
use Rattle.version_catalog.specs.declared.state.CatalogueState.{CatalogueState}
use Rattle.version_catalog.proofs.Histories.{batches_prefix, stands_after, stands_for}
use Rattle.version_catalog.proofs.Told.{told_with, stands_with, layered, layered_as}
use Rattle.version_catalog.proofs.catalogue.Catalogue.pin_told.Goals as goal

pub compare-requires-clause-other : goal.compare-requires-clause-other
compare-requires-clause-other g c =
    let told = (stands_after c.enter-turn.result.value c.args.self.now.settings _ _ c.requires.of.history c.enter-turn.ensures.later c.enter-turn.ensures.value).2 in
    (told.half, told.there, told.of ∙ c.args.self.now.told)

pub leave-requires-clause-value : goal.leave-requires-clause-value
leave-requires-clause-value g c =
    let settings = c.args.self.now.settings in
    let after = stands_after c.enter-turn.result.value settings _ _ c.requires.of.history c.enter-turn.ensures.later c.enter-turn.ensures.value in
    let other = c.compare.ensures.other in
    subst (λ s. StandsFor s (seat_seen c.enter-turn.new.seat)) (sym other.1)
    (stands_for _ settings (seat_seen c.enter-turn.new.seat) after.0 (stands_with c.enter-turn.result.value _ settings (batches (seat_seen c.enter-turn.new.seat)) after.1)
    (told_with c.enter-turn.result.value settings after.2 other.0 (other.2 ∙ sym c.args.self.now.told) (other.3 ∙ sym (c.compare.ensures.same after.2.half after.2.there))))

pub returns-in_err-version-clause-later : goal.returns-in_err-version-clause-later
returns-in_err-version-clause-later g c = rw c.leave.ensures.kept.1 (batches_prefix _ _ c.enter-turn.ensures.later)

pub returns-clause-later : goal.returns-clause-later
returns-clause-later g c = rw c.leave.ensures.kept.1 (batches_prefix _ _ c.enter-turn.ensures.later)

pub returns-clause-layers : goal.returns-clause-layers
returns-clause-layers g c =
    let settings = c.args.self.now.settings in
    let state = c.enter-turn.result.value in
    let journal = batches (seat_seen c.enter-turn.new.seat) in
    let after = stands_after state settings _ _ c.requires.of.history c.enter-turn.ensures.later c.enter-turn.ensures.value in
    let told = after.2 in
    let shared : arc_value c.in_ok-version.field-0 ≡ arc_value c.compare.new.state.version = search rules in
    let version : version_in state ≡ c.of.result = sym (c.of.ensures ∙ shared ∙ ap (λ (s : CatalogueState). arc_value s.version) c.compare.ensures.other.1) in
    layered_as settings.schema (half_list told.half) (half_list c.compare.new.mine) (length journal) (length (batches (seat_seen c.leave.new.seat))) (version_in state) c.of.result
    (c.compare.ensures.same told.half told.there ∙ sym c.compare.ensures.kept) (ap (λ es. length (batches es)) (sym c.leave.ensures.kept.1)) version (layered state settings journal after.1 told)
