use Rattle.std.proofs.Common.{rules, ◌≡◌, [], ◌∷◌, ◌++◌, refl, sym, subst, ap, ◌∙◌}
use Rattle.turn_lock.specs.Seats.{writer_seen}
use Rattle.version_catalog.specs.Settings.{SettingsState}
use Rattle.version_catalog.specs.States.{StandsFor, StateStands}
use Rattle.version_catalog.specs.declared.entry.Entry.TheVariants.{Opening}
use Rattle.version_catalog.proofs.Told.{told_opening}
use Rattle.version_catalog.proofs.catalogue.Catalogue.new.Goals as goal

pub leave_with_entry-requires-clause-value : goal.leave_with_entry-requires-clause-value
leave_with_entry-requires-clause-value g c =
    let opening = c.in_ok-opening.opening in
    let settings = c.new-2.result in
    let made = c.in_ok-opening.ensures {u = tt} in
    let halves = c.in_ok-installs.ensures {u = tt} in
    let none : writer_seen c.enter_writer-turn.new.writer ≡ [] = search rules in
    let same : c.new-settings.result ≡ settings = search rules in
    subst (λ es. StandsFor opening (es ++ Opening settings ∷ [])) (sym none) (
      refl,
      subst (λ s. StateStands opening s []) same made.stands,
      told_opening opening settings c.in_ok-installs.other made.half (halves.of.1 ∙ sym (ap (λ (s : SettingsState). s.installs) c.new-2.ensures)) halves.none.1 made.none,
    )
