use Rattle.std.proofs.Common.{rules, ◌≡◌, [], ◌+◌, ◌*◌, arith, length, map, filter, sym, subst, ap, ◌∙◌}
use Rattle.std.proofs.lemmas.Bool.Decides.{nat_tests}
use Rattle.std.specs.List.{AllByRecursion}
use Rattle.std.specs.Vec.{vec_len}
use Rattle.shard_index.specs.Versions.{VersionState}
use Rattle.session_asks.proofs.Replied.{length_prefix}
use Rattle.version_catalog.specs.Installs.{IsLayered, Raises}
use Rattle.version_catalog.specs.Seats.{compactor_installs, compactor_journal, settings_of}
use Rattle.unicorn_round.specs.SchemaStacks.{AreStacks, IsStackOf, is_layered}
use Rattle.unicorn_round.specs.Stacks.{due_untidied, is_due, name_of, tidy_answers}
use Rattle.unicorn_round.specs.Told.{HasTidied, id_of, stacks_told}
use Rattle.unicorn_round.proofs.EndingSteps.{due_are, turned_through}
use Rattle.unicorn_round.proofs.Told.{has_tidied, length_nothing, nothing_tidied}
use Rattle.unicorn_round.proofs.tidy.tidy_due.Goals as goal

pub tidy_stacks-requires-clause-compactor : goal.tidy_stacks-requires-clause-compactor
tidy_stacks-requires-clause-compactor g c κs within =
    let due = due_are (settings_of c.args.catalogue.now).schema c.in_ok-before.before (c.in_ok-before.ensures {u = tt}).are (is_due c.args.made) c.in_ok-due.due.items c.as_slice.result.now c.as_slice.ensures.value (c.in_ok-due.ensures {u = tt}) in
    record { of = c.stacks_now.ensures.compactor.of; few = omega (arith, c.requires.compactor.few, c.stacks_now.ensures.compactor.few, due.few) }

pub tidy_stacks-requires-clause-stacks : goal.tidy_stacks-requires-clause-stacks
tidy_stacks-requires-clause-stacks g c κs within =
    let due = due_are (settings_of c.args.catalogue.now).schema c.in_ok-before.before (c.in_ok-before.ensures {u = tt}).are (is_due c.args.made) c.in_ok-due.due.items c.as_slice.result.now c.as_slice.ensures.value (c.in_ok-due.ensures {u = tt}) in
    due.each

pub returns-in_err-pinned-clause-compactor : goal.returns-in_err-pinned-clause-compactor
returns-in_err-pinned-clause-compactor g c =
    let due = due_are (settings_of c.args.catalogue.now).schema c.in_ok-before.before (c.in_ok-before.ensures {u = tt}).are (is_due c.args.made) c.in_ok-due.due.items c.as_slice.result.now c.as_slice.ensures.value (c.in_ok-due.ensures {u = tt}) in
    turned_through c.args.catalogue.now 1 (2 * length c.as_slice.result.now + 1) 8194 c.args.compactor.now c.stacks_now.new.compactor c.tidy_stacks.new.compactor c.stacks_now.ensures.compactor c.tidy_stacks.ensures.compactor (omega (arith, due.few))

pub returns-in_err-answers-clause-compactor : goal.returns-in_err-answers-clause-compactor
returns-in_err-answers-clause-compactor g c =
    let due = due_are (settings_of c.args.catalogue.now).schema c.in_ok-before.before (c.in_ok-before.ensures {u = tt}).are (is_due c.args.made) c.in_ok-due.due.items c.as_slice.result.now c.as_slice.ensures.value (c.in_ok-due.ensures {u = tt}) in
    turned_through c.args.catalogue.now 1 (2 * length c.as_slice.result.now + 1) 8194 c.args.compactor.now c.stacks_now.new.compactor c.tidy_stacks.new.compactor c.stacks_now.ensures.compactor c.tidy_stacks.ensures.compactor (omega (arith, due.few))

pub returns-in_err-after-clause-compactor : goal.returns-in_err-after-clause-compactor
returns-in_err-after-clause-compactor g c =
    let due = due_are (settings_of c.args.catalogue.now).schema c.in_ok-before.before (c.in_ok-before.ensures {u = tt}).are (is_due c.args.made) c.in_ok-due.due.items c.as_slice.result.now c.as_slice.ensures.value (c.in_ok-due.ensures {u = tt}) in
    turned_through c.args.catalogue.now 1 (2 * length c.as_slice.result.now + 1) 8194 c.args.compactor.now c.stacks_now.new.compactor c.tidy_stacks.new.compactor c.stacks_now.ensures.compactor c.tidy_stacks.ensures.compactor (omega (arith, due.few))

pub returns-clause-compactor : goal.returns-clause-compactor
returns-clause-compactor g c =
    let due = due_are (settings_of c.args.catalogue.now).schema c.in_ok-before.before (c.in_ok-before.ensures {u = tt}).are (is_due c.args.made) c.in_ok-due.due.items c.as_slice.result.now c.as_slice.ensures.value (c.in_ok-due.ensures {u = tt}) in
    turned_through c.args.catalogue.now 1 (2 * length c.as_slice.result.now + 1) 8194 c.args.compactor.now c.stacks_now.new.compactor c.tidy_stacks.new.compactor c.stacks_now.ensures.compactor c.tidy_stacks.ensures.compactor (omega (arith, due.few))

pub tidied_in-requires-clause-due : goal.tidied_in-requires-clause-due
tidied_in-requires-clause-due g c =
    let due = due_are (settings_of c.args.catalogue.now).schema c.in_ok-before.before (c.in_ok-before.ensures {u = tt}).are (is_due c.args.made) c.in_ok-due.due.items c.as_slice-2.result.now c.as_slice-2.ensures.value (c.in_ok-due.ensures {u = tt}) in
    let same : c.version-version.result.now.schema ≡ (settings_of c.args.catalogue.now).schema = ap (λ (v : VersionState). v.schema) c.version-version.ensures ∙ (c.in_ok-pinned.ensures {u = tt}).is.schema in
    subst (λ schema. AllByRecursion (IsStackOf schema) c.as_slice-2.result.now) (sym same) due.each

pub returns-clause-tidied : goal.returns-clause-tidied
returns-clause-tidied g c = λ first last.
    let schema = (settings_of c.args.catalogue.now).schema in
    let made = c.args.made in
    let before = compactor_installs c.args.compactor.now in
    let after = compactor_installs c.tidy_stacks.new.compactor in
    let version = c.version-version.result.now in
    let stacks = c.in_ok-before.ensures {u = tt} in
    let pinned = c.in_ok-pinned.ensures {u = tt} in
    let same : version.schema ≡ schema = ap (λ (v : VersionState). v.schema) c.version-version.ensures ∙ pinned.is.schema in
    let begun = length_prefix (compactor_journal c.args.compactor.now) (compactor_journal c.stacks_now.new.compactor) c.stacks_now.ensures.compactor.later in
    let ended = length_prefix (compactor_journal c.stacks_now.new.compactor) (compactor_journal c.tidy_stacks.new.compactor) c.tidy_stacks.ensures.compactor.later in
    let between : length (compactor_journal c.stacks_now.new.compactor) ≡ made = omega (arith, first, last, begun, ended) in
    let told : c.in_ok-before.before ≡ stacks_told schema before = stacks.told ∙ ap (stacks_told schema) c.stacks_now.ensures.kept in
    let chosen : c.as_slice.result.now ≡ filter (is_due made) (stacks_told schema before) = c.as_slice.ensures.value ∙ (c.in_ok-due.ensures {u = tt}) ∙ ap (filter (is_due made)) told in
    let raises : Raises (map id_of c.as_slice.result.now) made before after =
    subst (λ is. Raises (map id_of c.as_slice.result.now) made is after) c.stacks_now.ensures.kept (subst (λ n. Raises (map id_of c.as_slice.result.now) n (compactor_installs c.stacks_now.new.compactor) after) between pinned.raises) in
    let layers : IsLayered schema after made version = subst (IsLayered schema after made) (sym c.version-version.ensures) (subst (λ n. IsLayered schema after n c.in_ok-pinned.pinned) last pinned.layers) in
    let count : version.publishes ≡ made = ap (λ (v : VersionState). v.publishes) c.version-version.ensures ∙ pinned.is.publishes ∙ last in
    let now = c.in_ok-after.ensures {u = tt} in
    let two : c.as_slice-2.result.now ≡ c.as_slice.result.now = c.as_slice-2.ensures.value ∙ sym c.as_slice.ensures.value in
    let says : c.in_ok-answers.answers.items ≡ tidy_answers made (due_untidied made (map name_of (filter (is_layered version) c.as_slice.result.now)) (stacks_told schema before)) (stacks_told schema before) =
    (c.in_ok-answers.ensures {u = tt}) ∙ (λ i. tidy_answers made (due_untidied made (map name_of (filter (is_layered version) (two i))) (told i)) (told i)) in
    has_tidied schema before after made version c.as_slice.result.now c.in_ok-after.after c.in_ok-answers.answers.items same count layers (subst (AreStacks schema) told stacks.are) chosen raises now.is now.are says

pub returns-then-is_empty-clause-tidied : goal.returns-then-is_empty-clause-tidied
returns-then-is_empty-clause-tidied g c = λ first last.
    let schema = (settings_of c.args.catalogue.now).schema in
    let before = compactor_installs c.args.compactor.now in
    let after = compactor_installs c.stacks_now.new.compactor in
    let stacks = c.in_ok-before.ensures {u = tt} in
    let long : vec_len c.in_ok-due.due ≡ length c.in_ok-due.due.items = search rules in
    let zero : length c.in_ok-due.due.items ≡ 0 = grind (arith, c.is_empty.ensures, c.if-is_empty.true, long, nat_tests) in
    let empty = length_nothing c.in_ok-due.due.items zero in
    subst (HasTidied schema c.args.made before after c.in_ok-before.before) (sym c.new.ensures.items)
    (nothing_tidied schema before after c.args.made c.in_ok-before.before (stacks.told ∙ ap (stacks_told schema) c.stacks_now.ensures.kept) (sym c.stacks_now.ensures.kept) (sym empty ∙ (c.in_ok-due.ensures {u = tt})))
