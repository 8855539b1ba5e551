use Rattle.std.proofs.Common.{◌≡◌, ap, length, sym, subst, ◌∙◌}
use Rattle.shard_index.specs.Versions.{VersionState}
use Rattle.version_catalog.specs.Installs.{IsLayered}
use Rattle.version_catalog.specs.Seats.{compactor_installs, compactor_journal, settings_of}
use Rattle.unicorn_round.specs.SchemaStacks.{AreStacks}
use Rattle.unicorn_round.specs.Told.{stacks_of, stacks_told}
use Rattle.unicorn_round.proofs.Results.{both_ok, if_ok}
use Rattle.unicorn_round.proofs.Told.{stacks_are_told}
use Rattle.unicorn_round.proofs.tidy.stacks_now.Goals as goal

pub returns-clause-told : goal.returns-clause-told
returns-clause-told g c =
    let schema = (settings_of c.args.catalogue.now).schema in
    let version = c.version.result.now in
    let installs = compactor_installs c.pin_told.new.compactor in
    let made = length (compactor_journal c.pin_told.new.compactor) in
    let pinned = c.in_ok-pinned.ensures {u = tt} in
    let same : version.schema ≡ schema = ap (λ (v : VersionState). v.schema) c.version.ensures ∙ pinned.is.schema in
    let count = ap (λ (v : VersionState). v.publishes) c.version.ensures ∙ pinned.is.publishes in
    let layers : IsLayered schema installs made version = subst (IsLayered schema installs made) (sym c.version.ensures) pinned.layers in
    if_ok (λ stacks. (stacks ≡ stacks_of version) × AreStacks version.schema stacks) (λ stacks. stacks ≡ stacks_told schema installs) c.of_version.result
    (λ stacks says. says.0 ∙ stacks_are_told schema installs made version same count layers (subst (AreStacks version.schema) says.0 says.1))
    (both_ok (λ stacks. stacks ≡ stacks_of version) (AreStacks version.schema) c.of_version.result c.of_version.ensures.is c.of_version.ensures.are)

pub returns-clause-are : goal.returns-clause-are
returns-clause-are g c =
    let pinned = c.in_ok-pinned.ensures {u = tt} in
    let same : c.version.result.now.schema ≡ (settings_of c.args.catalogue.now).schema = ap (λ (v : VersionState). v.schema) c.version.ensures ∙ pinned.is.schema in
    if_ok (AreStacks c.version.result.now.schema) (AreStacks (settings_of c.args.catalogue.now).schema) c.of_version.result (λ stacks are. subst (λ schema. AreStacks schema stacks) same are) c.of_version.ensures.are
