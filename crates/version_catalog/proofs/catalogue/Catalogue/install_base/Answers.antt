use Rattle.std.proofs.Common.{rules, ◌≡◌, sym, subst}
use Rattle.version_catalog.specs.Bases.{StandsAfter}
use Rattle.version_catalog.specs.Seats.{settings_of, compactor_journal}
use Rattle.version_catalog.proofs.Told.{raises_by}
use Rattle.version_catalog.proofs.catalogue.Catalogue.install_base.Goals as goal

pub install-requires-clause-base : goal.install-requires-clause-base
install-requires-clause-base g c =
    let schema = (settings_of c.args.self.now).schema in
    let journal = compactor_journal c.args.compactor.now in
    let same : c.in_ok-layer.layer ≡ c.in_ok-layer_for.field-0.now = search rules in
    let stands = subst (StandsAfter schema journal c.args.covers c.args.stack.vertical c.args.stack.shard) (sym same)
    (c.in_ok-layer_for.ensures schema journal c.args.covers c.requires.bases) in
    record { stack = c.requires.stack; within = stands.within; rows = stands.rows }

pub returns-clause-raises : goal.returns-clause-raises
returns-clause-raises g c = raises_by c.install.result c.args.stack c.args.covers _ _ c.install.ensures.installed c.install.ensures.kept
