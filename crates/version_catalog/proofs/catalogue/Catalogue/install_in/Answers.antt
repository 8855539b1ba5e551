use Rattle.std.proofs.Common.{◌++◌, ◌∷◌, [], sym, ◌∙◌, ap, subst}
use Rattle.version_catalog.specs.Installs.{install_of}
use Rattle.version_catalog.specs.States.{StateStands, IsTold}
use Rattle.version_catalog.proofs.Told.{told_installed, stands_with}
use Rattle.version_catalog.proofs.catalogue.Catalogue.install_in.Goals as goal

pub install_turn-requires : goal.install_turn-requires
install_turn-requires c = (c.args.self.now.settings, c.requires.base.0, c.requires.base.1, c.requires.base.2)

pub tell-requires-clause-other : goal.tell-requires-clause-other
tell-requires-clause-other c =
    let told = c.requires.told in
    let has = (c.in_ok-install_turn.ensures {u = tt}).installed in
    (told.half, has.half ∙ told.there, told.of ∙ c.args.self.now.told)

pub returns-clause-told : goal.returns-clause-told
returns-clause-told c =
    let told = c.requires.told in
    let has = (c.in_ok-install_turn.ensures {u = tt}).installed in
    let other = c.tell.ensures.other in
    let alike = c.tell.ensures.same told.half (has.half ∙ told.there) in
    let longer = other.3 ∙ ap (λ l. l ++ install_of c.args.vertical c.args.shard c.args.replica c.args.covers ∷ []) (sym alike) in
    subst (λ s. IsTold s c.args.self.now.settings) (sym other.1)
    (told_installed c.args.state.now c.install_turn.new.state c.args.self.now.settings c.requires.base.0 c.requires.base.1 told c.args.vertical c.args.shard c.args.replica c.args.covers c.args.base
    c.requires.base.2.stack has other.0 (other.2 ∙ sym c.args.self.now.told) longer)

pub returns-clause-keeps : goal.returns-clause-keeps
returns-clause-keeps c journal stands base =
    let other = c.tell.ensures.other in
    subst (λ s. StateStands s c.args.self.now.settings journal) (sym other.1)
    (stands_with c.install_turn.new.state _ c.args.self.now.settings journal (c.install_turn.ensures.keeps c.args.self.now.settings journal stands base))
