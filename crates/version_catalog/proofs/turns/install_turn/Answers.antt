use Rattle.version_catalog.proofs.Installs.{state_installs}
use Rattle.version_catalog.proofs.turns.install_turn.Goals as goal

pub returns-clause-keeps : goal.returns-clause-keeps
returns-clause-keeps c =
    state_installs c.args.state.now c.install.new.state c.args.vertical c.args.shard c.args.replica c.args.covers c.args.layer (c.in_ok-install.ensures {u = tt}).installed
