use Rattle.std.proofs.Common.{arith, ◌<◌, length, ap}
use Rattle.uni_base.specs.declared.limits.Limits.{Limits}
use Rattle.version_catalog.proofs.Growth.{state_gains}
use Rattle.version_catalog.proofs.turns.publish_turn.Goals as goal

pub returns-clause-gains : goal.returns-clause-gains
returns-clause-gains c settings journal st accepts fit =
    let told = c.in_ok-number.ensures {u = tt} in
    let below : length journal < settings.limits.publishes = omega (arith, told.below, st.publishes, ap (λ (l : Limits). l.publishes) st.limits) in
    state_gains c.args.state.now settings journal st c.args.batch.now c.args.layers.now.layers.items fit c.lengthen.new.state told.published accepts below
