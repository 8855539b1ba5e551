use Rattle.std.proofs.Common.{ap, ◌∙◌}
use Rattle.std.specs.Arc.{arc_value}
use Rattle.uni_table.specs.TableState.{TableState}
use Rattle.unicorn_round.proofs.ReadyService.{opened}
use Rattle.unicorn_round.proofs.service.Service.open.Goals as goal

pub returns : goal.returns
returns g c =
    let schema = arc_value c.args.schema in
    let new = c.in_ok-catalogue.ensures in
    let kept = c.new_sessions.ensures.kept in
    opened _ c.args.limits schema new.settings c.requires c.new_sessions.ensures.feeder (kept.0 ∙ new.journals.0) (kept.3 ∙ new.batch)
    (ap (λ (t : TableState). t.contents) (kept.2 ∙ new.table)) (kept.1 ∙ new.counts.0) new.compactor new.counts.2 c.in_ok-sessions.ensures.sessions new.installs
