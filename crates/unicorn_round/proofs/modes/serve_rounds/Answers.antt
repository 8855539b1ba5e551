use Rattle.unicorn_round.specs.Modes.{Serves, nothing_more}
use Rattle.unicorn_round.proofs.Complete.{completes}
use Rattle.unicorn_round.proofs.modes.serve_rounds.Goals as goal

pub returns-clause-complete : goal.returns-clause-complete
returns-clause-complete g c =
    completes c.args.limits Serves nothing_more (g.S.Source.left c.args.source.now) (g.S.Source.left c.answer_script.new.source)
    (g.K.Sink.taken c.args.sink.now) (g.K.Sink.taken c.answer_script.new.sink) (g.S.Source.faults c.args.source.now) (g.S.Source.faults c.answer_script.new.source)
    (g.K.Sink.faults c.args.sink.now) (g.K.Sink.faults c.answer_script.new.sink) c.answer_script.result c.answer_script.ensures.ran c.answer_script.ensures.reads c.answer_script.ensures.writes
