use Rattle.unicorn_round.proofs.Words.{ran_at_once}
use Rattle.unicorn_round.proofs.program.run.Goals as goal

pub returns-in-Err-Memory-clause-ran : goal.returns-in-Err-Memory-clause-ran
returns-in-Err-Memory-clause-ran g c = λ taken settings asked.
    ran_at_once settings.mode settings.seed settings.people (g.S.Source.left c.args.source.now) (g.K.Sink.taken c.args.sink.now)
