use Rattle.std.proofs.lemmas.Result.{IfOk-weaker}
use Rattle.rack_aggregate.proofs.Runs.{run_shards}
use Rattle.rack_aggregate.proofs.racks.run_racks.Goals as goal

pub returns-clause-each : goal.returns-clause-each
returns-clause-each g c = IfOk-weaker c.run_among.result _ _ (λ v run. run_shards (λ i r. g.J.Fn.post c.args.job.now (i, tt) r) v.items run) c.run_among.ensures.gives
