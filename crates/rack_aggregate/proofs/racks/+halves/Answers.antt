use Rattle.std.proofs.Common.{◌≡◌, ◌+◌, ◌/◌, ◌++◌, arith, subst, sym, vec_len}
use Rattle.std.proofs.lemmas.Result.{IfOk-at_ok}
use Rattle.rack_aggregate.specs.Runs.{GivesRun}
use Rattle.rack_aggregate.proofs.Runs.{run_append}
use Rattle.rack_aggregate.proofs.racks.+halves.Goals as goal

pub run_among-returns-clause-gives : goal.run_among-returns-clause-gives
run_among-returns-clause-gives g t c =
    let from = c.args.from in let middle = c.args.from + c.args.count / 2 in
    let front = c.in_ok-all.all.items in let back = c.in_ok-back.back.items in
    let long : vec_len c.in_ok-all.all ≡ c.args.count / 2 = IfOk-at_ok (λ v. vec_len v ≡ c.args.count / 2) c.in_ok-all.was c.run_both-front.ensures.front_len in
    let first : GivesRun (λ i r. g.J.Fn.post c.args.job.now (i, tt) r) from front = IfOk-at_ok (λ v. GivesRun (λ i r. g.J.Fn.post c.args.job.now (i, tt) r) from v.items) c.in_ok-all.was c.run_both-front.ensures.front in
    let second : GivesRun (λ i r. g.J.Fn.post c.args.job.now (i, tt) r) middle back = IfOk-at_ok (λ v. GivesRun (λ i r. g.J.Fn.post c.args.job.now (i, tt) r) middle v.items) c.in_ok-back.was c.run_both-front.ensures.back in
    let more : c.append.new.self.items ≡ front ++ back = c.in_ok-append.ensures.items in
    subst (GivesRun (λ i r. g.J.Fn.post c.args.job.now (i, tt) r) from) (sym more)
    (run_append (λ i r. g.J.Fn.post c.args.job.now (i, tt) r) from middle front back (omega (arith, long, c.in_ok-all.all.ok.0)) first second)
