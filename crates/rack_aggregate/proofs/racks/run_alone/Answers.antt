use Rattle.std.proofs.Common.{◌≡◌, ◌∷◌, ◌++◌, [], ap, arith, length, length-append, subst, sym}
use Rattle.rack_aggregate.specs.Runs.{GivesRun}
use Rattle.rack_aggregate.proofs.Runs.{run_push}
use Rattle.rack_aggregate.proofs.racks.run_alone.Goals as goal

pub loop-shard-preserved : goal.loop-shard-preserved
loop-shard-preserved g c =
    let xs = c.loop-shard.all.items in let x = c.in_ok-job.field-0 in
    let more : c.push.new.self.items ≡ xs ++ x ∷ [] = c.in_ok-push.ensures.items in
    record {
      len = omega (arith, ap length more, length-append xs (x ∷ []), c.loop-shard.invariant.len);
      gives = subst (GivesRun (λ i r. g.J.Fn.post c.args.job.now (i, tt) r) c.args.from) (sym more)
          (run_push (λ i r. g.J.Fn.post c.args.job.now (i, tt) r) c.args.from c.loop-shard.shard xs x c.loop-shard.invariant.len c.loop-shard.invariant.gives c.in_ok-job.ensures);
    }
