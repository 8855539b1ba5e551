use Rattle.std.proofs.Common.{◌∙◌}
use Rattle.unicorn_round.proofs.WriteSteps.{took_offered, within_offered}
use Rattle.unicorn_round.proofs.write.write_all.Goals as goal

pub loop-count-preserved : goal.loop-count-preserved
loop-count-preserved g c = record {
  within = within_offered c.args.text.now c.loop-count.count c.in_ok-count.field-0 c.loop-count.invariant.within c.in_ok-count.ensures.within;
  took = took_offered (g.K.Sink.taken c.args.sink.now) (g.K.Sink.taken c.loop-count.sink) (g.K.Sink.taken c.write.new.self) c.args.text.now c.loop-count.count
      c.in_ok-count.field-0 c.loop-count.invariant.took c.in_ok-count.ensures.told;
  quiet = c.in_ok-count.ensures.quiet ∙ c.loop-count.invariant.quiet;
}
