use Rattle.std.proofs.Common.{arith}
use Rattle.layer_stack.proofs.Told.{adjacent_ranked}
use Rattle.layer_stack.proofs.runs.is_ranked.Goals as goal

pub returns : goal.returns
returns c = λ all. adjacent_ranked c.args.keys.now (λ j d fits. c.loop-i.invariant j d (omega (arith, c.loop-i-test.false, c.loop-i.auto)))
