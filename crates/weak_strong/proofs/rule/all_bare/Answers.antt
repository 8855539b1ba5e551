use Rattle.std.proofs.Common.{arith}
use Rattle.weak_strong.proofs.Leapt.{bare_all, bare_more, not_bare}
use Rattle.weak_strong.proofs.rule.all_bare.Goals as goal

pub returns-then-not-is_bare : goal.returns-then-not-is_bare
returns-then-not-is_bare c = not_bare c.args.counters.now c.loop-counter.counter-index c.counter-item.result c.loop-counter-test.true c.counter-item.is c.is_bare.result c.is_bare.ensures c.if-not-is_bare.true

pub loop-counter-preserved : goal.loop-counter-preserved
loop-counter-preserved c =
    bare_more c.args.counters.now c.loop-counter.counter-index c.counter-item.result c.loop-counter-test.true c.counter-item.is c.is_bare.result c.is_bare.ensures c.if-not-is_bare.false c.loop-counter.invariant

pub returns : goal.returns
returns c = bare_all c.args.counters.now c.loop-counter.counter-index (omega (arith, c.loop-counter-test.false)) c.loop-counter.invariant
