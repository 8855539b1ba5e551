use Rattle.std.proofs.Common.{rules, arith, ◌<◌, ◌+◌, ◌-◌, ◌/◌}
use Rattle.posting_lists.proofs.Halving.{passes_up_to, fails_from, digits_less}
use Rattle.posting_lists.proofs.search.halve.Goals as goal

pub loop-at-preserved-then-comes_before : goal.loop-at-preserved-then-comes_before
loop-at-preserved-then-comes_before g c =
    let at = c.loop-at.at in let end = c.loop-at.end in let n = end - at in let half = n / 2 in
    let some : at < end = c.loop-at-test.true in
    let less = digits_less n (end - (at + half + 1)) (omega arith) (omega arith) in
    record {
      above = omega (arith, c.loop-at.invariant.above);
      within = omega arith;
      below = c.loop-at.invariant.below;
      passed = passes_up_to c.args.from.now c.args.keys.now c.args.low c.args.high (at + half) c.index-keys-middle.result c.requires.rises (omega (arith, c.loop-at.invariant.below)) c.requires.within.1 c.index-keys-middle.is (search rules);
      left = c.loop-at.invariant.left;
      counted = omega (arith, less, c.loop-at.invariant.counted, c.comes_before.ensures.counted);
    }

pub loop-at-preserved : goal.loop-at-preserved
loop-at-preserved g c =
    let at = c.loop-at.at in let end = c.loop-at.end in let n = end - at in let half = n / 2 in
    let some : at < end = c.loop-at-test.true in
    let less = digits_less n (at + half - at) (omega arith) (omega arith) in
    record {
      above = c.loop-at.invariant.above;
      within = omega arith;
      below = omega (arith, c.loop-at.invariant.below);
      passed = c.loop-at.invariant.passed;
      left = fails_from c.args.from.now c.args.keys.now c.args.low c.args.high (at + half) c.index-keys-middle.result c.requires.rises (omega (arith, c.loop-at.invariant.above)) (omega (arith, c.loop-at.invariant.below)) c.requires.within.1 c.index-keys-middle.is (search rules);
      counted = omega (arith, less, c.loop-at.invariant.counted, c.comes_before.ensures.counted);
    }
