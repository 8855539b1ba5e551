use Rattle.std.proofs.Common.{rules, arith, ◌≡◌, ◌≤◌, ◌<◌, ◌+◌, ◌-◌, ◌*◌, min}
use Rattle.posting_lists.specs.Search.{digits, NoneBefore}
use Rattle.posting_lists.proofs.Halving.{passes_up_to, fails_from, digits_double, digits_monotone, AllBefore-joined, NoneBefore-joined}
use Rattle.posting_lists.proofs.search.gallop.Goals as goal
use Rattle.posting_lists.proofs.search.gallop.Goals.{then-loop-stride-test+else-comes_before, else-loop-stride-test}

pub loop-stride-preserved : goal.loop-stride-preserved
loop-stride-preserved g c =
    let at = c.loop-stride.at in let stride = c.loop-stride.stride in
    let fits : stride < c.args.high - at = c.loop-stride-test.true in
    let double : digits (stride * 2) ≡ digits stride + 1 = digits_double stride (omega (arith, c.loop-stride.invariant.stride, c.loop-stride.invariant.above)) in
    record {
      above = omega (arith, c.loop-stride.invariant.above);
      below = omega arith;
      stride = omega (arith, c.loop-stride.invariant.stride);
      passed = passes_up_to c.args.from.now c.args.keys.now c.args.low c.args.high (at + stride) c.index-keys-at.result c.requires.rises (omega arith) c.requires.within.1 c.index-keys-at.is (search rules);
      counted = omega (arith, double, c.loop-stride.invariant.counted, c.comes_before.ensures.counted);
    }

pub returns-clause-found : goal.returns-clause-found
returns-clause-found g c =
    let from = c.args.from.now in let keys = c.args.keys.now in let at = c.loop-stride.at in let stride = c.loop-stride.stride in
    let end = c.min.result in let at_most : end ≡ min c.args.high (at + stride) = c.min.ensures in
    let rest : NoneBefore from keys end c.args.high = elim c.loop-stride-test.branch [
      | then-loop-stride-test+else-comes_before w ↦
          let fits : stride < c.args.high - at = w.loop-stride-test.true in
          λ i d above below. fails_from from keys c.args.low c.args.high (at + stride) w.index-keys-at.result c.requires.rises (omega (arith, c.loop-stride.invariant.above)) (omega arith) c.requires.within.1 w.index-keys-at.is (search rules) i d (omega (arith, at_most)) below
      | else-loop-stride-test w ↦ λ i d above below. let fits : c.args.high - at ≤ stride = w.loop-stride-test.false in absurd (omega (arith, at_most))
    ] in
    record {
      above = omega (arith, c.halve.ensures.found.above, c.loop-stride.invariant.above);
      below = omega (arith, c.halve.ensures.found.below, at_most);
      passed = AllBefore-joined from keys c.args.low (at + 1) c.halve.result c.loop-stride.invariant.passed c.halve.ensures.found.passed;
      left = NoneBefore-joined from keys c.halve.result end c.args.high c.halve.ensures.found.left rest;
    }

pub returns-clause-counted : goal.returns-clause-counted
returns-clause-counted g c =
    let at = c.loop-stride.at in let stride = c.loop-stride.stride in let end = c.min.result in let at_most : end ≡ min c.args.high (at + stride) = c.min.ensures in
    let exit : c.loop-stride-test.steps ≤ c.args.steps.now + digits stride = elim c.loop-stride-test.branch [
      | then-loop-stride-test+else-comes_before w ↦ omega (arith, c.loop-stride.invariant.counted, w.comes_before.ensures.counted, w.steps-is)
      | else-loop-stride-test w ↦ omega (arith, c.loop-stride.invariant.counted, w.steps-is)
    ] in
    let inner = digits_monotone (end - (at + 1)) stride (omega (arith, at_most)) in
    let outer = digits_monotone stride (c.halve.result - c.args.low) (omega (arith, c.loop-stride.invariant.stride, c.halve.ensures.found.above)) in
    omega (arith, exit, inner, outer, c.halve.ensures.counted)
