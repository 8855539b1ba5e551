use Rattle.std.proofs.Common.{rules, arith, ◌≤◌, ◌<◌, ◌-◌, ◌/◌}
use Rattle.posting_lists.proofs.Halving.{fails_from, digits_monotone, digits_block}
use Rattle.posting_lists.proofs.search.place_from.Goals as goal
use Rattle.posting_lists.proofs.search.place_from.Goals.{then-at-end-via-then-at-end, then-at-end-via-else-at-end+then-not-comes_before}

pub returns-then-at-end-clause-found : goal.returns-then-at-end-clause-found
returns-then-at-end-clause-found g c =
    let le : c.args.at ≤ c.args.end = c.requires.within.0 in
    record {
      above = omega arith;
      below = le;
      passed = λ i d above below. absurd (omega arith);
      left = elim c.then-at-end.branch [
        | then-at-end-via-then-at-end w ↦ λ i d above below. let none : c.args.end ≤ c.args.at = w.if-at-end.true in absurd (omega arith)
        | then-at-end-via-else-at-end+then-not-comes_before w ↦
            let some : c.args.at < c.args.end = w.if-at-end.false in
            fails_from c.args.from.now c.args.keys.now c.args.at c.args.end c.args.at w.index-keys-at.result c.requires.rises (omega arith) some c.requires.within.1 w.index-keys-at.is (search rules)
      ];
    }

pub returns-clause-counted : goal.returns-clause-counted
returns-clause-counted g c =
    let at = c.args.at in let b = at / 128 in let r = c.block_from-block.result in let place = c.halve.result in
    let block = digits_block (c.min-high.result - c.max-low.result) (omega (arith, c.min-high.ensures, c.max-low.ensures)) in
    let blocks = digits_monotone (r - b) (place - at) (omega (arith, c.max-low.ensures, c.halve.ensures.found.above, c.block_from-block.ensures.above)) in
    omega (arith, block, blocks, c.comes_before.ensures.counted, c.block_from-block.ensures.counted, c.halve.ensures.counted)
