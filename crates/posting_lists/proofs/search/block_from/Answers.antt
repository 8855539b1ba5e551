use Rattle.std.proofs.Common.{rules, arith, ◌≡◌, ◌≤◌, ◌<◌, ◌-◌, ◌/◌, false, subst}
use Rattle.uni_base.specs.declared.entity.DocKey.{DocKey}
use Rattle.uni_base.specs.Cursors.{is_before}
use Rattle.std.proofs.lemmas.List.{get_or_read}
use Rattle.posting_lists.proofs.Halving.{block_passed, block_left}
use Rattle.posting_lists.proofs.search.block_from.Goals as goal
use Rattle.posting_lists.proofs.search.block_from.Goals.{else-block-whole-via-then-block-whole+else-comes_before, else-block-whole-via-else-block-whole}

pub returns-then-comes_before-clause-passed : goal.returns-then-comes_before-clause-passed
returns-then-comes_before-clause-passed g c i d above below =
    let r = c.gallop.result in let some : c.args.at / 128 < r = c.gallop.ensures.passed in let within = c.gallop.ensures.found.below in
    block_passed c.args.from.now c.args.keys.now c.args.lasts.now c.args.at c.args.end (r - 1) c.requires.rises c.requires.lasts c.requires.within.1 (omega (arith, some, within))
    (λ e. c.gallop.ensures.found.passed (r - 1) e (omega (arith, some)) (omega (arith, some))) i d above (omega (arith, some))

pub returns-then-comes_before-clause-left : goal.returns-then-comes_before-clause-left
returns-then-comes_before-clause-left g c i d above below =
    let r = c.gallop.result in let some : c.args.at / 128 < r = c.gallop.ensures.passed in
    let whole : r < c.args.end / 128 = omega arith in
    block_left c.args.from.now c.args.keys.now c.args.lasts.now c.args.at c.args.end r c.requires.rises c.requires.lasts c.requires.within.1 (omega (arith, some)) whole
    (λ e. c.gallop.ensures.found.left r e (omega arith) whole) i d above below

pub returns-else-block-whole-clause-left : goal.returns-else-block-whole-clause-left
returns-else-block-whole-clause-left g c i d above below =
    let b = c.args.at / 128 in
    elim c.else-block-whole.branch [
      | else-block-whole-via-then-block-whole+else-comes_before w ↦
          let whole : b < c.args.end / 128 = w.if-block-whole.true in
          block_left c.args.from.now c.args.keys.now c.args.lasts.now c.args.at c.args.end b c.requires.rises c.requires.lasts c.requires.within.1 (omega arith) whole
          (λ e. subst (λ (k : DocKey). is_before k c.args.from.now ≡ false) (get_or_read c.args.lasts.now b w.index-lasts-block.result (omega (arith, c.requires.lasts.count)) w.index-lasts-block.is e) (search rules)) i d above below
      | else-block-whole-via-else-block-whole w ↦ let small : c.args.end / 128 ≤ b = w.if-block-whole.false in absurd (omega arith)
    ]
