use Rattle.std.proofs.Common.{◌≡◌, List, ◌∙◌, sym, subst}
use Rattle.uni_base.specs.declared.entity.DocKey.{DocKey}
use Rattle.uni_base.specs.KeySets.{KeepsKeys}
use Rattle.set_cursors.specs.Filters.{difference}
use Rattle.set_cursors.proofs.Differences.{first_clear, pair, stop_clear, stop_keys, stop_operands, go_keys, go_operands}
use Rattle.set_cursors.proofs.PassedPair.{SameFrom, go_first, go_second, passed_end, passed_pair, stop_first, stop_second}
use Rattle.set_cursors.proofs.difference.skip.Goals as goal

pub returns-then-not-seek_has-clause-clear : goal.returns-then-not-seek_has-clause-clear
returns-then-not-seek_has-clause-clear g c =
    let view = g.C.DocCursor.remaining in
    stop_clear (view c.args.first.now) (view c.args.second.now) (view c.loop-key.first) (view c.loop-key.second) (view c.seek_has.new.operand) c.in-Some.key
    c.in-Some.ensures.first c.peek.ensures.ranked c.seek_has.ensures.moves c.loop-key.invariant.keys c.loop-key.invariant.operands
    (sym c.seek_has.ensures.value ∙ c.if-not-seek_has.true)

pub returns-then-not-seek_has-clause-keys : goal.returns-then-not-seek_has-clause-keys
returns-then-not-seek_has-clause-keys g c =
    let view = g.C.DocCursor.remaining in
    stop_keys (view c.args.first.now) (view c.args.second.now) (view c.loop-key.first) (view c.loop-key.second) (view c.seek_has.new.operand) c.in-Some.key
    c.in-Some.ensures.first c.peek.ensures.ranked c.seek_has.ensures.moves c.loop-key.invariant.keys c.loop-key.invariant.operands

pub returns-then-not-seek_has-clause-operands : goal.returns-then-not-seek_has-clause-operands
returns-then-not-seek_has-clause-operands g c =
    let view = g.C.DocCursor.remaining in
    stop_operands (view c.args.first.now) (view c.args.second.now) (view c.loop-key.first) (view c.loop-key.second) (view c.seek_has.new.operand) c.in-Some.key
    c.in-Some.ensures.first c.peek.ensures.ranked c.seek_has.ensures.moves c.loop-key.invariant.keys c.loop-key.invariant.operands

pub loop-key-preserved : goal.loop-key-preserved
loop-key-preserved g c =
    let view = g.C.DocCursor.remaining in
    let here = sym c.seek_has.ensures.value ∙ c.if-not-seek_has.false in
    subst (λ (ks : List DocKey). record {
      keys : difference ks (view c.seek_has.new.operand) ≡ difference (view c.args.first.now) (view c.args.second.now);
      firsts : SameFrom ks (view c.args.first.now) ks;
      seconds : SameFrom ks (view c.args.second.now) (view c.seek_has.new.operand);
      operands : KeepsKeys (difference ks (view c.seek_has.new.operand)) (pair (view c.args.first.now) (view c.args.second.now)) (pair ks (view c.seek_has.new.operand));
    }) (sym c.step.ensures)
    (record {
      keys = go_keys (view c.args.first.now) (view c.args.second.now) (view c.loop-key.first) (view c.loop-key.second) (view c.seek_has.new.operand) c.in-Some.key
          c.in-Some.ensures.first c.peek.ensures.ranked c.seek_has.ensures.moves c.loop-key.invariant.keys c.loop-key.invariant.operands here;
      firsts = go_first c.in-Some.key (view c.loop-key.first) (view c.args.first.now) c.in-Some.ensures.first c.peek.ensures.ranked c.loop-key.invariant.firsts;
      seconds = go_second c.in-Some.key (view c.loop-key.first) (view c.args.second.now) c.in-Some.ensures.first c.peek.ensures.ranked (view c.loop-key.second) (view c.seek_has.new.operand)
          c.seek_has.ensures.moves c.loop-key.invariant.seconds;
      operands = go_operands (view c.args.first.now) (view c.args.second.now) (view c.loop-key.first) (view c.loop-key.second) (view c.seek_has.new.operand) c.in-Some.key
          c.in-Some.ensures.first c.peek.ensures.ranked c.seek_has.ensures.moves c.loop-key.invariant.keys c.loop-key.invariant.operands here;
    })

pub returns-then-not-seek_has-clause-passed : goal.returns-then-not-seek_has-clause-passed
returns-then-not-seek_has-clause-passed g c =
    let view = g.C.DocCursor.remaining in
    let fs = view c.loop-key.first in
    let ts = view c.seek_has.new.operand in
    let clear = stop_clear (view c.args.first.now) (view c.args.second.now) fs (view c.loop-key.second) ts c.in-Some.key
    c.in-Some.ensures.first c.peek.ensures.ranked c.seek_has.ensures.moves c.loop-key.invariant.keys c.loop-key.invariant.operands
    (sym c.seek_has.ensures.value ∙ c.if-not-seek_has.true) in
    passed_pair c.in-Some.key (difference fs ts) (view c.args.first.now) (view c.args.second.now) fs ts (c.in-Some.ensures.first ∙ first_clear fs ts clear)
    (stop_first c.in-Some.key fs (view c.args.first.now) c.in-Some.ensures.first c.peek.ensures.ranked c.loop-key.invariant.firsts)
    (stop_second c.in-Some.key fs (view c.args.second.now) c.in-Some.ensures.first c.peek.ensures.ranked (view c.loop-key.second) ts c.seek_has.ensures.moves c.loop-key.invariant.seconds)

pub returns-clause-passed : goal.returns-clause-passed
returns-clause-passed g c =
    let view = g.C.DocCursor.remaining in
    passed_end (view c.loop-key.first) (view c.loop-key.second) (pair (view c.args.first.now) (view c.args.second.now)) (pair (view c.loop-key.first) (view c.loop-key.second))
    (λ k e. c.in_default.not-Some k (c.peek.ensures.first ∙ sym e))
