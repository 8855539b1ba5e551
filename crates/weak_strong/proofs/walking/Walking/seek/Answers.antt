use Rattle.std.proofs.Common.{◌∙◌, ap, sym, subst, map, slice_get}
use Rattle.uni_base.specs.Cursors.{IsRanked, keys_from}
use Rattle.uni_base.specs.KeySets.{KeepsKeys}
use Rattle.uni_base.specs.RankOrder.{doc_cmp}
use Rattle.weak_strong.specs.declared.rule.Rule.{Rule}
use Rattle.weak_strong.specs.Walking.{walk_of}
use Rattle.weak_strong.proofs.Sought.{before-not_ge, here_passed, leap_passed, step_operands, step_same, step_walk}
use Rattle.weak_strong.proofs.Leapt.{sought_operands}
use Rattle.weak_strong.proofs.Whole.{none_from, not_before-ge, sought_here, sought_end}
use Rattle.weak_strong.proofs.walking.Walking.seek.Goals as goal

pub returns-then-is_ge-clause-walk : goal.returns-then-is_ge-clause-walk
returns-then-is_ge-clause-walk g c =
    let view = g.C.DocCursor.remaining in
    sought_here c.args.from c.in-Some.key (walk_of c.args.self.now.0 (map view c.loop-key.self.1) c.loop-key.self.2 c.loop-key.self.3)
    (keys_from c.args.from (walk_of c.args.self.now.0 (map view c.args.self.now.1) c.args.self.now.2 c.args.self.now.3))
    (c.in-Some.ensures.first ∙ ap (λ (r : Rule). slice_get (walk_of r (map view c.loop-key.self.1) c.loop-key.self.2 c.loop-key.self.3) 0) c.loop-key.invariant.stays)
    (subst (λ (r : Rule). IsRanked (walk_of r (map view c.loop-key.self.1) c.loop-key.self.2 c.loop-key.self.3)) c.loop-key.invariant.stays c.peek.ensures.ranked)
    (not_before-ge (doc_cmp c.in-Some.key c.args.from) c.cmp.result c.is_ge.result c.cmp.ensures c.is_ge.ensures c.if-is_ge.true)
    c.loop-key.invariant.walk

pub returns-clause-walk : goal.returns-clause-walk
returns-clause-walk g c =
    let view = g.C.DocCursor.remaining in
    sought_end c.args.from (walk_of c.args.self.now.0 (map view c.loop-key.self.1) c.loop-key.self.2 c.loop-key.self.3)
    (keys_from c.args.from (walk_of c.args.self.now.0 (map view c.args.self.now.1) c.args.self.now.2 c.args.self.now.3))
    (ap (λ (r : Rule). slice_get (walk_of r (map view c.loop-key.self.1) c.loop-key.self.2 c.loop-key.self.3) 0) (sym c.loop-key.invariant.stays)
    ∙ sym c.peek.ensures.first ∙ none_from c.peek.result c.in_default.not-Some)
    c.loop-key.invariant.walk

pub returns-then-needs_all-clause-walk : goal.returns-then-needs_all-clause-walk
returns-then-needs_all-clause-walk g c =
    let view = g.C.DocCursor.remaining in
    ap (λ (r : Rule). walk_of r (map view c.leap.new.self.1) c.leap.new.self.2 c.leap.new.self.3) (sym c.loop-key.invariant.stays) ∙ c.leap.ensures.walk
    ∙ ap (λ (r : Rule). keys_from c.args.from (walk_of r (map view c.loop-key.self.1) c.loop-key.self.2 c.loop-key.self.3)) c.loop-key.invariant.stays ∙ c.loop-key.invariant.walk

pub returns-then-needs_all-clause-operands : goal.returns-then-needs_all-clause-operands
returns-then-needs_all-clause-operands g c =
    let view = g.C.DocCursor.remaining in
    subst (λ (r : Rule). KeepsKeys (walk_of r (map view c.leap.new.self.1) c.leap.new.self.2 c.leap.new.self.3) (map view c.args.self.now.1) (map view c.leap.new.self.1)) c.loop-key.invariant.stays
    (sought_operands c.args.from (walk_of c.loop-key.self.0 (map view c.loop-key.self.1) c.loop-key.self.2 c.loop-key.self.3)
    (walk_of c.loop-key.self.0 (map view c.leap.new.self.1) c.leap.new.self.2 c.leap.new.self.3) (map view c.args.self.now.1) (map view c.loop-key.self.1) (map view c.leap.new.self.1) c.leap.ensures.walk
    (subst (λ (r : Rule). KeepsKeys (walk_of r (map view c.loop-key.self.1) c.loop-key.self.2 c.loop-key.self.3) (map view c.args.self.now.1) (map view c.loop-key.self.1)) (sym c.loop-key.invariant.stays)
    c.loop-key.invariant.operands)
    c.leap.ensures.operands)

pub returns-then-is_ge-clause-passed : goal.returns-then-is_ge-clause-passed
returns-then-is_ge-clause-passed g c =
    here_passed g.C.DocCursor.remaining c.args.self.now.0 c.args.from c.args.self.now c.loop-key.self c.loop-key.self c.loop-key.invariant.stays c.peek.ensures.stands c.loop-key.invariant.same

pub returns-then-needs_all-clause-passed : goal.returns-then-needs_all-clause-passed
returns-then-needs_all-clause-passed g c =
    leap_passed g.C.DocCursor.remaining c.args.self.now.0 c.args.from c.args.self.now c.loop-key.self c.leap.new.self c.loop-key.invariant.stays c.leap.ensures.walk c.leap.ensures.passed c.loop-key.invariant.same

pub loop-key-preserved : goal.loop-key-preserved
loop-key-preserved g c =
    let view = g.C.DocCursor.remaining in
    let late = before-not_ge c.in-Some.key c.args.from c.cmp.result c.is_ge.result c.cmp.ensures c.is_ge.ensures c.if-is_ge.false in
    record {
      stays = c.step.ensures.rule ∙ c.loop-key.invariant.stays;
      walk = step_walk view c.args.self.now.0 c.args.from c.args.self.now c.loop-key.self c.step.new.self c.loop-key.invariant.stays c.step.ensures.walk c.in-Some.key c.in-Some.ensures.first late c.loop-key.invariant.walk;
      operands = step_operands view c.args.self.now.0 c.args.from c.args.self.now c.loop-key.self c.step.new.self c.loop-key.invariant.stays c.step.ensures.walk c.step.ensures.operands c.loop-key.invariant.operands;
      same = step_same view c.args.self.now.0 c.args.from c.args.self.now c.loop-key.self c.step.new.self c.loop-key.invariant.stays c.step.ensures.walk c.step.ensures.passed c.loop-key.invariant.same;
    }
