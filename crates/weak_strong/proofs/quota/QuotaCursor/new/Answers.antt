use Rattle.std.proofs.Common.{◌≡◌, ◌∙◌, List, subst, length, map, arith}
use Rattle.std.specs.Vec.Iter.{into_iter_items}
use Rattle.uni_base.specs.declared.entity.DocKey.{DocKey}
use Rattle.uni_base.specs.KeySets.{KeepsKeys}
use Rattle.set_cursors.specs.Passed.{HavePassed}
use Rattle.weak_strong.specs.declared.rule.Rule.{Rule}
use Rattle.weak_strong.specs.Marks.{counter_of}
use Rattle.weak_strong.specs.Walking.{walk_of}
use Rattle.weak_strong.proofs.Started.{started_lists, started_walk}
use Rattle.weak_strong.proofs.quota.QuotaCursor.new.Goals as goal

pub returns-clause-keys : goal.returns-clause-keys
returns-clause-keys g c =
    let view = g.C.DocCursor.remaining in
    let over : length (into_iter_items c.loop-cursor.cursor-iterator) ≡ 0 = omega (arith, c.in-None.ensures.steps.0, c.loop-cursor.cursor-iterator.rest.ok.0) in
    started_walk view g.W.Walk.quota c.args.operands.items c.loop-cursor.yielded (into_iter_items c.loop-cursor.cursor-iterator) c.into_both-cursors.result.0.items c.loop-cursor.parts.1
    (map counter_of c.into_both-cursors.result.1.items) c.loop-cursor.invariant.all over (c.into_both-cursors.ensures.cursors ∙ c.loop-cursor.invariant.cursors) c.loop-cursor.invariant.quotas
    c.into_both-cursors.ensures.counters g.W.Walk.rule (walk_of g.W.Walk.rule (map view c.new.result.1) c.new.result.2 c.new.result.3)
    (subst (λ (r : Rule). walk_of r (map view c.new.result.1) c.new.result.2 c.new.result.3
    ≡ walk_of r (map view c.into_both-cursors.result.0.items) (map counter_of c.into_both-cursors.result.1.items) 0) c.rule.ensures c.new.ensures.walk)

pub returns-clause-operands : goal.returns-clause-operands
returns-clause-operands g c =
    let view = g.C.DocCursor.remaining in
    let over : length (into_iter_items c.loop-cursor.cursor-iterator) ≡ 0 = omega (arith, c.in-None.ensures.steps.0, c.loop-cursor.cursor-iterator.rest.ok.0) in
    let keeps = subst (λ (r : Rule). KeepsKeys (walk_of r (map view c.new.result.1) c.new.result.2 c.new.result.3) (map view c.into_both-cursors.result.0.items) (map view c.new.result.1))
    c.rule.ensures c.new.ensures.operands in
    subst (λ (lists : List (List DocKey)). KeepsKeys (walk_of g.W.Walk.rule (map view c.new.result.1) c.new.result.2 c.new.result.3) lists (map view c.new.result.1))
    (started_lists view g.W.Walk.quota c.args.operands.items c.loop-cursor.yielded (into_iter_items c.loop-cursor.cursor-iterator) c.into_both-cursors.result.0.items c.loop-cursor.parts.1
    (map counter_of c.into_both-cursors.result.1.items) c.loop-cursor.invariant.all over (c.into_both-cursors.ensures.cursors ∙ c.loop-cursor.invariant.cursors) c.loop-cursor.invariant.quotas
    c.into_both-cursors.ensures.counters)
    keeps

pub returns-clause-passed : goal.returns-clause-passed
returns-clause-passed g c =
    let view = g.C.DocCursor.remaining in
    let over : length (into_iter_items c.loop-cursor.cursor-iterator) ≡ 0 = omega (arith, c.in-None.ensures.steps.0, c.loop-cursor.cursor-iterator.rest.ok.0) in
    let keeps = subst (λ (r : Rule). HavePassed (walk_of r (map view c.new.result.1) c.new.result.2 c.new.result.3) (map view c.into_both-cursors.result.0.items) (map view c.new.result.1))
    c.rule.ensures c.new.ensures.passed in
    subst (λ (lists : List (List DocKey)). HavePassed (walk_of g.W.Walk.rule (map view c.new.result.1) c.new.result.2 c.new.result.3) lists (map view c.new.result.1))
    (started_lists view g.W.Walk.quota c.args.operands.items c.loop-cursor.yielded (into_iter_items c.loop-cursor.cursor-iterator) c.into_both-cursors.result.0.items c.loop-cursor.parts.1
    (map counter_of c.into_both-cursors.result.1.items) c.loop-cursor.invariant.all over (c.into_both-cursors.ensures.cursors ∙ c.loop-cursor.invariant.cursors) c.loop-cursor.invariant.quotas
    c.into_both-cursors.ensures.counters)
    keeps
