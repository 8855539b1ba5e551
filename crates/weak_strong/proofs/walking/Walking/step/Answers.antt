use Rattle.std.proofs.Common.{◌∙◌, List, sym, subst, map}
use Rattle.uni_base.specs.KeySets.{united}
use Rattle.std.proofs.lemmas.List.{length-map}
use Rattle.weak_strong.specs.declared.rule.Counter.{Counter}
use Rattle.weak_strong.specs.Marks.{counter_of}
use Rattle.weak_strong.specs.Walking.{HasSettled, IsCounted}
use Rattle.weak_strong.proofs.Counting.{first_among}
use Rattle.weak_strong.proofs.Settled.{owns_below}
use Rattle.weak_strong.proofs.Whole.{counted_next, none_from, stepped_walk, stepped_operands, stepped_passed, whole_end, whole_passed}
use Rattle.weak_strong.proofs.walking.Walking.step.Goals as goal

pub next-kept-requires : goal.next-kept-requires
next-kept-requires g c =
    c.self.invariant.counted.kept_before c.in-Some.key (first_among (united (map g.C.DocCursor.remaining c.self.inside.candidates)) c.in-Some.key (c.self.invariant.settled.stands c.in-Some.key c.in-Some.is))

pub count-requires-clause-owns : goal.count-requires-clause-owns
count-requires-clause-owns g c = owns_below c.self.inside.counters.items c.self.inside.kept c.next-kept.result c.self.invariant.counted.owns c.next-kept.ensures.value

pub settle-self-inside-requires : goal.settle-self-inside-requires
settle-self-inside-requires g c =
    let view = g.C.DocCursor.remaining in
    subst (λ (cs : List Counter). IsCounted (map view c.step.new.self) (map counter_of cs) c.next-kept.result) (sym c.as_slice.ensures.value)
    (counted_next (map view c.self.inside.candidates) (map view c.step.new.self) (map counter_of c.self.inside.counters.items) c.count.new.counters.items c.self.inside.kept c.next-kept.result c.in-Some.key
    c.self.invariant.counted (sym (c.self.invariant.settled.stands c.in-Some.key c.in-Some.is)) c.next-kept.ensures.value c.next-kept.ensures.rank c.next-kept.ensures.id c.step.ensures.moved.after c.step.ensures.moved.operands
    (c.count.ensures.count ∙ sym (length-map c.self.inside.candidates view)) c.count.ensures.owns)

pub returns-in_default-clause-walk : goal.returns-in_default-clause-walk
returns-in_default-clause-walk g c =
    whole_end g.C.DocCursor.remaining c.args.self.now c.self.inside.rule c.self.inside.candidates (map counter_of c.self.inside.counters.items) c.self.inside.kept c.self.view_is c.self.inside.at c.self.invariant.settled
    (none_from c.self.inside.at c.in_default.not-Some)

pub returns-in-Some-clause-walk : goal.returns-in-Some-clause-walk
returns-in-Some-clause-walk g c =
    let view = g.C.DocCursor.remaining in
    stepped_walk view c.args.self.now c.self.inside.rule c.self.inside.candidates (map counter_of c.self.inside.counters.items) (map counter_of c.count.new.counters.items) c.self.inside.kept c.next-kept.result
    c.self.view_is c.self.inside.at c.self.invariant.settled c.in-Some.key c.in-Some.is c.next-kept.ensures.value c.count.ensures.walked (map view c.step.new.self) (map view c.settle-self-inside.new.candidates)
    c.step.ensures.moved.after c.step.ensures.moved.operands c.step.ensures.moved.passed c.settle-self-inside.result
    (subst (λ (cs : List Counter). HasSettled c.self.inside.rule (map counter_of cs) c.next-kept.result (map view c.step.new.self) (map view c.settle-self-inside.new.candidates) c.settle-self-inside.result)
    c.as_slice.ensures.value c.settle-self-inside.ensures)

pub returns-in-Some-clause-operands : goal.returns-in-Some-clause-operands
returns-in-Some-clause-operands g c =
    let view = g.C.DocCursor.remaining in
    stepped_operands view c.args.self.now c.self.inside.rule c.self.inside.candidates (map counter_of c.self.inside.counters.items) (map counter_of c.count.new.counters.items) c.self.inside.kept c.next-kept.result
    c.self.view_is c.self.inside.at c.self.invariant.settled c.in-Some.key c.in-Some.is c.next-kept.ensures.value c.count.ensures.walked (map view c.step.new.self) (map view c.settle-self-inside.new.candidates)
    c.step.ensures.moved.after c.step.ensures.moved.operands c.step.ensures.moved.passed c.settle-self-inside.result
    (subst (λ (cs : List Counter). HasSettled c.self.inside.rule (map counter_of cs) c.next-kept.result (map view c.step.new.self) (map view c.settle-self-inside.new.candidates) c.settle-self-inside.result)
    c.as_slice.ensures.value c.settle-self-inside.ensures)

pub returns-in-Some-clause-passed : goal.returns-in-Some-clause-passed
returns-in-Some-clause-passed g c =
    let view = g.C.DocCursor.remaining in
    stepped_passed view c.args.self.now c.self.inside.rule c.self.inside.candidates (map counter_of c.self.inside.counters.items) (map counter_of c.count.new.counters.items) c.self.inside.kept c.next-kept.result
    c.self.view_is c.self.inside.at c.self.invariant.settled c.in-Some.key c.in-Some.is c.next-kept.ensures.value c.count.ensures.walked (map view c.step.new.self) (map view c.settle-self-inside.new.candidates)
    c.step.ensures.moved.after c.step.ensures.moved.operands c.step.ensures.moved.passed c.settle-self-inside.result
    (subst (λ (cs : List Counter). HasSettled c.self.inside.rule (map counter_of cs) c.next-kept.result (map view c.step.new.self) (map view c.settle-self-inside.new.candidates) c.settle-self-inside.result)
    c.as_slice.ensures.value c.settle-self-inside.ensures)

pub returns-in_default-clause-passed : goal.returns-in_default-clause-passed
returns-in_default-clause-passed g c =
    whole_passed g.C.DocCursor.remaining c.args.self.now c.self.inside.rule c.self.inside.candidates (map counter_of c.self.inside.counters.items) c.self.inside.kept c.self.view_is c.self.inside.at c.self.invariant.settled
