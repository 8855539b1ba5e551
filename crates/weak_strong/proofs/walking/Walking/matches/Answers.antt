use Rattle.std.proofs.Common.{◌∙◌, map}
use Rattle.weak_strong.specs.Marks.{counter_of}
use Rattle.weak_strong.proofs.Whole.{none_for, some_for, whole_holds, whole_current, whole_over}
use Rattle.weak_strong.proofs.walking.Walking.matches.Goals as goal

pub returns-then-is_some-clause-holds : goal.returns-then-is_some-clause-holds
returns-then-is_some-clause-holds g c =
    let there = some_for c.self.inside.at c.is_some.result c.is_some.ensures c.if-is_some.true in
    whole_holds g.C.DocCursor.remaining c.args.self.now c.self.inside.rule c.self.inside.candidates (map counter_of c.self.inside.counters.items) c.self.inside.kept c.self.view_is c.self.inside.at c.self.invariant.settled
    there.0 there.1 c.args.i c.matches.result c.matches.ensures.holds

pub returns-then-is_some-clause-current : goal.returns-then-is_some-clause-current
returns-then-is_some-clause-current g c =
    let there = some_for c.self.inside.at c.is_some.result c.is_some.ensures c.if-is_some.true in
    whole_current g.C.DocCursor.remaining c.args.self.now c.self.inside.rule c.self.inside.candidates (map counter_of c.self.inside.counters.items) c.self.inside.kept c.self.view_is c.self.inside.at c.self.invariant.settled
    there.0 there.1 c.args.i c.matches.result c.matches.ensures.current

pub returns-else-is_some-clause-holds : goal.returns-else-is_some-clause-holds
returns-else-is_some-clause-holds g c =
    c.if-is_some.false
    ∙ whole_over g.C.DocCursor.remaining c.args.self.now c.self.inside.rule c.self.inside.candidates (map counter_of c.self.inside.counters.items) c.self.inside.kept c.self.view_is c.self.inside.at c.self.invariant.settled
    (none_for c.self.inside.at c.is_some.result c.is_some.ensures c.if-is_some.false) c.args.i
