use Rattle.std.proofs.Common.{map}
use Rattle.weak_strong.specs.Marks.{counter_of}
use Rattle.weak_strong.proofs.Leapt.{leapt_to}
use Rattle.weak_strong.proofs.walking.Walking.leap.Goals as goal

pub invariant_of-self : goal.invariant_of-self
invariant_of-self g c =
    let view = g.C.DocCursor.remaining in
    let leapt = c.leap-self-inside.ensures in
    let whole = leapt_to view c.args.self.now c.self.inside.rule c.self.inside.candidates (map counter_of c.self.inside.counters.items) c.self.inside.kept c.self.view_is c.requires c.self.invariant.counted
    c.args.from (map view c.seek.new.self) (map view c.leap-self-inside.new.self) c.seek.ensures.after c.seek.ensures.operands c.seek.ensures.passed c.leap-self-inside.result leapt.first leapt.stands leapt.moved.after leapt.moved.operands leapt.moved.passed leapt.within in
    whole.walking

pub returns-clause-walk : goal.returns-clause-walk
returns-clause-walk g c =
    let view = g.C.DocCursor.remaining in
    let leapt = c.leap-self-inside.ensures in
    let whole = leapt_to view c.args.self.now c.self.inside.rule c.self.inside.candidates (map counter_of c.self.inside.counters.items) c.self.inside.kept c.self.view_is c.requires c.self.invariant.counted
    c.args.from (map view c.seek.new.self) (map view c.leap-self-inside.new.self) c.seek.ensures.after c.seek.ensures.operands c.seek.ensures.passed c.leap-self-inside.result leapt.first leapt.stands leapt.moved.after leapt.moved.operands leapt.moved.passed leapt.within in
    whole.walk

pub returns-clause-operands : goal.returns-clause-operands
returns-clause-operands g c =
    let view = g.C.DocCursor.remaining in
    let leapt = c.leap-self-inside.ensures in
    let whole = leapt_to view c.args.self.now c.self.inside.rule c.self.inside.candidates (map counter_of c.self.inside.counters.items) c.self.inside.kept c.self.view_is c.requires c.self.invariant.counted
    c.args.from (map view c.seek.new.self) (map view c.leap-self-inside.new.self) c.seek.ensures.after c.seek.ensures.operands c.seek.ensures.passed c.leap-self-inside.result leapt.first leapt.stands leapt.moved.after leapt.moved.operands leapt.moved.passed leapt.within in
    whole.operands

pub returns-clause-passed : goal.returns-clause-passed
returns-clause-passed g c =
    let view = g.C.DocCursor.remaining in
    let leapt = c.leap-self-inside.ensures in
    let whole = leapt_to view c.args.self.now c.self.inside.rule c.self.inside.candidates (map counter_of c.self.inside.counters.items) c.self.inside.kept c.self.view_is c.requires c.self.invariant.counted
    c.args.from (map view c.seek.new.self) (map view c.leap-self-inside.new.self) c.seek.ensures.after c.seek.ensures.operands c.seek.ensures.passed c.leap-self-inside.result leapt.first leapt.stands leapt.moved.after leapt.moved.operands leapt.moved.passed leapt.within in
    whole.passed
