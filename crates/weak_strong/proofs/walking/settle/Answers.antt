use Rattle.std.proofs.Common.{◌∙◌, sym, map}
use Rattle.weak_strong.specs.Marks.{counter_of}
use Rattle.weak_strong.proofs.Leapt.{leapt}
use Rattle.weak_strong.proofs.walking.settle.Goals as goal

pub returns-then-needs_all : goal.returns-then-needs_all
returns-then-needs_all g c =
    let view = g.C.DocCursor.remaining in
    leapt c.args.rule (map view c.args.candidates.now) (map view c.leap.new.self) (map counter_of c.args.counters.now) c.args.kept c.leap.result (sym c.needs_all.ensures ∙ c.if-needs_all.true) c.requires
    c.leap.ensures.first c.leap.ensures.stands c.leap.ensures.moved.after c.leap.ensures.moved.operands c.leap.ensures.moved.passed c.leap.ensures.within
