use Rattle.std.proofs.Common.{◌-◌, ◌∙◌, sym, map}
use Rattle.std.proofs.lemmas.List.{length-map}
use Rattle.weak_strong.proofs.Counting.{stops, goes_on, ends}
use Rattle.weak_strong.proofs.walking.is_kept.Goals as goal

pub returns-then-not-allows : goal.returns-then-not-allows
returns-then-not-allows g c = λ k first.
    stops c.args.rule (c.args.next - 1) k (map g.C.DocCursor.remaining c.args.candidates.now) c.args.counters.now (c.requires.count ∙ sym (length-map c.args.candidates.now g.C.DocCursor.remaining)) first
    c.loop-i.i c.index-counters-i.result c.loop-i-test.true c.index-counters-i.is c.matches.result c.matches.ensures.holds c.allows.result c.allows.ensures
    (c.loop-i.invariant k first) c.if-not-allows.true

pub loop-i-preserved : goal.loop-i-preserved
loop-i-preserved g c = λ k first.
    goes_on c.args.rule (c.args.next - 1) k (map g.C.DocCursor.remaining c.args.candidates.now) c.args.counters.now (c.requires.count ∙ sym (length-map c.args.candidates.now g.C.DocCursor.remaining)) first
    c.loop-i.i c.index-counters-i.result c.loop-i-test.true c.index-counters-i.is c.matches.result c.matches.ensures.holds c.allows.result c.allows.ensures
    (c.loop-i.invariant k first) c.if-not-allows.false

pub returns : goal.returns
returns g c = λ k first.
    ends c.args.rule (c.args.next - 1) k (map g.C.DocCursor.remaining c.args.candidates.now) c.args.counters.now (c.requires.count ∙ sym (length-map c.args.candidates.now g.C.DocCursor.remaining)) first
    c.loop-i.i (c.loop-i.invariant k first) c.loop-i-test.false
