use Rattle.std.proofs.Common.{◌+◌, not, map}
use Rattle.uni_base.specs.declared.entity.DocKey.{DocKey}
use Rattle.uni_base.specs.Cursors.{is_before}
use Rattle.set_cursors.proofs.Commons.{common-sought, common-KeepsKeys-sought, few-moved}
use Rattle.set_cursors.proofs.PassedFirst.{sought-common}
use Rattle.set_cursors.proofs.and.AndCursor.seek_counted.Goals as goal

pub returns-clause-moved : goal.returns-clause-moved
returns-clause-moved g c =
    let view = g.C.DocCursor.remaining in
    let leapt = c.leap-self-inside.ensures.moved in
    let after = common-sought view c.leap-self-inside.new.operands.items c.seek_first.new.operands.items c.args.self.now c.self.inside.operands.items c.self.view_is
    leapt.after leapt.operands c.args.from c.seek_first.ensures.moves in
    record {
      after = after;
      operands = common-KeepsKeys-sought view c.leap-self-inside.new.operands.items c.seek_first.new.operands.items c.args.self.now c.self.inside.operands.items c.self.view_is
          leapt.after leapt.operands c.args.from c.seek_first.ensures.moves;
      passed = sought-common view c.args.self.now c.self.inside.operands.items c.self.view_is (map view c.leap-self-inside.new.operands.items) (map view c.seek_first.new.operands.items) leapt.passed
          c.args.from c.seek_first.ensures.moves after;
    }

pub returns-clause-few : goal.returns-clause-few
returns-clause-few g c =
    few-moved g.C.DocCursor.remaining c.seek_first.new.operands.items c.args.self.now c.self.inside.operands.items c.self.view_is (map g.C.DocCursor.remaining c.leap-self-inside.new.operands.items)
    (λ (k : DocKey). not (is_before k c.args.from)) c.seek_first.ensures.moves (c.args.moves.now + 1) c.seek_first.new.moves c.leap-self-inside.new.moves c.seek_first.ensures.counted
    c.leap-self-inside.ensures.few
