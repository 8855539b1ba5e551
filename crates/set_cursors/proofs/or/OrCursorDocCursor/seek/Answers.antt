use Rattle.set_cursors.proofs.Filtered.{united-sought, KeepsKeys-sought}
use Rattle.set_cursors.proofs.Passed.{united-sought-passed}
use Rattle.set_cursors.proofs.or.OrCursorDocCursor.seek.Goals as goal

pub returns : goal.returns
returns g c =
    let view = g.C.DocCursor.remaining in
    let after = united-sought view c.seek_all.new.operands.items c.args.self.now c.self.inside.operands.items c.self.view_is c.args.from c.seek_all.ensures in
    record {
      after = after;
      operands = KeepsKeys-sought view c.seek_all.new.operands.items c.args.self.now c.self.inside.operands.items c.self.view_is c.args.from c.seek_all.ensures;
      passed = united-sought-passed view c.seek_all.new.operands.items c.args.self.now c.self.inside.operands.items c.self.view_is c.args.from c.seek_all.ensures after;
    }
