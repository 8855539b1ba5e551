use Rattle.set_cursors.proofs.Differences.{pair, sought_operands, sought_keys}
use Rattle.set_cursors.proofs.PassedPair.{sought_passed}
use Rattle.set_cursors.specs.Filters.{difference}
use Rattle.set_cursors.proofs.difference.DifferenceCursorDocCursor.seek.Goals as goal

pub returns-clause-operands : goal.returns-clause-operands
returns-clause-operands g c =
    sought_operands g.C.DocCursor.remaining c.args.self.now c.self.inside.first c.self.inside.second c.self.view_is c.seek.new.self
    (g.C.DocCursor.remaining c.skip.new.first) (g.C.DocCursor.remaining c.skip.new.second) c.skip.ensures.keys c.skip.ensures.operands c.args.from c.seek.ensures

pub returns-clause-after : goal.returns-clause-after
returns-clause-after g c =
    sought_keys g.C.DocCursor.remaining c.args.self.now c.self.inside.first c.self.inside.second c.self.view_is c.seek.new.self
    (g.C.DocCursor.remaining c.skip.new.first) (g.C.DocCursor.remaining c.skip.new.second) c.skip.ensures.keys c.skip.ensures.operands c.args.from c.seek.ensures

pub returns-clause-passed : goal.returns-clause-passed
returns-clause-passed g c =
    let view = g.C.DocCursor.remaining in
    sought_passed view c.args.self.now c.self.inside.first c.self.inside.second c.self.view_is c.seek.new.self (difference (view c.skip.new.first) (view c.skip.new.second))
    (pair (view c.skip.new.first) (view c.skip.new.second)) c.skip.ensures.passed c.args.from c.seek.ensures
    (sought_keys view c.args.self.now c.self.inside.first c.self.inside.second c.self.view_is c.seek.new.self
    (view c.skip.new.first) (view c.skip.new.second) c.skip.ensures.keys c.skip.ensures.operands c.args.from c.seek.ensures)
