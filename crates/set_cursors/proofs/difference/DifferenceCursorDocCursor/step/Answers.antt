use Rattle.std.proofs.Common.{◌∙◌, sym}
use Rattle.set_cursors.specs.Filters.{difference}
use Rattle.set_cursors.proofs.Differences.{pair, stepped_operands, stepped_keys}
use Rattle.set_cursors.proofs.PassedPair.{end_after, end_passed, none_told, some_told, stepped_passed}
use Rattle.set_cursors.proofs.difference.DifferenceCursorDocCursor.step.Goals as goal

pub returns-then-is_some-clause-operands : goal.returns-then-is_some-clause-operands
returns-then-is_some-clause-operands g c =
    stepped_operands g.C.DocCursor.remaining c.args.self.now c.self.inside.first c.self.inside.second c.self.view_is c.step.new.self
    (g.C.DocCursor.remaining c.skip.new.first) (g.C.DocCursor.remaining c.skip.new.second) c.skip.ensures.keys c.skip.ensures.operands c.step.ensures

pub returns-then-is_some-clause-passed : goal.returns-then-is_some-clause-passed
returns-then-is_some-clause-passed g c =
    let view = g.C.DocCursor.remaining in
    let told = some_told c.peek.result c.is_some.result c.is_some.ensures c.if-is_some.true in
    stepped_passed view c.args.self.now c.self.inside.first c.self.inside.second c.self.view_is c.step.new.self (difference (view c.skip.new.first) (view c.skip.new.second))
    (pair (view c.skip.new.first) (view c.skip.new.second)) c.skip.ensures.passed told.0 (told.1 ∙ c.peek.ensures.first) c.peek.ensures.ranked c.self.invariant c.step.ensures
    (stepped_keys view c.args.self.now c.self.inside.first c.self.inside.second c.self.view_is c.self.invariant c.step.new.self (view c.skip.new.first) (view c.skip.new.second) c.skip.ensures.keys c.step.ensures)

pub returns-else-is_some-clause-after : goal.returns-else-is_some-clause-after
returns-else-is_some-clause-after g c =
    end_after g.C.DocCursor.remaining c.args.self.now c.self.inside.first c.self.inside.second c.self.view_is c.self.invariant
    (sym (none_told c.peek.result c.is_some.result c.is_some.ensures c.if-is_some.false) ∙ c.peek.ensures.first)

pub returns-else-is_some-clause-passed : goal.returns-else-is_some-clause-passed
returns-else-is_some-clause-passed g c =
    let view = g.C.DocCursor.remaining in
    end_passed view c.args.self.now c.self.inside.first c.self.inside.second c.self.view_is c.self.invariant
    (sym (none_told c.peek.result c.is_some.result c.is_some.ensures c.if-is_some.false) ∙ c.peek.ensures.first)
    (pair (view c.args.self.now.0) (view c.args.self.now.1)) (pair (view c.args.self.now.0) (view c.args.self.now.1))
