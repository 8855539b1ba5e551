use Rattle.std.proofs.Common.{◌≡◌, false, nat_eq, ◌∙◌, arith}
use Rattle.std.proofs.lemmas.Bool.Decides.{nat_tests}
use Rattle.set_cursors.proofs.Differences.{matches_holds, matches_current, matches_not}
use Rattle.set_cursors.proofs.difference.DifferenceCursorOperatorCursor.matches.Goals as goal

pub returns-then-i-eq0-clause-holds : goal.returns-then-i-eq0-clause-holds
returns-then-i-eq0-clause-holds g c =
    matches_holds g.C.DocCursor.remaining c.args.self.now c.self.inside.first c.self.inside.second c.self.view_is c.self.invariant
    c.args.i c.is_some.result c.peek.result c.if-i-eq0.true c.is_some.ensures c.peek.ensures.first

pub returns-then-i-eq0-clause-current : goal.returns-then-i-eq0-clause-current
returns-then-i-eq0-clause-current g c =
    matches_current g.C.DocCursor.remaining c.args.self.now c.self.inside.first c.self.inside.second c.self.view_is c.self.invariant c.args.i c.is_some.result c.if-i-eq0.true

pub returns-else-i-eq0-clause-holds : goal.returns-else-i-eq0-clause-holds
returns-else-i-eq0-clause-holds g c =
    let other : nat_eq c.args.i 0 ≡ false = grind (arith, nat_tests) in
    other ∙ matches_not g.C.DocCursor.remaining c.args.self.now c.self.inside.first c.self.inside.second c.self.view_is c.self.invariant c.args.i (omega (arith, c.if-i-eq0.false))
