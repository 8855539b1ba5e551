use Rattle.std.proofs.Common.{◌∙◌, sym, map}
use Rattle.uni_base.specs.KeySets.{united}
use Rattle.set_cursors.proofs.FirstKeys.{least_in}
use Rattle.set_cursors.proofs.Filtered.{first_was, united-passed, KeepsKeys-passed}
use Rattle.set_cursors.proofs.Passed.{moved_nowhere, united-passed-passed}
use Rattle.set_cursors.proofs.or.OrCursorDocCursor.step.Goals as goal

pub returns-in-Some-clause-moved : goal.returns-in-Some-clause-moved
returns-in-Some-clause-moved g c =
    let view = g.C.DocCursor.remaining in
    let first = sym (first_was view c.pass_all.new.operands.items c.args.self.now c.self.inside.operands.items c.self.view_is c.self.inside.first c.self.invariant) ∙ c.in-Some.is in
    let after = united-passed view c.pass_all.new.operands.items c.args.self.now c.self.inside.operands.items c.self.view_is c.in-Some.key first c.pass_all.ensures.passes in
    record {
      after = after;
      operands = KeepsKeys-passed view c.pass_all.new.operands.items c.args.self.now c.self.inside.operands.items c.self.view_is c.in-Some.key c.pass_all.ensures.passes;
      passed = united-passed-passed view c.pass_all.new.operands.items c.args.self.now c.self.inside.operands.items c.self.view_is c.in-Some.key (sym first) c.pass_all.ensures.passes after;
    }

pub returns-in_default-clause-moved : goal.returns-in_default-clause-moved
returns-in_default-clause-moved g c =
    let first = first_was g.C.DocCursor.remaining c.self.inside.operands.items c.args.self.now c.self.inside.operands.items c.self.view_is c.self.inside.first c.self.invariant in
    moved_nowhere united (map g.C.DocCursor.remaining c.args.self.now) (λ k e. c.in_default.not-Some k (first ∙ e))

pub pass_all-requires : goal.pass_all-requires
pass_all-requires g c = λ i ranked x has. least_in c.in-Some.key (map g.C.DocCursor.remaining c.self.inside.operands.items) i (sym c.self.invariant ∙ c.in-Some.is) x has
