use Rattle.std.proofs.Common.{List, ◌+◌, ◌∙◌, ap, not, sym, map, slice_get}
use Rattle.std.specs.Ordering.{is_eq}
use Rattle.uni_base.specs.declared.entity.DocKey.{DocKey}
use Rattle.uni_base.specs.RankOrder.{doc_cmp}
use Rattle.set_cursors.proofs.Commons.{common-passed, common-KeepsKeys-passed, few-moved}
use Rattle.set_cursors.specs.Filters.{common}
use Rattle.set_cursors.proofs.Passed.{moved_nowhere}
use Rattle.set_cursors.proofs.PassedFirst.{stepped-common}
use Rattle.set_cursors.proofs.and.AndCursor.step_counted.Goals as goal

pub returns-in-Some-clause-moved : goal.returns-in-Some-clause-moved
returns-in-Some-clause-moved g c =
    let view = g.C.DocCursor.remaining in
    let leapt = c.leap-self-inside.ensures.moved in
    let first = sym c.in-Some.is ∙ c.self.invariant.first_is in
    let after = common-passed view c.leap-self-inside.new.operands.items c.pass_first.new.operands.items c.args.self.now c.self.inside.operands.items c.self.view_is
    leapt.after leapt.operands c.in-Some.key first c.pass_first.ensures.moves in
    record {
      after = after;
      operands = common-KeepsKeys-passed view c.leap-self-inside.new.operands.items c.pass_first.new.operands.items c.args.self.now c.self.inside.operands.items c.self.view_is
          leapt.after leapt.operands c.in-Some.key c.pass_first.ensures.moves;
      passed = stepped-common view c.args.self.now c.self.inside.operands.items c.self.view_is (map view c.leap-self-inside.new.operands.items) (map view c.pass_first.new.operands.items) leapt.passed
          c.in-Some.key first c.pass_first.ensures.moves after;
    }

pub returns-in_default-clause-moved : goal.returns-in_default-clause-moved
returns-in_default-clause-moved g c =
    let view = g.C.DocCursor.remaining in
    let first = c.self.invariant.first_is ∙ ap (λ (xs : List g.row.C.Denot). slice_get (common (map view xs)) 0) c.self.view_is in
    moved_nowhere common (map view c.args.self.now) (λ k e. c.in_default.not-Some k (first ∙ e))

pub returns-in-Some-clause-few : goal.returns-in-Some-clause-few
returns-in-Some-clause-few g c =
    few-moved g.C.DocCursor.remaining c.pass_first.new.operands.items c.args.self.now c.self.inside.operands.items c.self.view_is (map g.C.DocCursor.remaining c.leap-self-inside.new.operands.items)
    (λ (x : DocKey). not (is_eq (doc_cmp c.in-Some.key x))) c.pass_first.ensures.moves (c.args.moves.now + 1) c.pass_first.new.moves c.leap-self-inside.new.moves c.pass_first.ensures.counted
    c.leap-self-inside.ensures.few
