use Rattle.std.proofs.Common.{false, ◌∙◌, ap, sym}
use Rattle.std.proofs.lemmas.Option.{get_or_from_slice_get}
use Rattle.lineage_tree.specs.declared.lineage.Lineage.{Lineage}
use Rattle.lineage_tree.specs.Holding.{holds_by}
use Rattle.lineage_tree.specs.Tree.{tree_of}
use Rattle.lineage_tree.proofs.HoldingLemmas.{all_stops, all_ends, some_stops, some_ends}
use Rattle.lineage_tree.proofs.TreeLemmas.{tree_of-edge, tree_of-entry}
use Rattle.lineage_tree.proofs.holds.+holds.Goals as goal

pub returns-then-not-holds : goal.returns-then-not-holds
returns-then-not-holds g t c = λ accepts judges.
    all_stops accepts c.args.verdicts.now c.args.tree.now c.deref-member-items.result.now c.loop-member.member-index c.in-AllOf.members c.in-AllOf.is c.deref-member-items.ensures.value
    (c.loop-member.invariant.holds accepts judges) c.member-item.result c.holds.result c.loop-member-test.true c.member-item.is (c.holds.ensures accepts judges) c.if-not-holds.true

pub returns-after-loop-member : goal.returns-after-loop-member
returns-after-loop-member g t c = λ accepts judges.
    all_ends accepts c.args.verdicts.now c.args.tree.now c.deref-member-items.result.now c.loop-member.member-index c.in-AllOf.members c.in-AllOf.is c.deref-member-items.ensures.value
    (c.loop-member.invariant.holds accepts judges) c.loop-member-test.false

pub returns-then-holds : goal.returns-then-holds
returns-then-holds g t c = λ accepts judges.
    some_stops accepts c.args.verdicts.now c.args.tree.now c.deref-member-items-in-AnyOf.result.now c.loop-member-2.member-index c.in-AnyOf.members c.in-AnyOf.is c.deref-member-items-in-AnyOf.ensures.value
    (c.loop-member-2.invariant.holds accepts judges) c.member-item-in-loop-member-2.result c.holds-in-loop-member-2.result c.loop-member-2-test.true c.member-item-in-loop-member-2.is
    (c.holds-in-loop-member-2.ensures accepts judges) c.if-holds.true

pub returns-after-loop-member-2 : goal.returns-after-loop-member-2
returns-after-loop-member-2 g t c = λ accepts judges.
    some_ends accepts c.args.verdicts.now c.args.tree.now c.deref-member-items-in-AnyOf.result.now c.loop-member-2.member-index c.in-AnyOf.members c.in-AnyOf.is c.deref-member-items-in-AnyOf.ensures.value
    (c.loop-member-2.invariant.holds accepts judges) c.loop-member-2-test.false

pub returns-in-Edge : goal.returns-in-Edge
returns-in-Edge g t c = λ accepts judges.
    judges c.in-Edge.held c.ask.result c.ask.ensures
    ∙ sym (ap (λ (tree : Lineage). holds_by accepts c.args.verdicts.now (tree_of tree)) c.in-Edge.is ∙ ap (holds_by accepts c.args.verdicts.now) (tree_of-edge c.in-Edge.held))

pub returns-in-Entry : goal.returns-in-Entry
returns-in-Entry g t c = λ accepts judges.
    sym (get_or_from_slice_get c.args.verdicts.now c.in-Entry.entry c.get.result false c.get.ensures)
    ∙ sym (ap (λ (tree : Lineage). holds_by accepts c.args.verdicts.now (tree_of tree)) c.in-Entry.is ∙ ap (holds_by accepts c.args.verdicts.now) (tree_of-entry c.in-Entry.entry))
