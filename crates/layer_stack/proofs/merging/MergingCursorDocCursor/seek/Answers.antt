use Rattle.std.proofs.Common.{rules, arith, length, ◌≡◌, [], List, IfNone, not, map, ap, ◌∙◌, sym, subst}
use Rattle.std.proofs.lemmas.List.{with_items_is}
use Rattle.uni_base.specs.Cursors.{IsRanked, is_before}
use Rattle.posting_lists.specs.Postings.{keys_of, postings_from}
use Rattle.posting_lists.proofs.Sections.{keys_of-postings_from}
use Rattle.layer_stack.specs.Stacks.{PartValue, StandAt, first_and, first_before, part_where, remaining_of}
use Rattle.layer_stack.proofs.Heads.{from_others, from_first}
use Rattle.layer_stack.proofs.Merged.{remaining-where, remaining_ranked}
use Rattle.layer_stack.proofs.merging.MergingCursorDocCursor.seek.Goals as goal

pub invariant_of-self : goal.invariant_of-self
invariant_of-self c =
    let items : (Rattle.std.specs.Vec.with_items c.self.inside.parts c.seek_on-self-inside.new.parts).items ≡ c.seek_on-self-inside.new.parts =
    let long : length c.seek_on-self-inside.new.parts ≡ c.self.inside.parts.len = search (rules, arith) in
    with_items_is c.self.inside.parts c.seek_on-self-inside.new.parts long in
    let old = c.deref_mut.result.now in
    let first = c.seek_on-self-inside.ensures.first ∙ sym (remaining-where (λ k. not (is_before k c.args.from)) old) in
    subst (λ (ps : List PartValue). StandAt c.seek_on-self-inside.new.head ps × IfNone c.seek_on-self-inside.result (remaining_of ps ≡ []) × IsRanked (keys_of (first_and c.seek_on-self-inside.result (remaining_of ps)))) (sym items)
    (c.seek_on-self-inside.ensures.least, c.seek_on-self-inside.ensures.none, subst (λ ps. IsRanked (keys_of ps)) (sym first) (remaining_ranked (map (part_where (λ k. not (is_before k c.args.from))) old)))

pub returns-then-comes_before-clause-postings : goal.returns-then-comes_before-clause-postings
returns-then-comes_before-clause-postings c =
    let items : (Rattle.std.specs.Vec.with_items c.self.inside.parts c.seek_on-self-inside.new.parts).items ≡ c.seek_on-self-inside.new.parts =
    let long : length c.seek_on-self-inside.new.parts ≡ c.self.inside.parts.len = search (rules, arith) in
    with_items_is c.self.inside.parts c.seek_on-self-inside.new.parts long in
    let before : c.deref_mut.result.now ≡ c.self.inside.parts.items = search rules in
    ap (λ ps. first_and c.seek_on-self-inside.result (remaining_of ps)) items ∙ c.seek_on-self-inside.ensures.first ∙ ap (λ ps. postings_from c.args.from (remaining_of ps)) before
    ∙ from_others c.args.from c.self.inside.front (remaining_of c.self.inside.parts.items) (ap (first_before c.args.from) c.self.view_is ∙ sym c.comes_before.ensures ∙ c.if-comes_before.true)
    ∙ ap (postings_from c.args.from) c.self.view_is

pub returns-then-comes_before-clause-keys : goal.returns-then-comes_before-clause-keys
returns-then-comes_before-clause-keys c = ap keys_of (returns-then-comes_before-clause-postings c) ∙ keys_of-postings_from c.args.from c.args.self.now

pub returns-else-comes_before-clause-postings : goal.returns-else-comes_before-clause-postings
returns-else-comes_before-clause-postings c =
    from_first c.args.from c.args.self.now (subst (λ ps. IsRanked (keys_of ps)) c.self.view_is c.self.invariant.2) (sym c.comes_before.ensures ∙ c.if-comes_before.false)

pub returns-else-comes_before-clause-keys : goal.returns-else-comes_before-clause-keys
returns-else-comes_before-clause-keys c = ap keys_of (returns-else-comes_before-clause-postings c) ∙ keys_of-postings_from c.args.from c.args.self.now
