use Rattle.std.proofs.Common.{arith, ◌+◌, ◌≤◌, drop, ap, ◌∙◌, sym}
use Rattle.std.proofs.lemmas.List.{drop-map}
use Rattle.posting_lists.specs.declared.posting.Posting.{Posting}
use Rattle.posting_lists.specs.Postings.{keys_of}
use Rattle.posting_lists.proofs.Sections.{drop-section, section_ranked}
use Rattle.posting_lists.proofs.cursor.ListCursorDocCursor.step.Goals as goal

pub invariant_of-self : goal.invariant_of-self
invariant_of-self c =
    let below : c.self.inside.at + 1 ≤ c.self.inside.end = omega (arith, c.if-self.true) in
    (below, c.self.invariant.1, section_ranked c.self.inside.columns.now c.self.inside.at c.self.inside.end (c.self.inside.at + 1) (omega arith) below c.self.invariant.2)

pub returns-then-self-clause-postings : goal.returns-then-self-clause-postings
returns-then-self-clause-postings c =
    sym (ap (drop 1) (sym c.self.view_is) ∙ drop-section 1 c.self.inside.at c.self.inside.end c.self.inside.columns.now (omega (arith, c.if-self.true)))

pub returns-then-self-clause-keys : goal.returns-then-self-clause-keys
returns-then-self-clause-keys c =
    ap keys_of (returns-then-self-clause-postings c) ∙ sym (drop-map (λ (p : Posting). p.key) 1 c.args.self.now)
