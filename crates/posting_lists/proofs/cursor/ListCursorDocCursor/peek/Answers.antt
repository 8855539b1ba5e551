use Rattle.std.proofs.Common.{arith, ap, ◌∙◌, sym, slice_get}
use Rattle.std.proofs.lemmas.List.{length-map}
use Rattle.posting_lists.specs.declared.posting.Posting.{Posting}
use Rattle.posting_lists.specs.Postings.{keys_of}
use Rattle.posting_lists.proofs.Sections.{keys_of-section, slice_get-section}
use Rattle.posting_lists.proofs.cursor.ListCursorDocCursor.peek.Goals as goal

pub returns-then-self-clause-first : goal.returns-then-self-clause-first
returns-then-self-clause-first c =
    let at = c.self.inside.at in let end = c.self.inside.end in let ps = c.self.inside.columns.now in
    sym (ap (λ qs. slice_get (keys_of qs) 0) (sym c.self.view_is) ∙ ap (λ ks. slice_get ks 0) (keys_of-section at end ps)
    ∙ slice_get-section at end (keys_of ps) c.if-self.true (omega (arith, c.self.invariant.1, length-map ps (λ (p : Posting). p.key))) ∙ c.key.ensures)
