use Rattle.std.proofs.Common.{◌≡◌, ◌++◌, ◌∷◌, [], ap, ◌∙◌, append_assoc, sym}
use Rattle.posting_lists.specs.Postings.{section}
use Rattle.posting_lists.proofs.Sections.{section_more}
use Rattle.posting_lists.proofs.columns.PostingColumns.append.Goals as goal

pub loop-i-preserved : goal.loop-i-preserved
loop-i-preserved c =
    let ps = c.args.other.now in let from = c.args.from in let i = c.loop-i.i in let p = c.posting.result in let old = c.args.self.now in
    c.in_ok-push.ensures.ok ∙ ap (λ xs. xs ++ p ∷ []) c.loop-i.invariant ∙ append_assoc old (section from i ps) (p ∷ [])
    ∙ ap (λ xs. old ++ xs) (sym (section_more from i ps p c.loop-i.auto.i c.posting.ensures))
