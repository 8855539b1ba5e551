use Rattle.std.proofs.Common.{◌||◌, ap, ◌∙◌}
use Rattle.std.proofs.lemmas.Result.{on_ok_weaker}
use Rattle.layer_stack.specs.Combined.{is_among}
use Rattle.layer_stack.specs.Words.{has_term}
use Rattle.layer_stack.proofs.TermWords.{terms_laid}
use Rattle.layer_stack.proofs.rows.Rows.note_terms.Goals as goal

pub returns : goal.returns
returns c =
    let l = c.self.inside in
    on_ok_weaker c.note_terms.result (λ notes t. notes t
    ∙ ap (λ b. is_among t c.args.terms.now.items || b) (terms_laid t l.directory l.deleted.items l.postings c.self.invariant.1 c.self.invariant.0 ∙ ap (has_term t) c.self.view_is)) c.note_terms.ensures
