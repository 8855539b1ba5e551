use Rattle.std.proofs.Common.{Bool, ap, ◌∙◌, subst}
use Rattle.layer_stack.specs.declared.place.TermKey.{TermKey}
use Rattle.layer_stack.specs.Words.{has_term, IsWordFrom}
use Rattle.layer_stack.proofs.TermWords.{terms_laid}
use Rattle.layer_stack.proofs.rows.Rows.word_from.Goals as goal

pub returns : goal.returns
returns c =
    let l = c.self.inside in
    subst (λ (has : TermKey → Bool). IsWordFrom has c.args.type_no c.args.from.now c.args.strict c.word_from.result)
    (λ i t. (terms_laid t l.directory l.deleted.items l.postings c.self.invariant.1 c.self.invariant.0 ∙ ap (has_term t) c.self.view_is) i) c.word_from.ensures
