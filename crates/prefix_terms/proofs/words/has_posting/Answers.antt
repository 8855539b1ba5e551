use Rattle.std.proofs.Common.{◌∙◌, ap, sym, is_some, slice_get}
use Rattle.std.specs.FinMap as finite
use Rattle.layer_base.specs.Layers.{stack_table}
use Rattle.posting_lists.specs.Postings.{keys_of}
use Rattle.uni_base.specs.declared.edge.Key.TheVariants.{Word}
use Rattle.layer_stack.specs.Places.{term_of}
use Rattle.layer_stack.specs.Postings.{is_under, posting_of, postings_of}
use Rattle.prefix_terms.proofs.Occurs.{list_any-left, some_first-map}
use Rattle.prefix_terms.proofs.words.has_posting.Goals as goal

pub returns : goal.returns
returns c =
    let table = stack_table c.args.stack.now.0 in
    let term = term_of c.args.type_no (Word c.args.word.now) in
    c.is_some.ensures ∙ ap is_some c.peek.ensures.first
    ∙ ap (λ ps. is_some (slice_get (keys_of ps) 0)) (c.in_ok-cursor.ensures {u = tt} ∙ ap (λ t. postings_of t table) c.word_term.ensures)
    ∙ some_first-map (λ p. p.key) (postings_of term table)
    ∙ sym (list_any-left (is_under term) posting_of (finite.entries table))
