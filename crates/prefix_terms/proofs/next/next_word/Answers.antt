use Rattle.std.proofs.Common.{◌∙◌, sym}
use Rattle.uni_base.specs.declared.edge.Key.TheVariants.{Word}
use Rattle.layer_stack.specs.Places.{term_of}
use Rattle.prefix_terms.specs.Occurring.{occurs_in}
use Rattle.prefix_terms.proofs.Begins.{none_begins}
use Rattle.prefix_terms.proofs.next.next_word.Goals as goal

pub returns-else-begins_with-clause-least : goal.returns-else-begins_with-clause-least
returns-else-begins_with-clause-least g c =
    let found = c.in_ok-word.ensures.least in
    none_begins (λ word. occurs_in c.args.stack.now.0 (term_of c.args.type_no (Word word))) c.args.strict c.args.from.now c.args.at.now c.in_ok-word.word
    c.requires (sym c.begins_with.ensures ∙ c.if-begins_with.false) found.passes found.least
