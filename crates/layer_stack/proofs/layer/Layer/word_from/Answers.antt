use Rattle.std.proofs.Common.{rules, ◌≡◌, ◌||◌, Option, IfSome, refl, ◌∙◌, ap, sym, subst}
use Rattle.std.specs.Option.{option_map}
use Rattle.layer_stack.specs.declared.layer.Base.{Base}
use Rattle.layer_stack.specs.Based.{IsBased, laid_over, layer_of}
use Rattle.layer_stack.specs.Postings.{PostingChanges, putting_all}
use Rattle.uni_base.specs.declared.edge.Key.TheVariants.{Word}
use Rattle.layer_stack.specs.Places.{term_of}
use Rattle.layer_stack.specs.Words.{has_term, IsWordFrom}
use Rattle.layer_stack.proofs.Based.{word_has, words_alike}
use Rattle.layer_stack.proofs.TermWords.{earlier_is}
use Rattle.layer_stack.proofs.layer.Layer.word_from.Goals as goal

pub returns-in-Some-clause-least : goal.returns-in-Some-clause-least
returns-in-Some-clause-least g c =
    let l = c.self.inside in let rows : PostingChanges = l.rows.value in let base : PostingChanges = c.in-Some.base.rows.value in
    let value : putting_all (laid_over base.puts rows) ≡ c.args.self.now = ap (λ (o : Option Base). layer_of rows (option_map (λ (b : Base). b.rows.value) o)) (sym c.in-Some.is) ∙ c.self.view_is in
    let based : IsBased rows base c.in-Some.base.count = subst (λ (o : Option Base). IfSome o (λ (b : Base). IsBased rows b.rows.value b.count)) c.in-Some.is c.self.invariant in
    let one : c.deref.result.now ≡ rows = search rules in let two : c.deref-in-Some.result.now ≡ base = search rules in
    let type_no = c.args.type_no in let from = c.args.from.now in let strict = c.args.strict in
    let own = subst (λ (v : PostingChanges). IsWordFrom (λ t. has_term t v) type_no from strict c.word_from-word.result) one c.word_from-word.ensures in
    let under = subst (λ (v : PostingChanges). IsWordFrom (λ t. has_term t v) type_no from strict c.word_from.result) two c.word_from.ensures in
    subst (λ (v : PostingChanges). IsWordFrom (λ t. has_term t v) type_no from strict c.earlier.result) value
    (words_alike (λ t. has_term t rows || has_term t base) (λ t. has_term t (putting_all (laid_over base.puts rows))) type_no from strict (λ word. word_has rows base c.in-Some.base.count based (term_of type_no (Word word)) refl) c.earlier.result
    (subst (IsWordFrom (λ t. has_term t rows || has_term t base) type_no from strict) (sym c.earlier.ensures) (earlier_is type_no from strict (λ t. has_term t rows) (λ t. has_term t base) c.word_from-word.result c.word_from.result own under)))
