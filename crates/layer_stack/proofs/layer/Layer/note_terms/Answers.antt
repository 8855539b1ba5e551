use Rattle.std.proofs.Common.{rules, ◌≡◌, Option, ◌∙◌, ap, sym}
use Rattle.std.specs.Option.{option_map}
use Rattle.layer_stack.specs.declared.layer.Base.{Base}
use Rattle.layer_stack.specs.Based.{laid_over, layer_of}
use Rattle.layer_stack.specs.Postings.{PostingChanges, putting_all}
use Rattle.layer_base.proofs.Among.{or_false}
use Rattle.layer_stack.specs.Combined.{is_among}
use Rattle.layer_stack.specs.Words.{has_term}
use Rattle.layer_stack.proofs.Based.{none_laid}
use Rattle.layer_stack.proofs.layer.Layer.note_terms.Goals as goal

pub returns-in_ok-note_terms-2 : goal.returns-in_ok-note_terms-2
returns-in_ok-note_terms-2 c t none =
    let l = c.self.inside in let rows : PostingChanges = l.rows.value in let base : PostingChanges = c.in-Some.base.rows.value in
    let value : putting_all (laid_over base.puts rows) ≡ c.args.self.now = ap (λ (o : Option Base). layer_of rows (option_map (λ (b : Base). b.rows.value) o)) (sym c.in-Some.is) ∙ c.self.view_is in
    let one : c.deref.result.now ≡ rows = search rules in let two : c.deref-in-Some.result.now ≡ base = search rules in
    let last = or_false (is_among t c.note_terms.new.terms.items) (has_term t c.deref-in-Some.result.now) (sym (c.in_ok-note_terms-2.ensures {u = tt} t) ∙ none) in
    let first = or_false (is_among t c.args.terms.now.items) (has_term t c.deref.result.now) (sym (c.in_ok-note_terms.ensures {u = tt} t) ∙ last.0) in
    (first.0, ap (has_term t) (sym value) ∙ none_laid t rows base (ap (has_term t) (sym one) ∙ first.1) (ap (has_term t) (sym two) ∙ last.1))
