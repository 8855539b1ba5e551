use Rattle.std.proofs.Common.{rules, ◌≡◌, [], cond, Option, ◌∙◌, ap, sym}
use Rattle.std.specs.Option.{option_map}
use Rattle.layer_stack.specs.declared.layer.Base.{Base}
use Rattle.layer_stack.specs.Based.{laid_over, layer_of}
use Rattle.layer_stack.specs.Postings.{PostingChanges, postings_of, deletes_of, putting_all}
use Rattle.layer_stack.specs.Stacks.{has_nothing}
use Rattle.layer_stack.proofs.Based.{deletes-putting, postings-laid}
use Rattle.layer_stack.proofs.layer.Layer.part.Goals as goal

pub returns-in-Some : goal.returns-in-Some
returns-in-Some c =
    let l = c.self.inside in let rows : PostingChanges = l.rows.value in let base : PostingChanges = c.in-Some.base.rows.value in
    let value : putting_all (laid_over base.puts rows) ≡ c.args.self.now = ap (λ (o : Option Base). layer_of rows (option_map (λ (b : Base). b.rows.value) o)) (sym c.in-Some.is) ∙ c.self.view_is in
    let t = c.args.term.now in
    let one : c.deref.result.now ≡ rows = search rules in let two : c.deref-in-Some.result.now ≡ base = search rules in
    let part : c.part-part.result ≡ (deletes_of t rows, postings_of t rows.puts) = c.part-part.ensures ∙ ap (λ (v : PostingChanges). (deletes_of t v, postings_of t v.puts)) one in
    c.over_base.ensures ∙ (λ i. ([], cond (has_nothing (part i)) (postings_of t (two i).puts) (part i).1))
    ∙ (λ i. (sym (deletes-putting t (laid_over base.puts rows)) i, postings-laid t base.puts rows i)) ∙ ap (λ (v : PostingChanges). (deletes_of t v, postings_of t v.puts)) value
