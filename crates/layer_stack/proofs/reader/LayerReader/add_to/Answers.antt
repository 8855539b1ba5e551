use Rattle.std.proofs.Common.{◌≡◌, [], cond, Option, ◌∙◌, ap, sym, subst, Bor}
use Rattle.std.specs.Result.{OnOk}
use Rattle.std.specs.Option.{option_map}
use Rattle.layer_stack.specs.declared.rows.Rows.{Rows}
use Rattle.layer_stack.specs.Based.{laid_over, layer_of}
use Rattle.layer_stack.specs.Postings.{PostingChanges, postings_of, deletes_of, putting_all}
use Rattle.layer_stack.specs.Readers.{ReaderValue}
use Rattle.layer_stack.specs.Stacks.{PartValue, and_part, has_nothing}
use Rattle.layer_stack.proofs.Based.{deletes-putting, postings-laid}
use Rattle.layer_stack.proofs.reader.LayerReader.add_to.Goals as goal
use Rattle.layer_stack.proofs.reader.LayerReader.add_to.Goals.{in-Some, in-None}

pub returns-clause-parts : goal.returns-clause-parts
returns-clause-parts c =
    let l = c.self.inside in let t = c.args.term.now in let rows : PostingChanges = l.rows.0 in
    let said : c.part-part.result ≡ (deletes_of t rows, postings_of t rows.puts) = c.part-part.ensures.part in
    let part : c.match-self.part ≡ (deletes_of t c.args.self.now.0, postings_of t c.args.self.now.0.puts) =
    elim c.match-self.branch [
      | in-Some w ↦
          let base : PostingChanges = w.in-Some.base.now in
          let value : putting_all (laid_over base.puts rows) ≡ c.args.self.now.0 = ap (λ (o : Option (Bor Rows)). layer_of rows (option_map (λ (b : Bor Rows). b.now) o)) (sym w.in-Some.is) ∙ ap (λ (v : ReaderValue). v.0) c.self.view_is in
          w.part-is ∙ w.over_base-part.ensures ∙ (λ i. ([], cond (has_nothing (said i)) (postings_of t base.puts) (said i).1))
          ∙ (λ i. (sym (deletes-putting t (laid_over base.puts rows)) i, postings-laid t base.puts rows i)) ∙ ap (λ (v : PostingChanges). (deletes_of t v, postings_of t v.puts)) value
      | in-None w ↦
          let value : rows ≡ c.args.self.now.0 = ap (λ (o : Option (Bor Rows)). layer_of rows (option_map (λ (b : Bor Rows). b.now) o)) (sym w.in-None.is) ∙ ap (λ (v : ReaderValue). v.0) c.self.view_is in
          w.part-is ∙ said ∙ ap (λ (v : PostingChanges). (deletes_of t v, postings_of t v.puts)) value
    ] in
    subst (λ (v : PartValue). OnOk c.add_part.result (c.add_part.new.parts.items ≡ and_part c.args.parts.now.items v)) part c.add_part.ensures
