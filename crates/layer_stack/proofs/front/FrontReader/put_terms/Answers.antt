use Rattle.std.proofs.Common.{◌++◌, ◌∷◌, [], take, ap, ◌∙◌, sym}
use Rattle.std.proofs.lemmas.List.{take_more}
use Rattle.layer_base.specs.Layers.{stack_table}
use Rattle.layer_stack.specs.Combined.{putting_terms}
use Rattle.layer_stack.specs.Postings.{postings_of, putting_list}
use Rattle.layer_stack.proofs.Combined.{terms_more}
use Rattle.layer_stack.proofs.front.FrontReader.put_terms.Goals as goal

pub loop-term-preserved : goal.loop-term-preserved
loop-term-preserved c =
    let table = stack_table c.args.self.now in let es = c.args.terms.now in let i = c.loop-term.term-index in let e = c.loop-term-item.result in let old = c.args.delta.now in
    record {
      same = c.put_term.ensures.same ∙ c.loop-term.invariant.same;
      put = c.in_ok-put_term.ensures.put ∙ (λ j. putting_list e.0 (postings_of e.0 (stack_table (c.loop-term.invariant.same j))) (c.loop-term.invariant.put j))
          ∙ sym (ap (λ xs. putting_terms table xs old) (take_more es i e c.loop-term-test.true ∙ ap (λ x. take i es ++ x ∷ []) (sym c.loop-term-item.is)) ∙ terms_more table (take i es) e old);
    }
