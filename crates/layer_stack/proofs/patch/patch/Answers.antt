use Rattle.std.proofs.Common.{arith, ◌≡◌, ◌≤◌, ◌||◌, ◌++◌, ◌∷◌, [], List, length, take, refl, ap, ◌∙◌, sym}
use Rattle.std.specs.List.{list_any}
use Rattle.std.specs.FinMap as finite
use Rattle.std.specs.Ordering.{eq_by_cmp}
use Rattle.std.proofs.lemmas.List.{take_more, take_all}
use Rattle.layer_base.specs.Layers.{stack_table}
use Rattle.layer_stack.specs.declared.place.Place.{Place}
use Rattle.layer_stack.specs.Combined.{is_among, putting_terms}
use Rattle.layer_stack.specs.Places.{term_cmp}
use Rattle.layer_stack.specs.Postings.{PostingChanges, is_under, no_changes, place_of}
use Rattle.layer_stack.proofs.Based.{among_push, any_insert, empty_rows, patch_put}
use Rattle.layer_stack.proofs.patch.patch.Goals as goal

pub loop-term-init : goal.loop-term-init
loop-term-init c =
    let table = stack_table c.args.front.now in let es = c.args.terms.now in
    let made : c.put_terms.new.delta ≡ putting_terms table es no_changes = c.in_ok-put_terms.ensures.put ∙ ap (putting_terms table es) c.new-delta.ensures in
    record {
      deletes = λ t. ap (λ (d : PostingChanges). list_any (is_under t) (finite.entries d.deletes)) made ∙ ap (λ d. list_any (is_under t) (finite.entries d)) (patch_put table es).deletes ∙ ap (λ (rows : List (Place × Unit {0})). list_any (is_under t) rows) empty_rows;
      puts = refl;
    }

pub loop-term-preserved : goal.loop-term-preserved
loop-term-preserved c =
    let es = c.args.terms.now in let i = c.loop-term.term-index in let e = c.loop-term-item.result in let old = c.loop-term.delta in
    record {
      deletes = λ t.
          ap (λ (d : PostingChanges). list_any (is_under t) (finite.entries d.deletes)) c.in_ok-delete.ensures.ok ∙ any_insert t (place_of e.0 c.args.mark.now) tt old.deletes ∙ ap (λ b. eq_by_cmp term_cmp t e.0 || b) (c.loop-term.invariant.deletes t)
          ∙ among_push t (take i es) e ∙ sym (ap (is_among t) (take_more es i e c.loop-term-test.true ∙ ap (λ x. take i es ++ x ∷ []) (sym c.loop-term-item.is)));
      puts = ap (λ (d : PostingChanges). d.puts) c.in_ok-delete.ensures.ok ∙ c.loop-term.invariant.puts;
    }

pub returns : goal.returns
returns c =
    let table = stack_table c.args.front.now in let es = c.args.terms.now in
    let made : c.put_terms.new.delta ≡ putting_terms table es no_changes = c.in_ok-put_terms.ensures.put ∙ ap (putting_terms table es) c.new-delta.ensures in
    let whole : length es ≤ c.loop-term.term-index = omega (arith, c.loop-term-test.false) in
    record {
      deletes = λ t. c.loop-term.invariant.deletes t ∙ ap (is_among t) (take_all c.loop-term.term-index es whole);
      puts = λ q. ap (λ m. finite.get m q) (c.loop-term.invariant.puts ∙ ap (λ (d : PostingChanges). d.puts) made) ∙ (patch_put table es).puts q;
    }
