use Rattle.std.proofs.Common.{arith, ◌≡◌, Option, IfSome, ◌∙◌, ap, sym, subst}
use Rattle.std.specs.Option.{option_map}
use Rattle.layer_stack.specs.declared.layer.Base.{Base}
use Rattle.layer_stack.specs.Based.{IsBased, laid_over, layer_of}
use Rattle.layer_stack.specs.Postings.{PostingChanges, entries_of, putting_all}
use Rattle.std.specs.FinMap as finite
use Rattle.layer_stack.specs.Places.{place_cmp}
use Rattle.layer_stack.proofs.layer.Layer.entries.Goals as goal

pub returns-in-Some-clause-entries : goal.returns-in-Some-clause-entries
returns-in-Some-clause-entries c =
    let l = c.self.inside in let rows : PostingChanges = l.rows.value in let base : PostingChanges = c.in-Some.base.rows.value in
    let value : putting_all (laid_over base.puts rows) ≡ c.args.self.now = ap (λ (o : Option Base). layer_of rows (option_map (λ (b : Base). b.rows.value) o)) (sym c.in-Some.is) ∙ c.self.view_is in
    let based : IsBased rows base c.in-Some.base.count = subst (λ (o : Option Base). IfSome o (λ (b : Base). IsBased rows b.rows.value b.count)) c.in-Some.is c.self.invariant in
    let none : finite.len (finite.empty {X = Unit {0}} {R = place_cmp}) ≡ 0 = finite.len-empty place_cmp (Unit {0}) in
    let whole : entries_of (putting_all (laid_over base.puts rows)) ≡ entries_of c.args.self.now = ap entries_of value in
    omega (arith, based.counted, none, whole)

pub returns-in-Some-clause-few : goal.returns-in-Some-clause-few
returns-in-Some-clause-few c =
    let l = c.self.inside in let rows : PostingChanges = l.rows.value in let base : PostingChanges = c.in-Some.base.rows.value in
    let based : IsBased rows base c.in-Some.base.count = subst (λ (o : Option Base). IfSome o (λ (b : Base). IsBased rows b.rows.value b.count)) c.in-Some.is c.self.invariant in
    based.few
