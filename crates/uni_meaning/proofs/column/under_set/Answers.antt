use Rattle.std.proofs.Common.{◌≡◌, ◌++◌, ◌∷◌, [], List, map, sym, ap, ◌∙◌, arith, if◌then◌else◌}
use Rattle.std.proofs.lemmas.List.FromFn.{map-range_with_len_more}
use Rattle.std.specs.List.{range_with_len}
use Rattle.uni_meaning.specs.Standings.{hit_by, row_at, under_set}
use Rattle.uni_meaning.specs.declared.standing.Standing.{Standing}
use Rattle.uni_meaning.specs.declared.standing.Standing.TheVariants.{Missed}
use Rattle.uni_meaning.proofs.column.under_set.Goals as goal
use Rattle.uni_meaning.proofs.column.under_set.Goals.{then-keeps+in_ok-standing, else-keeps}

pub loop-i-preserved : goal.loop-i-preserved
loop-i-preserved c =
    let row = row_at c.args.columns.now c.loop-i.i in
    let is : c.if-keeps.standing ≡ under_set c.args.kind row = elim c.if-keeps.branch [
      | then-keeps+in_ok-standing w ↦ w.standing-is ∙ w.in_ok-standing.ensures ∙ ap (λ b. if b then hit_by c.args.kind row else Missed) (sym (sym c.keeps.ensures ∙ w.if-keeps.true))
      | else-keeps w ↦ w.standing-is ∙ ap (λ b. if b then hit_by c.args.kind row else Missed) (sym (sym c.keeps.ensures ∙ w.if-keeps.false))
    ] in
    c.in_ok-push.ensures.items ∙ ap (λ (ss : List Standing). ss ++ c.if-keeps.standing ∷ []) c.loop-i.invariant ∙ ap (λ (s : Standing). map (λ i. under_set c.args.kind (row_at c.args.columns.now i)) (range_with_len 0 c.loop-i.i) ++ s ∷ []) is
    ∙ sym (map-range_with_len_more (λ i. under_set c.args.kind (row_at c.args.columns.now i)) 0 c.loop-i.i c.loop-i.i (omega arith))
