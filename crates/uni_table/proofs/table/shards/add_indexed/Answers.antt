use Rattle.std.proofs.Common.{◌≡◌, ◌+◌, ◌++◌, Bool, true, false, List, [], ◌∷◌, cond, filter, take, sym, ap, subst, ◌∙◌, append-nil, Vec, Global}
use Rattle.std.proofs.lemmas.List.Elements.{filter_more}
use Rattle.std.proofs.lemmas.List.Sorted.{IsPermutation-refl}
use Rattle.uni_base.specs.declared.edge.Held.{Held}
use Rattle.uni_table.specs.Added.{Adds}
use Rattle.uni_table.specs.Shards.{is_indexed}
use Rattle.uni_table.proofs.Additions.{adds_both}
use Rattle.uni_table.proofs.table.shards.add_indexed.Goals as goal
use Rattle.uni_table.proofs.table.shards.add_indexed.Goals.{then-is_indexed+in_ok-push, else-is_indexed}

pub loop-edge-preserved : goal.loop-edge-preserved
loop-edge-preserved c =
    let schema = c.args.schema.now in
    let edges = c.args.edges.now in
    let i = c.loop-edge.edge-index in
    let edge : Held = c.edge-item.result in
    let held : Vec Held Global → List Held = λ v. v.items in
    let before : List Held = filter (is_indexed schema) (take i edges) in
    let more : (b : Bool) → c.is_indexed.result ≡ b → filter (is_indexed schema) (take (i + 1) edges) ≡ before ++ cond b (edge ∷ []) [] =
    λ b is. filter_more (is_indexed schema) edges i edge c.loop-edge-test.true
    ∙ (λ j. before ++ cond (is_indexed schema (sym c.edge-item.is j)) (sym c.edge-item.is j ∷ []) []) ∙ ap (λ t. before ++ cond t (edge ∷ []) []) (sym c.is_indexed.ensures ∙ is) in
    elim c.if-is_indexed.branch [
      | then-is_indexed+in_ok-push w ↦
          subst (λ (xs : List Held). Adds c.args.held.now.items c.if-is_indexed.held.items xs) (sym (more true w.if-is_indexed.true))
          (adds_both c.args.held.now.items c.loop-edge.held.items c.if-is_indexed.held.items before (edge ∷ []) c.loop-edge.invariant
          (record { added = edge ∷ []; is = ap held w.held-is ∙ w.in_ok-push.ensures.items; same = IsPermutation-refl (edge ∷ []) }))
      | else-is_indexed w ↦
          subst (λ (xs : List Held). Adds c.args.held.now.items c.if-is_indexed.held.items xs) (sym (more false w.if-is_indexed.false ∙ append-nil before))
          (subst (λ (v : Vec Held Global). Adds c.args.held.now.items v.items before) (sym w.held-is) c.loop-edge.invariant)
    ]
