use Rattle.std.proofs.Common.{◌++◌, ◌∷◌, [], ◌+◌, List, ℕ, if◌then◌else◌, ap, sym, ◌∙◌, append_assoc, drop, Vec, Global}
use Rattle.uni_meaning.specs.Policy.{denials_from}
use Rattle.uni_meaning.proofs.AtPlaces.{denials_step}
use Rattle.uni_meaning.proofs.view.denials.Goals as goal
use Rattle.uni_meaning.proofs.view.denials.Goals.{then-type_def+in_ok-push, else-type_def}

pub loop-number-preserved : goal.loop-number-preserved
loop-number-preserved c =
    let n = c.loop-number.number in
    let rest = denials_from (n + 1) (drop (n + 1) c.args.schema.now.types) in
    let step = denials_step c.args.schema.now.types n c.type_def.result.now c.type_def.ensures.at in
    elim c.if-type_def.branch [
      | then-type_def+in_ok-push w ↦
          ap (λ (v : Vec ℕ Global). v.items ++ rest) w.numbers-is ∙ ap (λ (ns : List ℕ). ns ++ rest) w.in_ok-push.ensures.items
          ∙ append_assoc c.loop-number.numbers.items (n ∷ []) rest
          ∙ ap (λ (ns : List ℕ). c.loop-number.numbers.items ++ ns) (sym (step ∙ ap (λ b. if b then n ∷ rest else rest) w.if-type_def.true))
          ∙ c.loop-number.invariant
      | else-type_def w ↦
          ap (λ (v : Vec ℕ Global). v.items ++ rest) w.numbers-is
          ∙ ap (λ (ns : List ℕ). c.loop-number.numbers.items ++ ns) (sym (step ∙ ap (λ b. if b then n ∷ rest else rest) w.if-type_def.false))
          ∙ c.loop-number.invariant
    ]
