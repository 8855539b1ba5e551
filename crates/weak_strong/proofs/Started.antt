-- Operands and marks, taken apart.
use Rattle.std.proofs.Common.{◌≡◌, ℕ, List, [], ◌∷◌, ◌++◌, refl, sym, ◌∙◌, ap, arith, length, map}
use Rattle.std.proofs.lemmas.List.{append-nil}
use Rattle.std.proofs.lemmas.Simd.{map-map}
use Rattle.uni_base.specs.declared.entity.DocKey.{DocKey}
use Rattle.uni_base.specs.Walks.{Quota}
use Rattle.weak_strong.specs.declared.rule.Rule.{Rule}
use Rattle.weak_strong.specs.Walking.{walk_of}

none_left : {X : Type 0} (xs : List X) → length xs ≡ 0 → xs ≡ []
none_left [] e = refl
none_left (x ∷ xs) e = absurd (omega arith)

module _ {C M : Type 0} (view : C → List DocKey) (quota : M → Quota) (operands yielded left : List (C × M)) (cursors : List C) (quotas : List Quota) (counters : List (Quota × ℕ))
    (all : yielded ++ left ≡ operands) (over : length left ≡ 0) (firsts : cursors ≡ map (λ (o : C × M). o.0) yielded) (seconds : quotas ≡ map (λ (o : C × M). quota o.1) yielded)
    (counts : counters ≡ map (λ (q : Quota). (q, 0)) quotas) where
  whole : yielded ≡ operands
  whole = sym (append-nil yielded) ∙ ap (λ (xs : List (C × M)). yielded ++ xs) (sym (none_left left over)) ∙ all

  pub started_lists : map view cursors ≡ map (λ (o : C × M). view o.0) operands
  started_lists = ap (map view) firsts ∙ map-map view (λ (o : C × M). o.0) yielded ∙ ap (map (λ (o : C × M). view o.0)) whole

  pub started_counters : counters ≡ map (λ (o : C × M). (quota o.1, 0)) operands
  started_counters =
      counts ∙ ap (map (λ (q : Quota). (q, 0))) seconds ∙ map-map (λ (q : Quota). (q, 0)) (λ (o : C × M). quota o.1) yielded ∙ ap (map (λ (o : C × M). (quota o.1, 0))) whole

  pub started_walk : (rule : Rule) (keys : List DocKey) → keys ≡ walk_of rule (map view cursors) counters 0
      → keys ≡ walk_of rule (map (λ (o : C × M). view o.0) operands) (map (λ (o : C × M). (quota o.1, 0)) operands) 0
  started_walk rule keys e =
      e ∙ ap (λ (lists : List (List DocKey)). walk_of rule lists counters 0) started_lists
      ∙ ap (λ (cs : List (Quota × ℕ)). walk_of rule (map (λ (o : C × M). view o.0) operands) cs 0) started_counters
