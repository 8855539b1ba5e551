-- Parts of a layer without entries.
use Rattle.std.proofs.Common.{arith, ◌≡◌, ◌+◌, List, [], ◌∷◌, length, refl, sym, ◌∙◌}
use Rattle.std.specs.FinMap as finite
use Rattle.std.specs.declared.cmp.Ordering.{Ordering}
use Rattle.layer_base.specs.Layers.{Changes}

no_length : {A : Type 0} (xs : List A) → length xs ≡ 0 → xs ≡ []
no_length [] none = refl
no_length (x ∷ xs) none = absurd (omega (arith, none))

-- a map of no entries is the empty one
pub nothing_in : {K X : Type 0} {R : K → K → Ordering} (m : finite.FinMap R X) → finite.len m ≡ 0 → m ≡ finite.empty
nothing_in {K} {X} {R} m none =
    finite.same_entries_map m finite.empty (no_length (finite.entries m) (sym (finite.len-entries m) ∙ none)
    ∙ sym (no_length (finite.entries (finite.empty {X = X} {R = R})) (sym (finite.len-entries (finite.empty {X = X} {R = R})) ∙ finite.len-empty R X)))

-- changes of no entries are none
pub nothing_changed : {K X : Type 0} {R : K → K → Ordering} (changes : Changes R X) → finite.len changes.deletes + finite.len changes.puts ≡ 0
    → changes ≡ record { deletes = finite.empty; puts = finite.empty }
nothing_changed changes none = λ i. record {
  deletes = nothing_in changes.deletes (omega (arith, none)) i;
  puts = nothing_in changes.puts (omega (arith, none)) i;
}
