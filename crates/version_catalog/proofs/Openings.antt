-- The value of a catalogue without publishes.
use Rattle.std.proofs.Common.{◌≡◌, ℕ, zero, suc, ◌+◌, ◌<◌, ◌≤◌, List, [], ◌∷◌, length, take, get_or, replicate, refl, sym, ◌∙◌, ap, subst, arith}
use Rattle.std.proofs.lemmas.List.{length-replicate}
use Rattle.std.proofs.lemmas.Option.{slice_get_within}
use Rattle.uni_schema.specs.Schema.{Declarations}
use Rattle.uni_table.specs.Contents.{empty}
use Rattle.uni_table.specs.declared.command.Command.{Command}
use Rattle.shard_index.specs.Places.{StackPlace, stack_places, stack_count}
use Rattle.shard_index.specs.Rows.{no_rows, empty_layer, stack_rows}
use Rattle.shard_index.specs.Versions.{VersionState, Stands, first_version, rows_at}
use Rattle.shard_index.proofs.StackLaws.{layer_over-empty}
use Rattle.shard_index.proofs.StackPlaces.{count_is}
use Rattle.shard_index.proofs.Standing.{shard_rows-none}
use Rattle.version_catalog.specs.Settings.{SettingsState}
use Rattle.version_catalog.specs.Stacks.{table_at, StackStands}
use Rattle.version_catalog.specs.States.{version_in, limits_in, covered_in, StateStands}
use Rattle.version_catalog.specs.declared.state.CatalogueState.{CatalogueState}

same_all : {X : Type 0} (n i : ℕ) (x d : X) → i < n → get_or (replicate n x) i d ≡ x
same_all zero i x d below = absurd (omega (arith, below))
same_all (suc n) zero x d below = refl
same_all (suc n) (suc i) x d below = same_all n i x d (omega (arith, below))

pub zeroes_at : (n i : ℕ) → get_or {A = ℕ} (replicate n 0) i 0 ≡ 0
zeroes_at zero i = refl
zeroes_at (suc n) zero = refl
zeroes_at (suc n) (suc i) = zeroes_at n i

module _ (schema : Declarations) (place : StackPlace) where
  rows_there : (k : ℕ) → 0 + k ≤ length {A = List Command} [] → stack_rows (take (k + 1) (empty_layer ∷ [])) ≡ rows_at schema (table_at schema [] (0 + k)) place
  rows_there zero within = layer_over-empty no_rows ∙ sym (shard_rows-none schema place.vertical place.shard)
  rows_there (suc k) within = absurd (omega (arith, within))

  first_stands : StackStands schema [] place 0 (empty_layer ∷ [])
  first_stands = record { within = omega arith; count = refl; rows = rows_there; few = λ k later. absurd (omega (arith, later)) }

pub opening_stands : (state : CatalogueState) (settings : SettingsState) (n : ℕ) → version_in state ≡ first_version settings.schema → Stands (version_in state) empty → limits_in state ≡ settings.limits → covered_in state ≡ replicate n 0
    → n ≡ stack_count settings.schema → StateStands state settings []
opening_stands state settings n is stands limits covered count = record {
  schema = ap (λ (v : VersionState). v.schema) is;
  publishes = ap (λ (v : VersionState). v.publishes) is;
  table = stands;
  limits = limits;
  within = omega arith;
  accepted = refl;
  covered = ap length covered ∙ length-replicate n 0 ∙ count;
  stacks = λ i place at.
      let below : i < stack_count settings.schema = omega (arith, slice_get_within (stack_places settings.schema) i place at, count_is settings.schema) in
      let number : get_or (covered_in state) i 0 ≡ 0 = ap (λ cs. get_or cs i 0) covered ∙ same_all n i 0 0 (omega (arith, below, count)) in
      let stack : get_or (version_in state).stacks i [] ≡ empty_layer ∷ [] =
      ap (λ (v : VersionState). get_or v.stacks i []) is ∙ same_all (stack_count settings.schema) i (empty_layer ∷ []) [] below in
      subst (λ c. StackStands settings.schema [] place c (get_or (version_in state).stacks i [])) (sym number)
      (subst (λ ls. StackStands settings.schema [] place 0 ls) (sym stack) (first_stands settings.schema place));
}
