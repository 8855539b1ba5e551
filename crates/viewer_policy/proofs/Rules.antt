-- The three rules, as they are asked one after the other.
use Rattle.std.proofs.Common.{◌≡◌, ◌==◌, ◌||◌, ℕ, Bool, true, false, if◌then◌else◌, sym, ◌∙◌, ap}
use Rattle.std.specs.Option.{option_map_or}
use Rattle.uni_base.specs.declared.edge.Held.{Held}
use Rattle.uni_schema.specs.declared.schema.Owners.{Owners}
use Rattle.uni_schema.specs.Schema.{Declarations, owners_of}
use Rattle.uni_table.specs.Contents.{Contents}
use Rattle.uni_meaning.specs.Policy.{admits, authorised, denies, some_owner}
use Rattle.viewer_policy.specs.Judged.{IsHeld, judged}

module _ (schema : Declarations) (table : Contents) (viewer : ℕ) (held : Held) where
  abbrev by : Bool → Bool → Bool → Bool
  by owned denied admitted = if owned then true else (if denied then false else admitted)

  -- of an edge of the table they are those of the table
  pub judged_of : IsHeld table held → judged schema table viewer held ≡ authorised schema table viewer held.edge
  judged_of is =
      ap (λ o. by (some_owner (λ owner. owner == viewer) (owners_of schema held.edge)) (some_owner (denies schema table viewer) (owners_of schema held.edge)) (option_map_or (admits table viewer) o false)) (sym is)

  module _ (owners : Owners) (are : owners ≡ owners_of schema held.edge) (other : some_owner (λ owner. owner == viewer) owners ≡ false) where
    abbrev denied : Owners → Bool
    denied of = some_owner (denies schema table viewer) of

    next : (b : Bool) → denied owners ≡ b → by false b (admits table viewer held.audience) ≡ judged schema table viewer held
    next b is =
        sym ((λ i. by (some_owner (λ owner. owner == viewer) (sym are i)) (denied (sym are i)) (admits table viewer held.audience))
        ∙ (λ i. by (other i) (is i) (admits table viewer held.audience)))

    pub refused_first : option_map_or (denies schema table viewer) owners.first false ≡ true → false ≡ judged schema table viewer held
    refused_first first = next true (ap (λ b. b || option_map_or (denies schema table viewer) owners.second false) first)

    module _ (first : option_map_or (denies schema table viewer) owners.first false ≡ false) where
      pub refused_second : option_map_or (denies schema table viewer) owners.second false ≡ true → false ≡ judged schema table viewer held
      refused_second second = next true (λ i. first i || second i)

      pub left_to_audience : option_map_or (denies schema table viewer) owners.second false ≡ false → admits table viewer held.audience ≡ judged schema table viewer held
      left_to_audience second = next false (λ i. first i || second i)
