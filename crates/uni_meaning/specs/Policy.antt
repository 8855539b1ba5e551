-- Who may see an edge.
use Rattle.std.specs.Prelude.{ℕ, Bool, true, false, ◌||◌, ◌==◌, ◌+◌, if◌then◌else◌, List, [], ◌∷◌}
use Rattle.std.specs.List.{list_any}
use Rattle.std.specs.Option.{option_map_or}
use Rattle.uni_base.specs.declared.edge.Audience.{Audience}
use Rattle.uni_base.specs.declared.edge.Audience.TheVariants.{Public, Only, Circle}
use Rattle.uni_base.specs.declared.edge.EdgeRef.{EdgeRef}
use Rattle.uni_base.specs.declared.edge.Key.TheVariants.{Id}
use Rattle.uni_schema.specs.Schema.{Declarations, owners_of}
use Rattle.uni_schema.specs.declared.schema.Owners.{Owners}
use Rattle.uni_schema.specs.declared.schema.TypeDef.{TypeDef}
use Rattle.uni_table.specs.Contents.{Contents, audience_at, has_edge}
use Rattle.uni_meaning.specs.Hits.{edge_to}

-- whether some owner passes a test
abbrev pub some_owner : (ℕ → Bool) → Owners → Bool
some_owner test owners = option_map_or test owners.first false || option_map_or test owners.second false

-- the numbers of the types that deny, from a number on
abbrev pub denials_from : ℕ → List TypeDef → List ℕ
denials_from number [] = []
denials_from number (type_def ∷ types) = if type_def.deny then number ∷ denials_from (number + 1) types else denials_from (number + 1) types

-- whether an owner denies a viewer: an edge of a type that denies leads from the one to the other
abbrev pub denies : Declarations → Contents → ℕ → ℕ → Bool
denies schema table viewer owner = list_any (λ number. has_edge table (edge_to number (Id owner) viewer)) (denials_from 0 schema.types)

-- whether an audience admits a viewer: everybody, nobody, or the members of a circle
abbrev pub admits : Contents → ℕ → Audience → Bool
admits table viewer Public = true
admits table viewer Only = false
admits table viewer (Circle number key) = has_edge table (edge_to number key viewer)

-- Authorised: an owner of an edge may see it; nobody may whom an owner denies; and else those whom its
-- audience admits. The first rule that applies decides
abbrev pub authorised : Declarations → Contents → ℕ → EdgeRef → Bool
authorised schema table viewer edge =
    let owners = owners_of schema edge in
    if some_owner (λ owner. owner == viewer) owners then true
    else (if some_owner (denies schema table viewer) owners then false
    else option_map_or (admits table viewer) (audience_at table edge) false)
