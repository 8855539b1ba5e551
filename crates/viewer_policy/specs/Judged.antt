-- Who may see an edge that is handed over with its audience.
use Rattle.std.specs.Prelude.{◌≡◌, ◌==◌, ℕ, Bool, true, false, if◌then◌else◌, List, Some, map}
use Rattle.uni_base.specs.declared.edge.Held.{Held}
use Rattle.uni_base.specs.declared.limits.Limits.{Limits}
use Rattle.uni_schema.specs.Schema.{Declarations, owners_of}
use Rattle.uni_table.specs.Contents.{Contents, audience_at}
use Rattle.uni_table.specs.TableState.{IsKept}
use Rattle.uni_meaning.specs.Policy.{admits, denies, some_owner}
use Rattle.forward_data.specs.declared.record.ForwardItem.{ForwardItem}
use Rattle.shard_index.specs.Versions.{VersionState, Stands}

-- the three rules, of which the first that applies decides: an owner may see the edge; nobody may whom an
-- owner denies; and else those whom the audience admits that the edge is handed over with
abbrev pub judged : Declarations → Contents → ℕ → Held → Bool
judged schema table viewer held =
    let owners = owners_of schema held.edge in
    if some_owner (λ owner. owner == viewer) owners then true
    else (if some_owner (denies schema table viewer) owners then false
    else admits table viewer held.audience)

-- a table has an edge with its audience
abbrev pub IsHeld : Contents → Held → Type 0
IsHeld table held = audience_at table held.edge ≡ Some held.audience

-- a version stands for a table that keeps what tables keep
pub record StandsFor (version : VersionState) (limits : Limits) (table : Contents) : Type 0 where
  pub kept : IsKept version.schema limits table
  pub stands : Stands version table

-- where the edges of a record lead
abbrev pub targets : List ForwardItem → List ℕ
targets items = map (λ item. item.target) items
