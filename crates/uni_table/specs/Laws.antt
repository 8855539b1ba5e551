-- What holds of every table that commands make.
use Rattle.std.specs.Prelude.{ℕ, Bool, true, false, not, ◌≡◌, ◌<◌, ◌↔◌, ◌==◌, List, None, Some, length, filter, map}
use Rattle.std.specs.List.{Contains, filter_map, list_all}
use Rattle.std.specs.List.Sorted.{IsStrictlySortedBy}
use Rattle.uni_base.specs.declared.edge.Held.{Held}
use Rattle.uni_base.specs.declared.edge.Key.{Key}
use Rattle.uni_base.specs.declared.entity.DocKey.{DocKey}
use Rattle.uni_base.specs.declared.limits.Limits.{Limits}
use Rattle.uni_base.specs.EdgeOrder.{edge_cmp}
use Rattle.uni_base.specs.RankOrder.{doc_cmp}
use Rattle.uni_schema.specs.Schema.{Declarations, shard_of}
use Rattle.uni_table.specs.declared.command.Command.{Command}
use Rattle.uni_table.specs.declared.command.Command.TheVariants.{Entity, Gone, Edge, Cut}
use Rattle.uni_table.specs.Commands.{next, refuses}
use Rattle.uni_table.specs.Contents.{Contents, empty, entity_at, audience_at, ended, has_ended, touches}
use Rattle.uni_table.specs.Journals.{fold_of, IsJournal, after_commands, all_commands}
use Rattle.uni_table.specs.Lists.{touching}
use Rattle.uni_table.specs.Ranked.{ranked, ranked_all, doc_at, held_at, reached_of}
use Rattle.uni_table.specs.TableState.{IsKept}

-- the empty table keeps what a table keeps, and so does each table that a command makes of one that does,
-- unless the command is refused, and each that ends leave of one that does; so the table after a journal does
pub record TablesAreKept : Type 0 where
  pub start : (schema : Declarations) (limits : Limits) → IsKept schema limits empty
  pub step : (schema : Declarations) (limits : Limits) (table : Contents) (command : Command) → IsKept schema limits table → refuses schema limits table command ≡ None → IsKept schema limits (next schema table command)
  pub ends : (schema : Declarations) (limits : Limits) (table : Contents) (publish : ℕ) → IsKept schema limits table → IsKept schema limits (ended table publish)
  pub journals : (schema : Declarations) (limits : Limits) (journal : List (List Command)) → IsJournal schema limits journal → IsKept schema limits (fold_of schema journal)

-- the entities of a vertical in rank order: the list ascends in that order, and it has exactly the entities
-- of the vertical, each at its rank
pub record RankedIsExact : Type 0 where
  pub ascends : (schema : Declarations) (limits : Limits) (table : Contents) (vertical : ℕ) → IsKept schema limits table → IsStrictlySortedBy doc_cmp (ranked_all table vertical)
  pub lists : (schema : Declarations) (limits : Limits) (table : Contents) (vertical : ℕ) (k : DocKey) → IsKept schema limits table
      → Contains (ranked_all table vertical) k ↔ (entity_at table k.id ≡ Some (record { vertical = vertical; rank = k.rank }))

-- the entities of a shard in rank order: the list is that of the vertical without the entities of other
-- shards, so that each entity of the vertical is in the list of its own shard and in no other
pub record ShardsPart : Type 0 where
  pub lists : (schema : Declarations) (limits : Limits) (table : Contents) (vertical shard : ℕ) → IsKept schema limits table
      → ranked schema table vertical shard ≡ filter (λ k. shard_of schema vertical k.id == shard) (ranked_all table vertical)

-- the edges of a type and key: their targets ascend in rank order, and they are exactly the edges of that
-- type and key that the table has, each with its audience
pub record ReachedIsExact : Type 0 where
  pub ascends : (schema : Declarations) (limits : Limits) (table : Contents) (number : ℕ) (key : Key) → number < length schema.types → IsKept schema limits table
      → IsStrictlySortedBy doc_cmp (filter_map (λ held. doc_at table held.edge.target) (reached_of schema table number key))
  pub lists : (schema : Declarations) (limits : Limits) (table : Contents) (number : ℕ) (key : Key) (held : Held) → number < length schema.types → IsKept schema limits table
      → Contains (reached_of schema table number key) held ↔ (held_at table number key held.edge.target ≡ Some held)

-- the edges that touch an id are exactly those of the table that leave or reach it, each with its audience
pub record TouchingIsExact : Type 0 where
  pub ascends : (schema : Declarations) (limits : Limits) (table : Contents) (id : ℕ) → IsKept schema limits table → IsStrictlySortedBy edge_cmp (map (λ held. held.edge) (touching table id))
  pub lists : (schema : Declarations) (limits : Limits) (table : Contents) (id : ℕ) (held : Held) → IsKept schema limits table
      → Contains (touching table id) held ↔ ((touches id held.edge ≡ true) × (audience_at table held.edge ≡ Some held.audience))

-- whether a command puts an edge with an end
abbrev pub has_end : Command → Bool
has_end (Entity vertical id rank) = false
has_end (Gone id) = false
has_end (Edge number key target audience until) = not (until == 0)
has_end (Cut number key target) = false

-- the table after n publishes has no edge whose end is from 1 to n; and where no command of a journal puts
-- an edge with an end, its table is that after all its commands, whatever publish they came before
pub record EndsPass : Type 0 where
  pub passed : (schema : Declarations) (journal : List (List Command)) → list_all (λ e. not (has_ended (length journal) e.1)) (fold_of schema journal).edges ≡ true
  pub unended : (schema : Declarations) (journal : List (List Command)) → list_all (list_all (λ command. not (has_end command))) journal ≡ true → fold_of schema journal ≡ after_commands schema empty (all_commands journal)
