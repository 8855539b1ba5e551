-- What a table keeps, over whole commands, batches and journals.
use Rattle.std.proofs.Common.{◌≡◌, ◌+◌, ℕ, true, not, List, [], ◌∷◌, Option, None, Some, refl, is_some}
use Rattle.std.proofs.lemmas.Bool.{and_parts}
use Rattle.std.specs.Option.{option_map, option_map_or, option_and_then, option_or}
use Rattle.uni_base.specs.declared.edge.Audience.{Audience}
use Rattle.uni_base.specs.declared.edge.EdgeRef.{EdgeRef}
use Rattle.uni_base.specs.declared.edge.Key.{Key}
use Rattle.uni_base.specs.declared.limits.Limits.{Limits}
use Rattle.uni_schema.specs.Schema.{Declarations, type_at, key_from}
use Rattle.uni_schema.specs.declared.schema.TypeDef.{TypeDef}
use Rattle.uni_table.specs.declared.command.Command.{Command}
use Rattle.uni_table.specs.declared.command.Command.TheVariants.{Entity, Gone, Edge, Cut}
use Rattle.uni_table.specs.declared.command.EdgeRow.{EdgeRow}
use Rattle.uni_table.specs.declared.refusal.FeedRefusal.{FeedRefusal}
use Rattle.uni_table.specs.declared.refusal.FeedRefusal.TheVariants.{NoSource}
use Rattle.uni_table.specs.Commands.{next, next_edge, refuses, refuses_edge, refuses_ends, refuses_new_edge, audience_of}
use Rattle.uni_table.specs.Contents.{Contents, empty, has_ended, without_edge, ended}
use Rattle.uni_table.specs.Journals.{after_commands, after_batch, after_batches, accepts_commands, accepts_batches}
use Rattle.uni_table.specs.Laws.{TablesAreKept}
use Rattle.uni_table.specs.TableState.{IsKept}
use Rattle.uni_table.proofs.Gone.{gone_keeps}
use Rattle.uni_table.proofs.Kept.{entity_keeps, edge_keeps, cut_keeps, filter_keeps, nothing_kept}

-- neither of two reasons is there
pub no_reason : (a b : Option FeedRefusal) → option_or a b ≡ None → (a ≡ None) × (b ≡ None)
no_reason None b none = (refl, none)
no_reason (Some a) b none = cc

module _ (schema : Declarations) (limits : Limits) where
  -- after a command that is not refused
  pub step_keeps : (table : Contents) (command : Command) → IsKept schema limits table → refuses schema limits table command ≡ None → IsKept schema limits (next schema table command)
  step_keeps table (Entity vertical id rank) kept taken = entity_keeps schema limits table kept vertical id rank taken
  step_keeps table (Gone id) kept taken = gone_keeps schema limits table kept id
  step_keeps table (Cut number key target) kept taken = by (type_at schema number)
    where
      named : Key → EdgeRef
      named k = record { type_no = number; key = k; target = target }

      at : (k : Option Key) → IsKept schema limits (option_map_or (λ edge. without_edge table edge) (option_map named k) table)
      at None = kept
      at (Some k) = cut_keeps schema limits table kept (named k)

      by : (o : Option TypeDef) → IsKept schema limits (option_map_or (λ edge. without_edge table edge) (option_map named (option_and_then (λ type_def. key_from type_def.origin key) o)) table)
      by None = kept
      by (Some type_def) = at (key_from type_def.origin key)
  step_keeps table (Edge number key target audience until) kept taken = by (type_at schema number) refl taken
    where
      named : Key → EdgeRef
      named k = record { type_no = number; key = k; target = target }

      edge_in : Option TypeDef → Option EdgeRef
      edge_in o = option_map named (option_and_then (λ type_def. key_from type_def.origin key) o)

      put : (type_def : TypeDef) → type_at schema number ≡ Some type_def → (k : Key) (a : Option Audience) → refuses_edge limits table type_def (named k) a ≡ None
          → IsKept schema limits (next_edge table until (Some (named k)) a)
      put type_def declared k None t = kept
      put type_def declared k (Some a) t =
          let reasons = no_reason (refuses_ends table type_def (named k)) (refuses_new_edge limits table type_def (named k)) t in
          edge_keeps schema limits table kept type_def (named k) (record { audience = a; end = until }) declared reasons.0 reasons.1

      at : (type_def : TypeDef) → type_at schema number ≡ Some type_def → (k : Option Key)
          → option_map_or (λ edge. refuses_edge limits table type_def edge (audience_of schema audience)) (option_map named k) (Some NoSource) ≡ None
          → IsKept schema limits (next_edge table until (option_map named k) (audience_of schema audience))
      at type_def declared None t = cc
      at type_def declared (Some k) t = put type_def declared k (audience_of schema audience) t

      by : (o : Option TypeDef) → type_at schema number ≡ o
          → option_and_then (λ type_def. option_map_or (λ edge. refuses_edge limits table type_def edge (audience_of schema audience)) (edge_in o) (Some NoSource)) o ≡ None
          → IsKept schema limits (next_edge table until (edge_in o) (audience_of schema audience))
      by None declared t = kept
      by (Some type_def) declared t = at type_def declared (key_from type_def.origin key) t

  -- after the ends of a publish
  pub ends_keep : (table : Contents) (publish : ℕ) → IsKept schema limits table → IsKept schema limits (ended table publish)
  ends_keep table publish kept = filter_keeps schema limits table kept (λ (e : EdgeRef × EdgeRow). not (has_ended publish e.1))

  none_from : (o : Option FeedRefusal) → not (is_some o) ≡ true → o ≡ None
  none_from None e = refl
  none_from (Some refusal) e = cc

  -- after commands none of which is refused
  commands_keep : (table : Contents) (commands : List Command) → IsKept schema limits table → accepts_commands schema limits table commands ≡ true → IsKept schema limits (after_commands schema table commands)
  commands_keep table [] kept taken = kept
  commands_keep table (command ∷ commands) kept taken =
      let both = and_parts (not (is_some (refuses schema limits table command))) (accepts_commands schema limits (next schema table command) commands) taken in
      commands_keep (next schema table command) commands (step_keeps table command kept (none_from (refuses schema limits table command) both.0)) both.1

  batches_keep : (table : Contents) (made : ℕ) (batches : List (List Command)) → IsKept schema limits table → accepts_batches schema limits table made batches ≡ true
      → IsKept schema limits (after_batches schema table made batches)
  batches_keep table made [] kept taken = kept
  batches_keep table made (batch ∷ batches) kept taken =
      let both = and_parts (accepts_commands schema limits table batch) (accepts_batches schema limits (after_batch schema table (made + 1) batch) (made + 1) batches) taken in
      batches_keep (after_batch schema table (made + 1) batch) (made + 1) batches (ends_keep (after_commands schema table batch) (made + 1) (commands_keep table batch kept both.0)) both.1

pub tables_are_kept : TablesAreKept
tables_are_kept = record {
  start = nothing_kept;
  step = step_keeps;
  ends = ends_keep;
  journals = λ schema limits journal taken. batches_keep schema limits empty 0 journal (nothing_kept schema limits) taken;
}
