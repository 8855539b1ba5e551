-- What a change and a publish answer is of their line, and is no want of memory.
use Rattle.std.proofs.Common.{◌≡◌, ◌+◌, ℕ, Bool, true, false, [], ◌∷◌, map, length, not, nat_lt, if◌then◌else◌, Option, None, Some, is_some, refl}
use Rattle.std.specs.Option.{option_and_then, option_map_or, option_or}
use Rattle.uni_base.specs.declared.edge.Audience.{Audience}
use Rattle.uni_base.specs.declared.edge.EdgeRef.{EdgeRef}
use Rattle.uni_base.specs.declared.limits.Limits.{Limits}
use Rattle.uni_schema.specs.Schema.{Declarations, type_at}
use Rattle.uni_schema.specs.declared.schema.TypeDef.{TypeDef}
use Rattle.uni_table.specs.Commands.{refuses, refuses_ends, refuses_audience, refuses_new_edge, refuses_edge, audience_of, edge_of, has_forward_room}
use Rattle.uni_table.specs.Contents.{Contents, entity_at, is_in, has_edge, source_stands}
use Rattle.uni_table.specs.declared.command.Command.{Command}
use Rattle.uni_table.specs.declared.command.Command.TheVariants.{Entity, Gone, Edge, Cut}
use Rattle.uni_table.specs.declared.refusal.FeedRefusal.{FeedRefusal}
use Rattle.uni_table.specs.declared.refusal.FeedRefusal.TheVariants.{NoSource, NoTarget, UnknownCircle, Elsewhere, ForwardFull, TableFull, Memory}
use Rattle.reply_text.specs.declared.answer.Answer.TheVariants as answers_are
use Rattle.reply_text.specs.Heads as heads
use Rattle.reply_text.specs.Heads.{Head, head_of}
use Rattle.script_rounds.specs.Terms.{Terms}
use Rattle.round_feed.specs.Feeds.{Feed, made, refusal_answers, publish_answers, too_many_publishes}
use Rattle.unicorn_round.proofs.Lines.{IsOneAt}

-- a reason for which a change is refused has a code
abbrev pub IsCoded : Option FeedRefusal → Type 0
IsCoded (Some Memory) = ⊥
IsCoded (Some NoSource) = Unit {0}
IsCoded (Some NoTarget) = Unit {0}
IsCoded (Some UnknownCircle) = Unit {0}
IsCoded (Some Elsewhere) = Unit {0}
IsCoded (Some ForwardFull) = Unit {0}
IsCoded (Some TableFull) = Unit {0}
IsCoded None = Unit {0}

coded-or : (first second : Option FeedRefusal) → IsCoded first → IsCoded second → IsCoded (option_or first second)
coded-or None second a b = b
coded-or (Some reason) second a b = a

coded-if : (test : Bool) (first second : Option FeedRefusal) → IsCoded first → IsCoded second → IsCoded (if test then first else second)
coded-if true first second a b = a
coded-if false first second a b = b

module _ (schema : Declarations) (limits : Limits) (table : Contents) where
  coded-audience : (audience : Option Audience) → IsCoded (refuses_audience audience)
  coded-audience None = tt
  coded-audience (Some audience) = tt

  coded-edge : (type_def : TypeDef) (edge : EdgeRef) (audience : Option Audience) → IsCoded (refuses_edge limits table type_def edge audience)
  coded-edge type_def edge audience =
      coded-or (refuses_ends table type_def edge) (option_or (refuses_audience audience) (refuses_new_edge limits table type_def edge))
      (coded-if (not (source_stands table type_def.origin edge.key)) (Some NoSource) (if not (is_in table type_def.target edge.target) then Some NoTarget else None) tt
      (coded-if (not (is_in table type_def.target edge.target)) (Some NoTarget) None tt tt))
      (coded-or (refuses_audience audience) (refuses_new_edge limits table type_def edge) (coded-audience audience)
      (coded-if (has_edge table edge) None (if not (has_forward_room limits table type_def edge) then Some ForwardFull else room) tt
      (coded-if (not (has_forward_room limits table type_def edge)) (Some ForwardFull) room tt
      (coded-if (nat_lt (length table.edges) limits.edges) None (Some TableFull) tt tt))))
    where
      room : Option FeedRefusal
      room = if nat_lt (length table.edges) limits.edges then None else Some TableFull

  -- a change is never refused for want of memory
  pub refusals_coded : (command : Command) → IsCoded (refuses schema limits table command)
  refusals_coded (Entity vertical id rank) =
      coded-if (is_some (entity_at table id)) (if is_in table vertical id then None else Some Elsewhere) (if nat_lt (length table.entities) limits.entities then None else Some TableFull)
      (coded-if (is_in table vertical id) None (Some Elsewhere) tt tt) (coded-if (nat_lt (length table.entities) limits.entities) None (Some TableFull) tt tt)
  refusals_coded (Gone id) = tt
  refusals_coded (Edge number key target audience until) = by (type_at schema number)
    where
      of_edge : (type_def : TypeDef) (edge : Option EdgeRef)
          → IsCoded (option_map_or (λ e. refuses_edge limits table type_def e (audience_of schema audience)) edge (Some NoSource))
      of_edge type_def None = tt
      of_edge type_def (Some edge) = coded-edge type_def edge (audience_of schema audience)

      by : (found : Option TypeDef)
          → IsCoded (option_and_then (λ type_def. option_map_or (λ edge. refuses_edge limits table type_def edge (audience_of schema audience)) (edge_of schema number key target) (Some NoSource)) found)
      by None = tt
      by (Some type_def) = of_edge type_def (edge_of schema number key target)
  refusals_coded (Cut number key target) = tt

-- what a change answers is of its line, and is no want of memory
pub refusal-one : (line : ℕ) (reason : Option FeedRefusal) → IsOneAt line (map head_of (refusal_answers line reason))
refusal-one line None = tt
refusal-one line (Some NoSource) = refl
refusal-one line (Some NoTarget) = refl
refusal-one line (Some UnknownCircle) = refl
refusal-one line (Some Elsewhere) = refl
refusal-one line (Some ForwardFull) = refl
refusal-one line (Some TableFull) = refl
refusal-one line (Some Memory) = refl

pub refusal-memory : (line : ℕ) (reason : Option FeedRefusal) → IsCoded reason → map head_of (refusal_answers line reason) ≡ heads.lacking line ∷ [] → ⊥
refusal-memory line None coded same = absurd cc
refusal-memory line (Some NoSource) coded same = absurd cc
refusal-memory line (Some NoTarget) coded same = absurd cc
refusal-memory line (Some UnknownCircle) coded same = absurd cc
refusal-memory line (Some Elsewhere) coded same = absurd cc
refusal-memory line (Some ForwardFull) coded same = absurd cc
refusal-memory line (Some TableFull) coded same = absurd cc
refusal-memory line (Some Memory) coded same = absurd coded

-- and so with a publish
pub publish-one : (terms : Terms) (feed : Feed) (line : ℕ) → IsOneAt line (map head_of (publish_answers terms feed line))
publish-one terms feed line =
    elim (nat_lt (made feed) terms.limits.publishes) as (λ b. IsOneAt line (map head_of (if b then answers_are.Published line (made feed + 1) ∷ [] else answers_are.Refused line too_many_publishes ∷ []))) [
      | true ↦ refl
      | false ↦ refl
    ]

pub publish-memory : (terms : Terms) (feed : Feed) (line : ℕ) → map head_of (publish_answers terms feed line) ≡ heads.lacking line ∷ [] → ⊥
publish-memory terms feed line same = by (nat_lt (made feed) terms.limits.publishes) same
  where
    by : (b : Bool) → map head_of (if b then answers_are.Published line (made feed + 1) ∷ [] else answers_are.Refused line too_many_publishes ∷ []) ≡ heads.lacking line ∷ [] → ⊥
    by true same = absurd cc
    by false same = absurd cc
