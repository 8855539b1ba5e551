-- What the rows stood for at the last publish, after numbers are added and rows are written.
use Rattle.std.proofs.Common.{◌≡◌, ℕ, false, List, [], ◌∷◌, ◌++◌, Option, None, Some, refl, ◌∙◌, ap, map, slice_get}
use Rattle.std.specs.Option.{option_map}
use Rattle.std.proofs.lemmas.List.{map_push}
use Rattle.std.proofs.lemmas.Option.{slice_get-map}
use Rattle.indexmap.specs.Layout.{set_value_at}
use Rattle.chained_rows.specs.Ordered.{ordered}
use Rattle.chained_rows.proofs.Ordered.{ordered-push_none}
use Rattle.chained_rows.proofs.Places.{map-written, written-same}
use Rattle.uni_base.specs.EdgeOrder.{edge_cmp}
use Rattle.uni_table.specs.GraphKeys.{edge_total}
use Rattle.uni_table.specs.GraphRows.{Grows, IsRows, IsKnown, IsBeforeKnown, IsCircleKnown, published_of, slot_before, node_before, entity_before, row_before, row_of, stood, stood_entity, written, written_entity, is_same, is_same_entity}
use Rattle.uni_table.specs.declared.command.EntityRow.{EntityRow}
use Rattle.uni_table.specs.declared.graph.numbers.Source.{Source}
use Rattle.uni_table.specs.declared.graph.numbers.Node.{Node}
use Rattle.uni_table.specs.declared.graph.numbers.EdgeNo.{EdgeNo}
use Rattle.uni_table.specs.declared.graph.numbers.Slot.{Slot}
use Rattle.uni_table.specs.declared.graph.numbers.SlotState.{SlotState}
use Rattle.uni_table.specs.declared.graph.numbers.SlotState.TheVariants.{Gone, Public, Only, Circle}
use Rattle.uni_table.specs.declared.graph.numbers.Before.{Before}
use Rattle.uni_table.specs.declared.graph.numbers.Before.TheVariants as before
use Rattle.uni_table.specs.declared.graph.numbers.EntityBefore.{EntityBefore}
use Rattle.uni_table.specs.declared.graph.numbers.EntityBefore.TheVariants as entity_then

-- what the batch finds at an edge is told: it stays, and is as it was
pub row-stood : (sources : List Source) (b : Before) (state now : SlotState) (end until : ℕ) → row_before sources (stood b state end) (row_of sources now until) ≡ row_before sources b (row_of sources state end)
unfolding stood
row-stood sources before.Same Gone now end until = refl
row-stood sources before.Same Public now end until = refl
row-stood sources before.Same Only now end until = refl
row-stood sources before.Same (Circle n) now end until = refl
row-stood sources before.Gone state now end until = refl
row-stood sources (before.Public stop) state now end until = refl
row-stood sources (before.Only stop) state now end until = refl
row-stood sources (before.Circle n stop) state now end until = refl

pub stood-touched : (b : Before) (state : SlotState) (end : ℕ) → is_same (stood b state end) ≡ false
unfolding stood
stood-touched before.Same Gone end = refl
stood-touched before.Same Public end = refl
stood-touched before.Same Only end = refl
stood-touched before.Same (Circle n) end = refl
stood-touched before.Gone state end = refl
stood-touched (before.Public until) state end = refl
stood-touched (before.Only until) state end = refl
stood-touched (before.Circle n until) state end = refl

pub stood-known : (sources : ℕ) (b : Before) (state : SlotState) (end : ℕ) → IsBeforeKnown sources b → IsCircleKnown sources state → IsBeforeKnown sources (stood b state end)
unfolding stood
stood-known sources before.Same Gone end known circle = tt
stood-known sources before.Same Public end known circle = tt
stood-known sources before.Same Only end known circle = tt
stood-known sources before.Same (Circle n) end known circle = circle
stood-known sources before.Gone state end known circle = tt
stood-known sources (before.Public until) state end known circle = tt
stood-known sources (before.Only until) state end known circle = tt
stood-known sources (before.Circle n until) state end known circle = known

-- so is what it finds at an id
pub entity-stood : (b : EntityBefore) (row now : Option EntityRow) → Rattle.uni_table.specs.GraphRows.entity_then_of (stood_entity b row) now ≡ Rattle.uni_table.specs.GraphRows.entity_then_of b row
unfolding stood_entity
entity-stood entity_then.Same None now = refl
entity-stood entity_then.Same (Some x) now = refl
entity-stood entity_then.Absent row now = refl
entity-stood (entity_then.Present x) row now = refl

pub entity-touched : (b : EntityBefore) (row : Option EntityRow) → is_same_entity (stood_entity b row) ≡ false
unfolding stood_entity
entity-touched entity_then.Same None = refl
entity-touched entity_then.Same (Some x) = refl
entity-touched entity_then.Absent row = refl
entity-touched (entity_then.Present x) row = refl

-- a written row stays as it was at the last publish
pub slots-then : (sources : List Source) (ids : List ℕ) (es : List (EdgeNo × Slot)) (i : ℕ) (n : EdgeNo) (slot : Slot) (state : SlotState) (end : ℕ) → slice_get es i ≡ Some (n, slot)
    → map (slot_before sources ids) (set_value_at es i (written slot state end)) ≡ map (slot_before sources ids) es
slots-then sources ids es i n slot state end at =
    map-written (slot_before sources ids) es i (written slot state end) (row_before sources slot.before (row_of sources slot.state slot.end))
    (λ e there. ap (λ r. (Rattle.uni_table.specs.GraphRows.edge_named sources ids e.0, r)) (row-stood sources slot.before slot.state state slot.end end))
    ∙ written-same (map (slot_before sources ids) es) i _ _ (slice_get-map (slot_before sources ids) es i ∙ ap (option_map (slot_before sources ids)) at)

pub nodes-then : (es : List (ℕ × Node)) (i id : ℕ) (node : Node) (row : Option EntityRow) → slice_get es i ≡ Some (id, node) → map node_before (set_value_at es i (written_entity node row)) ≡ map node_before es
nodes-then es i id node row at =
    map-written node_before es i (written_entity node row) (entity_before node) (λ e there. ap (λ r. (e.0, r)) (entity-stood node.before node.row row))
    ∙ written-same (map node_before es) i id (entity_before node) (slice_get-map node_before es i ∙ ap (option_map node_before) at)

-- so does an id to which another last edge leads
pub nodes-led : (es : List (ℕ × Node)) (i id last : ℕ) (node : Node) → slice_get es i ≡ Some (id, node) → map node_before (set_value_at es i (record node { last_edge = last })) ≡ map node_before es
nodes-led es i id last node at =
    map-written node_before es i (record node { last_edge = last }) (entity_before node) (λ e there. refl)
    ∙ written-same (map node_before es) i id (entity_before node) (slice_get-map node_before es i ∙ ap (option_map node_before) at)

-- an edge that the batch makes was not there
pub made-then : (es : List (EdgeNo × Slot)) (sources : List Source) (ids : List ℕ) (n : EdgeNo) (slot : Slot) → slot.before ≡ before.Gone
    → ordered edge_cmp (map (slot_before sources ids) (es ++ (n, slot) ∷ [])) ≡ ordered edge_cmp (map (slot_before sources ids) es)
made-then es sources ids n slot gone =
    ap (ordered edge_cmp) (map_push (slot_before sources ids) es (n, slot))
    ∙ ap (λ b. ordered edge_cmp (map (slot_before sources ids) es ++ (Rattle.uni_table.specs.GraphRows.edge_named sources ids n, row_before sources b (row_of sources slot.state slot.end)) ∷ [])) gone
    ∙ ordered-push_none edge_total (map (slot_before sources ids) es) (Rattle.uni_table.specs.GraphRows.edge_named sources ids n)
