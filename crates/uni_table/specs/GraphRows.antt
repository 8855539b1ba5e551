-- The rows of a graph by number, what they stand for, and what they keep.
use Rattle.std.specs.Prelude.{ℕ, zero, suc, Bool, true, false, not, nat_le, ◌≡◌, ◌<◌, ◌≤◌, ◌+◌, ◌^◌, ◌==◌, ◌&&◌, ◌⊎◌, List, [], ◌∷◌, ◌++◌, Option, None, Some, length, map, take, slice_get, slice_index, slice_index_or, nat_eq, is_some, if◌then◌else◌}
use Rattle.std.specs.BTreeMap.{is_at}
use Rattle.std.specs.BTreeSet.{contains}
use Rattle.std.specs.declared.cmp.Ordering.{Ordering}
use Rattle.std.specs.List.{Contains, IsDistinct, AllByRecursion, filter_map}
use Rattle.std.specs.Map.{keys_of}
use Rattle.std.specs.Option.{option_map, option_map_or, option_and_then}
use Rattle.std.specs.Ordering.{nat_cmp, ordering_then, eq_by_cmp}
use Rattle.std.proofs.lemmas.Map.{NonePasses}
use Rattle.chained_rows.specs.Chains.{AtEach, last_no}
use Rattle.chained_rows.specs.Counts.{count_of}
use Rattle.chained_rows.specs.Ordered.{ordered, living, kept_if}
use Rattle.uni_base.specs.declared.edge.EdgeRef.{EdgeRef}
use Rattle.uni_base.specs.declared.edge.Audience.{Audience}
use Rattle.uni_base.specs.declared.edge.Audience.TheVariants.{Public as PublicAudience, Only as OnlyAudience, Circle as CircleAudience}
use Rattle.uni_base.specs.declared.edge.Held.{Held}
use Rattle.uni_base.specs.declared.edge.Key.TheVariants.{Id}
use Rattle.uni_base.specs.EdgeOrder.{edge_cmp}
use Rattle.uni_table.specs.Contents.{Contents, with_entity, without_row, with_edge, without_edge}
use Rattle.uni_base.specs.declared.entity.DocKey.{DocKey}
use Rattle.uni_schema.specs.Schema.{Declarations}
use Rattle.uni_table.specs.GraphKeys.{source_eq}
use Rattle.uni_table.specs.Ranked.{doc_of, is_of_shard}
use Rattle.uni_table.specs.declared.command.EntityRow.{EntityRow}
use Rattle.uni_table.specs.declared.command.EdgeRow.{EdgeRow}
use Rattle.uni_table.specs.declared.graph.Ending.{Ending}
use Rattle.uni_table.specs.declared.graph.found.FoundEdge.{FoundEdge}
use Rattle.uni_table.specs.declared.graph.numbers.Source.{Source}
use Rattle.uni_table.specs.declared.graph.numbers.Node.{Node}
use Rattle.uni_table.specs.declared.graph.numbers.EdgeNo.{EdgeNo}
use Rattle.uni_table.specs.declared.graph.numbers.Slot.{Slot}
use Rattle.uni_table.specs.declared.graph.numbers.Before.{Before}
use Rattle.uni_table.specs.declared.graph.numbers.Before.TheVariants as before
use Rattle.uni_table.specs.declared.graph.numbers.EntityBefore.{EntityBefore}
use Rattle.uni_table.specs.declared.graph.numbers.EntityBefore.TheVariants as entity_then
use Rattle.uni_table.specs.declared.graph.numbers.SlotState.{SlotState}
use Rattle.uni_table.specs.declared.graph.numbers.SlotState.TheVariants.{Gone, Public, Only, Circle}
use Rattle.uni_table.specs.declared.graph.numbers.Side.{Side}
use Rattle.uni_table.specs.declared.graph.numbers.Side.TheVariants.{Target, Source as From}
use Rattle.uni_table.specs.declared.graph.rows.Rows.{Rows}

-- the type and key of a number
abbrev pub source_named : List Source → ℕ → Source
source_named sources n = slice_index_or sources n (record { type_no = 0; key = Id 0 })

-- the edge of two numbers
abbrev pub edge_named : List Source → List ℕ → EdgeNo → EdgeRef
edge_named sources ids edge = record { type_no = (source_named sources edge.source).type_no; key = (source_named sources edge.source).key; target = slice_index ids edge.target }

-- the circle that a type and key are
abbrev pub circle_named : Source → Audience
circle_named source = CircleAudience source.type_no source.key

-- the audience of an edge that is not gone
abbrev pub audience_named : List Source → SlotState → Option Audience
audience_named sources Gone = None
audience_named sources Public = Some PublicAudience
audience_named sources Only = Some OnlyAudience
audience_named sources (Circle n) = Some (circle_named (source_named sources n))

-- the row of an edge that is not gone
abbrev pub row_of : List Source → SlotState → ℕ → Option EdgeRow
row_of sources state end = option_map (λ audience. record { audience = audience; end = end }) (audience_named sources state)

-- what a batch finds at an edge, told without what stands there now
unfoldable pub stood : Before → SlotState → ℕ → Before
stood before.Same Gone end = before.Gone
stood before.Same Public end = before.Public end
stood before.Same Only end = before.Only end
stood before.Same (Circle n) end = before.Circle n end
stood before.Gone state end = before.Gone
stood (before.Public until) state end = before.Public until
stood (before.Only until) state end = before.Only until
stood (before.Circle n until) state end = before.Circle n until

abbrev pub is_same : Before → Bool
is_same before.Same = true
is_same before.Gone = false
is_same (before.Public end) = false
is_same (before.Only end) = false
is_same (before.Circle n end) = false

-- an edge after the batch has written its state and its end
abbrev pub written : Slot → SlotState → ℕ → Slot
written slot state end = record slot { state = state; end = end; before = stood slot.before slot.state slot.end }

-- an edge that the batch has not touched, and such an id
abbrev pub settled : Slot → Slot
settled slot = record slot { before = before.Same }

abbrev pub settled_entity : Node → Node
settled_entity node = record node { before = entity_then.Same }

-- the row of an edge at the last publish, if it was not gone
abbrev pub row_before : List Source → Before → Option EdgeRow → Option EdgeRow
row_before sources before.Same now = now
row_before sources before.Gone now = None
row_before sources (before.Public end) now = row_of sources Public end
row_before sources (before.Only end) now = row_of sources Only end
row_before sources (before.Circle n end) now = row_of sources (Circle n) end

-- what a batch finds at an id, told without what it is now
unfoldable pub stood_entity : EntityBefore → Option EntityRow → EntityBefore
stood_entity entity_then.Same None = entity_then.Absent
stood_entity entity_then.Same (Some row) = entity_then.Present row
stood_entity entity_then.Absent now = entity_then.Absent
stood_entity (entity_then.Present row) now = entity_then.Present row

abbrev pub is_same_entity : EntityBefore → Bool
is_same_entity entity_then.Same = true
is_same_entity entity_then.Absent = false
is_same_entity (entity_then.Present row) = false

-- an id after the batch has written its entity
abbrev pub written_entity : Node → Option EntityRow → Node
written_entity node row = record node { row = row; before = stood_entity node.before node.row }

-- the entity of an id at the last publish, if it was one
abbrev pub entity_then_of : EntityBefore → Option EntityRow → Option EntityRow
entity_then_of entity_then.Same now = now
entity_then_of entity_then.Absent now = None
entity_then_of (entity_then.Present row) now = Some row

abbrev pub entity_before : Node → Option EntityRow
entity_before node = entity_then_of node.before node.row

-- an edge with its row, if it is not gone
abbrev pub slot_named : List Source → List ℕ → EdgeNo × Slot → EdgeRef × Option EdgeRow
slot_named sources ids e = (edge_named sources ids e.0, row_of sources e.1.state e.1.end)

-- and with its row at the last publish
abbrev pub slot_before : List Source → List ℕ → EdgeNo × Slot → EdgeRef × Option EdgeRow
slot_before sources ids e = (edge_named sources ids e.0, row_before sources e.1.before (row_of sources e.1.state e.1.end))

-- an id with its entity, if it is one
abbrev pub node_named : ℕ × Node → ℕ × Option EntityRow
node_named e = (e.0, e.1.row)

-- and with its entity at the last publish
abbrev pub node_before : ℕ × Node → ℕ × Option EntityRow
node_before e = (e.0, entity_before e.1)

-- all edges, gone or not
abbrev pub slots_named : Rows → List (EdgeRef × Option EdgeRow)
slots_named rows = map (slot_named (keys_of rows.sources.entries) (keys_of rows.ids.entries)) rows.edges.entries

-- an edge with its audience, if it is not gone
abbrev pub held_by : EdgeRef × Option EdgeRow → Option Held
held_by e = option_map (λ row. record { edge = e.0; audience = row.audience }) e.1

-- what the rows stand for
abbrev pub contents_of : Rows → Contents
contents_of rows = record { entities = ordered nat_cmp (map node_named rows.ids.entries); edges = ordered edge_cmp (slots_named rows) }

-- what they stood for at the last publish
abbrev pub published_of : Rows → Contents
published_of rows = record {
  entities = ordered nat_cmp (map node_before rows.ids.entries);
  edges = ordered edge_cmp (map (slot_before (keys_of rows.sources.entries) (keys_of rows.ids.entries)) rows.edges.entries);
}

-- whether a row is an entity, and whether it is an edge that is not gone
abbrev pub is_entity : Node → Bool
is_entity node = is_some node.row

abbrev pub is_live : SlotState → Bool
is_live Gone = false
is_live Public = true
is_live Only = true
is_live (Circle n) = true

-- the number at an end of an edge, that of the earlier edge with the same one, and that of the last with it
abbrev pub no_at : Side → EdgeNo → ℕ
no_at Target edge = edge.target
no_at From edge = edge.source

abbrev pub next_at : Side → Slot → ℕ
next_at Target slot = slot.next_into
next_at From slot = slot.next_from

abbrev pub last_at : Side → Rows → ℕ → ℕ
last_at Target rows q = option_map_or (λ e. e.1.last_edge) (slice_get rows.ids.entries q) 0
last_at From rows q = option_map_or (λ e. e.1) (slice_get rows.sources.entries q) 0

-- whether an edge has a number at an end
abbrev pub has_at : Side → ℕ → EdgeNo → Bool
has_at side q edge = nat_eq q (no_at side edge)

-- numbers that there are
abbrev pub IsCircleKnown : ℕ → SlotState → Type 0
IsCircleKnown sources Gone = Unit {0}
IsCircleKnown sources Public = Unit {0}
IsCircleKnown sources Only = Unit {0}
IsCircleKnown sources (Circle n) = n < sources

abbrev pub IsBeforeKnown : ℕ → Before → Type 0
IsBeforeKnown sources before.Same = Unit {0}
IsBeforeKnown sources before.Gone = Unit {0}
IsBeforeKnown sources (before.Public end) = Unit {0}
IsBeforeKnown sources (before.Only end) = Unit {0}
IsBeforeKnown sources (before.Circle n end) = n < sources

pub record IsKnown (sources ids : ℕ) (e : EdgeNo × Slot) : Type 0 where
  pub source : e.0.source < sources
  pub target : e.0.target < ids
  pub circle : IsCircleKnown sources e.1.state
  pub before : IsBeforeKnown sources e.1.before

-- The places of the rows that a batch touched, among all: each such row has its place there once, with room
-- for the places of all.
pub record AreTouched {K V : Type 0} (same : V → Bool) (es : List (K × V)) (places : List ℕ) (room : ℕ) : Type 0 where
  pub roomy : length es ≤ room
  pub counted : length places + count_of same es ≡ length es
  pub listed : AtEach (λ i e. same e.1 ≡ false → Contains places i) es
  pub marked : (i : ℕ) → Contains places i → (e : K × V) × (slice_get es i ≡ Some e) × (same e.1 ≡ false)
  pub apart : IsDistinct nat_eq places

-- ends and numbers in the order of the ends
abbrev pub end_cmp : ℕ × ℕ → ℕ × ℕ → Ordering
end_cmp a b = ordering_then (nat_cmp a.0 b.0) (nat_cmp a.1 b.1)

-- one place fewer is left, or there was none
abbrev pub HasSettled : Bool → List ℕ → List ℕ → Type 0
HasSettled true old new = length new + 1 ≡ length old
HasSettled false old new = (old ≡ []) × (new ≡ [])

-- what the rows keep: numbers are those of rows; each edge is chained to the last earlier one with the same
-- target, and to that with the same source, and the chains start at the last of all; no two ids, sources or
-- edges are the same; what lives is counted; each edge that lives and ends stands among the
-- ends; and what the batch touched is listed
pub record IsRows (rows : Rows) : Type 0 where
  pub known : AtEach (λ i e. IsKnown (length rows.sources.entries) (length rows.ids.entries) e) rows.edges.entries
  pub chains : (side : Side) → AtEach (λ i e. next_at side e.1 ≡ last_no (has_at side (no_at side e.0)) (take i (keys_of rows.edges.entries))) rows.edges.entries
  pub lasts : (side : Side) (q : ℕ) → last_at side rows q ≡ last_no (has_at side q) (keys_of rows.edges.entries)
  pub ids : IsDistinct nat_eq (keys_of rows.ids.entries)
  pub sources : IsDistinct source_eq (keys_of rows.sources.entries)
  pub edges : IsDistinct (eq_by_cmp edge_cmp) (keys_of (slots_named rows))
  pub few_ids : length rows.ids.entries < 2 ^ 32
  pub few_sources : length rows.sources.entries < 2 ^ 32
  pub few_edges : length rows.edges.entries < 2 ^ 32
  pub entity_count : rows.entity_count ≡ count_of is_entity rows.ids.entries
  pub edge_count : rows.edge_count ≡ count_of (λ slot. is_live slot.state) rows.edges.entries
  pub ended : AtEach (λ i e. is_live e.1.state ≡ true → 0 < e.1.end → contains end_cmp rows.ends (e.1.end, i + 1) ≡ true) rows.edges.entries
  pub touched_ids : AreTouched (λ node. is_same_entity node.before) rows.ids.entries rows.touched_ids.items rows.touched_ids.cap
  pub touched_edges : AreTouched (λ slot. is_same slot.before) rows.edges.entries rows.touched_edges.items rows.touched_edges.cap

-- a map after a key was looked up and added where it was new
abbrev pub Grows : {K V : Type 0} → List (K × V) → List (K × V) → K → V → Type 0
Grows old new k v = (new ≡ old) ⊎ (new ≡ old ++ (k, v) ∷ [])

-- numbers may have been added, and nothing else: the rows stand for what they stood for
pub record IsQuiet (old new : Rows) : Type 0 where
  pub kept : IsRows new
  pub same : contents_of new ≡ contents_of old
  pub published : published_of new ≡ published_of old
  pub edges : new.edges.entries ≡ old.edges.entries
  pub sources : AtEach (λ i k. slice_get (keys_of new.sources.entries) i ≡ Some k) (keys_of old.sources.entries)
  pub ids : AtEach (λ i k. slice_get (keys_of new.ids.entries) i ≡ Some k) (keys_of old.ids.entries)

-- the numbers of an edge
pub record IsNumbered (rows : Rows) (n : EdgeNo) (edge : EdgeRef) : Type 0 where
  pub source : slice_get (keys_of rows.sources.entries) n.source ≡ Some (record { type_no = edge.type_no; key = edge.key })
  pub target : slice_get (keys_of rows.ids.entries) n.target ≡ Some edge.target

-- a state that stands for an audience
pub record IsStateOf (rows : Rows) (state : SlotState) (audience : Audience) : Type 0 where
  pub known : IsCircleKnown (length rows.sources.entries) state
  pub named : audience_named (keys_of rows.sources.entries) state ≡ Some audience

-- the place of an edge, gone or not, or that it never was there
abbrev pub IsPlaceOf : Rows → EdgeRef → Option ℕ → Type 0
IsPlaceOf rows edge None = NonePasses (is_at (edge_cmp edge)) (slots_named rows)
IsPlaceOf rows edge (Some i) = (e : EdgeNo × Slot) × (slice_get rows.edges.entries i ≡ Some e) × (edge_named (keys_of rows.sources.entries) (keys_of rows.ids.entries) e.0 ≡ edge)

-- the contents with the row of an entity, or without
abbrev pub with_entity_row : Contents → ℕ → Option EntityRow → Contents
with_entity_row table id (Some row) = with_entity table id row
with_entity_row table id None = without_row table id

-- and with the row of an edge, or without
abbrev pub with_edge_row : Contents → EdgeRef → Option EdgeRow → Contents
with_edge_row table edge (Some row) = with_edge table edge row
with_edge_row table edge None = without_edge table edge

-- that an end stands among the ends, if a state and an end need it
abbrev pub IsNoted : Rows → SlotState → ℕ → ℕ → Type 0
IsNoted rows state end i = is_live state ≡ true → 0 < end → contains end_cmp rows.ends (end, i + 1) ≡ true

-- the index of a key, or that it is none of the keys
abbrev pub IsIndexOf : {K : Type 0} → (K → K → Bool) → List K → K → Option ℕ → Type 0
IsIndexOf eq ks k None = AllByRecursion (λ x. eq k x ≡ false) ks
IsIndexOf eq ks k (Some i) = slice_get ks i ≡ Some k

-- an edge by its number with its audience, if it has a number at an end and is not gone
abbrev pub held_at : Rows → Side → ℕ → EdgeNo × Slot → Option Held
held_at rows side q e = if has_at side q e.0 then held_by (slot_named (keys_of rows.sources.entries) (keys_of rows.ids.entries) e) else None

-- all such edges, in the order in which they came
abbrev pub all_held : Rows → Side → ℕ → List Held
all_held rows side q = filter_map (held_at rows side q) rows.edges.entries

-- an edge that is marked as gone
abbrev pub gone : EdgeNo × Slot → EdgeNo × Slot
gone e = (e.0, written e.1 Gone 0)

-- an edge that is marked as gone, if it has a number at an end
abbrev pub gone_at : Side → ℕ → EdgeNo × Slot → EdgeNo × Slot
gone_at side q e = if has_at side q e.0 then gone e else e

-- the edge of a number
abbrev pub row_no : {X : Type 0} → List X → ℕ → Option X
row_no xs zero = None
row_no xs (suc i) = slice_get xs i

-- whether an edge is not gone, and ends at a publish or before it
abbrev pub is_ended : ℕ → Slot → Bool
is_ended publish slot = is_live slot.state && (not (slot.end == 0) && nat_le slot.end publish)

-- an edge with its end, if it ends at a publish or before it
abbrev pub ending_by : Rows → ℕ → EdgeNo × Slot → Option Ending
ending_by rows publish e =
    if is_ended publish e.1 then Some (record { end = e.1.end; edge = edge_named (keys_of rows.sources.entries) (keys_of rows.ids.entries) e.0 }) else None

-- what an entry among the ends stands for: the edge of its number, if that has the end, and the end has come
abbrev pub ending_no : Rows → ℕ → ℕ × ℕ → Option Ending
ending_no rows publish q = option_and_then (λ e. if nat_eq e.1.end q.0 then ending_by rows publish e else None) (row_no rows.edges.entries q.1)

-- the number of the first of the ends, if that has come, or that none has come
abbrev pub IsFirstEnded : Rows → ℕ → Option ℕ → Type 0
IsFirstEnded rows publish None = (q : ℕ × ℕ) → contains end_cmp rows.ends q ≡ true → publish < q.0
IsFirstEnded rows publish (Some n) = (end : ℕ) × (slice_get rows.ends.keys 0 ≡ Some (end, n)) × (end ≤ publish)

-- the place in rank order of an id, if it is an entity of a shard of a vertical
abbrev pub member_of : Declarations → ℕ → ℕ → ℕ × Option EntityRow → Option DocKey
member_of schema vertical shard e = option_map doc_of (living (kept_if (is_of_shard schema vertical shard) e))

-- what there is of an edge that was looked for: the numbers of its ends, and its place
pub record IsFound (rows : Rows) (found : FoundEdge) : Type 0 where
  pub source : IsIndexOf source_eq (keys_of rows.sources.entries) (record { type_no = found.edge.now.type_no; key = found.edge.now.key }) found.source
  pub target : IsIndexOf nat_eq (keys_of rows.ids.entries) found.edge.now.target found.target
  pub place : IsPlaceOf rows found.edge.now found.place
