-- How entities stand under plans, as they are worked out entity by entity.
use Rattle.std.specs.Prelude.{ℕ, ◌++◌, Bool, true, false, not, ◌==◌, ◌&&◌, if◌then◌else◌, List, [], ◌∷◌, Option, None, Some, get_or, map}
use Rattle.std.specs.List.{flat_map, list_all, list_any, range_with_len}
use Rattle.std.specs.BTreeMap.{is_at}
use Rattle.std.specs.Map.{lookup}
use Rattle.std.specs.Option.{option_map, unwrap_or}
use Rattle.std.specs.Ordering.{nat_cmp}
use Rattle.uni_base.specs.declared.edge.EdgeRef.{EdgeRef}
use Rattle.uni_base.specs.declared.edge.Held.{Held}
use Rattle.uni_base.specs.declared.edge.Key.{Key}
use Rattle.uni_base.specs.declared.edge.Key.TheVariants.{Id, Word}
use Rattle.uni_base.specs.declared.entity.DocKey.{DocKey}
use Rattle.uni_schema.specs.Schema.{Declarations}
use Rattle.uni_table.specs.Contents.{Contents, has_edge}
use Rattle.uni_table.specs.Lists.{touching}
use Rattle.uni_table.specs.Ranked.{doc_at, ranked}
use Rattle.query_tree.specs.declared.kind.ListKind.{ListKind}
use Rattle.query_tree.specs.declared.kind.ListKind.TheVariants.{And, Or, Difference, WeakAnd, StrongOr}
use Rattle.query_tree.specs.declared.query.Mark.{Mark}
use Rattle.query_check.specs.Plan.{Plan, SeenOperand}
use Rattle.uni_meaning.specs.Firsts.{first_shown}
use Rattle.uni_meaning.specs.Hits.{edge_to, is_hit, shards_of}
use Rattle.uni_meaning.specs.Policy.{authorised}
use Rattle.uni_meaning.specs.Prefixes.{begins_with}
use Rattle.uni_meaning.specs.Viewed.{Viewed}
use Rattle.uni_meaning.specs.declared.column.Column.{Column}
use Rattle.uni_meaning.specs.declared.cut.Member.{Member}
use Rattle.uni_meaning.specs.declared.reply.Hit.{Hit}
use Rattle.uni_meaning.specs.declared.place.Place.{Place}
use Rattle.uni_meaning.specs.declared.standing.Standing.{Standing}
use Rattle.uni_meaning.specs.declared.standing.Standing.TheVariants.{Missed, Hidden, Shown}

-- a hit by what is shown of it
abbrev pub shown_as : Option (List EdgeRef) → Standing
shown_as None = Hidden
shown_as (Some edges) = Shown edges

-- how an entity stands under a plan
abbrev pub standing_of : Viewed → Plan → DocKey → Standing
standing_of v plan x = if is_hit v.schema v.contents plan x then shown_as (first_shown v.schema v.contents v.viewer plan x) else Missed

-- how entities stand under a plan
abbrev pub standings_of : Viewed → Plan → List Place → List Standing
standings_of v plan places = map (λ p. standing_of v plan p.doc) places

-- whether an entity that stands so is a hit
abbrev pub is_found : Standing → Bool
is_found Missed = false
is_found Hidden = true
is_found (Shown edges) = true

-- whether edges are shown of an entity that stands so
abbrev pub is_shown : Standing → Bool
is_shown Missed = false
is_shown Hidden = false
is_shown (Shown edges) = true

-- the edges that are shown of an entity that stands so
abbrev pub shown_of : Standing → Option (List EdgeRef)
shown_of Missed = None
shown_of Hidden = None
shown_of (Shown edges) = Some edges

-- under two of which one is enough: what the first shows, else what the second shows
abbrev pub either : Standing → Standing → Standing
either Missed other = other
either (Shown edges) other = Shown edges
either Hidden Missed = Hidden
either Hidden Hidden = Hidden
either Hidden (Shown edges) = Shown edges

-- under two that count where they have the entity: what both show
abbrev pub both : Standing → Standing → Standing
both Missed other = other
both (Shown edges) Missed = Shown edges
both (Shown edges) Hidden = Hidden
both (Shown edges) (Shown more) = Shown (edges ++ more)
both Hidden other = Hidden

abbrev pub first_of : List Standing → Standing
first_of [] = Missed
first_of (s ∷ ss) = either s (first_of ss)

abbrev pub all_of : List Standing → Standing
all_of [] = Missed
all_of (s ∷ ss) = both s (all_of ss)

-- by an edge of the table and the edges after it
abbrev pub by_edge : Viewed → EdgeRef → List EdgeRef → Standing
by_edge v edge rest = if authorised v.schema v.contents v.viewer edge then Shown (edge ∷ rest) else Hidden

-- under a term
abbrev pub under_term : Viewed → ℕ → Key → DocKey → Standing
under_term v number key x = if has_edge v.contents (edge_to number key x.id) then by_edge v (edge_to number key x.id) [] else Missed

-- whether a key is a word that begins so
abbrev pub is_word_from : List ℕ → Key → Bool
is_word_from from (Id id) = false
is_word_from from (Word text) = begins_with from text

-- whether an edge of a type leads from a word that begins so to an entity
abbrev pub is_from : ℕ → List ℕ → ℕ → EdgeRef → Bool
is_from number from id edge = number == edge.type_no && id == edge.target && is_word_from from edge.key

-- by an edge that touches an entity, under a prefix term
abbrev pub by_word : Viewed → ℕ → List ℕ → DocKey → Held → Standing
by_word v number from x held = if is_from number from x.id held.edge then by_edge v held.edge [] else Missed

-- under a prefix term, by the edges that touch the entity
abbrev pub under_prefix : Viewed → ℕ → List ℕ → DocKey → Standing
under_prefix v number from x = first_of (map (by_word v number from x) (touching v.contents x.id))

-- by an edge from a member of a join's cut
abbrev pub by_member : Viewed → EdgeRef → Option (List EdgeRef) → Standing
by_member v edge None = Hidden
by_member v edge (Some rest) = by_edge v edge rest

-- a member of the cut of a plan
abbrev pub member_of : Viewed → Plan → DocKey → Member
member_of v plan y = record { key = y; lineage = first_shown v.schema v.contents v.viewer plan y }

-- the members of a cut
abbrev pub members_of : Viewed → Plan → List DocKey → List Member
members_of v plan ys = map (member_of v plan) ys

-- a member of a term's cut: an entity that an edge of the term leads to
abbrev pub led_member : Viewed → ℕ → Key → ℕ → Option Member
led_member v number key id = option_map (λ k. record { key = k; lineage = shown_of (by_edge v (edge_to number key id) []) }) (doc_at v.contents id)

-- by a member of a join's cut
abbrev pub through : Viewed → ℕ → DocKey → Member → Standing
through v number x member =
    let edge = edge_to number (Id member.key.id) x.id in
    if has_edge v.contents edge then by_member v edge member.lineage else Missed

-- under a join, by the members of its cut
abbrev pub under_join : Viewed → ℕ → List Member → DocKey → Standing
under_join v number members x = first_of (map (through v number x) members)

-- how an id stands among what was gathered
abbrev pub gathered_at : List (ℕ × Standing) → ℕ → Standing
gathered_at entries id = unwrap_or (lookup (is_at (nat_cmp id)) entries) Missed

-- what an edge from a member brings to an id
abbrev pub arrival : Viewed → Member → ℕ → Held → Standing
arrival v member id held = if held.edge.target == id then by_member v held.edge member.lineage else Missed

-- the entities of a vertical, shard after shard
abbrev pub places_of : Declarations → Contents → ℕ → List Place
places_of schema table vertical =
    flat_map (λ shard. map (λ x. record { doc = x; shard = shard }) (ranked schema table vertical shard)) (range_with_len 0 (shards_of schema vertical))

-- an operand's mark, and how entities stand under it
abbrev pub seen_column : Column → Mark × List Standing
seen_column c = (c.mark, c.standings.items)

abbrev pub columns_of : Viewed → List SeenOperand → List Place → List (Mark × List Standing)
columns_of v operands places = map (λ o. (o.mark, standings_of v o.node.plan places)) operands

-- how the entity at a place stands under each operand
abbrev pub row_at : List Column → ℕ → List Standing
row_at columns i = map (λ c. get_or c.standings.items i Missed) columns

-- whether the first operand alone has the entity
abbrev pub first_only : List Standing → Bool
first_only [] = false
first_only (s ∷ ss) = is_found s && not (list_any is_found ss)

-- whether an operator keeps no quotas
abbrev pub is_set : ListKind → Bool
is_set And = true
is_set Or = true
is_set Difference = true
is_set WeakAnd = false
is_set StrongOr = false

-- whether the entity is a hit of the set operators, by how it stands under the operands
abbrev pub set_keeps : ListKind → List Standing → Bool
set_keeps And row = list_all is_found row
set_keeps Or row = list_any is_found row
set_keeps Difference row = first_only row
set_keeps WeakAnd row = false
set_keeps StrongOr row = false

-- how the first operand has the entity
abbrev pub head_of : List Standing → Standing
head_of [] = Missed
head_of (s ∷ ss) = s

-- how a hit of an operator stands, by how it stands under the operands
abbrev pub hit_by : ListKind → List Standing → Standing
hit_by And row = all_of row
hit_by Or row = first_of row
hit_by Difference row = head_of row
hit_by WeakAnd row = all_of row
hit_by StrongOr row = first_of row

-- under a set operator
abbrev pub under_set : ListKind → List Standing → Standing
under_set kind row = if set_keeps kind row then hit_by kind row else Missed

-- the hits among entities, by how they stand
abbrev pub found_members : List Place → List Standing → List Member
found_members [] standings = []
found_members (place ∷ places) [] = []
found_members (place ∷ places) (s ∷ standings) =
    if is_found s then record { key = place.doc; lineage = shown_of s } ∷ found_members places standings else found_members places standings

-- a member of a cut as a hit, if edges are shown of it
abbrev pub shown_member : Member → Option Hit
shown_member member = option_map (λ edges. record { key = member.key; lineage = edges }) member.lineage
