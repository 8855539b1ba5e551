-- What a table keeps, from command to command and from publish to publish.
use Rattle.std.proofs.Common.{◌≡◌, ◌≤◌, ◌<◌, ◌+◌, ℕ, Bool, true, false, Option, None, Some, cond, refl, sym, subst, ◌∙◌, ap, rules, arith, not, length, filter, nat_lt, if◌then◌else◌}
use Rattle.std.proofs.lemmas.Bool.{not-true}
use Rattle.std.specs.Cmp.{IsTotalOrder, nat_cmp_total}
use Rattle.std.specs.Cmp.Rules.{comparing}
use Rattle.std.specs.Option.{option_map_or, option_or}
use Rattle.std.specs.Prelude.{Result, Ok, Err, OnOk, OnErr}
use Rattle.std.specs.Ordering.{nat_cmp, on, then_cmp}
use Rattle.std.specs.BTreeMap.{is_at}
use Rattle.uni_base.specs.declared.edge.Audience.{Audience}
use Rattle.uni_base.specs.declared.edge.EdgeRef.{EdgeRef}
use Rattle.uni_base.specs.declared.edge.Key.{Key}
use Rattle.uni_base.specs.declared.entity.Rank.{Rank}
use Rattle.uni_base.specs.declared.limits.Limits.{Limits}
use Rattle.uni_base.specs.EdgeOrder.{edge_cmp, key_cmp, key_cmp-total}
use Rattle.uni_schema.specs.Schema.{Declarations, type_at, is_index}
use Rattle.uni_schema.specs.declared.schema.TypeDef.{TypeDef}
use Rattle.uni_table.specs.declared.command.EdgeRow.{EdgeRow}
use Rattle.uni_table.specs.declared.command.EntityRow.{EntityRow}
use Rattle.uni_table.specs.declared.refusal.FeedRefusal.{FeedRefusal}
use Rattle.uni_table.specs.declared.refusal.FeedRefusal.TheVariants.{ForwardFull, TableFull}
use Rattle.uni_table.specs.Commands.{next_edge, refuses_edge, refuses_entity, refuses_ends, refuses_new_edge}
use Rattle.uni_table.specs.Contents.{Contents, empty, has_edge, starts_at, count_from, key_stands, target_stands, with_entity, with_edge, without_edge}
use Rattle.uni_table.specs.GraphState.{GraphState}
use Rattle.uni_table.specs.TableState.{AreKept, IsKept, is_forward}
use Rattle.uni_table.proofs.Compared.{below_from}
use Rattle.uni_table.proofs.Entries.{sorted-filter, sorted-remove_entry, list_all-remove_entry, list_all-left, count-remove_entry, count-filter, count-insert_entry, count-put_again}
use Rattle.uni_table.proofs.Keys.{starts_from}
use Rattle.uni_table.proofs.Inserted.{sorted-insert_entry, lookup-insert_entry}
use Rattle.uni_table.proofs.Placed.{sorted_nil}
use Rattle.uni_table.proofs.Targets.{list_all-insert_entry, list_all-wider, key_stands-kept, target_stands-kept, is_in-insert, refuses_entity-same, refuses_ends-none}

pub edge_total : IsTotalOrder edge_cmp
edge_total =
    let is : IsTotalOrder (then_cmp (on (λ (e : EdgeRef). e.type_no) nat_cmp) (then_cmp (on (λ (e : EdgeRef). e.key) key_cmp) (on (λ (e : EdgeRef). e.target) nat_cmp))) = search (comparing, rules, key_cmp-total) in
    is

module _ (schema : Declarations) (limits : Limits) (table : Contents) (kept : IsKept schema limits table) where
  -- with an entity that is not refused
  pub entity_keeps : (vertical id : ℕ) (rank : Rank) → refuses_entity limits table vertical id ≡ None → IsKept schema limits (with_entity table id (record { vertical = vertical; rank = rank }))
  entity_keeps vertical id rank taken =
      let row : EntityRow = record { vertical = vertical; rank = rank } in
      let new : Contents = with_entity table id row in
      let stays = is_in-insert table new vertical id rank (λ q. lookup-insert_entry nat_cmp_total id row q table.entities)
      (λ other stands. refuses_entity-same limits table vertical id other taken stands) in
      record {
        keys = list_all-wider (λ (e : EdgeRef × EdgeRow). key_stands schema table e.0) (λ (e : EdgeRef × EdgeRow). key_stands schema new e.0)
            (λ e. key_stands-kept schema table new stays e.0) table.edges kept.keys;
        targets = list_all-wider (λ (e : EdgeRef × EdgeRow). target_stands schema table e.0) (λ (e : EdgeRef × EdgeRow). target_stands schema new e.0)
            (λ e. target_stands-kept schema table new stays e.0) table.edges kept.targets;
        entities = sorted-insert_entry nat_cmp_total id row table.entities kept.entities;
        edges = kept.edges;
        forward = kept.forward;
      }

  -- without some edge
  pub cut_keeps : (edge : EdgeRef) → IsKept schema limits (without_edge table edge)
  cut_keeps edge = record {
    keys = list_all-remove_entry (is_at (edge_cmp edge)) (λ (e : EdgeRef × EdgeRow). key_stands schema table e.0) table.edges kept.keys;
    targets = list_all-remove_entry (is_at (edge_cmp edge)) (λ (e : EdgeRef × EdgeRow). target_stands schema table e.0) table.edges kept.targets;
    entities = kept.entities;
    edges = sorted-remove_entry edge_cmp (is_at (edge_cmp edge)) table.edges kept.edges;
    forward = λ number key is.
        let fewer : count_from (without_edge table edge) number key ≤ count_from table number key =
        count-remove_entry (is_at (edge_cmp edge)) (λ (e : EdgeRef × EdgeRow). starts_at number key e.0) table.edges in
        omega (arith, fewer, kept.forward number key is);
  }

  -- with the edges alone that pass a test
  pub filter_keeps : (left : EdgeRef × EdgeRow → Bool) → IsKept schema limits (record table { edges = filter left table.edges })
  filter_keeps left = record {
    keys = list_all-left left (λ (e : EdgeRef × EdgeRow). key_stands schema table e.0) (λ (e : EdgeRef × EdgeRow). key_stands schema table e.0) (λ e stays stands. stands) table.edges kept.keys;
    targets = list_all-left left (λ (e : EdgeRef × EdgeRow). target_stands schema table e.0) (λ (e : EdgeRef × EdgeRow). target_stands schema table e.0) (λ e stays stands. stands) table.edges kept.targets;
    entities = kept.entities;
    edges = sorted-filter edge_cmp left table.edges kept.edges;
    forward = λ number key is.
        let fewer : length (filter (λ (e : EdgeRef × EdgeRow). starts_at number key e.0) (filter left table.edges)) ≤ count_from table number key =
        count-filter left (λ (e : EdgeRef × EdgeRow). starts_at number key e.0) table.edges in
        omega (arith, fewer, kept.forward number key is);
  }

  -- with an edge that is not refused
  module _ (type_def : TypeDef) (edge : EdgeRef) (row : EdgeRow) (declared : type_at schema edge.type_no ≡ Some type_def) (ends : refuses_ends table type_def edge ≡ None)
      (taken : refuses_new_edge limits table type_def edge ≡ None) where
    -- a forward edge that is new found room
    found_room : has_edge table edge ≡ false → is_index type_def.store ≡ false → count_from table edge.type_no edge.key < limits.forward
    found_room new stored = by (nat_lt (count_from table edge.type_no edge.key) limits.forward) refl (rw (new, stored) at taken)
      where
        by : (b : Bool) → nat_lt (count_from table edge.type_no edge.key) limits.forward ≡ b
            → (if not b then Some ForwardFull else (if nat_lt (length table.edges) limits.edges then None else Some TableFull)) ≡ None → count_from table edge.type_no edge.key < limits.forward
        by true is room = below_from (count_from table edge.type_no edge.key) limits.forward is
        by false is room = cc

    forward_fits : (number : ℕ) (key : Key) → is_forward schema number ≡ true → count_from (with_edge table edge row) number key ≤ limits.forward
    forward_fits number key is = by (has_edge table edge) (starts_at number key edge) refl refl (kept.forward number key is)
      where
        more : count_from (with_edge table edge row) number key ≤ cond (starts_at number key edge) (count_from table number key + 1) (count_from table number key)
        more = count-insert_entry edge_total edge row (starts_at number key) table.edges

        at : (number ≡ edge.type_no) × (key ≡ edge.key) → has_edge table edge ≡ false → count_from table number key < limits.forward
        at same new =
            let stored : is_index type_def.store ≡ false = not-true (is_index type_def.store) (subst (λ o. option_map_or (λ (t : TypeDef). not (is_index t.store)) o false ≡ true) (ap (type_at schema) same.0 ∙ declared) is) in
            subst (λ n. count_from table n key < limits.forward) (sym same.0) (subst (λ k. count_from table edge.type_no k < limits.forward) (sym same.1) (found_room new stored))

        by : (there starts : Bool) → has_edge table edge ≡ there → starts_at number key edge ≡ starts → count_from table number key ≤ limits.forward → count_from (with_edge table edge row) number key ≤ limits.forward
        by true starts e f before =
            let same : count_from (with_edge table edge row) number key ≡ count_from table number key = count-put_again edge_total edge row (starts_at number key) table.edges kept.edges e in
            omega (arith, same, before)
        by false true e f before =
            let up : count_from (with_edge table edge row) number key ≤ count_from table number key + 1 = rw f at more in
            omega (arith, up, at (starts_from edge key f) e)
        by false false e f before =
            let up : count_from (with_edge table edge row) number key ≤ count_from table number key = rw f at more in
            omega (arith, up, before)

    pub edge_keeps : IsKept schema limits (with_edge table edge row)
    edge_keeps =
        let stand = refuses_ends-none table type_def edge ends in
        record {
          keys = list_all-insert_entry edge_cmp (key_stands schema table) edge row table.edges (rw declared stand.0) kept.keys;
          targets = list_all-insert_entry edge_cmp (target_stands schema table) edge row table.edges (rw declared stand.1) kept.targets;
          entities = kept.entities;
          edges = sorted-insert_entry edge_total edge row table.edges kept.edges;
          forward = forward_fits;
        }

-- so is the table with an edge and its audience, where no reason refuses them
put_keeps : (schema : Declarations) (limits : Limits) (table : Contents) → IsKept schema limits table → (type_def : TypeDef) (edge : EdgeRef) → type_at schema edge.type_no ≡ Some type_def
    → (audience : Option Audience) (end : ℕ) → refuses_edge limits table type_def edge audience ≡ None → IsKept schema limits (next_edge table end (Some edge) audience)
put_keeps schema limits table kept type_def edge declared None end taken = kept
put_keeps schema limits table kept type_def edge declared (Some audience) end taken =
    let both = neither (refuses_ends table type_def edge) (refuses_new_edge limits table type_def edge) taken in
    edge_keeps schema limits table kept type_def edge (record { audience = audience; end = end }) declared both.0 both.1
  where
    neither : (a b : Option FeedRefusal) → option_or a b ≡ None → (a ≡ None) × (b ≡ None)
    neither None b is = (refl, is)
    neither (Some r) b is = cc

-- and the graph after it was to be put, whether it was refused or not
pub put_kept : {T E : Type 0} (schema : Declarations) (limits : Limits) (old new : GraphState) → AreKept schema limits old → (type_def : TypeDef) (edge : EdgeRef) → type_at schema edge.type_no ≡ Some type_def
    → (audience : Option Audience) (end : ℕ) (r : Result T E) → OnOk r (refuses_edge limits old.contents type_def edge audience ≡ None)
    → OnOk r (new ≡ record old { contents = next_edge old.contents end (Some edge) audience }) → OnErr r (new ≡ old) → AreKept schema limits new
put_kept schema limits old new kept type_def edge declared audience end (Ok u) taken put same =
    subst (AreKept schema limits) (sym put) (record { contents = put_keeps schema limits old.contents kept.contents type_def edge declared audience end taken; published = kept.published })
put_kept schema limits old new kept type_def edge declared audience end (Err e) taken put same = subst (AreKept schema limits) (sym same) kept

pub nothing_kept : (schema : Declarations) (limits : Limits) → IsKept schema limits empty
nothing_kept schema limits = record { keys = refl; targets = refl; entities = sorted_nil nat_cmp; edges = sorted_nil edge_cmp; forward = λ number key is. omega arith }
