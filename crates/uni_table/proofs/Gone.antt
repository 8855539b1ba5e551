-- The table without an entity and its edges.
use Rattle.std.proofs.Common.{◌≡◌, ◌≤◌, ◌<◌, ℕ, ◌==◌, ◌&&◌, ◌||◌, Bool, true, false, Option, None, Some, cond, refl, sym, subst, ◌∙◌, ap, arith, not, length, nat_lt}
use Rattle.std.proofs.lemmas.Bool.Decides.{nat_tests}
use Rattle.std.proofs.lemmas.Map.{lookup-remove_entry}
use Rattle.std.proofs.lemmas.Option.{slice_get_within}
use Rattle.std.proofs.lemmas.Map.Keys.{IsDistinct-from_sorted}
use Rattle.std.specs.Cmp.{nat_cmp_total, eq_by_cmp_equiv}
use Rattle.std.specs.Map.{keys_of, remove_entry}
use Rattle.std.specs.Option.{option_map_or}
use Rattle.std.specs.Ordering.{nat_cmp, is_eq}
use Rattle.std.specs.BTreeMap.{is_at}
use Rattle.uni_base.specs.declared.edge.EdgeRef.{EdgeRef}
use Rattle.uni_base.specs.declared.edge.Key.{Key}
use Rattle.uni_base.specs.declared.edge.Key.TheVariants.{Id, Word}
use Rattle.uni_base.specs.declared.limits.Limits.{Limits}
use Rattle.uni_schema.specs.Schema.{Declarations, type_at, source_of}
use Rattle.uni_schema.specs.declared.schema.Origin.{Origin}
use Rattle.uni_schema.specs.declared.schema.Origin.TheVariants.{Vertical, Words}
use Rattle.uni_schema.specs.declared.schema.TypeDef.{TypeDef}
use Rattle.uni_base.specs.EdgeOrder.{edge_cmp}
use Rattle.uni_table.specs.declared.command.EdgeRow.{EdgeRow}
use Rattle.uni_table.specs.declared.command.EntityRow.{EntityRow}
use Rattle.uni_table.specs.Contents.{Contents, entity_at, is_in, source_stands, key_stands, target_stands, touches, reaches, leaves, leaves_below, starts_at, count_from, without_entity, without_row, without_leaving, without_into}
use Rattle.uni_table.specs.TableState.{IsKept}
use Rattle.uni_table.proofs.Additions.{filter-agree, filter-twice}
use Rattle.uni_table.proofs.Compared.{same_number}
use Rattle.uni_table.proofs.Entries.{sorted-filter, sorted-remove_entry, list_all-left, count-filter}

-- neither of two holds
neither : (a b : Bool) → not (a || b) ≡ true → (a ≡ false) × (b ≡ false)
neither true b none = cc
neither false true none = cc
neither false false none = (refl, refl)

other_at : (a b : ℕ) → (a == b) ≡ false → is_eq (nat_cmp a b) ≡ false
other_at a b e = grind (arith, nat_tests)

module _ (schema : Declarations) (limits : Limits) (table : Contents) (kept : IsKept schema limits table) (id : ℕ) where
  -- another entity is there as before
  others_stay : (vertical q : ℕ) → (id == q) ≡ false → is_in table vertical q ≡ true → is_in (without_entity table id) vertical q ≡ true
  others_stay vertical q other stands =
      let same : entity_at (without_entity table id) q ≡ entity_at table q =
      lookup-remove_entry (eq_by_cmp_equiv nat_cmp_total) (is_at (nat_cmp id)) (λ x y at. rw (same_number id x at) refl) q table.entities (IsDistinct-from_sorted nat_cmp (keys_of table.entities) kept.entities)
      ∙ ap (λ b. cond b None (entity_at table q)) (other_at id q other) in
      subst (λ o. option_map_or (λ (row : EntityRow). row.vertical == vertical) o false ≡ true) (sym same) stands

  -- so each edge that does not touch the id stands as before
  module _ (e : EdgeRef × EdgeRow) (untouched : not (touches id e.0) ≡ true) where
    target_stays : target_stands schema table e.0 ≡ true → target_stands schema (without_entity table id) e.0 ≡ true
    target_stays stands = by (type_at schema e.0.type_no) stands
      where
        by : (o : Option TypeDef) → option_map_or (λ type_def. is_in table type_def.target e.0.target) o false ≡ true → option_map_or (λ type_def. is_in (without_entity table id) type_def.target e.0.target) o false ≡ true
        by None h = h
        by (Some type_def) h = others_stay type_def.target e.0.target (neither (reaches id e.0) (leaves id e.0) untouched).0 h

    source_stays : key_stands schema table e.0 ≡ true → key_stands schema (without_entity table id) e.0 ≡ true
    source_stays stands = by (type_at schema e.0.type_no) stands
      where
        at : (origin : Origin) (key : Key) → option_map_or (λ source. id == source) (source_of key) false ≡ false → source_stands table origin key ≡ true → source_stands (without_entity table id) origin key ≡ true
        at Words key apart h = refl
        at (Vertical vertical) (Id source) apart h = others_stay vertical source apart h
        at (Vertical vertical) (Word text) apart h = cc

        by : (o : Option TypeDef) → option_map_or (λ type_def. source_stands table type_def.origin e.0.key) o false ≡ true → option_map_or (λ type_def. source_stands (without_entity table id) type_def.origin e.0.key) o false ≡ true
        by None h = h
        by (Some type_def) h = at type_def.origin e.0.key (neither (reaches id e.0) (leaves id e.0) untouched).1 h

  pub gone_keeps : IsKept schema limits (without_entity table id)
  gone_keeps =
      let new : Contents = without_entity table id in
      let left : EdgeRef × EdgeRow → Bool = λ e. not (touches id e.0) in
      record {
        keys = list_all-left left (λ (e : EdgeRef × EdgeRow). key_stands schema table e.0) (λ (e : EdgeRef × EdgeRow). key_stands schema new e.0) source_stays table.edges kept.keys;
        targets = list_all-left left (λ (e : EdgeRef × EdgeRow). target_stands schema table e.0) (λ (e : EdgeRef × EdgeRow). target_stands schema new e.0) target_stays table.edges kept.targets;
        entities = sorted-remove_entry nat_cmp (is_at (nat_cmp id)) table.entities kept.entities;
        edges = sorted-filter edge_cmp left table.edges kept.edges;
        forward = λ number key is.
            let fewer : count_from new number key ≤ count_from table number key = count-filter left (λ (e : EdgeRef × EdgeRow). starts_at number key e.0) table.edges in
            omega (arith, fewer, kept.forward number key is);
      }

-- the type of an edge that stands is declared
pub declared_from : (schema : Declarations) (table : Contents) (edge : EdgeRef) → target_stands schema table edge ≡ true → nat_lt edge.type_no (length schema.types) ≡ true
declared_from schema table edge stands = by (type_at schema edge.type_no) refl stands
  where
    below : (a b : ℕ) → a < b → nat_lt a b ≡ true
    below a b h = grind (arith, nat_tests)

    by : (o : Option TypeDef) → type_at schema edge.type_no ≡ o → option_map_or (λ (type_def : TypeDef). is_in table type_def.target edge.target) o false ≡ true → nat_lt edge.type_no (length schema.types) ≡ true
    by None e h = cc
    by (Some type_def) e h = below edge.type_no (length schema.types) (slice_get_within schema.types edge.type_no type_def e)

module _ (schema : Declarations) (limits : Limits) (table : Contents) (kept : IsKept schema limits table) (id : ℕ) where
  -- the edges that leave an id, type by type, those that reach it, and the entity are all that goes
  pub gone-is : without_row (without_into (without_leaving table (length schema.types) id) id) id ≡ without_entity table id
  gone-is =
      let both : (e : EdgeRef × EdgeRow) → target_stands schema table e.0 ≡ true → (not (leaves_below (length schema.types) id e.0) && not (reaches id e.0)) ≡ not (touches id e.0) =
      λ e stands. rw (declared_from schema table e.0 stands) (none_of (leaves id e.0) (reaches id e.0)) in
      let edges = filter-twice (λ (e : EdgeRef × EdgeRow). not (reaches id e.0)) (λ (e : EdgeRef × EdgeRow). not (leaves_below (length schema.types) id e.0)) table.edges
      ∙ filter-agree (λ (e : EdgeRef × EdgeRow). target_stands schema table e.0) _ (λ (e : EdgeRef × EdgeRow). not (touches id e.0)) both table.edges kept.targets in
      λ i. record { entities = remove_entry (is_at (nat_cmp id)) table.entities; edges = edges i }
    where
      none_of : (l r : Bool) → (not (l && true) && not r) ≡ not (r || l)
      none_of true true = refl
      none_of true false = refl
      none_of false true = refl
      none_of false false = refl
