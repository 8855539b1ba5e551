-- The lists in rank order have what they are to have, and nothing else.
use Rattle.std.proofs.lemmas.Bool.{and_parts}
use Rattle.std.proofs.Common.{◌≡◌, ◌<◌, ◌↔◌, ℕ, ◌==◌, ◌&&◌, true, false, List, [], ◌∷◌, Option, None, Some, refl, sym, ◌∙◌, ap, subst, is_some, filter, length, arith, if◌then◌else◌}
use Rattle.std.proofs.lemmas.Bool.{eqb-true}
use Rattle.std.proofs.lemmas.Bool.Decides.{nat_tests}
use Rattle.std.proofs.lemmas.List.Kept.{IsStrictlySortedBy-filter}
use Rattle.std.proofs.lemmas.Map.Views.{Contains-from_any, list_any-from_Contains}
use Rattle.std.specs.Cmp.{eq_by_cmp_equiv}
use Rattle.std.specs.List.{Contains, filter_map, cons_option}
use Rattle.std.specs.List.Sorted.{IsStrictlySortedBy}
use Rattle.std.specs.Option.{option_map, option_map_or}
use Rattle.std.specs.Ordering.{nat_cmp, is_eq, eq_by_cmp}
use Rattle.uni_base.specs.declared.edge.Audience.{Audience}
use Rattle.uni_base.specs.declared.edge.Held.{Held}
use Rattle.uni_base.specs.declared.edge.Key.{Key}
use Rattle.uni_base.specs.declared.entity.DocKey.{DocKey}
use Rattle.uni_base.specs.declared.entity.Rank.{Rank}
use Rattle.uni_base.specs.declared.limits.Limits.{Limits}
use Rattle.uni_base.specs.RankOrder.{doc_cmp}
use Rattle.uni_schema.specs.Schema.{Declarations, type_at}
use Rattle.uni_schema.specs.declared.schema.TypeDef.{TypeDef}
use Rattle.uni_table.specs.declared.command.EntityRow.{EntityRow}
use Rattle.uni_table.specs.Contents.{Contents, entity_at, audience_at, has_edge}
use Rattle.uni_table.specs.Laws.{RankedIsExact, ReachedIsExact}
use Rattle.uni_table.specs.Ranked.{ranked_all, doc_at, held_at, reached_of}
use Rattle.uni_table.specs.TableState.{IsKept}
use Rattle.uni_table.proofs.Compared.{same_number, equal_from}
use Rattle.uni_table.proofs.DocKeys.{doc_total, exact_key}
use Rattle.uni_table.proofs.Listed.{first_is, later_is, GivenBy, given_by, is_given}
use Rattle.uni_table.proofs.RankedIn.{fits, among_ranked, ranked_ascends}
use Rattle.uni_table.proofs.Reached.{edge_leads, declared_type, held_is_there}
use Rattle.uni_table.proofs.Starts.{edge_to}

-- a row fits exactly if it is of the vertical and the rank
fitting : (vertical : ℕ) (rank : Rank) (o : Option EntityRow) → option_map_or (fits vertical rank.0) o false ≡ true → o ≡ Some (record { vertical = vertical; rank = rank })
fitting vertical rank None h = cc
fitting vertical rank (Some row) h =
    let both = and_parts (row.vertical == vertical) (is_eq (nat_cmp row.rank.0 rank.0)) h in
    let verticals : row.vertical ≡ vertical = eqb-true row.vertical vertical both.0 in
    let ranks : row.rank.0 ≡ rank.0 = same_number row.rank.0 rank.0 both.1 in
    λ i. Some (record { vertical = verticals i; rank = record { 0 = ranks i } })

fits_itself : (vertical rank : ℕ) → ((vertical == vertical) && is_eq (nat_cmp rank rank)) ≡ true
fits_itself vertical rank = grind (arith, nat_tests)

module _ (schema : Declarations) {limits : Limits} (table : Contents) (vertical : ℕ) (k : DocKey) (kept : IsKept schema limits table) where
  ranked_from : Contains (ranked_all table vertical) k → entity_at table k.id ≡ Some (record { vertical = vertical; rank = k.rank })
  ranked_from there = fitting vertical k.rank (entity_at table k.id)
      (sym (among_ranked table vertical kept.entities k) ∙ list_any-from_Contains {eq = eq_by_cmp doc_cmp} (eq_by_cmp_equiv doc_total) k (ranked_all table vertical) there)

  is_ranked : entity_at table k.id ≡ Some (record { vertical = vertical; rank = k.rank }) → Contains (ranked_all table vertical) k
  is_ranked known =
      Contains-from_any {eq = eq_by_cmp doc_cmp} (λ x y e. exact_key x y (equal_from (doc_cmp x y) e)) k (ranked_all table vertical)
      (among_ranked table vertical kept.entities k ∙ ap (λ o. option_map_or (fits vertical k.rank.0) o false) known ∙ fits_itself vertical k.rank.0)

pub ranked_is_exact : RankedIsExact
ranked_is_exact = record {
  ascends = λ schema limits table vertical kept. ranked_ascends table vertical kept.entities;
  lists = λ schema limits table vertical k kept. (ranked_from schema table vertical k kept, is_ranked schema table vertical k kept);
}

module _ (schema : Declarations) {limits : Limits} (table : Contents) (number : ℕ) (key : Key) (type_def : TypeDef) (declared : type_at schema number ≡ Some type_def) (kept : IsKept schema limits table) where
  -- the edge to an entity, if it is there
  abbrev held_to : DocKey → Option Held
  held_to k = held_at table number key k.id

  -- the edges to the entities of the type's target vertical
  abbrev all_held : List Held
  all_held = filter_map held_to (ranked_all table type_def.target)

  -- a list of entities that the table has, each at its rank
  abbrev AreKnown : List DocKey → Type 0
  AreKnown ks = (k : DocKey) → Contains ks k → doc_at table k.id ≡ Some k

  -- the targets of the edges to entities of a list are those to which there is one
  targets_held : (ks : List DocKey) → AreKnown ks → filter_map (λ held. doc_at table held.edge.target) (filter_map held_to ks) ≡ filter (λ k. is_some (held_to k)) ks
  targets_held [] known = refl
  targets_held (k ∷ ks) known = by (audience_at table (edge_to number key k.id)) (targets_held ks (λ j there. known j (later_is k ks j there)))
    where
      target_of : Held → Option DocKey
      target_of held = doc_at table held.edge.target

      named : Audience → Held
      named audience = record { edge = edge_to number key k.id; audience = audience }

      by : (o : Option Audience) → filter_map target_of (filter_map held_to ks) ≡ filter (λ j. is_some (held_to j)) ks
          → filter_map target_of (cons_option (option_map named o) (filter_map held_to ks)) ≡ (if is_some (option_map named o) then k ∷ filter (λ j. is_some (held_to j)) ks else filter (λ j. is_some (held_to j)) ks)
      by None later = later
      by (Some audience) later =
          ap (λ o. cons_option o (filter_map target_of (filter_map held_to ks))) (known k (first_is k ks))
          ∙ ap (λ rest. k ∷ rest) later

  are_known : AreKnown (ranked_all table type_def.target)
  are_known k there = ap (option_map (λ (row : EntityRow). record { rank = row.rank; id = k.id })) (ranked_from schema table type_def.target k kept there)

  held_ascends : IsStrictlySortedBy doc_cmp (filter_map (λ held. doc_at table held.edge.target) all_held)
  held_ascends = subst (IsStrictlySortedBy doc_cmp) (sym (targets_held (ranked_all table type_def.target) are_known))
      (IsStrictlySortedBy-filter doc_cmp (λ k. is_some (held_to k)) (ranked_all table type_def.target) (ranked_ascends table type_def.target kept.entities))

  module _ (held : Held) where
    held_from : Contains all_held held → held_at table number key held.edge.target ≡ Some held
    held_from there = by (given_by held_to (ranked_all table type_def.target) held there)
      where
        at : (k : DocKey) (o : Option Audience) → audience_at table (edge_to number key k.id) ≡ o → option_map (λ audience. record { edge = edge_to number key k.id; audience = audience }) o ≡ Some held
            → held_at table number key held.edge.target ≡ Some held
        at k None e is = cc
        at k (Some audience) e is =
            let same : record { edge = edge_to number key k.id; audience = audience } ≡ held = cc in
            let target : k.id ≡ held.edge.target = ap (λ (h : Held). h.edge.target) same in
            ap (held_at table number key) (sym target) ∙ ap (option_map (λ a. record { edge = edge_to number key k.id; audience = a })) e ∙ is

        by : GivenBy held_to (ranked_all table type_def.target) held → held_at table number key held.edge.target ≡ Some held
        by given = at given.0 (audience_at table (edge_to number key given.0.id)) refl given.2

    is_held : held_at table number key held.edge.target ≡ Some held → Contains all_held held
    is_held is = by (entity_at table held.edge.target) refl (edge_leads schema table number key type_def declared kept.targets held.edge.target there)
      where
        there : has_edge table (edge_to number key held.edge.target) ≡ true
        there = sym (held_is_there table number key held.edge.target) ∙ ap is_some is

        by : (o : Option EntityRow) → entity_at table held.edge.target ≡ o → option_map_or (λ (row : EntityRow). row.vertical == type_def.target) o false ≡ true → Contains all_held held
        by None e h = cc
        by (Some row) e h =
            let k : DocKey = record { rank = row.rank; id = held.edge.target } in
            let same : row.vertical ≡ type_def.target = eqb-true row.vertical type_def.target h in
            let row_is : entity_at table held.edge.target ≡ Some (record { vertical = type_def.target; rank = row.rank }) = e ∙ (λ i. Some (record { vertical = same i; rank = row.rank })) in
            is_given held_to (ranked_all table type_def.target) k held (is_ranked schema table type_def.target k kept row_is) is

-- what is reached are the edges to the entities of the type's target vertical
reached_held : (schema : Declarations) (table : Contents) (number : ℕ) (key : Key) (type_def : TypeDef) → type_at schema number ≡ Some type_def
    → reached_of schema table number key ≡ filter_map (λ k. held_at table number key k.id) (ranked_all table type_def.target)
reached_held schema table number key type_def declared =
    ap (λ o. option_map_or (λ (t : TypeDef). filter_map (λ (k : DocKey). held_at table number key k.id) (ranked_all table t.target)) o []) declared

reached_ascends : (schema : Declarations) (limits : Limits) (table : Contents) (number : ℕ) (key : Key) → number < length schema.types → IsKept schema limits table
    → IsStrictlySortedBy doc_cmp (filter_map (λ held. doc_at table held.edge.target) (reached_of schema table number key))
reached_ascends schema limits table number key within kept =
    let known = declared_type schema number within in
    subst (λ (hs : List Held). IsStrictlySortedBy doc_cmp (filter_map (λ (held : Held). doc_at table held.edge.target) hs)) (sym (reached_held schema table number key known.0 known.1))
    (held_ascends schema table number key known.0 known.1 kept)

reached_lists : (schema : Declarations) (limits : Limits) (table : Contents) (number : ℕ) (key : Key) (held : Held) → number < length schema.types → IsKept schema limits table
    → Contains (reached_of schema table number key) held ↔ (held_at table number key held.edge.target ≡ Some held)
reached_lists schema limits table number key held within kept =
    let known = declared_type schema number within in
    let P : List Held → Type 0 = λ hs. Contains hs held ↔ (held_at table number key held.edge.target ≡ Some held) in
    subst P (sym (reached_held schema table number key known.0 known.1))
    (held_from schema table number key known.0 known.1 kept held, is_held schema table number key known.0 known.1 kept held)

pub reached_is_exact : ReachedIsExact
reached_is_exact = record { ascends = reached_ascends; lists = reached_lists }
