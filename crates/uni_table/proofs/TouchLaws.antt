-- The edges that touch an id are listed, and no others.
use Rattle.std.proofs.Common.{◌≡◌, ℕ, Bool, true, false, List, Option, None, Some, refl, sym, ap, subst, map, filter, if◌then◌else◌}
use Rattle.std.proofs.lemmas.Map.Keys.{IsDistinct-from_sorted}
use Rattle.std.proofs.lemmas.Map.Views.{Contains-from_lookup, lookup-from_Contains}
use Rattle.std.specs.Cmp.{eq_by_cmp_equiv}
use Rattle.std.specs.List.{Contains}
use Rattle.std.specs.List.Sorted.{IsStrictlySortedBy}
use Rattle.std.specs.Map.{keys_of}
use Rattle.std.specs.Option.{option_map}
use Rattle.std.specs.Ordering.{eq_by_cmp}
use Rattle.uni_base.specs.declared.edge.EdgeRef.{EdgeRef}
use Rattle.uni_base.specs.declared.edge.Held.{Held}
use Rattle.uni_base.specs.declared.limits.Limits.{Limits}
use Rattle.uni_base.specs.EdgeOrder.{edge_cmp}
use Rattle.uni_schema.specs.Schema.{Declarations}
use Rattle.uni_table.specs.declared.command.EdgeRow.{EdgeRow}
use Rattle.uni_table.specs.Contents.{Contents, edge_at, audience_at, touches}
use Rattle.uni_table.specs.Laws.{TouchingIsExact}
use Rattle.uni_table.specs.Lists.{held_of, touching}
use Rattle.uni_table.specs.TableState.{IsKept}
use Rattle.uni_table.proofs.Compared.{equal_from}
use Rattle.uni_table.proofs.Entries.{sorted-filter}
use Rattle.uni_table.proofs.Filters.{map-filter}
use Rattle.uni_table.proofs.InOrder.{keys_are}
use Rattle.uni_table.specs.GraphKeys.{exact_edges}
use Rattle.uni_table.proofs.Kept.{edge_total}
use Rattle.uni_table.proofs.Listed.{GivenBy, given_by, is_given}

module _ (schema : Declarations) (limits : Limits) (table : Contents) (id : ℕ) (kept : IsKept schema limits table) where
  -- an edge that touches the id, as it is listed
  abbrev listed : EdgeRef × EdgeRow → Option Held
  listed e = if touches id e.0 then Some (held_of e) else None

  ascends : IsStrictlySortedBy edge_cmp (map (λ (h : Held). h.edge) (touching table id))
  ascends =
      let es : List (EdgeRef × EdgeRow) = filter (λ (e : EdgeRef × EdgeRow). touches id e.0) table.edges in
      let sorted : IsStrictlySortedBy edge_cmp (keys_of es) = sorted-filter edge_cmp (λ (e : EdgeRef × EdgeRow). touches id e.0) table.edges kept.edges in
      subst (IsStrictlySortedBy edge_cmp) (sym (keys_are es sorted es)) sorted

  module _ (held : Held) where
    there : Contains (touching table id) held → (touches id held.edge ≡ true) × (audience_at table held.edge ≡ Some held.audience)
    there contains =
        by (given_by listed table.edges held (subst (λ (hs : List Held). Contains hs held) (map-filter held_of (λ (e : EdgeRef × EdgeRow). touches id e.0) table.edges) contains))
      where
        at : (e : EdgeRef × EdgeRow) → Contains table.edges e → (b : Bool) → touches id e.0 ≡ b → (if b then Some (held_of e) else None) ≡ Some held → (touches id held.edge ≡ true) × (audience_at table held.edge ≡ Some held.audience)
        at e among true t is =
            let same : held_of e ≡ held = cc in
            let found : edge_at table e.0 ≡ Some e.1 = lookup-from_Contains {eq = eq_by_cmp edge_cmp} (eq_by_cmp_equiv edge_total) e.0 e.1 table.edges (IsDistinct-from_sorted edge_cmp (keys_of table.edges) kept.edges) among in
            (subst (λ (h : Held). touches id h.edge ≡ true) same t, subst (λ (h : Held). audience_at table h.edge ≡ Some h.audience) same (ap (option_map (λ (row : EdgeRow). row.audience)) found))
        at e among false t is = cc

        by : GivenBy listed table.edges held → (touches id held.edge ≡ true) × (audience_at table held.edge ≡ Some held.audience)
        by given = at given.0 given.1 (touches id given.0.0) refl given.2

    is_listed : (touches id held.edge ≡ true) × (audience_at table held.edge ≡ Some held.audience) → Contains (touching table id) held
    is_listed facts = by (edge_at table held.edge) refl facts.1
      where
        by : (o : Option EdgeRow) → edge_at table held.edge ≡ o → option_map (λ (row : EdgeRow). row.audience) o ≡ Some held.audience → Contains (touching table id) held
        by None e is = cc
        by (Some row) e is =
            let audience : row.audience ≡ held.audience = cc in
            subst (λ (hs : List Held). Contains hs held) (sym (map-filter held_of (λ (e : EdgeRef × EdgeRow). touches id e.0) table.edges))
            (is_given listed table.edges (held.edge, row) held
            (Contains-from_lookup {eq = eq_by_cmp edge_cmp} (λ x y same. exact_edges x y (equal_from (edge_cmp x y) same)) held.edge row table.edges e)
            (rw facts.0 (λ i. Some (record { edge = held.edge; audience = audience i }))))

pub touching_is_exact : TouchingIsExact
touching_is_exact = record {
  ascends = ascends;
  lists = λ schema limits table id held kept. (there schema limits table id kept held, is_listed schema limits table id kept held);
}
