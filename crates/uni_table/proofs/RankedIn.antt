-- The entities of a vertical in rank order.
use Rattle.std.proofs.Common.{◌≡◌, ℕ, ◌==◌, ◌&&◌, Bool, true, false, Option, None, Some, refl, sym, ◌∙◌, ap, subst, is_some, if◌then◌else◌, List, map, filter}
use Rattle.std.specs.Cmp.{eq_by_cmp_equiv, nat_cmp_total}
use Rattle.std.specs.Ordering.{nat_cmp, is_eq, eq_by_cmp}
use Rattle.std.specs.Option.{option_map_or}
use Rattle.std.specs.List.{list_any, IsDistinct}
use Rattle.std.specs.List.Sorted.{IsStrictlySortedBy}
use Rattle.std.specs.Map.{keys_of}
use Rattle.std.specs.BTreeMap.{is_at}
use Rattle.std.proofs.lemmas.Map.Entries.{lookup-filter-values, option_filter}
use Rattle.std.proofs.lemmas.Map.Keys.{IsDistinct-from_sorted}
use Rattle.std.proofs.lemmas.Map.Made.{is_some-lookup}
use Rattle.uni_base.specs.declared.entity.DocKey.{DocKey}
use Rattle.uni_base.specs.RankOrder.{doc_cmp}
use Rattle.uni_table.specs.declared.command.EntityRow.{EntityRow}
use Rattle.uni_table.specs.Contents.{Contents, entity_at}
use Rattle.uni_table.specs.Ranked.{ranked_all, doc_of}
use Rattle.uni_table.proofs.Compared.{is_eq-then}
use Rattle.uni_table.proofs.DocKeys.{ids_differ}
use Rattle.uni_table.proofs.Filters.{list_any-map, list_any-filter, list_any-agree, map-filter}
use Rattle.uni_table.proofs.Placed.{list_any-in_rank_order, sorted-in_rank_order}
use Rattle.uni_table.proofs.Apart.{distinct-filter_map}

-- whether a row is of a vertical and a rank
abbrev pub fits : ℕ → ℕ → EntityRow → Bool
fits vertical rank row = (row.vertical == vertical) && is_eq (nat_cmp row.rank.0 rank)

-- an entity is ranked exactly if it is of the vertical, at its rank
pub among_ranked : (table : Contents) (vertical : ℕ) → IsStrictlySortedBy nat_cmp (keys_of table.entities) → (q : DocKey)
    → list_any (is_at (doc_cmp q)) (ranked_all table vertical) ≡ option_map_or (fits vertical q.rank.0) (entity_at table q.id) false
among_ranked table vertical sorted q =
    list_any-in_rank_order (is_at (doc_cmp q)) (map doc_of (filter of_vertical table.entities))
    ∙ list_any-map (is_at (doc_cmp q)) doc_of (filter of_vertical table.entities)
    ∙ list_any-filter (λ e. is_at (doc_cmp q) (doc_of e)) of_vertical table.entities
    ∙ list_any-agree _ (λ (e : ℕ × EntityRow). fits vertical q.rank.0 e.1 && is_at (nat_cmp q.id) e.0) agree table.entities
    ∙ sym (list_any-filter (λ (e : ℕ × EntityRow). is_at (nat_cmp q.id) e.0) (λ (e : ℕ × EntityRow). fits vertical q.rank.0 e.1) table.entities)
    ∙ sym (list_any-map (is_at (nat_cmp q.id)) (λ (e : ℕ × EntityRow). e.0) (filter (λ (e : ℕ × EntityRow). fits vertical q.rank.0 e.1) table.entities))
    ∙ sym (is_some-lookup (is_at (nat_cmp q.id)) (filter (λ (e : ℕ × EntityRow). fits vertical q.rank.0 e.1) table.entities))
    ∙ ap is_some (lookup-filter-values {eq = eq_by_cmp nat_cmp} (eq_by_cmp_equiv nat_cmp_total) (fits vertical q.rank.0) q.id table.entities (IsDistinct-from_sorted nat_cmp (keys_of table.entities) sorted))
    ∙ some_fits (entity_at table q.id)
  where
    of_vertical : ℕ × EntityRow → Bool
    of_vertical e = e.1.vertical == vertical

    agree : (e : ℕ × EntityRow) → (of_vertical e && is_at (doc_cmp q) (doc_of e)) ≡ (fits vertical q.rank.0 e.1 && is_at (nat_cmp q.id) e.0)
    agree e = ap (λ b. of_vertical e && b) (is_eq-then (nat_cmp e.1.rank.0 q.rank.0) (nat_cmp q.id e.0)) ∙ and_assoc (of_vertical e) (is_eq (nat_cmp e.1.rank.0 q.rank.0)) (is_eq (nat_cmp q.id e.0))
      where
        and_assoc : (a b c : Bool) → (a && (b && c)) ≡ ((a && b) && c)
        and_assoc true b c = refl
        and_assoc false b c = refl

    some_fits : (o : Option EntityRow) → is_some (option_filter (fits vertical q.rank.0) o) ≡ option_map_or (fits vertical q.rank.0) o false
    some_fits None = refl
    some_fits (Some row) = by (fits vertical q.rank.0 row)
      where
        by : (b : Bool) → is_some (if b then Some row else None) ≡ b
        by true = refl
        by false = refl

-- entities that pass a test differ as keys in rank order
pub docs_apart : (p : ℕ × EntityRow → Bool) (es : List (ℕ × EntityRow)) → IsStrictlySortedBy nat_cmp (keys_of es) → IsDistinct (eq_by_cmp doc_cmp) (map doc_of (filter p es))
docs_apart p es sorted =
    subst (IsDistinct (eq_by_cmp doc_cmp)) (sym (map-filter doc_of p es))
    (distinct-filter_map (λ (e : ℕ × EntityRow). if p e then Some (doc_of e) else None) (λ (e : ℕ × EntityRow). e.0) (eq_by_cmp nat_cmp) (eq_by_cmp doc_cmp) differ es
    (IsDistinct-from_sorted nat_cmp (keys_of es) sorted))
  where
    named : (e : ℕ × EntityRow) (t : Bool) (b : DocKey) → (if t then Some (doc_of e) else None) ≡ Some b → b.id ≡ e.0
    named e false b is = cc
    named e true b is = let same : doc_of e ≡ b = cc in ap (λ (d : DocKey). d.id) (sym same)

    differ : (x y : ℕ × EntityRow) (b c : DocKey) → (if p x then Some (doc_of x) else None) ≡ Some b → (if p y then Some (doc_of y) else None) ≡ Some c
        → eq_by_cmp nat_cmp x.0 y.0 ≡ false → eq_by_cmp doc_cmp b c ≡ false
    differ x y b c f g apart = ids_differ b c (rw (named x (p x) b f, named y (p y) c g) apart)

-- the entities of a vertical ascend in rank order
pub ranked_ascends : (table : Contents) (vertical : ℕ) → IsStrictlySortedBy nat_cmp (keys_of table.entities) → IsStrictlySortedBy doc_cmp (ranked_all table vertical)
ranked_ascends table vertical sorted =
    sorted-in_rank_order (map doc_of (filter (λ e. e.1.vertical == vertical) table.entities)) (docs_apart (λ (e : ℕ × EntityRow). e.1.vertical == vertical) table.entities sorted)
