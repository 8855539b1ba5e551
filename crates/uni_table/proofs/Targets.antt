-- The ends of edges stay entities of their verticals.
use Rattle.std.proofs.lemmas.Bool.{and_parts}
use Rattle.std.proofs.Common.{◌≡◌, ℕ, ◌==◌, Bool, true, false, List, [], ◌∷◌, Option, None, Some, cond, refl, sym, ◌∙◌, is_some, if◌then◌else◌, nat_lt, length, eq-eqb, subst, not}
use Rattle.std.proofs.lemmas.Bool.{eqb-true}
use Rattle.std.specs.declared.cmp.Ordering.{Ordering}
use Rattle.std.specs.declared.cmp.Ordering.TheVariants.{Less, Equal, Greater}
use Rattle.std.specs.Ordering.{nat_cmp, match_ordering}
use Rattle.std.specs.List.{list_all}
use Rattle.std.specs.Option.{option_map_or}
use Rattle.std.specs.BTreeMap.{insert_entry, is_at}
use Rattle.uni_base.specs.declared.edge.EdgeRef.{EdgeRef}
use Rattle.uni_base.specs.declared.edge.Key.{Key}
use Rattle.uni_base.specs.declared.edge.Key.TheVariants.{Id, Word}
use Rattle.uni_schema.specs.Schema.{Declarations, type_at}
use Rattle.uni_schema.specs.declared.schema.Origin.{Origin}
use Rattle.uni_schema.specs.declared.schema.Origin.TheVariants.{Vertical, Words}
use Rattle.uni_schema.specs.declared.schema.TypeDef.{TypeDef}
use Rattle.uni_table.specs.declared.command.EntityRow.{EntityRow}
use Rattle.uni_base.specs.declared.entity.Rank.{Rank}
use Rattle.uni_base.specs.declared.limits.Limits.{Limits}
use Rattle.uni_table.specs.declared.refusal.FeedRefusal.TheVariants.{NoSource, NoTarget, Elsewhere, TableFull}
use Rattle.uni_table.specs.Commands.{refuses_entity, refuses_ends}
use Rattle.uni_table.proofs.Compared.{same_number}
use Rattle.uni_table.specs.Contents.{Contents, entity_at, is_in, source_stands, key_stands, target_stands}

-- a test of keys holds of the entries with one more
pub list_all-insert_entry : {K X : Type 0} (cmp : K → K → Ordering) (test : K → Bool) (k : K) (v : X) (es : List (K × X))
    → test k ≡ true → list_all (λ e. test e.0) es ≡ true → list_all (λ e. test e.0) (insert_entry cmp es k v) ≡ true
list_all-insert_entry cmp test k v [] here all = rw here refl
list_all-insert_entry {K} {X} cmp test k v (e ∷ es) here all =
    let parts = and_parts (test e.0) (list_all (λ (x : K × X). test x.0) es) all in
    elim (cmp k e.0) as (λ o. list_all (λ x. test x.0) (match_ordering o ((k, v) ∷ e ∷ es) ((e.0, v) ∷ es) (e ∷ insert_entry cmp es k v)) ≡ true) [
      | Less ↦ rw (here, parts.0) parts.1
      | Equal ↦ rw parts.0 parts.1
      | Greater ↦ rw parts.0 (list_all-insert_entry cmp test k v es here parts.1)
    ]

-- what each key passes under one test, it passes under a wider one
pub list_all-wider : {K : Type 0} (narrow wide : K → Bool) → ((k : K) → narrow k ≡ true → wide k ≡ true) → (ks : List K)
    → list_all narrow ks ≡ true → list_all wide ks ≡ true
list_all-wider narrow wide wider [] all = refl
list_all-wider narrow wide wider (k ∷ ks) all =
    let parts = and_parts (narrow k) (list_all narrow ks) all in
    rw (wider k parts.0) (list_all-wider narrow wide wider ks parts.1)

-- a target stands as long as its entity does
pub target_stands-kept : (schema : Declarations) (old new : Contents) → ((vertical id : ℕ) → is_in old vertical id ≡ true → is_in new vertical id ≡ true)
    → (edge : EdgeRef) → target_stands schema old edge ≡ true → target_stands schema new edge ≡ true
target_stands-kept schema old new kept edge stands = by (type_at schema edge.type_no) stands
  where
    by : (o : Option TypeDef) → option_map_or (λ type_def. is_in old type_def.target edge.target) o false ≡ true
        → option_map_or (λ type_def. is_in new type_def.target edge.target) o false ≡ true
    by None h = h
    by (Some type_def) h = kept type_def.target edge.target h

-- so does what edges may start at
source_stands-kept : (old new : Contents) → ((vertical id : ℕ) → is_in old vertical id ≡ true → is_in new vertical id ≡ true)
    → (origin : Origin) (key : Key) → source_stands old origin key ≡ true → source_stands new origin key ≡ true
source_stands-kept old new kept Words key stands = refl
source_stands-kept old new kept (Vertical vertical) (Id id) stands = kept vertical id stands
source_stands-kept old new kept (Vertical vertical) (Word text) stands = cc

pub key_stands-kept : (schema : Declarations) (old new : Contents) → ((vertical id : ℕ) → is_in old vertical id ≡ true → is_in new vertical id ≡ true)
    → (edge : EdgeRef) → key_stands schema old edge ≡ true → key_stands schema new edge ≡ true
key_stands-kept schema old new kept edge stands = by (type_at schema edge.type_no) stands
  where
    by : (o : Option TypeDef) → option_map_or (λ type_def. source_stands old type_def.origin edge.key) o false ≡ true
        → option_map_or (λ type_def. source_stands new type_def.origin edge.key) o false ≡ true
    by None h = h
    by (Some type_def) h = source_stands-kept old new kept type_def.origin edge.key h

-- the vertical of a row that is there
same_row : (vertical other at : ℕ) (b : Bool) → (at == vertical) ≡ b → (if b then None else Some Elsewhere) ≡ None → (at == other) ≡ true → (vertical == other) ≡ true
same_row vertical other at true e taken s = eq-eqb vertical other (sym (eqb-true at vertical e) ∙ eqb-true at other s)
same_row vertical other at false e taken s = cc

-- an entity that is not refused stays in its vertical
pub refuses_entity-same : (limits : Limits) (table : Contents) (vertical id other : ℕ) → refuses_entity limits table vertical id ≡ None
    → is_in table other id ≡ true → (vertical == other) ≡ true
refuses_entity-same limits table vertical id other taken stands = by (entity_at table id) taken stands
  where
    by : (o : Option EntityRow)
        → (if is_some o then (if option_map_or (λ (row : EntityRow). row.vertical == vertical) o false then None else Some Elsewhere)
        else (if nat_lt (length table.entities) limits.entities then None else Some TableFull)) ≡ None
        → option_map_or (λ (row : EntityRow). row.vertical == other) o false ≡ true → (vertical == other) ≡ true
    by None t s = cc
    by (Some row) t s = same_row vertical other row.vertical (row.vertical == vertical) refl t s

-- with the entity in its place, all entities stand that did
pub is_in-insert : (old new : Contents) (vertical id : ℕ) (rank : Rank)
    → ((q : ℕ) → entity_at new q ≡ cond (is_at (nat_cmp id) q) (Some (record { vertical = vertical; rank = rank })) (entity_at old q))
    → ((other : ℕ) → is_in old other id ≡ true → (vertical == other) ≡ true)
    → (other q : ℕ) → is_in old other q ≡ true → is_in new other q ≡ true
is_in-insert old new vertical id rank updated same other q stands = by (is_at (nat_cmp id) q) refl
  where
    row : EntityRow
    row = record { vertical = vertical; rank = rank }

    by : (b : Bool) → is_at (nat_cmp id) q ≡ b → is_in new other q ≡ true
    by true e = rw (updated q, e) (same other (subst (λ x. is_in old other x ≡ true) (sym (same_number id q e)) stands))
    by false e = rw (updated q, e) stands

-- both ends of an edge that is not refused for them stand
pub refuses_ends-none : (table : Contents) (type_def : TypeDef) (edge : EdgeRef) → refuses_ends table type_def edge ≡ None
    → (source_stands table type_def.origin edge.key ≡ true) × (is_in table type_def.target edge.target ≡ true)
refuses_ends-none table type_def edge taken = by (source_stands table type_def.origin edge.key) (is_in table type_def.target edge.target) taken
  where
    by : (source target : Bool) → (if not source then Some NoSource else (if not target then Some NoTarget else None)) ≡ None → (source ≡ true) × (target ≡ true)
    by false target e = cc
    by true true e = (refl, refl)
    by true false e = cc
