-- The edges that a version has are those of the table that it stands for.
use Rattle.std.proofs.Common.{◌≡◌, ◌==◌, ◌<◌, ◌≤◌, ◌%◌, ◌⊎◌, inl, inr, ℕ, Bool, true, false, List, [], ◌∷◌, length, Option, None, Some, refl, sym, ◌∙◌, ap, arith, subst, is_some}
use Rattle.std.specs.List.{Contains, list_all, list_any}
use Rattle.std.specs.List.Sorted.{IsStrictlySortedBy}
use Rattle.std.specs.Option.{option_map_or}
use Rattle.std.specs.Ordering.{nat_cmp, eq_by_cmp}
use Rattle.std.proofs.lemmas.Bool.{and_parts}
use Rattle.std.proofs.lemmas.Bool.Decides.{nat_tests}
use Rattle.std.proofs.lemmas.Map.Views.{Contains-from_lookup}
use Rattle.std.proofs.lemmas.Nat.{mod_below}
use Rattle.std.proofs.lemmas.Option.{slice_get_past}
use Rattle.uni_base.specs.declared.edge.EdgeRef.{EdgeRef}
use Rattle.uni_base.specs.declared.edge.Key.{Key}
use Rattle.uni_base.specs.declared.edge.Key.TheVariants.{Id, Word}
use Rattle.uni_base.specs.declared.limits.Limits.{Limits}
use Rattle.uni_base.specs.EdgeOrder.{edge_cmp}
use Rattle.uni_schema.specs.declared.schema.Origin.TheVariants.{Vertical}
use Rattle.uni_schema.specs.declared.schema.TypeDef.{TypeDef}
use Rattle.uni_schema.specs.declared.schema.VerticalDef.{VerticalDef}
use Rattle.uni_schema.specs.Schema.{Declarations, IsSchema, is_vertical, type_at, shard_of}
use Rattle.uni_schema.proofs.Kept.{passes_at}
use Rattle.uni_table.specs.declared.command.EdgeRow.{EdgeRow}
use Rattle.uni_table.specs.Contents.{Contents, edge_at, has_edge, key_stands, source_stands}
use Rattle.uni_table.specs.GraphKeys.{exact_edges}
use Rattle.uni_table.specs.Shards.{is_forward_type}
use Rattle.uni_table.specs.TableState.{IsKept}
use Rattle.uni_table.proofs.Listed.{none_in_nil, first_or_later}
use Rattle.forward_data.specs.Records.{record_key}
use Rattle.shard_index.specs.Laws.{edge_to, leads_to}
use Rattle.shard_index.specs.Places.{IsStack}
use Rattle.shard_index.specs.Rows.{ShardChanges, stack_rows, record_at, has_edge as rows_have}
use Rattle.shard_index.specs.Versions.{VersionState, StandsAt}
use Rattle.shard_index.proofs.Exact.{rows_are_exact}
use Rattle.shard_index.proofs.LoggedMaps.{equal_of}
use Rattle.shard_index.proofs.StackPlaces.{found_below}
use Rattle.viewer_policy.specs.Judged.{StandsFor, targets}
use Rattle.viewer_policy.proofs.Records.{items_of, items_in_order, item_is_edge}

-- ---- the stacks that are asked

some_shards : (v : VerticalDef) → is_vertical v ≡ true → (0 < v.shards) × (0 < v.replicas)
some_shards v kept = grind (arith, nat_tests)

-- an entity of a vertical has a shard, and each shard has a first replica
pub first_replica : (schema : Declarations) → IsSchema schema → (vertical id : ℕ) → vertical < length schema.verticals → IsStack schema vertical (shard_of schema vertical id) 0
first_replica schema kept vertical id within =
    let found = found_below schema.verticals vertical within in
    let counts = some_shards found.0 (passes_at is_vertical schema.verticals vertical found.0 kept.verticals found.1) in
    record {
      vertical = within;
      shard = subst (λ (o : Option VerticalDef). option_map_or (λ v. id % v.shards) o 0 < option_map_or (λ v. v.shards) o 0) (sym found.1) (mod_below id found.0.shards counts.0);
      replica = subst (λ (o : Option VerticalDef). 0 < option_map_or (λ v. v.replicas) o 0) (sym found.1) counts.1;
    }

-- ---- what they answer

module _ (version : VersionState) (limits : Limits) (table : Contents) (stands : StandsFor version limits table) (layers : List ShardChanges) where
  pub indexed : (vertical number : ℕ) (key : Key) (target : ℕ) → leads_to version.schema vertical number ≡ true → StandsAt version layers vertical (shard_of version.schema vertical target)
      → rows_have (stack_rows layers) (edge_to number key target) ≡ has_edge table (edge_to number key target)
  indexed vertical number key target leads at =
      ap (λ rows. rows_have rows (edge_to number key target)) (at table stands.stands)
      ∙ rows_are_exact.edges version.schema limits table vertical (shard_of version.schema vertical target) number key target stands.kept leads refl

  module _ (vertical number id : ℕ) (forward : is_forward_type version.schema vertical number ≡ true) (at : StandsAt version layers vertical (shard_of version.schema vertical id)) where
    record_is : record_at (stack_rows layers) (record_key number id) ≡ items_of number (Id id) table.edges
    record_is = ap (λ rows. record_at rows (record_key number id)) (at table stands.stands) ∙ rows_are_exact.records version.schema table vertical (shard_of version.schema vertical id) number id forward refl

    pub recorded_in_order : IsStrictlySortedBy nat_cmp (targets (record_at (stack_rows layers) (record_key number id)))
    recorded_in_order = subst (λ items. IsStrictlySortedBy nat_cmp (targets items)) (sym record_is) (items_in_order number (Id id) table.edges stands.kept.edges)

    pub recorded : (target : ℕ) → list_any (λ item. item.target == target) (record_at (stack_rows layers) (record_key number id)) ≡ has_edge table (edge_to number (Id id) target)
    recorded target = ap (list_any (λ item. item.target == target)) record_is ∙ item_is_edge number (Id id) target table

-- ---- edges that no table has

one_of_all : {X : Type 0} (p : X → Bool) (xs : List X) (x : X) → Contains xs x → list_all p xs ≡ true → p x ≡ true
one_of_all p [] x there all = absurd (none_in_nil x there)
one_of_all p (y ∷ xs) x there all = by (first_or_later y xs x there) (and_parts (p y) (list_all p xs) all) (λ later rest. one_of_all p xs x later rest)
  where
    by : (y ≡ x) ⊎ Contains xs x → (p y ≡ true) × (list_all p xs ≡ true) → (Contains xs x → list_all p xs ≡ true → p x ≡ true) → p x ≡ true
    by (inl same) parts more = ap p (sym same) ∙ parts.0
    by (inr later) parts more = more later parts.1

-- a table has no edge that may not start at its key
pub none_stands : (schema : Declarations) (limits : Limits) (table : Contents) → IsKept schema limits table → (edge : EdgeRef) → key_stands schema table edge ≡ false → has_edge table edge ≡ false
none_stands schema limits table kept edge out = by (edge_at table edge) refl
  where
    by : (o : Option EdgeRow) → edge_at table edge ≡ o → is_some o ≡ false
    by None at = refl
    by (Some row) at =
        let among = Contains-from_lookup {eq = eq_by_cmp edge_cmp} (λ x y t. exact_edges x y (equal_of (edge_cmp x y) t)) edge row table.edges at in
        let stands : key_stands schema table edge ≡ true = one_of_all (λ (e : EdgeRef × EdgeRow). key_stands schema table e.0) table.edges (edge, row) among kept.keys in
        let both : true ≡ false = sym stands ∙ out in absurd cc

module _ (version : VersionState) (limits : Limits) (table : Contents) (stands : StandsFor version limits table) (number target : ℕ) where
  pub none_undeclared : (key : Key) → length version.schema.types ≤ number → false ≡ has_edge table (edge_to number key target)
  none_undeclared key out =
      sym (none_stands version.schema limits table stands.kept (edge_to number key target) (ap (λ o. option_map_or (λ (d : TypeDef). source_stands table d.origin key) o false) (slice_get_past version.schema.types number out)))

  pub none_from_word : (type_def : TypeDef) (vertical : ℕ) (text : List ℕ) → type_at version.schema number ≡ Some type_def → type_def.origin ≡ Vertical vertical → false ≡ has_edge table (edge_to number (Word text) target)
  none_from_word type_def vertical text at origin =
      sym (none_stands version.schema limits table stands.kept (edge_to number (Word text) target)
      (ap (λ o. option_map_or (λ (d : TypeDef). source_stands table d.origin (Word text)) o false) at ∙ ap (λ o. source_stands table o (Word text)) origin))
