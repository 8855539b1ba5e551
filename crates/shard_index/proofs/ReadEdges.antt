-- The edges into a shard that its rows have are those of the table.
use Rattle.std.proofs.Common.{◌≡◌, ◌==◌, ◌&&◌, ◌⊎◌, inl, inr, ℕ, Bool, true, false, if◌then◌else◌, List, [], ◌∷◌, Option, None, Some, refl, sym, ◌∙◌, ap, subst, is_some}
use Rattle.std.proofs.lemmas.Map.Views.{Contains-from_lookup}
use Rattle.std.specs.Cmp.{tied_itself}
use Rattle.std.specs.FinMap as finite
use Rattle.std.specs.List.{Contains, list_all}
use Rattle.std.specs.Option.{option_map, option_map_or, option_and_then}
use Rattle.std.specs.Ordering.{eq_by_cmp, is_eq}
use Rattle.uni_base.specs.declared.edge.Audience.{Audience}
use Rattle.uni_base.specs.declared.edge.EdgeRef.{EdgeRef}
use Rattle.uni_base.specs.declared.edge.Key.{Key}
use Rattle.uni_base.specs.declared.entity.DocKey.{DocKey}
use Rattle.uni_base.specs.declared.limits.Limits.{Limits}
use Rattle.uni_base.specs.EdgeOrder.{edge_cmp}
use Rattle.uni_base.proofs.RankedLemmas.{doc_total}
use Rattle.uni_schema.specs.declared.schema.TypeDef.{TypeDef}
use Rattle.uni_schema.specs.Schema.{Declarations, shard_of}
use Rattle.uni_table.specs.declared.command.EdgeRow.{EdgeRow}
use Rattle.uni_table.specs.declared.command.EntityRow.{EntityRow}
use Rattle.uni_table.specs.Contents.{Contents, entity_at, edge_at, audience_at, is_in, target_stands, has_edge as table_has_edge}
use Rattle.uni_table.specs.GraphKeys.{exact_edges}
use Rattle.uni_table.specs.Ranked.{is_of_shard, doc_at}
use Rattle.uni_table.specs.TableState.{IsKept}
use Rattle.uni_table.proofs.Listed.{none_in_nil, first_or_later}
use Rattle.layer_stack.specs.Places.{term_of}
use Rattle.layer_stack.specs.Postings.{place_of}
use Rattle.shard_index.specs.Laws.{edge_to, leads_to}
use Rattle.shard_index.specs.Rows.{has_edge}
use Rattle.shard_index.specs.Shards.{shard_rows}
use Rattle.shard_index.proofs.LoggedMaps.{equal_of}
use Rattle.shard_index.proofs.ReadPostings.{leading, posted, postings_read}
use Rattle.shard_index.proofs.ReadRanks.{ranks_read, same_number}
use Rattle.shard_index.proofs.Squeezed.{number_itself}

-- what holds of all items holds of one
one_of_all : {X : Type 0} (p : X → Bool) (xs : List X) (x : X) → Contains xs x → list_all p xs ≡ true → p x ≡ true
one_of_all p [] x there all = absurd (none_in_nil x there)
one_of_all p (y ∷ xs) x there all = by (first_or_later y xs x there) (both (p y) (list_all p xs) all) (λ later rest. one_of_all p xs x later rest)
  where
    both : (a b : Bool) → (a && b) ≡ true → (a ≡ true) × (b ≡ true)
    both true b t = (refl, t)
    both false b t = cc

    by : (y ≡ x) ⊎ Contains xs x → (p y ≡ true) × (list_all p xs ≡ true) → (Contains xs x → list_all p xs ≡ true → p x ≡ true) → p x ≡ true
    by (inl same) parts more = ap p (sym same) ∙ parts.0
    by (inr later) parts more = more later parts.1

module _ (schema : Declarations) (limits : Limits) (table : Contents) (vertical shard number : ℕ) (key : Key) (target : ℕ) (kept : IsKept schema limits table) (leads : leads_to schema vertical number ≡ true) where
  -- where the table has the edge, its target is an entity of the vertical
  target_there : (row : EdgeRow) → edge_at table (edge_to number key target) ≡ Some row → is_in table vertical target ≡ true
  target_there row found =
      let among = Contains-from_lookup {eq = eq_by_cmp edge_cmp} (λ x y t. exact_edges x y (equal_of (edge_cmp x y) t)) (edge_to number key target) row table.edges found in
      let stands : target_stands schema table (edge_to number key target) ≡ true = one_of_all (λ (e : EdgeRef × EdgeRow). target_stands schema table e.0) table.edges (edge_to number key target, row) among kept.targets in
      let known = leading schema limits table vertical shard kept number key leads in
      let of_target : is_in table known.type_def.target target ≡ true = sym (ap (λ o. option_map_or (λ (d : TypeDef). is_in table d.target target) o false) known.at) ∙ stands in
      subst (λ (v : ℕ). is_in table v target ≡ true) (same_number known.type_def.target vertical known.leading) of_target

  -- and its row has that vertical
  pub target_vertical : (row : EntityRow) → entity_at table target ≡ Some row → (audience : Audience) → audience_at table (edge_to number key target) ≡ Some audience → row.vertical ≡ vertical
  target_vertical row at audience found = by (edge_at table (edge_to number key target)) refl found
    where
      by : (o : Option EdgeRow) → edge_at table (edge_to number key target) ≡ o → option_map (λ (r : EdgeRow). r.audience) o ≡ Some audience → row.vertical ≡ vertical
      by None e f = cc
      by (Some held) e f = same_number row.vertical vertical (sym (ap (λ o. option_map_or (λ (r : EntityRow). r.vertical == vertical) o false) at) ∙ target_there held e)

  same_test : (o : Option EdgeRow) → is_some (option_map (λ (row : EdgeRow). row.audience) o) ≡ is_some o
  same_test None = refl
  same_test (Some row) = refl

  module _ (of_shard : shard_of schema vertical target ≡ shard) where
    shard_is : (shard_of schema vertical target == shard) ≡ true
    shard_is = ap (λ s. s == shard) of_shard ∙ number_itself shard

    -- where the target is an entity of the vertical, by its posting
    at_entity : (row : EntityRow) → entity_at table target ≡ Some row
        → is_some (finite.get (shard_rows schema table vertical shard).postings (place_of (term_of number key) (record { rank = row.rank; id = target }))) ≡ table_has_edge table (edge_to number key target)
    at_entity row at =
        let doc : DocKey = record { rank = row.rank; id = target } in
        let stands : doc_at table target ≡ Some doc = ap (option_map (λ (r : EntityRow). record { rank = r.rank; id = target })) at in
        ap is_some (postings_read schema limits table vertical shard kept number key leads doc
        ∙ ap (option_and_then (posted schema limits table vertical shard kept number key leads doc)) stands
        ∙ (λ i. if is_eq (tied_itself doc_total doc i) && shard_is i then audience_at table (edge_to number key target) else None)) ∙ same_test (edge_at table (edge_to number key target))

    pub edges_read : has_edge (shard_rows schema table vertical shard) (edge_to number key target) ≡ table_has_edge table (edge_to number key target)
    edges_read =
        ap (λ o. option_map_or (λ rank. is_some (finite.get (shard_rows schema table vertical shard).postings (place_of (term_of number key) (record { rank = rank; id = target })))) o false) (ranks_read schema limits table vertical shard kept target)
        ∙ by (entity_at table target) refl
      where
        -- the table has no edge to what is no entity of the vertical
        none_leads : is_in table vertical target ≡ false → (o : Option EdgeRow) → edge_at table (edge_to number key target) ≡ o → false ≡ is_some o
        none_leads out None found = refl
        none_leads out (Some row) found = let both : true ≡ false = sym (target_there row found) ∙ out in absurd cc

        by : (o : Option EntityRow) → entity_at table target ≡ o
            → option_map_or (λ rank. is_some (finite.get (shard_rows schema table vertical shard).postings (place_of (term_of number key) (record { rank = rank; id = target }))))
            (option_and_then (λ (row : EntityRow). if is_of_shard schema vertical shard (target, row) then Some row.rank else None) o) false ≡ table_has_edge table (edge_to number key target)
        by None at = none_leads (ap (λ o. option_map_or (λ (row : EntityRow). row.vertical == vertical) o false) at) (edge_at table (edge_to number key target)) refl
        by (Some row) at = next (row.vertical == vertical) refl
          where
            next : (b : Bool) → (row.vertical == vertical) ≡ b
                → option_map_or (λ rank. is_some (finite.get (shard_rows schema table vertical shard).postings (place_of (term_of number key) (record { rank = rank; id = target }))))
                (if b && (shard_of schema vertical target == shard) then Some row.rank else None) false ≡ table_has_edge table (edge_to number key target)
            next true v =
                ap (λ c. option_map_or (λ rank. is_some (finite.get (shard_rows schema table vertical shard).postings (place_of (term_of number key) (record { rank = rank; id = target })))) (if c then Some row.rank else None) false) shard_is ∙ at_entity row at
            next false v = none_leads (ap (λ o. option_map_or (λ (r : EntityRow). r.vertical == vertical) o false) at ∙ v) (edge_at table (edge_to number key target)) refl
