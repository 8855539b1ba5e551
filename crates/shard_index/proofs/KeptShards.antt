-- Which shard a change concerns: the one that keeps its edge, and those in which its entity was and is.
use Rattle.std.proofs.Common.{◌≡◌, ◌==◌, ◌&&◌, ℕ, Bool, true, false, not, if◌then◌else◌, Option, None, Some, refl, sym, ◌∙◌, ap}
use Rattle.std.proofs.lemmas.Bool.{and_parts}
use Rattle.std.specs.Cmp.{nat_cmp_total, tied_itself}
use Rattle.std.specs.Option.{option_and_then, option_map, option_map_or}
use Rattle.std.specs.Ordering.{nat_cmp, eq_by_cmp, is_eq}
use Rattle.uni_base.specs.declared.edge.EdgeRef.{EdgeRef}
use Rattle.uni_base.specs.declared.entity.Rank.{Rank}
use Rattle.uni_schema.specs.declared.schema.Origin.{Origin}
use Rattle.uni_schema.specs.declared.schema.Origin.TheVariants.{Vertical, Words}
use Rattle.uni_schema.specs.declared.schema.TypeDef.{TypeDef}
use Rattle.uni_schema.specs.declared.schema.VerticalDef.{VerticalDef}
use Rattle.uni_schema.specs.Schema.{Declarations, type_at, vertical_at, shard_of, source_of, is_index}
use Rattle.uni_table.specs.Lists.{keeps_target, keeps_source, starts_in}
use Rattle.uni_table.specs.Ranked.{is_of_shard}
use Rattle.uni_table.specs.declared.command.EntityRow.{EntityRow}
use Rattle.forward_data.specs.Records.{record_key}
use Rattle.shard_index.specs.Batches.{ShardPlace, shard_place}
use Rattle.shard_index.specs.ChangedRows.{same_rank, rank_within, ranked_row, is_posted, record_from, record_within}
use Rattle.shard_index.specs.Differences.{dropped, added}
use Rattle.shard_index.specs.Notes.{row_left, row_taken}
use Rattle.shard_index.specs.Numbers.{shard_for, shard_at_origin, shard_keeping}
use Rattle.shard_index.proofs.ReadRanks.{same_number}
use Rattle.shard_index.proofs.Squeezed.{number_itself}

equal_numbers : (a b : ℕ) → a ≡ b → (a == b) ≡ true
equal_numbers a b e = ap (λ n. a == n) (sym e) ∙ number_itself a

module _ (schema : Declarations) (vertical shard : ℕ) where
  -- whether an id is of the shard of a vertical
  abbrev pub of_shard : ℕ → ℕ → Bool
  of_shard number id = (number == vertical) && (shard_of schema vertical id == shard)

  pub from_place : (number id : ℕ) → shard_for schema number id ≡ Some (shard_place vertical shard) → of_shard number id ≡ true
  from_place number id e = by (vertical_at schema number) e
    where
      by : (o : Option VerticalDef) → option_map (λ (declared : VerticalDef). shard_place number (shard_of schema number id)) o ≡ Some (shard_place vertical shard) → of_shard number id ≡ true
      by None f = cc
      by (Some d) f =
          let is : shard_place number (shard_of schema number id) ≡ shard_place vertical shard = cc in
          let same : number ≡ vertical = ap (λ (p : ShardPlace). p.vertical) is in
          let own : shard_of schema number id ≡ shard = ap (λ (p : ShardPlace). p.shard) is in
          λ i. equal_numbers number vertical same i && equal_numbers (shard_of schema vertical id) shard (ap (λ v. shard_of schema v id) (sym same) ∙ own) i

  module _ (declared : VerticalDef) (at : vertical_at schema vertical ≡ Some declared) where
    pub to_place : (number id : ℕ) → of_shard number id ≡ true → shard_for schema number id ≡ Some (shard_place vertical shard)
    to_place number id t =
        let parts = and_parts (number == vertical) (shard_of schema vertical id == shard) t in
        let same = same_number number vertical parts.0 in let own = same_number (shard_of schema vertical id) shard parts.1 in
        ap (λ v. shard_for schema v id) same ∙ ap (option_map (λ (d : VerticalDef). shard_place vertical (shard_of schema vertical id))) at ∙ ap (λ s. Some (shard_place vertical s)) own

  -- ---- edges

  module _ (edge : EdgeRef) (d : TypeDef) (type_is : type_at schema edge.type_no ≡ Some d) where
    posted_is : is_posted schema vertical shard edge ≡ (is_index d.store && of_shard d.target edge.target)
    posted_is = ap (λ o. option_map_or (λ (t : TypeDef). is_index t.store && keeps_target schema vertical shard t edge.target) o false) type_is

    within_is : record_within schema vertical shard edge ≡ option_and_then (record_from schema vertical shard edge.type_no d) (source_of edge.key)
    within_is = ap (option_and_then (λ (t : TypeDef). option_and_then (record_from schema vertical shard edge.type_no t) (source_of edge.key))) type_is

    -- an index edge is posted in the shard that keeps it, and is in no record
    pub posted_here : is_index d.store ≡ true → shard_keeping schema d edge ≡ Some (shard_place vertical shard) → is_posted schema vertical shard edge ≡ true
    posted_here index e =
        posted_is ∙ (λ i. index i && from_place d.target edge.target (ap (λ b. if b then shard_for schema d.target edge.target else option_and_then (shard_at_origin schema d.origin) (source_of edge.key)) (sym index) ∙ e) i)

    pub in_no_record : is_index d.store ≡ true → record_within schema vertical shard edge ≡ None
    in_no_record index = within_is ∙ by (source_of edge.key)
      where
        by : (o : Option ℕ) → option_and_then (record_from schema vertical shard edge.type_no d) o ≡ None
        by None = refl
        by (Some id) = ap (λ b. if not b && keeps_source schema vertical shard d id then Some (record_key edge.type_no id) else None) index

    -- a forward edge is in its record in the shard that keeps it, and is not posted
    pub not_posted : is_index d.store ≡ false → is_posted schema vertical shard edge ≡ false
    not_posted forward = posted_is ∙ ap (λ b. b && of_shard d.target edge.target) forward

    pub within_here : is_index d.store ≡ false → shard_keeping schema d edge ≡ Some (shard_place vertical shard)
        → record_within schema vertical shard edge ≡ option_map (λ id. record_key edge.type_no id) (source_of edge.key)
    within_here forward e =
        within_is ∙ by (source_of edge.key) (d.origin) refl (ap (λ b. if b then shard_for schema d.target edge.target else option_and_then (shard_at_origin schema d.origin) (source_of edge.key)) (sym forward) ∙ e)
      where
        by : (o : Option ℕ) (g : Origin) → d.origin ≡ g → option_and_then (shard_at_origin schema d.origin) o ≡ Some (shard_place vertical shard)
            → option_and_then (record_from schema vertical shard edge.type_no d) o ≡ option_map (λ id. record_key edge.type_no id) o
        by None g h f = refl
        by (Some id) Words h f = let clash : None ≡ Some (shard_place vertical shard) = sym (ap (λ (x : Origin). shard_at_origin schema x id) h) ∙ f in cc
        by (Some id) (Vertical v) h f =
            let own = from_place v id (sym (ap (λ (x : Origin). shard_at_origin schema x id) h) ∙ f) in
            (λ i. if not (forward i) && (starts_in vertical (h i) && (shard_of schema vertical id == shard)) then Some (record_key edge.type_no id) else None)
            ∙ ap (λ b. if b then Some (record_key edge.type_no id) else None) own

    -- no other shard has the edge
    module _ (declared : VerticalDef) (at : vertical_at schema vertical ≡ Some declared) (other : shard_keeping schema d edge ≡ Some (shard_place vertical shard) → ⊥) where
      pub posted_elsewhere : is_posted schema vertical shard edge ≡ false
      posted_elsewhere = posted_is ∙ by (is_index d.store) refl (of_shard d.target edge.target) refl
        where
          by : (a : Bool) → is_index d.store ≡ a → (b : Bool) → of_shard d.target edge.target ≡ b → (a && b) ≡ false
          by true e true f =
              absurd (other (ap (λ c. if c then shard_for schema d.target edge.target else option_and_then (shard_at_origin schema d.origin) (source_of edge.key)) e ∙ to_place declared at d.target edge.target f))
          by true e false f = refl
          by false e b f = refl

      pub within_elsewhere : record_within schema vertical shard edge ≡ None
      within_elsewhere = within_is ∙ by (source_of edge.key) refl
        where
          next : (id : ℕ) → source_of edge.key ≡ Some id → (a : Bool) → is_index d.store ≡ a → (g : Origin) → d.origin ≡ g → (b : Bool) → (starts_in vertical g && (shard_of schema vertical id == shard)) ≡ b
              → (if not a && b then Some (record_key edge.type_no id) else None) ≡ None
          next id key true e g h b f = refl
          next id key false e g h false f = refl
          next id key false e Words h true f = cc
          next id key false e (Vertical v) h true f =
              absurd (other ((λ i. if e i then shard_for schema d.target edge.target else option_and_then (shard_at_origin schema (h i)) (key i)) ∙ to_place declared at v id f))

          by : (o : Option ℕ) → source_of edge.key ≡ o → option_and_then (record_from schema vertical shard edge.type_no d) o ≡ None
          by None e = refl
          by (Some id) e = next id e (is_index d.store) refl (d.origin) refl (starts_in vertical d.origin && (shard_of schema vertical id == shard)) refl

  -- ---- entities

  module _ (id : ℕ) where
    abbrev own_row : EntityRow → Bool
    own_row row = is_of_shard schema vertical shard (id, row)

    abbrev ranked : Option EntityRow → Option (ℕ × Rank)
    ranked row = ranked_row id (rank_within schema vertical shard id row)

    abbrev if_ranked : Bool → EntityRow → Option (ℕ × Rank)
    if_ranked own row = ranked_row id (if own then Some row.rank else None)

    same_id : eq_by_cmp nat_cmp id id ≡ true
    same_id = ap is_eq (tied_itself nat_cmp_total id)

    -- what is removed of the shard: the row that the entity had, where it is of the shard
    pub removed_is : (before after : Option EntityRow) → dropped nat_cmp same_rank (ranked before) (ranked after) ≡ option_and_then (λ (row : EntityRow). if own_row row then Some (id, tt) else None) (row_left before after)
    removed_is None after = refl
    removed_is (Some was) None = by (own_row was)
      where
        by : (b : Bool) → dropped nat_cmp same_rank (if_ranked b was) None ≡ (if b then Some (id, tt) else None)
        by true = refl
        by false = refl
    removed_is (Some was) (Some now) = by (was.vertical == now.vertical) refl (own_row was) refl (own_row now) refl
      where
        by : (a : Bool) → (was.vertical == now.vertical) ≡ a → (b : Bool) → own_row was ≡ b → (c : Bool) → own_row now ≡ c
            → dropped nat_cmp same_rank (if_ranked b was) (if_ranked c now) ≡ option_and_then (λ (row : EntityRow). if own_row row then Some (id, tt) else None) (if a then None else Some was)
        by true e true f true g = ap (λ b. if b then None else Some (id, tt)) same_id
        by true e true f false g = let clash : true ≡ false = sym f ∙ ap (λ v. of_shard v id) (same_number was.vertical now.vertical e) ∙ g in absurd cc
        by true e false f c g = refl
        by false e true f true g =
            let one = same_number was.vertical vertical (and_parts (was.vertical == vertical) (shard_of schema vertical id == shard) f).0 in
            let other = same_number now.vertical vertical (and_parts (now.vertical == vertical) (shard_of schema vertical id == shard) g).0 in
            let clash : true ≡ false = sym (equal_numbers was.vertical now.vertical (one ∙ sym other)) ∙ e in absurd cc
        by false e true f false g = ap (λ b. if b then Some (id, tt) else None) (sym f)
        by false e false f c g = ap (λ b. if b then Some (id, tt) else None) (sym f)

    -- what is put in the shard: the row that the entity has, where it is of the shard
    pub placed_is : (before after : Option EntityRow)
        → added nat_cmp same_rank (ranked before) (ranked after) ≡ option_and_then (λ (row : EntityRow). if own_row row then Some (id, row.rank) else None) (row_taken before after)
    placed_is None None = refl
    placed_is (Some was) None = refl
    placed_is None (Some now) = by (own_row now)
      where
        by : (b : Bool) → added nat_cmp same_rank None (if_ranked b now) ≡ (if b then Some (id, now.rank) else None)
        by true = refl
        by false = refl
    placed_is (Some was) (Some now) = by (was.vertical == now.vertical) refl (own_row was) refl (own_row now) refl (same_rank was.rank now.rank) refl
      where
        by : (a : Bool) → (was.vertical == now.vertical) ≡ a → (b : Bool) → own_row was ≡ b → (c : Bool) → own_row now ≡ c → (r : Bool) → same_rank was.rank now.rank ≡ r
            → added nat_cmp same_rank (if_ranked b was) (if_ranked c now) ≡ option_and_then (λ (row : EntityRow). if own_row row then Some (id, row.rank) else None) (if a && r then None else Some now)
        by true e true f true g true h = λ i. if same_id i && h i then None else Some (id, now.rank)
        by true e true f true g false h = (λ i. if same_id i && h i then None else Some (id, now.rank)) ∙ ap (λ b. if b then Some (id, now.rank) else None) (sym g)
        by true e true f false g r h = let clash : true ≡ false = sym f ∙ ap (λ v. of_shard v id) (same_number was.vertical now.vertical e) ∙ g in absurd cc
        by true e false f true g r h = let clash : true ≡ false = sym g ∙ ap (λ v. of_shard v id) (sym (same_number was.vertical now.vertical e)) ∙ f in absurd cc
        by true e false f false g true h = refl
        by true e false f false g false h = ap (λ b. if b then Some (id, now.rank) else None) (sym g)
        by false e true f true g r h =
            let one = same_number was.vertical vertical (and_parts (was.vertical == vertical) (shard_of schema vertical id == shard) f).0 in
            let other = same_number now.vertical vertical (and_parts (now.vertical == vertical) (shard_of schema vertical id == shard) g).0 in
            let clash : true ≡ false = sym (equal_numbers was.vertical now.vertical (one ∙ sym other)) ∙ e in absurd cc
        by false e true f false g r h = ap (λ b. if b then Some (id, now.rank) else None) (sym g)
        by false e false f true g r h = ap (λ b. if b then Some (id, now.rank) else None) (sym g)
        by false e false f false g r h = ap (λ b. if b then Some (id, now.rank) else None) (sym g)
