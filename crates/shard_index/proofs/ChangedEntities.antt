-- Layers of entities that changed.
use Rattle.std.proofs.Common.{◌≡◌, ◌||◌, ℕ, Bool, true, false, not, if◌then◌else◌, List, Option, None, Some, is_some, refl, sym, ◌∙◌, ap, subst}
use Rattle.std.specs.Cmp.{nat_cmp_total, tied_itself}
use Rattle.std.specs.FinMap as finite
use Rattle.std.specs.List.{Contains}
use Rattle.std.specs.Ordering.{nat_cmp, eq_by_cmp, is_eq}
use Rattle.uni_base.specs.declared.entity.Rank.{Rank}
use Rattle.uni_base.specs.declared.limits.Limits.{Limits}
use Rattle.uni_schema.specs.Schema.{Declarations}
use Rattle.uni_table.specs.Changes.{AreEntityChanges}
use Rattle.uni_table.specs.Contents.{Contents, entity_at}
use Rattle.uni_table.specs.TableState.{IsKept}
use Rattle.uni_table.specs.declared.change.EntityChange.{EntityChange}
use Rattle.layer_base.specs.Layers.{layer_over as table_over}
use Rattle.layer_base.proofs.Tables.{get-layer_over}
use Rattle.shard_index.specs.ChangedRows.{same_rank, rank_within, ranked_row, shard_entities}
use Rattle.shard_index.specs.Differences.{layer_from}
use Rattle.shard_index.specs.Entities.{rank_over}
use Rattle.shard_index.specs.Laws.{rank_in_shard}
use Rattle.shard_index.specs.Shards.{shard_rows}
use Rattle.shard_index.specs.Touched.{same_rows}
use Rattle.shard_index.proofs.Differing.{at_key, Says, AreChanges, turned, deleted_differs, added_differs}
use Rattle.shard_index.proofs.EntityRows.{id_apart}
use Rattle.shard_index.proofs.LoggedMaps.{equal_of}
use Rattle.shard_index.proofs.ReadRanks.{same_number, ranks_read}
use Rattle.shard_index.proofs.Squeezed.{number_itself}

pub exact_rank : (x y : Rank) → same_rank x y ≡ true → x ≡ y
exact_rank x y t = λ i. record { 0 = same_number x.0 y.0 t i }

pub rank_itself : (x : Rank) → same_rank x x ≡ true
rank_itself x = number_itself x.0

-- ---- ranks of ids before and after

module _ (f g : ℕ → Option Rank) (was now : EntityChange → Option Rank) (cs : List EntityChange)
    (same : (c : EntityChange) → Contains cs c → (was c ≡ f c.id) × (now c ≡ g c.id))
    (there : (id : ℕ) → (f id ≡ g id → ⊥) → (c : EntityChange) × Contains cs c × (c.id ≡ id)) where
  module _ (id : ℕ) where
    abbrev at : Option (ℕ × Rank) → Option Rank
    at = at_key nat_cmp_total id_apart same_rank exact_rank rank_itself id

    named : (n : ℕ) (o : Option Rank) → eq_by_cmp nat_cmp id n ≡ true → at (ranked_row n o) ≡ o
    named n None t = refl
    named n (Some r) t = ap (λ b. if b then Some r else None) t

    unnamed : (n : ℕ) (o : Option Rank) → eq_by_cmp nat_cmp id n ≡ false → at (ranked_row n o) ≡ None
    unnamed n None t = refl
    unnamed n (Some r) t = ap (λ b. if b then Some r else None) t

    abbrev SaysSo : EntityChange → Type 0
    SaysSo = Says nat_cmp_total id_apart same_rank exact_rank rank_itself id (λ c. ranked_row c.id (was c)) (λ c. ranked_row c.id (now c)) cs (f id) (g id)

    says : (c : EntityChange) → Contains cs c → eq_by_cmp nat_cmp id c.id ≡ true → SaysSo c
    says c among t =
        let is : id ≡ c.id = id_apart id c.id (equal_of (nat_cmp id c.id) t) in
        let known = same c among in
        record { was_is = named c.id (was c) t ∙ known.0 ∙ ap f (sym is); now_is = named c.id (now c) t ∙ known.1 ∙ ap g (sym is) }

    pub changes : AreChanges nat_cmp_total id_apart same_rank exact_rank rank_itself id (λ c. ranked_row c.id (was c)) (λ c. ranked_row c.id (now c)) cs (f id) (g id)
    changes = record {
      sound = λ c among t. by c among t (eq_by_cmp nat_cmp id c.id) refl;
      complete = λ differ. let found = there id differ in (found.0, found.1, says found.0 found.1 (subst (λ (n : ℕ). eq_by_cmp nat_cmp id n ≡ true) (sym found.2) (ap is_eq (tied_itself nat_cmp_total id))));
    }
      where
        by : (c : EntityChange) → Contains cs c → (is_some (at (ranked_row c.id (was c))) || is_some (at (ranked_row c.id (now c)))) ≡ true → (b : Bool) → eq_by_cmp nat_cmp id c.id ≡ b → SaysSo c
        by c among t true e = says c among e
        by c among t false e =
            let none : false ≡ true = sym (λ i. is_some (unnamed c.id (was c) e i) || is_some (unnamed c.id (now c) e i)) ∙ t in absurd cc

    pub rank_turned : rank_over (layer_from nat_cmp same_rank (λ c. ranked_row c.id (was c)) (λ c. ranked_row c.id (now c)) cs) id (f id) ≡ g id
    rank_turned = turned nat_cmp_total id_apart same_rank exact_rank rank_itself id (λ c. ranked_row c.id (was c)) (λ c. ranked_row c.id (now c)) cs (f id) (g id) changes

-- ---- of a table

module _ (old new : Contents) (cs : List EntityChange) (are : AreEntityChanges old new cs) where
  -- an id at which the tables differ is among the changes
  differing : (id : ℕ) → (entity_at old id ≡ entity_at new id → ⊥) → (c : EntityChange) × Contains cs c × (c.id ≡ id)
  differing id differ = let c : EntityChange = record { id = id; before = entity_at old id; after = entity_at new id } in (c, (are.exact c).1 (refl, refl, differ), refl)

  -- a shard's entities
  pub entities_turned : (schema : Declarations) (limits : Limits) (vertical shard : ℕ) → IsKept schema limits old → IsKept schema limits new
      → table_over (shard_rows schema old vertical shard).entities (shard_entities schema vertical shard cs) ≡ (shard_rows schema new vertical shard).entities
  entities_turned schema limits vertical shard old_kept new_kept =
      finite.same_map nat_cmp_total id_apart (table_over (shard_rows schema old vertical shard).entities (shard_entities schema vertical shard cs)) (shard_rows schema new vertical shard).entities
      (λ q. get-layer_over nat_cmp_total id_apart (shard_rows schema old vertical shard).entities (shard_entities schema vertical shard cs) q
      ∙ ap (rank_over (shard_entities schema vertical shard cs) q) (ranks_read schema limits old vertical shard old_kept q)
      ∙ rank_turned (rank_in_shard schema old vertical shard) (rank_in_shard schema new vertical shard)
      (λ c. rank_within schema vertical shard c.id c.before) (λ c. rank_within schema vertical shard c.id c.after) cs
      (λ c among. let known = (are.exact c).0 among in (ap (rank_within schema vertical shard c.id) known.0, ap (rank_within schema vertical shard c.id) known.1))
      (λ id differ. differing id (λ e. differ (ap (rank_within schema vertical shard id) e))) q
      ∙ sym (ranks_read schema limits new vertical shard new_kept q))

  -- what a shard's layer deletes and puts differs in the shard
  module _ (schema : Declarations) (vertical shard : ℕ) (id : ℕ) where
    shard_changes : AreChanges nat_cmp_total id_apart same_rank exact_rank rank_itself id (λ c. ranked_row c.id (rank_within schema vertical shard c.id c.before)) (λ c. ranked_row c.id (rank_within schema vertical shard c.id c.after)) cs
        (rank_in_shard schema old vertical shard id) (rank_in_shard schema new vertical shard id)
    shard_changes =
        changes (rank_in_shard schema old vertical shard) (rank_in_shard schema new vertical shard)
        (λ c. rank_within schema vertical shard c.id c.before) (λ c. rank_within schema vertical shard c.id c.after) cs
        (λ c among. let known = (are.exact c).0 among in (ap (rank_within schema vertical shard c.id) known.0, ap (rank_within schema vertical shard c.id) known.1))
        (λ n differ. differing n (λ e. differ (ap (rank_within schema vertical shard n) e))) id

    pub removed_differs : finite.contains_key (shard_entities schema vertical shard cs).deletes id ≡ true
        → (not (same_rows same_rank (rank_in_shard schema old vertical shard id) (rank_in_shard schema new vertical shard id)) ≡ true) × (is_some (rank_in_shard schema old vertical shard id) ≡ true)
    removed_differs = deleted_differs nat_cmp_total id_apart same_rank exact_rank rank_itself id (λ c. ranked_row c.id (rank_within schema vertical shard c.id c.before)) (λ c. ranked_row c.id (rank_within schema vertical shard c.id c.after)) cs
        (rank_in_shard schema old vertical shard id) (rank_in_shard schema new vertical shard id) shard_changes

    pub placed_differs : finite.contains_key (shard_entities schema vertical shard cs).puts id ≡ true
        → (not (same_rows same_rank (rank_in_shard schema old vertical shard id) (rank_in_shard schema new vertical shard id)) ≡ true) × (is_some (rank_in_shard schema new vertical shard id) ≡ true)
    placed_differs = added_differs nat_cmp_total id_apart same_rank exact_rank rank_itself id (λ c. ranked_row c.id (rank_within schema vertical shard c.id c.before)) (λ c. ranked_row c.id (rank_within schema vertical shard c.id c.after)) cs
        (rank_in_shard schema old vertical shard id) (rank_in_shard schema new vertical shard id) shard_changes
