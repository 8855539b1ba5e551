-- A layer of a shard has entries only for rows that differ.
use Rattle.std.proofs.Common.{◌≡◌, ◌||◌, ◌&&◌, ℕ, Bool, true, false, not, List, [], ◌∷◌, Option, None, Some, refl, sym, ◌∙◌, ap, subst}
use Rattle.std.specs.Cmp.{nat_cmp_total, tied_itself}
use Rattle.std.specs.FinMap as finite
use Rattle.std.specs.Option.{unwrap_or}
use Rattle.std.specs.Ordering.{is_eq}
use Rattle.uni_base.specs.declared.limits.Limits.{Limits}
use Rattle.uni_schema.specs.Schema.{Declarations}
use Rattle.uni_table.specs.Changes.{AreEntityChanges}
use Rattle.uni_table.specs.Contents.{Contents}
use Rattle.uni_table.specs.TableState.{IsKept}
use Rattle.uni_table.specs.declared.change.EdgeChange.{EdgeChange}
use Rattle.uni_table.specs.declared.change.EntityChange.{EntityChange}
use Rattle.layer_stack.specs.declared.place.Place.{Place}
use Rattle.layer_stack.specs.Postings.{PostingChanges}
use Rattle.forward_data.specs.declared.record.ForwardItem.{ForwardItem}
use Rattle.shard_index.specs.Batches.{AreAllChanges, has_entry, ChangesOnly}
use Rattle.shard_index.specs.ChangedRows.{same_rank, same_audience, shard_entities, shard_postings}
use Rattle.shard_index.specs.Entities.{EntityChanges}
use Rattle.shard_index.specs.Rows.{ShardChanges}
use Rattle.shard_index.specs.Shards.{shard_rows}
use Rattle.shard_index.specs.Touched.{same_items, same_rows}
use Rattle.shard_index.proofs.ChangedEntities.{rank_itself, removed_differs, placed_differs}
use Rattle.shard_index.proofs.ChangedPostings.{audience_itself}
use Rattle.shard_index.proofs.FewEntries.{FromChanges}
use Rattle.shard_index.proofs.FewPostings.{deleted, put}
use Rattle.shard_index.proofs.FewRecords.{replaced, unlike}
use Rattle.shard_index.proofs.PostedRows.{posted_read}
use Rattle.shard_index.proofs.ReadRanks.{ranks_read}

-- answers that are not the same differ
apart : {X : Type 0} (same : X → X → Bool) → ((x : X) → same x x ≡ true) → (a b : Option X) → not (same_rows same a b) ≡ true → a ≡ b → ⊥
apart same itself None None t e = cc
apart same itself None (Some y) t e = cc
apart same itself (Some x) None t e = cc
apart same itself (Some x) (Some y) t e =
    let is : x ≡ y = cc in
    let clash : false ≡ true = ap not (sym (itself x)) ∙ subst (λ z. not (same x z) ≡ true) (sym is) t in cc

items_itself : (xs : List ForwardItem) → same_items xs xs ≡ true
items_itself [] = refl
items_itself (x ∷ xs) = λ i. is_eq (tied_itself nat_cmp_total x.target i) && (audience_itself x.audience i && items_itself xs i)

-- one of two tests
either_way : {A : Type 0} (a b : Bool) → (a ≡ true → A) → (b ≡ true → A) → (a || b) ≡ true → A
either_way true b left right t = left refl
either_way false b left right t = right t

module _ (schema : Declarations) (limits : Limits) (old new : Contents) (vertical shard : ℕ) (old_kept : IsKept schema limits old) (new_kept : IsKept schema limits new) where
  entities_only : (es : List EntityChange) → AreEntityChanges old new es → (id : ℕ) → has_entry (shard_entities schema vertical shard es) id ≡ true
      → finite.get (shard_rows schema old vertical shard).entities id ≡ finite.get (shard_rows schema new vertical shard).entities id → ⊥
  entities_only es are id t same =
      let ranks = sym (ranks_read schema limits old vertical shard old_kept id) ∙ same ∙ ranks_read schema limits new vertical shard new_kept id in
      either_way (finite.contains_key (shard_entities schema vertical shard es).deletes id) (finite.contains_key (shard_entities schema vertical shard es).puts id)
      (λ is. apart same_rank rank_itself _ _ (removed_differs old new es are schema vertical shard id is).0 ranks)
      (λ is. apart same_rank rank_itself _ _ (placed_differs old new es are schema vertical shard id is).0 ranks) t

  module _ (cs : List EdgeChange) (are : AreAllChanges old new cs) where
    postings_only : (place : Place) → has_entry (shard_postings schema vertical shard cs) place ≡ true
        → finite.get (shard_rows schema old vertical shard).postings place ≡ finite.get (shard_rows schema new vertical shard).postings place → ⊥
    postings_only place t same =
        let audiences = sym (posted_read schema limits old vertical shard old_kept place) ∙ same ∙ posted_read schema limits new vertical shard new_kept place in
        either_way (finite.contains_key (shard_postings schema vertical shard cs).deletes place) (finite.contains_key (shard_postings schema vertical shard cs).puts place)
        (λ is. apart same_audience audience_itself _ _ (deleted schema limits old new vertical shard old_kept new_kept cs are place is).0 audiences)
        (λ is. apart same_audience audience_itself _ _ (put schema limits old new vertical shard old_kept new_kept cs are place is).0 audiences) t

    pub changes_only : (es : List EntityChange) → AreEntityChanges old new es → (layer : ShardChanges) → FromChanges schema old new vertical shard es cs layer
        → ChangesOnly (shard_rows schema old vertical shard) (shard_rows schema new vertical shard) layer
    changes_only es entities layer from = record {
      entities = λ id t. entities_only es entities id (subst (λ (l : EntityChanges). has_entry l id ≡ true) from.entities t);
      postings = λ place t. postings_only place (subst (λ (l : PostingChanges). has_entry l place ≡ true) from.postings t);
      records = λ key t same.
          let differ = unlike schema limits old new vertical shard cs are key (replaced schema limits old new vertical shard cs are layer.records from.records key t) in
          let alike = ap (λ o. not (same_items (unwrap_or (finite.get (shard_rows schema old vertical shard).records key) []) (unwrap_or o []))) (sym same) ∙ ap not (items_itself (unwrap_or (finite.get (shard_rows schema old vertical shard).records key) [])) in
          let clash : true ≡ false = sym differ ∙ alike in cc;
    }
