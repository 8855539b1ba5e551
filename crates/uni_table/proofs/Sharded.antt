-- Entities in rank order, shard by shard.
use Rattle.std.proofs.Common.{◌≡◌, ◌&&◌, ◌==◌, ℕ, Bool, List, map, filter, sym, ◌∙◌, ap, subst}
use Rattle.std.proofs.lemmas.List.Kept.{IsStrictlySortedBy-filter}
use Rattle.std.proofs.lemmas.List.Sorted.{list_any-IsPermutation}
use Rattle.std.proofs.lemmas.Map.Keys.{IsDistinct-IsPermutation}
use Rattle.std.proofs.lemmas.Map.Lookups.{btree_set_from_contains}
use Rattle.std.proofs.lemmas.Map.Made.{is_member-filter}
use Rattle.std.specs.Cmp.{eq_by_cmp_equiv}
use Rattle.std.specs.List.{IsDistinct, list_any}
use Rattle.std.specs.List.Sorted.{IsPermutation, IsSorted}
use Rattle.std.specs.Ordering.{eq_by_cmp}
use Rattle.std.specs.BTreeMap.{is_at}
use Rattle.uni_base.specs.declared.entity.DocKey.{DocKey}
use Rattle.uni_base.specs.RankOrder.{doc_cmp}
use Rattle.uni_schema.specs.Schema.{shard_of}
use Rattle.uni_table.specs.declared.command.EntityRow.{EntityRow}
use Rattle.uni_table.specs.Laws.{ShardsPart}
use Rattle.uni_table.specs.Ranked.{in_rank_order, doc_of, is_of_shard}
use Rattle.uni_table.proofs.Additions.{filter-twice}
use Rattle.uni_table.proofs.Compared.{equal_from}
use Rattle.uni_table.proofs.DocKeys.{doc_total, exact_key, flips}
use Rattle.uni_table.proofs.Placed.{sorted_apart, list_any-in_rank_order, sorted-in_rank_order}
use Rattle.uni_table.proofs.RankedIn.{docs_apart}
use Rattle.uni_table.proofs.Touching.{filter-map}

-- keys that differ, in order, are those in rank order
pub in_order-is : (xs ys : List DocKey) → IsDistinct (eq_by_cmp doc_cmp) xs → IsPermutation xs ys → IsSorted doc_cmp ys → ys ≡ in_rank_order xs
in_order-is xs ys apart same up =
    btree_set_from_contains doc_total (record { keys = ys }) (record { keys = in_rank_order xs })
    (sorted_apart doc_total ys up (IsDistinct-IsPermutation (eq_by_cmp doc_cmp) flips xs ys same apart)) (sorted-in_rank_order xs apart)
    (λ q. sym (list_any-in_rank_order (is_at (doc_cmp q)) xs ∙ list_any-IsPermutation (is_at (doc_cmp q)) xs ys same)) exact_key

-- those that pass a test are in the same order
filter-in_order : (p : DocKey → Bool) (xs : List DocKey) → IsDistinct (eq_by_cmp doc_cmp) xs → IsDistinct (eq_by_cmp doc_cmp) (filter p xs) → in_rank_order (filter p xs) ≡ filter p (in_rank_order xs)
filter-in_order p xs apart left_apart =
    btree_set_from_contains doc_total (record { keys = in_rank_order (filter p xs) }) (record { keys = filter p (in_rank_order xs) })
    (sorted-in_rank_order (filter p xs) left_apart) (IsStrictlySortedBy-filter doc_cmp p (in_rank_order xs) (sorted-in_rank_order xs apart))
    (λ q. list_any-in_rank_order (is_at (doc_cmp q)) (filter p xs) ∙ member q xs ∙ ap (λ b. b && p q) (sym (list_any-in_rank_order (is_at (doc_cmp q)) xs)) ∙ sym (member q (in_rank_order xs))) exact_key
  where
    member : (q : DocKey) (ks : List DocKey) → list_any (is_at (doc_cmp q)) (filter p ks) ≡ (list_any (is_at (doc_cmp q)) ks && p q)
    member q ks = is_member-filter {eq = eq_by_cmp doc_cmp} (eq_by_cmp_equiv doc_total) p q (λ x e. ap p (exact_key q x (equal_from (doc_cmp q x) e))) ks

pub shards_part : ShardsPart
shards_part = record {
  lists = λ schema limits table vertical shard kept.
      let of_vertical : ℕ × EntityRow → Bool = λ e. e.1.vertical == vertical in
      let of_shard : DocKey → Bool = λ k. shard_of schema vertical k.id == shard in
      let part : map doc_of (filter (is_of_shard schema vertical shard) table.entities) ≡ filter of_shard (map doc_of (filter of_vertical table.entities)) =
      sym (filter-map doc_of of_shard (filter of_vertical table.entities) ∙ ap (map doc_of) (filter-twice (λ (e : ℕ × EntityRow). of_shard (doc_of e)) of_vertical table.entities)) in
      ap in_rank_order part
      ∙ filter-in_order of_shard (map doc_of (filter of_vertical table.entities)) (docs_apart of_vertical table.entities kept.entities)
      (subst (IsDistinct (eq_by_cmp doc_cmp)) part (docs_apart (is_of_shard schema vertical shard) table.entities kept.entities));
}
