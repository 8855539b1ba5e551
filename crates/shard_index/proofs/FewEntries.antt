-- A layer of a shard has at most two entries for each row that differs.
use Rattle.std.proofs.Common.{◌≡◌, ◌≤◌, ◌+◌, ◌*◌, ℕ, List, length, sym, subst, arith}
use Rattle.std.specs.FinMap as finite
use Rattle.uni_base.specs.declared.limits.Limits.{Limits}
use Rattle.uni_schema.specs.Schema.{Declarations}
use Rattle.uni_table.specs.Changes.{AreEntityChanges}
use Rattle.uni_table.specs.Contents.{Contents}
use Rattle.uni_table.specs.TableState.{IsKept}
use Rattle.uni_table.specs.declared.change.EdgeChange.{EdgeChange}
use Rattle.uni_table.specs.declared.change.EntityChange.{EntityChange}
use Rattle.layer_stack.specs.Postings.{PostingChanges}
use Rattle.shard_index.specs.Batches.{AreAllChanges}
use Rattle.shard_index.specs.ChangedRows.{shard_entities, shard_postings, AreShardRecords}
use Rattle.shard_index.specs.Entities.{EntityChanges}
use Rattle.shard_index.specs.Rows.{ShardChanges, entries}
use Rattle.shard_index.specs.Touched.{touched, moved_entities, moved_edges, moved_records}
use Rattle.shard_index.proofs.FewEntities.{few_removed, few_placed}
use Rattle.shard_index.proofs.FewPostings.{few_deleted, few_put}
use Rattle.shard_index.proofs.FewRecords.{few_records}

-- the parts of a layer of a shard, by the changes
pub record FromChanges (schema : Declarations) (old new : Contents) (vertical shard : ℕ) (es : List EntityChange) (cs : List EdgeChange) (layer : ShardChanges) : Type 0 where
  pub entities : layer.entities ≡ shard_entities schema vertical shard es
  pub postings : layer.postings ≡ shard_postings schema vertical shard cs
  pub records : AreShardRecords schema vertical shard new cs layer.records

sum_of : (a b c d e x y z : ℕ) → a ≤ x → b ≤ x → c ≤ y → d ≤ y → e ≤ z → a + b + (c + d) + e ≤ 2 * (x + y + z)
sum_of a b c d e x y z p q r s t = omega (arith, p, q, r, s, t)

pub few_entries : (schema : Declarations) (limits : Limits) (old new : Contents) (vertical shard : ℕ) → IsKept schema limits old → IsKept schema limits new → (es : List EntityChange) → AreEntityChanges old new es → (cs : List EdgeChange) → AreAllChanges old new cs
    → (layer : ShardChanges) → FromChanges schema old new vertical shard es cs layer → entries layer ≤ 2 * touched schema old new vertical shard
few_entries schema limits old new vertical shard old_kept new_kept es are cs edges layer from =
    sum_of (finite.len layer.entities.deletes) (finite.len layer.entities.puts) (finite.len layer.postings.deletes) (finite.len layer.postings.puts) (finite.len layer.records)
    (length (moved_entities schema old new vertical shard)) (length (moved_edges schema old new vertical shard)) (length (moved_records schema old new vertical shard))
    (subst (λ (l : EntityChanges). finite.len l.deletes ≤ length (moved_entities schema old new vertical shard)) (sym from.entities) (few_removed schema old new vertical shard es are))
    (subst (λ (l : EntityChanges). finite.len l.puts ≤ length (moved_entities schema old new vertical shard)) (sym from.entities) (few_placed schema old new vertical shard es are))
    (subst (λ (l : PostingChanges). finite.len l.deletes ≤ length (moved_edges schema old new vertical shard)) (sym from.postings) (few_deleted schema limits old new vertical shard old_kept new_kept cs edges))
    (subst (λ (l : PostingChanges). finite.len l.puts ≤ length (moved_edges schema old new vertical shard)) (sym from.postings) (few_put schema limits old new vertical shard old_kept new_kept cs edges))
    (few_records schema limits old new vertical shard cs edges layer.records from.records)
