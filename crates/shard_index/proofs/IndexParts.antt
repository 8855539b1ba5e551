-- The three parts of an index, by its layers.
use Rattle.std.proofs.Common.{◌≡◌, ℕ, suc, ◌+◌, List, [], ◌∷◌, ◌++◌, map, length, drop, Some, sym, ◌∙◌, ap, arith, slice_get, drop-cons, append_assoc}
use Rattle.std.proofs.lemmas.Option.{get_or_from_slice_get, slice_get_within}
use Rattle.layer_stack.specs.Postings.{PostingChanges}
use Rattle.forward_data.specs.Records.{Records}
use Rattle.shard_index.specs.Entities.{EntityChanges}
use Rattle.shard_index.specs.Rows.{ShardChanges}
use Rattle.shard_index.specs.Joined.{joined_stack, AreAsLong}
use Rattle.shard_index.proofs.JoinedLayers.{length-joined, entities-joined, postings-joined, records-joined}

pub record Parts (es : List EntityChanges) (ps : List PostingChanges) (fs : List Records) (layers : List ShardChanges) : Type 0 where
  pub entities : map (λ (l : ShardChanges). l.entities) layers ≡ es
  pub postings : map (λ (l : ShardChanges). l.postings) layers ≡ ps
  pub records : map (λ (l : ShardChanges). l.records) layers ≡ fs
  pub entity_layers : length es ≡ length layers
  pub posting_layers : length ps ≡ length layers
  pub record_layers : length fs ≡ length layers

-- the parts of an index that is open
pub parts_of : (es : List EntityChanges × ℕ) (ps : List PostingChanges × ℕ) (fs : List Records × ℕ) (index : List ShardChanges × ℕ) → AreAsLong es.0 ps.0 fs.0 → joined_stack es ps fs ≡ index → Parts es.0 ps.0 fs.0 index.0
parts_of es ps fs index long is =
    let count : length index.0 ≡ length es.0 = ap (λ v. length v.0) (sym is) ∙ length-joined es.0 ps.0 fs.0 long in
    record {
      entities = ap (λ v. map (λ (l : ShardChanges). l.entities) v.0) (sym is) ∙ entities-joined es.0 ps.0 fs.0 long;
      postings = ap (λ v. map (λ (l : ShardChanges). l.postings) v.0) (sym is) ∙ postings-joined es.0 ps.0 fs.0 long;
      records = ap (λ v. map (λ (l : ShardChanges). l.records) v.0) (sym is) ∙ records-joined es.0 ps.0 fs.0 long;
      entity_layers = sym count;
      posting_layers = long.postings ∙ sym count;
      record_layers = long.records ∙ sym count;
    }

-- one layer of what is left
pub drop_at : {X : Type 0} (xs : List X) (i : ℕ) (x : X) → slice_get xs i ≡ Some x → drop i xs ≡ x ∷ drop (i + 1) xs
drop_at xs i x at =
    let one : suc i ≡ i + 1 = omega arith in
    drop-cons xs i x (slice_get_within xs i x at) ∙ (λ j. get_or_from_slice_get xs i x x at j ∷ drop (one j) xs)

-- a stack that has one layer more, with what is left
pub moved : {X : Type 0} (stack all : List X) (xs : List X) (i : ℕ) (x : X) → stack ++ drop i xs ≡ all → slice_get xs i ≡ Some x → (stack ++ x ∷ []) ++ drop (i + 1) xs ≡ all
moved stack all xs i x so_far at = append_assoc stack (x ∷ []) (drop (i + 1) xs) ∙ ap (λ rest. stack ++ rest) (sym (drop_at xs i x at)) ∙ so_far
