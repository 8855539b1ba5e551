-- A list that is read along keys in rank order.
use Rattle.std.proofs.Common.{◌≡◌, arith, true, All, List, [], ◌∷◌, ◌++◌, refl, ◌∙◌}
use Rattle.std.proofs.lemmas.List.Elements.{All-cons, All-head, All-tail}
use Rattle.uni_base.specs.declared.entity.DocKey.{DocKey}
use Rattle.uni_base.specs.Cursors.{is_before, IsRanked}
use Rattle.shard_eval.specs.Found.{Found, found_keys, tree_at, KeepsLater}

-- what comes after all keys that were read is as at first
pub record CanReadOn (read : List DocKey) (first now : List Found) : Type 0 where
  pub ranked : IsRanked (found_keys now)
  pub later : (k : DocKey) → All (λ x. is_before x k ≡ true) read → tree_at now k ≡ tree_at first k

pub none_read : (fs : List Found) → IsRanked (found_keys fs) → CanReadOn [] fs fs
none_read fs ranked = record { ranked = ranked; later = λ k all. refl }

-- one key more
pub read_more : (read : List DocKey) (key : DocKey) (first now next : List Found) → CanReadOn read first now → KeepsLater key now next → CanReadOn (read ++ key ∷ []) first next
read_more read key first now next can keeps = record {
  ranked = keeps.ranked;
  later = λ k all. keeps.later k (last_before read key k all) ∙ can.later k (firsts_before read key k all);
}
  where
    last_before : (read : List DocKey) (key k : DocKey) → All (λ x. is_before x k ≡ true) (read ++ key ∷ []) → is_before key k ≡ true
    last_before [] key k all = All-head (λ x. is_before x k ≡ true) key [] all
    last_before (x ∷ xs) key k all = last_before xs key k (All-tail (λ y. is_before y k ≡ true) x (xs ++ key ∷ []) all)

    firsts_before : (read : List DocKey) (key k : DocKey) → All (λ x. is_before x k ≡ true) (read ++ key ∷ []) → All (λ x. is_before x k ≡ true) read
    firsts_before [] key k all = λ i d lt. absurd (omega (arith, lt))
    firsts_before (x ∷ xs) key k all = All-cons (λ y. is_before y k ≡ true) x xs (All-head (λ y. is_before y k ≡ true) x (xs ++ key ∷ []) all) (firsts_before xs key k (All-tail (λ y. is_before y k ≡ true) x (xs ++ key ∷ []) all))

-- keys in rank order come before one that follows them
pub all_before : (read : List DocKey) (key : DocKey) (rest : List DocKey) → IsRanked (read ++ key ∷ rest) → All (λ x. is_before x key ≡ true) read
all_before [] key rest ranked = λ i d lt. absurd (omega (arith, lt))
all_before (x ∷ xs) key rest ranked = All-cons (λ y. is_before y key ≡ true) x xs (at xs ranked.0) (all_before xs key rest ranked.1)
  where
    at : (ys : List DocKey) → All (λ k. is_before x k ≡ true) (ys ++ key ∷ rest) → is_before x key ≡ true
    at [] all = All-head (λ k. is_before x k ≡ true) key rest all
    at (y ∷ ys) all = at ys (All-tail (λ k. is_before x k ≡ true) y (ys ++ key ∷ rest) all)
