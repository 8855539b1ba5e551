-- A reply at a limit begins that at a greater one.
use Rattle.std.proofs.Common.{◌≡◌, ◌+◌, ◌++◌, ℕ, List, [], ◌∷◌, refl, ◌∙◌, ap, take, zero, suc, arith}
use Rattle.std.proofs.lemmas.List.Elements.{filter_map-append}
use Rattle.std.specs.List.{filter_map, flat_map, range_with_len}
use Rattle.uni_base.specs.declared.entity.DocKey.{DocKey}
use Rattle.uni_table.specs.Ranked.{in_rank_order}
use Rattle.uni_meaning.specs.Hits.{hits, shards_of, vertical_of}
use Rattle.uni_meaning.specs.Laws.{RepliesBegin}
use Rattle.uni_meaning.specs.Replies.{shown_hit}

module _ {X : Type 0} where
  -- a list that is cut at a greater number begins with the list that is cut before
  cut-begins : (n m : ℕ) (xs : List X) → (rest : List X) × (take (n + m) xs ≡ take n xs ++ rest)
  cut-begins n m [] = ([], by n (n + m))
    where
      none : List X
      none = []

      by : (a b : ℕ) → take b none ≡ take a none ++ none
      by zero zero = refl
      by zero (suc b) = refl
      by (suc a) zero = refl
      by (suc a) (suc b) = refl
  cut-begins zero m (x ∷ xs) = (take (0 + m) (x ∷ xs), refl)
  cut-begins (suc n) m (x ∷ xs) =
      let later = cut-begins n m xs in
      (later.0, ap (λ k. take k (x ∷ xs)) (one_more n m) ∙ ap (λ (ys : List X). x ∷ ys) later.1)
    where
      one_more : (a b : ℕ) → suc a + b ≡ suc (a + b)
      one_more a b = omega arith

pub replies_begin : RepliesBegin
replies_begin = record {
  begins = λ schema table publishes plan viewer limit more.
      let all : List DocKey = in_rank_order (flat_map (hits schema table plan) (range_with_len 0 (shards_of schema (vertical_of schema plan)))) in
      let longer = cut-begins limit more all in (
        filter_map (shown_hit schema table viewer plan) longer.0,
        ap (filter_map (shown_hit schema table viewer plan)) longer.1 ∙ filter_map-append (shown_hit schema table viewer plan) (take limit all) longer.0,
      );
}
