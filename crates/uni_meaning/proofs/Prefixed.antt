-- A prefix term is the `or` of the terms of its keys.
use Rattle.std.proofs.Common.{◌≡◌, ◌++◌, ◌||◌, ◌⊎◌, inl, inr, ℕ, Bool, true, false, List, [], ◌∷◌, cond, refl, sym, ◌∙◌, ap, map, filter, if◌then◌else◌}
use Rattle.std.specs.List.{Contains, list_any}
use Rattle.std.specs.Ordering.{is_eq}
use Rattle.uni_base.specs.RankOrder.{doc_cmp}
use Rattle.uni_base.specs.Walks.{Walker}
use Rattle.uni_base.specs.declared.edge.EdgeRef.{EdgeRef}
use Rattle.uni_base.specs.declared.edge.Key.TheVariants.{Word}
use Rattle.uni_base.specs.declared.entity.DocKey.{DocKey}
use Rattle.uni_base.proofs.RankedLemmas.{is_eq_same, same_from_is_eq}
use Rattle.uni_schema.specs.Schema.{Declarations, shard_of}
use Rattle.uni_table.specs.Contents.{Contents}
use Rattle.uni_table.specs.Ranked.{ranked}
use Rattle.uni_table.proofs.Listed.{none_in_nil, first_or_later, first_is, later_is}
use Rattle.uni_meaning.specs.Hits.{edge_to, is_among, leads_to, operands, target_of}
use Rattle.uni_meaning.specs.Laws.{PrefixIsOr}
use Rattle.uni_meaning.specs.Lineages.{under_one}
use Rattle.uni_meaning.specs.Prefixes.{prefix_keys}
use Rattle.uni_meaning.specs.SpelledOut.{terms_of}

-- filters by tests that agree on the items of a list leave the same
pub agreed : (p q : DocKey → Bool) (xs : List DocKey) → ((x : DocKey) → Contains xs x → p x ≡ q x) → filter p xs ≡ filter q xs
agreed p q [] agree = refl
agreed p q (x ∷ xs) agree =
    let rest = agreed p q xs (λ y h. agree y (later_is x xs y h)) in
    λ i. cond (agree x (first_is x xs) i) (x ∷ rest i) (rest i)

-- a filter that lets nothing pass
none_passes : (xs : List DocKey) → filter (λ x. false) xs ≡ []
none_passes [] = refl
none_passes (x ∷ xs) = none_passes xs

module _ (p : DocKey → Bool) (k : DocKey) where
  -- what passes is among what a filter leaves of its list
  passes : (xs : List DocKey) → Contains xs k → p k ≡ true → is_among (filter p xs) k ≡ true
  passes [] h e = absurd (none_in_nil k h)
  passes (z ∷ xs) h e = by (p z) refl (first_or_later z xs k h) (λ later. passes xs later e)
    where
      either : (b : Bool) → (b || true) ≡ true
      either true = refl
      either false = refl

      by : (b : Bool) → p z ≡ b → (z ≡ k) ⊎ Contains xs k → (Contains xs k → is_among (filter p xs) k ≡ true) → is_among (cond b (z ∷ filter p xs) (filter p xs)) k ≡ true
      by true f (inl same) rest = ap (λ b. b || is_among (filter p xs) k) (is_eq_same k z (sym same))
      by true f (inr later) rest = ap (λ b. is_eq (doc_cmp k z) || b) (rest later) ∙ either (is_eq (doc_cmp k z))
      by false f (inl same) rest = let no_way : false ≡ true = sym f ∙ ap p same ∙ e in absurd cc
      by false f (inr later) rest = rest later

  -- what does not pass is not
  fails : (xs : List DocKey) → p k ≡ false → is_among (filter p xs) k ≡ false
  fails [] e = refl
  fails (z ∷ xs) e = by (p z) refl (is_eq (doc_cmp k z)) refl (fails xs e)
    where
      by : (b : Bool) → p z ≡ b → (c : Bool) → is_eq (doc_cmp k z) ≡ c → is_among (filter p xs) k ≡ false → is_among (cond b (z ∷ filter p xs) (filter p xs)) k ≡ false
      by true f true g rest = let no_way : true ≡ false = sym f ∙ ap p (sym (same_from_is_eq k z g)) ∙ e in absurd cc
      by true f false g rest = ap (λ b. b || is_among (filter p xs) k) g ∙ rest
      by false f c g rest = rest

  pub among_left : (xs : List DocKey) → Contains xs k → is_among (filter p xs) k ≡ p k
  among_left xs h = by (p k) refl
    where
      by : (b : Bool) → p k ≡ b → is_among (filter p xs) k ≡ p k
      by true e = passes xs h e ∙ sym e
      by false e = fails xs e ∙ sym e

module _ (schema : Declarations) (table : Contents) (number : ℕ) where
  -- some term's operand has an entity of the shard where some word's edge leads to it
  some_has : (shard : ℕ) (words : List (List ℕ)) (k : DocKey) → Contains (ranked schema table (target_of schema number) shard) k
      → list_any (λ word. leads_to table number (Word word) k) words ≡ list_any (λ (o : Walker DocKey). o.has k) (operands schema table (terms_of number words) shard)
  some_has shard [] k h = refl
  some_has shard (word ∷ words) k h = λ i. sym (among_left (leads_to table number (Word word)) k (ranked schema table (target_of schema number) shard) h) i || some_has shard words k h i

  -- the terms' lineages of an entity are the words' edges to it
  terms_lines : (words : List (List ℕ)) (x : DocKey) → Contains (ranked schema table (target_of schema number) (shard_of schema (target_of schema number) x.id)) x
      → map (λ word. edge_to number (Word word) x.id ∷ []) (filter (λ word. leads_to table number (Word word) x) words) ≡ under_one schema table (terms_of number words) x
  terms_lines [] x h = refl
  terms_lines (word ∷ words) x h =
      by (leads_to table number (Word word) x) (terms_lines words x h)
      ∙ ap (λ b. if b then own (leads_to table number (Word word) x) ++ under_one schema table (terms_of number words) x else under_one schema table (terms_of number words) x)
      (sym (among_left (leads_to table number (Word word)) x (ranked schema table (target_of schema number) (shard_of schema (target_of schema number) x.id)) h))
    where
      line : List ℕ → List EdgeRef
      line w = edge_to number (Word w) x.id ∷ []

      own : Bool → List (List EdgeRef)
      own b = if b then line word ∷ [] else []

      left : List (List ℕ)
      left = filter (λ w. leads_to table number (Word w) x) words

      by : (b : Bool) → map line left ≡ under_one schema table (terms_of number words) x
          → map line (cond b (word ∷ left) left) ≡ (if b then own b ++ under_one schema table (terms_of number words) x else under_one schema table (terms_of number words) x)
      by true rest = ap (λ (ls : List (List EdgeRef)). line word ∷ ls) rest
      by false rest = rest

pub prefix_is_or : PrefixIsOr
prefix_is_or = record {
  nothing = λ schema table number shard from none.
      ap (λ (words : List (List ℕ)). filter (λ k. list_any (λ word. leads_to table number (Word word) k) words) (ranked schema table (target_of schema number) shard)) none
      ∙ none_passes (ranked schema table (target_of schema number) shard);
  found = λ schema table number shard from first others keys.
      ap (λ (words : List (List ℕ)). filter (λ k. list_any (λ word. leads_to table number (Word word) k) words) (ranked schema table (target_of schema number) shard)) keys
      ∙ agreed (λ k. list_any (λ word. leads_to table number (Word word) k) (first ∷ others)) (λ k. list_any (λ (o : Walker DocKey). o.has k) (operands schema table (terms_of number (first ∷ others)) shard))
      (ranked schema table (target_of schema number) shard) (some_has schema table number shard (first ∷ others));
  by_lineages = λ schema table number from x h. terms_lines schema table number (prefix_keys table number from) x h;
}
