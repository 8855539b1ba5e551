-- What a table has under a term, some layer of its stack puts.
use Rattle.std.proofs.Common.{◌≡◌, ℕ, Bool, true, false, cond, ◌||◌, List, [], ◌∷◌, ◌++◌, ◌+◌, length, map, filter, take, None, Some, is_some, refl, sym, ◌∙◌, ap, arith}
use Rattle.std.specs.List.{list_any, slice_get}
use Rattle.std.specs.FinMap as finite
use Rattle.std.specs.FinMap.Entries.{find}
use Rattle.std.proofs.lemmas.List.{take_more}
use Rattle.std.proofs.lemmas.List.Folds.{list_any-append}
use Rattle.std.proofs.lemmas.Option.{get_or_from_slice_get, slice_get_within}
use Rattle.uni_base.specs.declared.edge.Audience.{Audience}
use Rattle.uni_base.specs.declared.entity.DocKey.{DocKey}
use Rattle.uni_base.specs.RankOrder.{doc_cmp}
use Rattle.uni_base.specs.KeySets.{has_key}
use Rattle.layer_base.specs.Lookups.{either}
use Rattle.layer_base.specs.Layers.{layer_over, stack_over, stack_table}
use Rattle.layer_stack.specs.declared.place.TermKey.{TermKey}
use Rattle.layer_stack.specs.Places.{place_cmp}
use Rattle.layer_stack.specs.Postings.{PostingTable, PostingChanges, is_under, place_of, posting_of, key_of, postings_of}
use Rattle.layer_stack.specs.Stacks.{entry_of, posting_at}
use Rattle.layer_stack.specs.Words.{has_term}
use Rattle.layer_stack.proofs.Terms.{get-layer, parts_stand}
use Rattle.prefix_terms.specs.Occurring.{occurs_in}

-- neither of two
first_none : (a b : Bool) → (a || b) ≡ false → a ≡ false
first_none true b e = cc
first_none false b e = refl

second_none : (a b : Bool) → (a || b) ≡ false → b ≡ false
second_none true b e = cc
second_none false b e = e

nothing_passes : {X : Type 0} (p : X → Bool) (xs : List X) → list_any p xs ≡ false → filter p xs ≡ []
nothing_passes p [] none = refl
nothing_passes {X} p (x ∷ xs) none = λ i. cond (first_none (p x) (list_any p xs) none i) (x ∷ filter p xs) (nothing_passes p xs (second_none (p x) (list_any p xs) none) i)

-- whether something passes, by what is left of it
pub list_any-left : {X Y : Type 0} (p : X → Bool) (f : X → Y) (xs : List X) → list_any p xs ≡ is_some (slice_get (map f (filter p xs)) 0)
list_any-left p f [] = refl
list_any-left p f (x ∷ xs) =
    elim (p x) as (λ b. (b || list_any p xs) ≡ is_some (slice_get (map f (cond b (x ∷ filter p xs) (filter p xs))) 0)) [ true ↦ refl | false ↦ list_any-left p f xs ]

pub some_first-map : {X Y : Type 0} (f : X → Y) (xs : List X) → is_some (slice_get (map f xs) 0) ≡ is_some (slice_get xs 0)
some_first-map f [] = refl
some_first-map f (x ∷ xs) = refl

module _ (t : TermKey) (k : DocKey) where
  -- a layer without the term leaves it as it is
  layer_keeps : (table : PostingTable) (layer : PostingChanges) → has_term t layer ≡ false → finite.get (layer_over table layer) (place_of t k) ≡ finite.get table (place_of t k)
  layer_keeps table layer none =
      let deletes = nothing_passes (is_under t) (finite.entries layer.deletes) (first_none (list_any (is_under t) (finite.entries layer.deletes)) (list_any (is_under t) (finite.entries layer.puts)) none) in
      let puts = nothing_passes (is_under t) (finite.entries layer.puts) (second_none (list_any (is_under t) (finite.entries layer.deletes)) (list_any (is_under t) (finite.entries layer.puts)) none) in
      get-layer t k table layer ∙ (λ i. either (find doc_cmp k (map entry_of (map posting_of (puts i)))) (cond (has_key (map key_of (deletes i)) k) None (finite.get table (place_of t k))))

  stack_keeps : (table : PostingTable) (layers : List PostingChanges) → occurs_in layers t ≡ false → finite.get (stack_over table layers) (place_of t k) ≡ finite.get table (place_of t k)
  stack_keeps table [] none = refl
  stack_keeps table (layer ∷ layers) none =
      stack_keeps (layer_over table layer) layers (second_none (has_term t layer) (list_any (has_term t) layers) none) ∙ layer_keeps table layer (first_none (has_term t layer) (list_any (has_term t) layers) none)

no_entries : finite.entries (finite.empty {X = Audience} {R = doc_cmp}) ≡ []
no_entries = by (finite.entries (finite.empty {X = Audience} {R = doc_cmp})) (sym (finite.len-entries (finite.empty {X = Audience} {R = doc_cmp})) ∙ finite.len-empty doc_cmp Audience)
  where
    by : (es : List (DocKey × Audience)) → length es ≡ 0 → es ≡ []
    by [] e = refl
    by (x ∷ xs) e = absurd (omega arith)

nothing_there : (t : TermKey) (layers : List PostingChanges) → occurs_in layers t ≡ false → postings_of t (stack_table layers) ≡ []
nothing_there t layers none =
    sym (parts_stand t [] (stack_table layers) (λ k. finite.get-empty doc_cmp k ∙ sym (stack_keeps t k finite.empty layers none ∙ finite.get-empty place_cmp (place_of t k))))
    ∙ ap (map posting_at) no_entries

-- a term under which the table has something occurs in a layer
pub occurs_from_table : (t : TermKey) (layers : List PostingChanges) → list_any (is_under t) (finite.entries (stack_table layers)) ≡ true → occurs_in layers t ≡ true
occurs_from_table t layers has = by (occurs_in layers t) refl
  where
    by : (b : Bool) → occurs_in layers t ≡ b → b ≡ true
    by true e = refl
    by false e =
        let none : list_any (is_under t) (finite.entries (stack_table layers)) ≡ false = list_any-left (is_under t) posting_of (finite.entries (stack_table layers)) ∙ ap (λ ps. is_some (slice_get ps 0)) (nothing_there t layers e) in
        sym none ∙ has

-- one layer more
pub occurs-more : (layers : List PostingChanges) (i : ℕ) (layer : PostingChanges) (t : TermKey) → slice_get layers i ≡ Some layer → (occurs_in (take i layers) t || has_term t layer) ≡ occurs_in (take (i + 1) layers) t
occurs-more layers i layer t at =
    sym (ap (list_any (has_term t)) (take_more layers i layer (slice_get_within layers i layer at) ∙ ap (λ x. take i layers ++ x ∷ []) (get_or_from_slice_get layers i layer layer at))
    ∙ list_any-append (has_term t) (take i layers) (layer ∷ []) ∙ ap (λ b. occurs_in (take i layers) t || b) (or_false (has_term t layer)))
  where
    or_false : (b : Bool) → (b || false) ≡ b
    or_false true = refl
    or_false false = refl
