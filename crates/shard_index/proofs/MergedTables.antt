-- Layers of a stack as one, over any order of keys.
use Rattle.std.proofs.Common.{◌≡◌, ℕ, ◌+◌, List, [], ◌∷◌, ◌++◌, take, drop, Option, None, Some, cond, is_some, refl, sym, ◌∙◌, ap, slice_get}
use Rattle.std.specs.Cmp.{IsTotalOrder}
use Rattle.std.specs.FinMap as finite
use Rattle.std.specs.declared.cmp.Ordering.{Ordering}
use Rattle.std.proofs.lemmas.List.{take_more, take-append-drop}
use Rattle.std.proofs.lemmas.Option.{get_or_from_slice_get, slice_get_within}
use Rattle.layer_base.specs.Lookups.{either}
use Rattle.layer_base.specs.Layers.{TellsApart, Changes, layer_over, stack_over, stack_table}
use Rattle.layer_base.specs.Changes.{after, in_turn}
use Rattle.layer_base.proofs.Tables.{get-layer_over, stack_over-append}
use Rattle.layer_base.proofs.Changes.{after-append, after-in_turn}

module _ {K X : Type 0} {R : K → K → Ordering} where
  -- a layer that puts a table and deletes nothing
  abbrev pub putting : finite.FinMap R X → Changes R X
  putting table = record { deletes = finite.empty; puts = table }

  -- one layer more
  pub stack_more : (layers : List (Changes R X)) (i : ℕ) (layer : Changes R X) → slice_get layers i ≡ Some layer → stack_table (take (i + 1) layers) ≡ layer_over (stack_table (take i layers)) layer
  stack_more layers i layer at =
      ap stack_table (take_more layers i layer (slice_get_within layers i layer at) ∙ ap (λ x. take i layers ++ x ∷ []) (get_or_from_slice_get layers i layer layer at)) ∙ stack_over-append finite.empty (take i layers) (layer ∷ [])

module _ {K X : Type 0} {R : K → K → Ordering} (o : IsTotalOrder R) (apart : TellsApart R) where
  either_none : (answer : Option X) → either answer None ≡ answer
  either_none None = refl
  either_none (Some x) = refl

  -- over nothing, a layer that puts a table stands for the table
  pub over_nothing : (table : finite.FinMap R X) → layer_over finite.empty (putting table) ≡ table
  over_nothing table =
      finite.same_map o apart (layer_over finite.empty (putting table)) table
      (λ q. get-layer_over o apart finite.empty (putting table) q ∙ (λ i. either (finite.get table q) (nothing q i)) ∙ either_none (finite.get table q))
    where
      nothing : (q : K) → cond (finite.contains_key (finite.empty {X = Unit {0}} {R = R}) q) None (finite.get (finite.empty {X = X} {R = R}) q) ≡ None
      nothing q = λ i. cond (is_some (finite.get-empty {X = Unit {0}} R q i)) None (finite.get-empty {X = X} R q i)

  -- a layer that changes nothing
  pub over_unchanged : (table : finite.FinMap R X) → layer_over table (putting finite.empty) ≡ table
  over_unchanged table =
      finite.same_map o apart (layer_over table (putting finite.empty)) table
      (λ q. get-layer_over o apart table (putting finite.empty) q
      ∙ (λ i. either (finite.get-empty {X = X} R q i) (cond (is_some (finite.get-empty {X = Unit {0}} R q i)) None (finite.get table q))))

  -- the first layers as one, in their place
  pub front_same : (layers : List (Changes R X)) (n : ℕ) → stack_table (putting (stack_table (take n layers)) ∷ drop n layers) ≡ stack_table layers
  front_same layers n =
      ap (λ table. stack_over table (drop n layers)) (over_nothing (stack_table (take n layers)))
      ∙ sym (stack_over-append finite.empty (take n layers) (drop n layers)) ∙ ap stack_table (take-append-drop n layers)

  -- the changes of one more layer
  pub logged_more : (layers : List (Changes R X)) (i : ℕ) (layer : Changes R X) (log : List (K × Option X)) → after finite.empty log ≡ stack_table (take i layers) → slice_get layers i ≡ Some layer
      → after finite.empty (log ++ in_turn layer) ≡ stack_table (take (i + 1) layers)
  logged_more layers i layer log so_far at =
      after-append finite.empty log (in_turn layer) ∙ ap (λ table. after table (in_turn layer)) so_far ∙ after-in_turn o apart (stack_table (take i layers)) layer ∙ sym (stack_more layers i layer at)
