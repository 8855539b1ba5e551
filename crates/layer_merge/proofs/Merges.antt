-- The first layers of a stack as one layer.
use Rattle.std.proofs.Common.{◌≡◌, ℕ, List, ◌∷◌, take, drop, Option, None, Some, cond, is_some, refl, sym, ◌∙◌, ap}
use Rattle.std.specs.FinMap as finite
use Rattle.std.proofs.lemmas.List.{take-append-drop}
use Rattle.uni_base.specs.declared.edge.Audience.{Audience}
use Rattle.layer_base.specs.Lookups.{either}
use Rattle.layer_base.specs.Layers.{layer_over, stack_over, stack_table}
use Rattle.layer_base.proofs.Tables.{get-layer_over, stack_over-append}
use Rattle.layer_stack.specs.declared.place.Place.{Place}
use Rattle.layer_stack.specs.Places.{place_cmp}
use Rattle.layer_stack.specs.Postings.{PostingTable, PostingChanges, putting_all}
use Rattle.layer_stack.proofs.Order.{place_total, place_apart}

-- over nothing, a layer that puts a table stands for the table
over_nothing : (table : PostingTable) → layer_over finite.empty (putting_all table) ≡ table
over_nothing table =
    finite.same_map place_total place_apart (layer_over finite.empty (putting_all table)) table
    (λ q. get-layer_over place_total place_apart finite.empty (putting_all table) q
    ∙ (λ i. either (finite.get table q) (nothing q i)) ∙ either_none (finite.get table q))
  where
    nothing : (q : Place) → cond (finite.contains_key (finite.empty {X = Unit {0}} {R = place_cmp}) q) None (finite.get (finite.empty {X = Audience} {R = place_cmp}) q) ≡ None
    nothing q = (λ i. cond (is_some (finite.get-empty {X = Unit {0}} place_cmp q i)) None (finite.get-empty {X = Audience} place_cmp q i))

    either_none : (o : Option Audience) → either o None ≡ o
    either_none None = refl
    either_none (Some a) = refl

-- the first layers as one, in their place
pub front_same : (layers : List PostingChanges) (n : ℕ) → stack_table (putting_all (stack_table (take n layers)) ∷ drop n layers) ≡ stack_table layers
front_same layers n =
    ap (λ table. stack_over table (drop n layers)) (over_nothing (stack_table (take n layers)))
    ∙ sym (stack_over-append finite.empty (take n layers) (drop n layers)) ∙ ap stack_table (take-append-drop n layers)
