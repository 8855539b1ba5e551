-- The edges that reach an id, as a walk comes by them.
use Rattle.std.proofs.Common.{◌≡◌, ◌≤◌, ◌<◌, ◌⊎◌, ◌==◌, ◌||◌, not, if◌then◌else◌, inl, inr, ⊎_elim, Option, ◌++◌, ℕ, suc, nat_lt, Bool, true, false, List, Some, None, refl, sym, ◌∙◌, ap, length, take, slice_get, arith, true≢false}
use Rattle.std.specs.Map.{keys_of}
use Rattle.std.proofs.lemmas.Bool.Decides.{nat_tests}
use Rattle.std.proofs.lemmas.List.{take_all}
use Rattle.std.proofs.lemmas.List.Elements.{Contains-append_left, Contains-append_right}
use Rattle.std.specs.List.{Contains}
use Rattle.std.specs.Option.{option_and_then, option_map_or}
use Rattle.std.proofs.lemmas.Map.Entries.{length-keys_of}
use Rattle.std.proofs.lemmas.Option.{slice_get_within}
use Rattle.chained_rows.specs.Chains.{last_no}
use Rattle.uni_base.specs.declared.entity.Rank.{Rank}
use Rattle.uni_table.specs.GraphChanges.{IsLed, IsLedByMoved, AreAffected, moved_at, untouched_at, ranks_differ, ranks_of, no_ranks, rank_of, rank_differs, is_affected, is_changed, is_other}
use Rattle.uni_table.specs.GraphRows.{IsRows, entity_then_of, is_live, is_same, is_same_entity, has_at, next_at, last_at}
use Rattle.uni_table.specs.declared.command.EntityRow.{EntityRow}
use Rattle.uni_table.specs.declared.graph.numbers.Before.{Before}
use Rattle.uni_table.specs.declared.graph.numbers.Before.TheVariants as before
use Rattle.uni_table.specs.declared.graph.numbers.EntityBefore.{EntityBefore}
use Rattle.uni_table.specs.declared.graph.numbers.EntityBefore.TheVariants as entity_then
use Rattle.uni_table.specs.declared.graph.numbers.Node.{Node}
use Rattle.uni_table.specs.declared.graph.numbers.SlotState.{SlotState}
use Rattle.uni_table.specs.declared.graph.numbers.EdgeNo.{EdgeNo}
use Rattle.uni_table.specs.declared.graph.numbers.Slot.{Slot}
use Rattle.uni_table.specs.declared.graph.numbers.Side.TheVariants.{Target}
use Rattle.uni_table.specs.declared.graph.rows.Rows.{Rows}
use Rattle.uni_table.proofs.GraphPlaces.{key-at}
use Rattle.uni_table.proofs.GraphWalks.{IsAlong, last_no-past, next-is}

module _ (rows : Rows) (kept : IsRows rows) (q : ℕ) where
  pub led-start : (place : ℕ) → IsLed rows q place → last_at Target rows q ≤ place → ⊥
  led-start place led le =
      let all : last_no (has_at Target q) (take (length (keys_of rows.edges.entries)) (keys_of rows.edges.entries)) ≡ last_at Target rows q =
      ap (last_no (has_at Target q)) (take_all (length (keys_of rows.edges.entries)) (keys_of rows.edges.entries) (omega arith)) ∙ sym (kept.lasts Target q) in
      true≢false (sym led.2 ∙ last_no-past (has_at Target q) (keys_of rows.edges.entries) (length (keys_of rows.edges.entries)) place led.0.0 (key-at rows.edges.entries place led.0 led.1)
      (omega (arith, slice_get_within rows.edges.entries place led.0 led.1, length-keys_of rows.edges.entries)) (omega (arith, all, le)))

  module _ (number i : ℕ) (here : number ≡ suc i) (along : IsAlong rows Target q number) (e : EdgeNo × Slot) (at : slice_get rows.edges.entries i ≡ Some e) where
    -- the next one on a walk is here or past where it was
    pub led-next : (place : ℕ) → IsLed rows q place → next_at Target e.1 ≤ place → (i ≡ place) ⊎ (i < place)
    led-next place led le = by (nat_lt i place) refl
      where
        passed : i ≤ place
        passed = below (nat_lt place i) refl
          where
            below : (b : Bool) → nat_lt place i ≡ b → i ≤ place
            below false test = grind (arith, nat_tests)
            below true test =
                let lt : place < i = grind (arith, nat_tests) in
                absurd (true≢false (sym led.2 ∙ last_no-past (has_at Target q) (keys_of rows.edges.entries) i place led.0.0 (key-at rows.edges.entries place led.0 led.1) lt
                (omega (arith, le, next-is rows kept Target q number i here along e at))))

        by : (b : Bool) → nat_lt i place ≡ b → (i ≡ place) ⊎ (i < place)
        by true test = inr (grind (arith, nat_tests))
        by false test = inl (let back : place ≤ i = grind (arith, nat_tests) in omega (arith, back, passed))

-- an edge that differs was touched
other-touched : (b : Before) (state : SlotState) (end : ℕ) → is_other b state end ≡ true → is_same b ≡ false
other-touched before.Same state end is = cc
other-touched before.Gone state end is = refl
other-touched (before.Public until) state end is = refl
other-touched (before.Only until) state end is = refl
other-touched (before.Circle n until) state end is = refl

-- so was an id with another rank
itself : (rank : Option Rank) → rank_differs rank rank ≡ false
itself None = refl
itself (Some rank) = ap not (let same : (rank.0 == rank.0) ≡ true = grind (arith, nat_tests) in same)

moved-touched : (b : EntityBefore) (row : Option EntityRow) → rank_differs (rank_of (entity_then_of b row)) (rank_of row) ≡ true → is_same_entity b ≡ false
moved-touched entity_then.Same row is = absurd (true≢false (sym is ∙ itself (rank_of row)))
moved-touched entity_then.Absent row is = refl
moved-touched (entity_then.Present before) row is = refl

-- what is affected differs itself, or leads to an id with another rank
pub affected-cases : (rows : Rows) (e : EdgeNo × Slot) → is_affected rows e ≡ true → (is_changed e.1 ≡ true) ⊎ ((is_live e.1.state ≡ true) × (moved_at rows e.0.target ≡ true))
affected-cases rows e is = by (is_changed e.1) refl (is_live e.1.state) refl is
  where
    by : (a : Bool) → is_changed e.1 ≡ a → (b : Bool) → is_live e.1.state ≡ b → (a || (if b then moved_at rows e.0.target else false)) ≡ true → (is_changed e.1 ≡ true) ⊎ ((is_live e.1.state ≡ true) × (moved_at rows e.0.target ≡ true))
    by true changed b live h = inl changed
    by false changed true live h = inr (live, h)
    by false changed false live h = cc

-- an edge that the batch has not touched is added with its place
pub led-added : (rows : Rows) (number place : ℕ) → IsLed rows number place → untouched_at rows place ≡ Some place
led-added rows number place led =
    ap (option_and_then (λ e. if is_same e.1.before then Some place else None)) led.1 ∙ ap (λ b. if b then Some place else None) led.3

-- the places of touched edges and of the others that reach ids with other ranks are those of all that are affected
pub all-affected : (rows : Rows) → IsRows rows → (others : List ℕ) → ((place : ℕ) → IsLedByMoved rows rows.touched_ids.items place → Contains others place) → AreAffected rows (others ++ rows.touched_edges.items)
all-affected rows kept others adds place e at is = by (is_same e.1.before) refl
  where
    touched : (number : ℕ) → moved_at rows number ≡ true → Contains rows.touched_ids.items number
    touched number moved = by (slice_get rows.ids.entries number) refl moved
      where
        by : (o : Option (ℕ × Node)) → slice_get rows.ids.entries number ≡ o → ranks_differ (option_map_or (λ n. ranks_of n.1) o no_ranks) ≡ true → Contains rows.touched_ids.items number
        by None there h = cc
        by (Some n) there h = kept.touched_ids.listed number n there (moved-touched n.1.before n.1.row h)

    by : (b : Bool) → is_same e.1.before ≡ b → Contains (others ++ rows.touched_edges.items) place
    by false other = Contains-append_right others rows.touched_edges.items place (kept.touched_edges.listed place e at other)
    by true same =
        Contains-append_left others rows.touched_edges.items place
        (⊎_elim
        (λ changed. absurd (true≢false (sym same ∙ other-touched e.1.before e.1.state e.1.end changed)))
        (λ led. adds place ((e.0.target, touched e.0.target led.1, led.1, (e, at, grind (arith, nat_tests), same))))
        (affected-cases rows e is))
