-- Chains that are walked side by side: each place that is passed is followed by the one before it.
use Rattle.std.proofs.Common.{◌≡◌, ◌≤◌, ◌<◌, ◌+◌, ◌++◌, ◌∷◌, [], ⊎_elim, get_or, ℕ, zero, suc, nat_lt, Bool, true, false, List, Option, None, Some, refl, sym, ◌∙◌, ap, subst, length, take, drop, slice_get, arith, append_assoc, length-take, if◌then◌else◌}
use Rattle.std.proofs.lemmas.Bool.Decides.{nat_tests}
use Rattle.std.proofs.lemmas.List.Elements.{Contains-append_left, Contains-append_right, filter_map-append}
use Rattle.std.specs.List.{Contains, cons_option, filter_map}
use Rattle.std.specs.Map.{keys_of}
use Rattle.std.specs.Bool.{⊤}
use Rattle.std.specs.Option.{option_and_then, option_to_list}
use Rattle.chained_rows.proofs.Chains.{last_no-le}
use Rattle.uni_table.specs.GraphChanges.{IsLed, IsLedByMoved, earlier_at, moved_at, moved_last_at, place_of, untouched_at}
use Rattle.uni_table.specs.GraphRows.{IsRows, has_at, last_at, next_at, no_at}
use Rattle.uni_table.specs.declared.graph.numbers.EdgeNo.{EdgeNo}
use Rattle.uni_table.specs.declared.graph.numbers.Slot.{Slot}
use Rattle.uni_table.specs.declared.graph.numbers.Side.TheVariants.{Target}
use Rattle.uni_table.specs.declared.graph.rows.Rows.{Rows}
use Rattle.uni_table.proofs.Filters.{listed-option}
use Rattle.uni_table.proofs.GraphLed.{led-added, led-next, led-start}
use Rattle.uni_table.proofs.GraphPlaces.{entry-at}
use Rattle.uni_table.proofs.GraphWalks.{IsAlong, along-next, along-start, along-within, next-le}

-- the sum of places, each counted from 1: how far a walk can go yet
abbrev pub weight : List ℕ → ℕ
weight [] = 0
weight (x ∷ xs) = suc x + weight xs

weight-append : (xs ys : List ℕ) → weight (xs ++ ys) ≡ weight xs + weight ys
weight-append [] ys = omega arith
weight-append (x ∷ xs) ys = omega (arith, weight-append xs ys)

-- the next place of a walk is an earlier one
abbrev pub IsEarlier : ℕ → Option ℕ → Type 0
IsEarlier x None = ⊤
IsEarlier x (Some y) = y < x

-- so a step makes it less
pub weight-step : (xs : List ℕ) (i x : ℕ) (o : Option ℕ) → i < length xs → x ≡ get_or xs i x → IsEarlier x o → weight (drop (suc i) (xs ++ option_to_list o)) < weight (drop i xs)
weight-step [] i x o below is less = absurd (omega (arith, below))
weight-step (z ∷ zs) zero x o below is less = by o less
  where
    by : (r : Option ℕ) → IsEarlier x r → weight (zs ++ option_to_list r) < suc z + weight zs
    by None earlier = omega (arith, weight-append zs [], is)
    by (Some y) earlier = omega (arith, weight-append zs (y ∷ []), is, earlier)
weight-step (z ∷ zs) (suc i) x o below is less = weight-step zs i x o (omega (arith, below)) is less

-- an item more of a list that grows at its end
pub take-on : {X : Type 0} (xs more : List X) (i : ℕ) (x : X) → i < length xs → x ≡ get_or xs i x → take (suc i) (xs ++ more) ≡ take i xs ++ x ∷ []
take-on [] more i x below is = absurd (omega (arith, below))
take-on (y ∷ ys) more zero x below is = ap (λ z. z ∷ []) (sym is)
take-on (y ∷ ys) more (suc i) x below is = ap (λ zs. y ∷ zs) (take-on ys more i x (omega (arith, below)) is)

-- what is picked of the places that a walk has passed, with one more
pub picked-on : {X Y : Type 0} (f : X → Option Y) (old now : List Y) (xs more : List X) (i : ℕ) (x : X) → i < length xs → x ≡ get_or xs i x → now ≡ old ++ filter_map f (take i xs)
    → now ++ option_to_list (f x) ≡ old ++ filter_map f (take (suc i) (xs ++ more))
picked-on {X} {Y} f old now xs more i x below is so_far =
    ap (λ ys. ys ++ option_to_list (f x)) so_far
    ∙ append_assoc old (filter_map f (take i xs)) (option_to_list (f x))
    ∙ ap (λ ys. old ++ ys) (ap (λ ys. filter_map f (take i xs) ++ ys) (listed-option (f x)) ∙ sym (filter_map-append f (take i xs) (x ∷ [])) ∙ ap (filter_map f) (sym (take-on xs more i x below is)))

-- what is picked by an item of a list
pub picked-contains : {X Y : Type 0} (f : X → Option Y) (xs : List X) (x : X) (y : Y) → Contains xs x → f x ≡ Some y → Contains (filter_map f xs) y
picked-contains f [] x y there some = absurd (omega (arith, there.1))
picked-contains {X} {Y} f (z ∷ zs) x y (zero, below, is) some =
    subst (λ o. Contains (cons_option o (filter_map f zs)) y) (sym (ap f is ∙ some)) (0, omega arith, refl)
picked-contains {X} {Y} f (z ∷ zs) x y (suc k, below, is) some = by (picked-contains f zs x y (k, omega (arith, below), is) some) (f z)
  where
    by : Contains (filter_map f zs) y → (o : Option Y) → Contains (cons_option o (filter_map f zs)) y
    by later None = later
    by later (Some w) = Contains-append_right (w ∷ []) (filter_map f zs) y later

module _ (rows : Rows) (kept : IsRows rows) where
  -- the edge before one lies at an earlier place
  pub before-earlier : (place : ℕ) → IsEarlier place (earlier_at rows place)
  before-earlier place = by (slice_get rows.edges.entries place) refl
    where
      at_edge : (e : EdgeNo × Slot) → slice_get rows.edges.entries place ≡ Some e → (n : ℕ) → next_at Target e.1 ≡ n → IsEarlier place (place_of n)
      at_edge e at zero next = tt
      at_edge e at (suc n) next =
          omega (arith, next, kept.chains Target place e at, last_no-le (has_at Target (no_at Target e.0)) (take place (keys_of rows.edges.entries)), length-take place (keys_of rows.edges.entries))

      by : (o : Option (EdgeNo × Slot)) → slice_get rows.edges.entries place ≡ o → IsEarlier place (option_and_then (λ e. place_of e.1.next_into) o)
      by None at = tt
      by (Some e) at = at_edge e at (next_at Target e.1) refl

  module _ (numbers walk : List ℕ) (closed : walk ≡ filter_map (moved_last_at rows) numbers ++ filter_map (earlier_at rows) walk) where
    -- with a place a walk has the one before it
    follows : (place next : ℕ) → Contains walk place → earlier_at rows place ≡ Some next → Contains walk next
    follows place next there is =
        subst (λ ys. Contains ys next) (sym closed) (Contains-append_right (filter_map (moved_last_at rows) numbers) (filter_map (earlier_at rows) walk) next (picked-contains (earlier_at rows) walk place next there is))

    -- and all those behind it that reach its target
    reached : (n r number place : ℕ) → r < n → IsAlong rows Target number (suc r) → IsLed rows number place → Contains walk r → place ≤ r → Contains walk place
    reached zero r number place below along led there le = absurd (omega (arith, below))
    reached (suc n) r number place below along led there le =
        by (λ m less next_along next_there next_le. reached n m number place less next_along led next_there next_le) (nat_lt place r) refl
      where
        e : (e : EdgeNo × Slot) × (slice_get rows.edges.entries r ≡ Some e)
        e = entry-at rows.edges.entries r (along-within rows kept Target number (suc r) r refl along)

        Further : Type 0
        Further = (m : ℕ) → m < n → IsAlong rows Target number (suc m) → Contains walk m → place ≤ m → Contains walk place

        behind : place < r → (m : ℕ) → next_at Target e.0.1 ≡ m → m ≤ place → ⊥
        behind less m next past =
            ⊎_elim (λ same. omega (arith, same, less)) (λ beyond. omega (arith, beyond, less)) (led-next rows kept number (suc r) r refl along e.0 e.1 place led (omega (arith, next, past)))

        short : place < r → (m : ℕ) → next_at Target e.0.1 ≡ suc m → (b : Bool) → nat_lt m place ≡ b → place ≤ m
        short less m next false test = grind (arith, nat_tests)
        short less m next true test = absurd (behind less (suc m) next (let past : m < place = grind (arith, nat_tests) in past))

        on : Further → place < r → (m : ℕ) → next_at Target e.0.1 ≡ m → Contains walk place
        on further less zero next = absurd (behind less zero next (omega arith))
        on further less (suc m) next = further m
            (omega (arith, next, below, next-le rows kept Target number (suc r) r refl along e.0 e.1))
            (subst (IsAlong rows Target number) next (along-next rows kept Target number (suc r) r refl along e.0 e.1))
            (follows r m there (ap (option_and_then (λ s. place_of s.1.next_into)) e.1 ∙ ap place_of next))
            (short less m next (nat_lt m place) refl)

        by : Further → (b : Bool) → nat_lt place r ≡ b → Contains walk place
        by further true test = on further (grind (arith, nat_tests)) (next_at Target e.0.1) refl
        by further false test = subst (Contains walk) (let back : r ≤ place = grind (arith, nat_tests) in omega (arith, back, le)) there

    -- so it passes all that are led to
    walked : (number place : ℕ) → Contains numbers number → moved_at rows number ≡ true → IsLed rows number place → Contains walk place
    walked number place there moved led = by (last_at Target rows number) refl
      where
        by : (n : ℕ) → last_at Target rows number ≡ n → Contains walk place
        by zero last = absurd (led-start rows kept number place led (omega (arith, last)))
        by (suc r) last = reached (suc r) r number place (omega arith)
            (subst (IsAlong rows Target number) last (along-start rows kept Target number))
            led
            (subst (λ ys. Contains ys r) (sym closed) (Contains-append_left (filter_map (moved_last_at rows) numbers) (filter_map (earlier_at rows) walk) r
            (picked-contains (moved_last_at rows) numbers number r there (ap (λ b. if b then place_of (last_at Target rows number) else None) moved ∙ ap place_of last))))
            (short (nat_lt r place) refl)
          where
            short : (b : Bool) → nat_lt r place ≡ b → place ≤ r
            short false test = grind (arith, nat_tests)
            short true test =
                let past : r < place = grind (arith, nat_tests) in
                absurd (led-start rows kept number place led (omega (arith, last, past)))

    -- and the untouched ones among those that it passes are those that are led to
    pub whole-walked : (place : ℕ) → IsLedByMoved rows numbers place → Contains (filter_map (untouched_at rows) walk) place
    whole-walked place led = picked-contains (untouched_at rows) walk place place (walked led.0 place led.1 led.2 led.3) (led-added rows led.0 place led.3)
