-- A walk along chains side by side comes by each edge once.
use Rattle.std.proofs.Common.{◌≡◌, ◌<◌, ◌++◌, ◌∷◌, [], ⊎_elim, ◌||◌, ◌&&◌, if◌then◌else◌, ℕ, zero, suc, nat_lt, nat_eq, Bool, true, false, List, Option, None, Some, refl, sym, ◌∙◌, ap, subst, length, take, get_or, slice_get, arith, append-nil, length-take, true≢false}
use Rattle.std.proofs.lemmas.Bool.Decides.{nat_tests}
use Rattle.std.proofs.lemmas.List.{get_or-take, get_or_default, map-id, take_all}
use Rattle.std.proofs.lemmas.List.Elements.{Contains-append_cases, filter_map-append}
use Rattle.std.proofs.lemmas.Map.Entries.{length-keys_of}
use Rattle.std.proofs.lemmas.Map.Keys.{IsDistinct-head, IsDistinct-tail, IsDistinct-cons, apart_from_distinct}
use Rattle.std.proofs.lemmas.Option.{slice_get_within}
use Rattle.std.specs.List.{AllByRecursion, Contains, IsDistinct, cons_option, filter_map}
use Rattle.std.specs.Map.{keys_of}
use Rattle.std.specs.Option.{option_and_then, option_to_list}
use Rattle.chained_rows.specs.Chains.{last_no}
use Rattle.chained_rows.proofs.Chains.{last_no-le, last_no-passes}
use Rattle.uni_table.specs.GraphChanges.{earlier_at, is_affected, is_other, moved_at, moved_last_at, place_of, untouched_at}
use Rattle.uni_table.specs.GraphOrder.{affected_at, affected_by, placed_at, untouched_by, untouched_edge_at, AddsMoved, AreAffectedEdges}
use Rattle.uni_table.specs.GraphRows.{IsRows, has_at, is_live, is_same, last_at}
use Rattle.uni_table.specs.declared.graph.numbers.Before.{Before}
use Rattle.uni_table.specs.declared.graph.numbers.Before.TheVariants as before
use Rattle.uni_table.specs.declared.graph.numbers.EdgeNo.{EdgeNo}
use Rattle.uni_table.specs.declared.graph.numbers.Slot.{Slot}
use Rattle.uni_table.specs.declared.graph.numbers.SlotState.{SlotState}
use Rattle.uni_table.specs.declared.graph.numbers.Side.TheVariants.{Target}
use Rattle.uni_table.specs.declared.graph.order.PlacedEdge.{PlacedEdge}
use Rattle.uni_table.specs.declared.graph.rows.Rows.{Rows}
use Rattle.uni_table.proofs.Apart.{distinct-filter_map, distinct_nil}
use Rattle.uni_table.proofs.GraphChanged.{picked-from}
use Rattle.uni_table.proofs.GraphLed.{all-affected}
use Rattle.uni_table.proofs.GraphPlaces.{entry-at, key-at, same-number}
use Rattle.uni_table.proofs.GraphWalks.{IsAlong, along-passes, along-start, last_no-past}
use Rattle.uni_table.proofs.SideBySide.{whole-walked}
use Rattle.uni_table.proofs.TouchedRows.{apart-push, touched-fewer}

-- numbers that are the same or not
same_eq : (x y : ℕ) → x ≡ y → nat_eq x y ≡ true
same_eq x y same = grind (arith, nat_tests)

other_eq : (x y : ℕ) → (x ≡ y → ⊥) → nat_eq x y ≡ false
other_eq x y other = by (nat_eq x y) refl
  where
    by : (b : Bool) → nat_eq x y ≡ b → nat_eq x y ≡ false
    by false is = is
    by true is = absurd (other (same-number x y is))

-- what holds of each item
all_of : {X : Type 0} (P : X → Type 0) (xs : List X) → ((x : X) → Contains xs x → P x) → AllByRecursion P xs
all_of P [] each = tt
all_of P (x ∷ xs) each = (each x (0, omega arith, refl), all_of P xs (λ y there. each y (suc there.0, omega (arith, there.1), there.2)))

all_append : {X : Type 0} (P : X → Type 0) (xs ys : List X) → AllByRecursion P xs → AllByRecursion P ys → AllByRecursion P (xs ++ ys)
all_append P [] ys first second = second
all_append P (x ∷ xs) ys first second = (first.0, all_append P xs ys first.1 second)

-- two lists that have none in common
pub apart-append : (xs ys : List ℕ) → IsDistinct nat_eq xs → IsDistinct nat_eq ys → ((y : ℕ) → Contains xs y → Contains ys y → ⊥) → IsDistinct nat_eq (xs ++ ys)
apart-append [] ys first second none = second
apart-append (x ∷ xs) ys first second none =
    IsDistinct-cons nat_eq x (xs ++ ys)
    (all_append (λ y. nat_eq x y ≡ false) xs ys (IsDistinct-head nat_eq x xs first) (all_of (λ y. nat_eq x y ≡ false) ys (λ y there. other_eq x y (λ same. none y (0, omega arith, same) there))))
    (apart-append xs ys (IsDistinct-tail nat_eq x xs first) second (λ y in_xs in_ys. none y (suc in_xs.0, omega (arith, in_xs.1), in_xs.2) in_ys))

-- what is picked of places that differ, by a choice that is another for each
module _ (f : ℕ → Option ℕ) (once : (x y z : ℕ) → f x ≡ Some z → f y ≡ Some z → x ≡ y) where
  pub picked-once : (xs : List ℕ) → IsDistinct nat_eq xs → IsDistinct nat_eq (filter_map f xs)
  picked-once xs apart =
      distinct-filter_map f (λ x. x) nat_eq nat_eq
      (λ x y b c is other differ. other_eq b c (λ same. true≢false (sym (same_eq x y (once x y b is (other ∙ ap Some (sym same)))) ∙ differ)))
      xs (subst (IsDistinct nat_eq) (sym (map-id xs)) apart)

placed-no : (n y : ℕ) → place_of n ≡ Some y → n ≡ suc y
placed-no zero y is = cc
placed-no (suc n) y is = let same : n ≡ y = cc in ap suc same

-- an edge that leads to an id with another rank
abbrev pub IsReached : Rows → ℕ → Type 0
IsReached rows p = (e : EdgeNo × Slot) × (slice_get rows.edges.entries p ≡ Some e) × (moved_at rows e.0.target ≡ true)

module _ (rows : Rows) (kept : IsRows rows) where
  -- an edge with one before it is chained to it
  before-is : (p y : ℕ) → earlier_at rows p ≡ Some y
      → (e : EdgeNo × Slot) × (slice_get rows.edges.entries p ≡ Some e) × (last_no (has_at Target e.0.target) (take p (keys_of rows.edges.entries)) ≡ suc y)
  before-is p y is = by (slice_get rows.edges.entries p) refl is
    where
      by : (o : Option (EdgeNo × Slot)) → slice_get rows.edges.entries p ≡ o → option_and_then (λ e. place_of e.1.next_into) o ≡ Some y
          → (e : EdgeNo × Slot) × (slice_get rows.edges.entries p ≡ Some e) × (last_no (has_at Target e.0.target) (take p (keys_of rows.edges.entries)) ≡ suc y)
      by None at h = cc
      by (Some e) at h = (e, at, sym (kept.chains Target p e at) ∙ placed-no e.1.next_into y h)

  module _ (p y : ℕ) (is : earlier_at rows p ≡ Some y) where
    abbrev here : EdgeNo × Slot
    here = (before-is p y is).0

    within : p < length rows.edges.entries
    within = slice_get_within rows.edges.entries p here (before-is p y is).1

    earlier : y < p
    earlier = omega (arith, (before-is p y is).2, last_no-le (has_at Target here.0.target) (take p (keys_of rows.edges.entries)), length-take p (keys_of rows.edges.entries))

    there : (f : EdgeNo × Slot) × (slice_get rows.edges.entries y ≡ Some f)
    there = entry-at rows.edges.entries y (omega (arith, earlier, within))

    -- and both lead to one id
    same-target : (f : EdgeNo × Slot) → slice_get rows.edges.entries y ≡ Some f → here.0.target ≡ f.0.target
    same-target f at =
        same-number here.0.target f.0.target (last_no-passes (has_at Target here.0.target) (keys_of rows.edges.entries) p y f.0 (before-is p y is).2 (key-at rows.edges.entries y f at))

  -- no two edges have one and the same before them
  clash : (p q y : ℕ) → earlier_at rows p ≡ Some y → earlier_at rows q ≡ Some y → p < q → ⊥
  clash p q y is also less =
      let f = there p y is in
      let same : (here q y also).0.target ≡ (here p y is).0.target = same-target q y also f.0 f.1 ∙ sym (same-target p y is f.0 f.1) in
      true≢false (sym (same_eq (here q y also).0.target (here p y is).0.target same)
      ∙ last_no-past (has_at Target (here q y also).0.target) (keys_of rows.edges.entries) q p (here p y is).0 (key-at rows.edges.entries p (here p y is) (before-is p y is).1) less
      (omega (arith, (before-is q y also).2, earlier p y is)))

  pub before-once : (p q y : ℕ) → earlier_at rows p ≡ Some y → earlier_at rows q ≡ Some y → p ≡ q
  before-once p q y is also = by (nat_lt p q) refl (nat_lt q p) refl
    where
      by : (a : Bool) → nat_lt p q ≡ a → (b : Bool) → nat_lt q p ≡ b → p ≡ q
      by true a b c = absurd (clash p q y is also (grind (arith, nat_tests)))
      by false a true c = absurd (clash q p y also is (grind (arith, nat_tests)))
      by false a false c = grind (arith, nat_tests)

  -- the last edge that reaches an id
  last-is : (n p : ℕ) → moved_last_at rows n ≡ Some p → (moved_at rows n ≡ true) × (last_at Target rows n ≡ suc p)
  last-is n p is = by (moved_at rows n) refl is
    where
      by : (b : Bool) → moved_at rows n ≡ b → (if b then place_of (last_at Target rows n) else None) ≡ Some p → (moved_at rows n ≡ true) × (last_at Target rows n ≡ suc p)
      by true moved h = (moved, placed-no (last_at Target rows n) p h)
      by false moved h = cc

  last-target : (n p : ℕ) → last_at Target rows n ≡ suc p → (f : EdgeNo × Slot) → slice_get rows.edges.entries p ≡ Some f → n ≡ f.0.target
  last-target n p last f at =
      same-number n f.0.target (along-passes rows kept Target n (suc p) p refl (subst (IsAlong rows Target n) last (along-start rows kept Target n)) f at)

  last-there : (n p : ℕ) → last_at Target rows n ≡ suc p → (f : EdgeNo × Slot) × (slice_get rows.edges.entries p ≡ Some f)
  last-there n p last =
      entry-at rows.edges.entries p (omega (arith, last, kept.lasts Target n, last_no-le (has_at Target n) (keys_of rows.edges.entries), length-keys_of rows.edges.entries))

  -- no edge has it before itself
  first-of-all : (n h p : ℕ) → last_at Target rows n ≡ suc h → earlier_at rows p ≡ Some h → ⊥
  first-of-all n h p last is =
      let f = there p h is in
      let same : n ≡ (here p h is).0.target = last-target n h last f.0 f.1 ∙ sym (same-target p h is f.0 f.1) in
      let all : last_no (has_at Target n) (take (length (keys_of rows.edges.entries)) (keys_of rows.edges.entries)) ≡ suc h =
      ap (last_no (has_at Target n)) (take_all (length (keys_of rows.edges.entries)) (keys_of rows.edges.entries) (omega arith)) ∙ sym (kept.lasts Target n) ∙ last in
      true≢false (sym (same_eq n (here p h is).0.target same)
      ∙ last_no-past (has_at Target n) (keys_of rows.edges.entries) (length (keys_of rows.edges.entries)) p (here p h is).0 (key-at rows.edges.entries p (here p h is) (before-is p h is).1)
      (omega (arith, within p h is, length-keys_of rows.edges.entries)) (omega (arith, all, earlier p h is)))

  pub lasts-once : (m n p : ℕ) → moved_last_at rows m ≡ Some p → moved_last_at rows n ≡ Some p → m ≡ n
  lasts-once m n p is also =
      let f = last-there m p (last-is m p is).1 in
      last-target m p (last-is m p is).1 f.0 f.1 ∙ sym (last-target n p (last-is n p also).1 f.0 f.1)

  pub reached-last : (n p : ℕ) → moved_last_at rows n ≡ Some p → IsReached rows p
  reached-last n p is =
      let last = last-is n p is in
      let f = last-there n p last.1 in
      (f.0, f.1, subst (λ t. moved_at rows t ≡ true) (last-target n p last.1 f.0 f.1) last.0)

  pub reached-before : (p y : ℕ) → earlier_at rows p ≡ Some y → IsReached rows p → IsReached rows y
  reached-before p y is reached =
      let f = there p y is in
      let one : reached.0 ≡ here p y is = let both : Some reached.0 ≡ Some (here p y is) = sym reached.1 ∙ (before-is p y is).1 in cc in
      (f.0, f.1, subst (λ t. moved_at rows t ≡ true) (ap (λ (e : EdgeNo × Slot). e.0.target) one ∙ same-target p y is f.0 f.1) reached.2)

  -- so a step adds a place that the walk has not
  pub walk-apart : (numbers walk : List ℕ) (at place : ℕ) → at < length walk → place ≡ get_or walk at place
      → walk ≡ filter_map (moved_last_at rows) numbers ++ filter_map (earlier_at rows) (take at walk) → IsDistinct nat_eq walk → IsDistinct nat_eq (walk ++ option_to_list (earlier_at rows place))
  walk-apart numbers walk at place below is walked apart = by (earlier_at rows place) refl
    where
      again : (x : ℕ) → Contains (take at walk) x → x ≡ place → ⊥
      again x there same =
          let less : there.0 < at = omega (arith, there.1, length-take at walk) in
          let one : get_or walk there.0 place ≡ get_or walk at place =
          get_or_default walk there.0 place x (omega (arith, less, below)) ∙ sym (get_or-take at walk there.0 x less) ∙ there.2 ∙ same ∙ is in
          true≢false (sym (same_eq (get_or walk there.0 place) (get_or walk at place) one) ∙ apart_from_distinct nat_eq walk there.0 at place apart less below)

      fresh : (y : ℕ) → earlier_at rows place ≡ Some y → Contains walk y → ⊥
      fresh y next there =
          ⊎_elim
          (λ head. let p = picked-from (moved_last_at rows) numbers y head in first-of-all p.0 y place (last-is p.0 y p.2).1 next)
          (λ passed. let p = picked-from (earlier_at rows) (take at walk) y passed in again p.0 p.1 (before-once p.0 place y p.2 next))
          (Contains-append_cases (filter_map (moved_last_at rows) numbers) (filter_map (earlier_at rows) (take at walk)) y (subst (λ xs. Contains xs y) walked there))

      by : (o : Option ℕ) → earlier_at rows place ≡ o → IsDistinct nat_eq (walk ++ option_to_list o)
      by None next = subst (IsDistinct nat_eq) (sym (append-nil walk)) apart
      by (Some y) next = apart-push walk y apart (fresh y next)

  -- and one that leads to an id with another rank
  pub walk-reached : (walk : List ℕ) (place : ℕ) → ((p : ℕ) → Contains walk p → IsReached rows p) → Contains walk place → (p : ℕ) → Contains (walk ++ option_to_list (earlier_at rows place)) p → IsReached rows p
  walk-reached walk place each here p = by (earlier_at rows place) refl
    where
      only : (y : ℕ) → earlier_at rows place ≡ Some y → Contains (y ∷ []) p → IsReached rows p
      only y next (zero, below, is) = subst (IsReached rows) is (reached-before place y next (each place here))
      only y next (suc k, below, is) = absurd (omega (arith, below))

      by : (o : Option ℕ) → earlier_at rows place ≡ o → Contains (walk ++ option_to_list o) p → IsReached rows p
      by None next there = each p (subst (λ xs. Contains xs p) (append-nil walk) there)
      by (Some y) next there = ⊎_elim (each p) (only y next) (Contains-append_cases walk (y ∷ []) p there)

  pub lasts-reached : (numbers : List ℕ) (p : ℕ) → Contains (filter_map (moved_last_at rows) numbers) p → IsReached rows p
  lasts-reached numbers p there = let from = picked-from (moved_last_at rows) numbers p there in reached-last from.0 p from.2

  -- an untouched edge that leads to an id with another rank is affected while it lives
  unchanged : (b : Before) (state : SlotState) (end : ℕ) → is_same b ≡ true → is_other b state end ≡ false
  unchanged before.Same state end is = refl
  unchanged before.Gone state end is = cc
  unchanged (before.Public until) state end is = cc
  unchanged (before.Only until) state end is = cc
  unchanged (before.Circle n until) state end is = cc

  led-affected : (e : EdgeNo × Slot) (live : Bool) → is_same e.1.before ≡ true → is_live e.1.state ≡ live → moved_at rows e.0.target ≡ true → is_affected rows e ≡ live
  led-affected e true same live moved = λ i. unchanged e.1.before e.1.state e.1.end same i || (if live i then moved i else false)
  led-affected e false same live moved = λ i. unchanged e.1.before e.1.state e.1.end same i || (if live i then moved_at rows e.0.target else false)

  -- so the untouched edges of a walk are those that are affected
  refilter : (walk : List ℕ) → ((p : ℕ) → Contains walk p → IsReached rows p) → filter_map (untouched_edge_at rows) walk ≡ filter_map (affected_at rows) (filter_map (untouched_at rows) walk)
  refilter [] each = refl
  refilter (p ∷ ps) each = one (each p (0, omega arith, refl)) (refilter ps (λ q there. each q (suc there.0, omega (arith, there.1), there.2)))
    where
      one : IsReached rows p → filter_map (untouched_edge_at rows) ps ≡ filter_map (affected_at rows) (filter_map (untouched_at rows) ps)
          → cons_option (untouched_edge_at rows p) (filter_map (untouched_edge_at rows) ps) ≡ filter_map (affected_at rows) (cons_option (untouched_at rows p) (filter_map (untouched_at rows) ps))
      one (e, at, moved) rest = by (is_same e.1.before) refl (is_live e.1.state) refl
        where
          by : (s : Bool) → is_same e.1.before ≡ s → (l : Bool) → is_live e.1.state ≡ l
              → cons_option (untouched_edge_at rows p) (filter_map (untouched_edge_at rows) ps) ≡ filter_map (affected_at rows) (cons_option (untouched_at rows p) (filter_map (untouched_at rows) ps))
          by false same l live =
              ap (λ (o : Option PlacedEdge). cons_option o (filter_map (untouched_edge_at rows) ps))
              (ap (option_and_then (untouched_by rows p)) at ∙ ap (λ b. if b && is_live e.1.state then Some (placed_at rows p e.0) else None) same)
              ∙ rest
              ∙ sym (ap (λ o. filter_map (affected_at rows) (cons_option o (filter_map (untouched_at rows) ps)))
              (ap (option_and_then (λ (x : EdgeNo × Slot). if is_same x.1.before then Some p else None)) at ∙ ap (λ b. if b then Some p else None) same))
          by true same l live =
              ap (λ (o : Option PlacedEdge). cons_option o (filter_map (untouched_edge_at rows) ps))
              (ap (option_and_then (untouched_by rows p)) at ∙ (λ i. if same i && live i then Some (placed_at rows p e.0) else None))
              ∙ (λ i. cons_option
              (sym (ap (option_and_then (affected_by rows p)) at ∙ ap (λ b. if b then Some (placed_at rows p e.0) else None) (led-affected e l same live moved)) i)
              (rest i))
              ∙ sym (ap (λ o. filter_map (affected_at rows) (cons_option o (filter_map (untouched_at rows) ps)))
              (ap (option_and_then (λ (x : EdgeNo × Slot). if is_same x.1.before then Some p else None)) at ∙ ap (λ b. if b then Some p else None) same))

  untouched-is : (p z : ℕ) → untouched_at rows p ≡ Some z → (p ≡ z) × (e : EdgeNo × Slot) × (slice_get rows.edges.entries p ≡ Some e) × (is_same e.1.before ≡ true)
  untouched-is p z is = by (slice_get rows.edges.entries p) refl is
    where
      at_edge : (e : EdgeNo × Slot) → slice_get rows.edges.entries p ≡ Some e → (b : Bool) → is_same e.1.before ≡ b → (if b then Some p else None) ≡ Some z
          → (p ≡ z) × (e : EdgeNo × Slot) × (slice_get rows.edges.entries p ≡ Some e) × (is_same e.1.before ≡ true)
      at_edge e at true same h = let here : p ≡ z = cc in (here, e, at, same)
      at_edge e at false same h = cc

      by : (o : Option (EdgeNo × Slot)) → slice_get rows.edges.entries p ≡ o → option_and_then (λ (x : EdgeNo × Slot). if is_same x.1.before then Some p else None) o ≡ Some z
          → (p ≡ z) × (e : EdgeNo × Slot) × (slice_get rows.edges.entries p ≡ Some e) × (is_same e.1.before ≡ true)
      by None at h = cc
      by (Some e) at h = at_edge e at (is_same e.1.before) refl h

  -- what a walk that has come to its end has added
  pub adds-moved : (walk : List ℕ) → walk ≡ filter_map (moved_last_at rows) rows.touched_ids.items ++ filter_map (earlier_at rows) walk → IsDistinct nat_eq walk
      → ((p : ℕ) → Contains walk p → IsReached rows p) → (old new : List PlacedEdge) → new ≡ old ++ filter_map (untouched_edge_at rows) walk → AddsMoved rows old new
  adds-moved walk closed apart each old new is = record {
    places = filter_map (untouched_at rows) walk;
    apart = picked-once (untouched_at rows) (λ x y z one other. (untouched-is x z one).0 ∙ sym (untouched-is y z other).0) walk apart;
    untouched = λ place there.
        let p = picked-from (untouched_at rows) walk place there in
        let u = untouched-is p.0 place p.2 in
        (u.1, subst (λ q. slice_get rows.edges.entries q ≡ Some u.1) u.0 u.2, u.3);
    whole = whole-walked rows kept rows.touched_ids.items walk closed;
    picked = is ∙ ap (λ es. old ++ es) (refilter walk each);
  }

  -- where all edges were touched there are none
  pub adds-none : length rows.touched_edges.items ≡ length rows.edges.entries → (edges : List PlacedEdge) → AddsMoved rows edges edges
  adds-none all edges = record {
    places = [];
    apart = distinct_nil nat_eq;
    untouched = λ place there. absurd (omega (arith, there.1));
    whole = λ place led.
        let fewer = touched-fewer (λ (slot : Slot). is_same slot.before) rows.edges.entries rows.touched_edges.items rows.touched_edges.cap kept.touched_edges place led.3.0 led.3.1 led.3.3 in
        absurd (omega (arith, all, fewer));
    picked = sym (append-nil edges);
  }

  pub lasts-apart : IsDistinct nat_eq (filter_map (moved_last_at rows) rows.touched_ids.items)
  lasts-apart = picked-once (moved_last_at rows) lasts-once rows.touched_ids.items kept.touched_ids.apart

  -- with the touched edges that are affected these are all
  pub are-affected : (moved edges : List PlacedEdge) → AddsMoved rows [] moved → edges ≡ moved ++ filter_map (affected_at rows) rows.touched_edges.items → AreAffectedEdges rows edges
  are-affected moved edges adds is = record {
    places = adds.places ++ rows.touched_edges.items;
    apart = apart-append adds.places rows.touched_edges.items adds.apart kept.touched_edges.apart (λ place in_moved in_touched. clash-touched place (adds.untouched place in_moved) (kept.touched_edges.marked place in_touched));
    whole = all-affected rows kept adds.places adds.whole;
    picked = is ∙ ap (λ es. es ++ filter_map (affected_at rows) rows.touched_edges.items) adds.picked
        ∙ sym (filter_map-append (affected_at rows) adds.places rows.touched_edges.items);
  }
    where
      clash-touched : (place : ℕ) → (e : EdgeNo × Slot) × (slice_get rows.edges.entries place ≡ Some e) × (is_same e.1.before ≡ true)
          → (f : EdgeNo × Slot) × (slice_get rows.edges.entries place ≡ Some f) × (is_same f.1.before ≡ false) → ⊥
      clash-touched place e f =
          let one : e.0 ≡ f.0 = let both : Some e.0 ≡ Some f.0 = sym e.1 ∙ f.1 in cc in
          true≢false (sym e.2 ∙ ap (λ (x : EdgeNo × Slot). is_same x.1.before) one ∙ f.2)
