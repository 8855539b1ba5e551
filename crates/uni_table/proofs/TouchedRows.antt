-- The places of the rows that a batch touched, after rows are written or added.
use Rattle.std.proofs.Common.{◌≡◌, ◌≤◌, ◌<◌, ◌+◌, ◌⊎◌, inl, inr, ⊎_elim, ℕ, zero, suc, Bool, true, false, List, [], ◌∷◌, ◌++◌, Some, refl, sym, ◌∙◌, ap, subst, length, slice_get, nat_eq, arith, true≢false, length-append}
use Rattle.std.specs.Cmp.{IsEquivalence, nat_cmp_total}
use Rattle.std.specs.List.{AllByRecursion, Contains, IsDistinct, list_any}
use Rattle.std.proofs.lemmas.Cmp.{eq_by_cmp_equiv}
use Rattle.std.proofs.lemmas.List.Elements.{Contains-append_left, Contains-push, Contains-push_cases}
use Rattle.std.proofs.lemmas.Map.Keys.{IsDistinct-push}
use Rattle.std.proofs.lemmas.Map.Views.{Contains-from_any}
use Rattle.std.proofs.lemmas.Option.{slice_get_within}
use Rattle.indexmap.specs.Layout.{set_value_at}
use Rattle.chained_rows.specs.Chains.{AtEach}
use Rattle.chained_rows.specs.Counts.{count_of, one_if}
use Rattle.std.specs.Ordering.{nat_cmp, eq_by_cmp}
use Rattle.chained_rows.proofs.Compared.{is_eq-nat_cmp}
use Rattle.chained_rows.proofs.Counted.{count-push, count-written}
use Rattle.chained_rows.proofs.Places.{length-written, at_each-push, at_each-set, slice_get-before, slice_get-push, slice_get-written}
use Rattle.uni_table.specs.GraphRows.{AreTouched, Grows}
use Rattle.uni_table.proofs.GraphPlaces.{same-number}

-- numbers are compared alike both ways
pub agree : eq_by_cmp nat_cmp ≡ nat_eq
agree = λ j a b. is_eq-nat_cmp a b j

pub nat_equiv : IsEquivalence nat_eq
nat_equiv = subst IsEquivalence agree (eq_by_cmp_equiv nat_cmp_total)

-- a number that is none of a list's may follow it
pub apart-push : (places : List ℕ) (i : ℕ) → IsDistinct nat_eq places → (Contains places i → ⊥) → IsDistinct nat_eq (places ++ i ∷ [])
apart-push places i apart none = IsDistinct-push nat_equiv places i apart (by (list_any (nat_eq i) places) refl)
  where
    by : (b : Bool) → list_any (nat_eq i) places ≡ b → list_any (nat_eq i) places ≡ false
    by true at = absurd (none (Contains-from_any same-number i places at))
    by false at = at

-- no row is touched where there is none
pub touched-none : {K V : Type 0} (same : V → Bool) (room : ℕ) → AreTouched {K = K} {V = V} same [] [] room
unfolding IsDistinct
touched-none same room = record { roomy = omega arith; counted = refl; listed = λ i e at. cc; marked = λ i there. absurd (omega (arith, there.1)); apart = tt }

module _ {K V : Type 0} (same : V → Bool) where
  marked-written : (es : List (K × V)) (i : ℕ) (w : V) → same w ≡ false → (j : ℕ) (e : K × V) → slice_get es j ≡ Some e → same e.1 ≡ false
      → (f : K × V) × (slice_get (set_value_at es i w) j ≡ Some f) × (same f.1 ≡ false)
  marked-written [] i w other j e at first = cc
  marked-written (x ∷ xs) zero w other zero e at first = ((x.0, w), refl, other)
  marked-written (x ∷ xs) zero w other (suc j) e at first = (e, at, first)
  marked-written (x ∷ xs) (suc i) w other zero e at first = (e, at, first)
  marked-written (x ∷ xs) (suc i) w other (suc j) e at first = marked-written xs i w other j e at first

  beside : (es : List (K × V)) (i : ℕ) (k : K) (v w : V) → slice_get es i ≡ Some (k, v) → same w ≡ same v → (j : ℕ) (e : K × V) → slice_get es j ≡ Some e → same e.1 ≡ false
      → (f : K × V) × (slice_get (set_value_at es i w) j ≡ Some f) × (same f.1 ≡ false)
  beside [] i k v w here is j e at first = cc
  beside (x ∷ xs) zero k v w here is zero e at first =
      let one : x ≡ (k, v) = cc in
      let other : x ≡ e = cc in
      ((x.0, w), refl, is ∙ ap (λ y. same y.1) (sym one ∙ other) ∙ first)
  beside (x ∷ xs) zero k v w here is (suc j) e at first = (e, at, first)
  beside (x ∷ xs) (suc i) k v w here is zero e at first = (e, at, first)
  beside (x ∷ xs) (suc i) k v w here is (suc j) e at first = beside xs i k v w here is j e at first

  -- the rows at places after one is written
  written-cases : (es : List (K × V)) (i : ℕ) (w : V) (j : ℕ) (f : K × V) → slice_get (set_value_at es i w) j ≡ Some f → ((i ≡ j) × (f.1 ≡ w)) ⊎ (slice_get es j ≡ Some f)
  written-cases [] i w j f at = inr at
  written-cases (x ∷ xs) zero w zero f at = inl (refl, ap (λ (y : K × V). y.1) (let both : f ≡ (x.0, w) = cc in both))
  written-cases (x ∷ xs) zero w (suc j) f at = inr at
  written-cases (x ∷ xs) (suc i) w zero f at = inr at
  written-cases (x ∷ xs) (suc i) w (suc j) f at = ⊎_elim (λ h. inl (ap suc h.0, h.1)) inr (written-cases xs i w j f at)

  written-other : (es : List (K × V)) (i : ℕ) (w : V) (j : ℕ) → (i ≡ j → ⊥) → slice_get (set_value_at es i w) j ≡ slice_get es j
  written-other [] i w j apart = refl
  written-other (x ∷ xs) zero w zero apart = absurd (apart refl)
  written-other (x ∷ xs) zero w (suc j) apart = refl
  written-other (x ∷ xs) (suc i) w zero apart = refl
  written-other (x ∷ xs) (suc i) w (suc j) apart = written-other xs i w j (λ same. apart (ap suc same))

  count-some : (es : List (K × V)) (i : ℕ) (e : K × V) → slice_get es i ≡ Some e → same e.1 ≡ true → 1 ≤ count_of same es
  count-some [] i e at is = cc
  count-some (x ∷ xs) zero e at is = let here : one_if (same x.1) ≡ 1 = ap one_if (ap (λ y. same y.1) (let both : x ≡ e = cc in both) ∙ is) in omega (arith, here)
  count-some (x ∷ xs) (suc i) e at is = omega (arith, count-some xs i e at is)

  module _ (es : List (K × V)) (places : List ℕ) (room : ℕ) (t : AreTouched same es places room) where
    -- there is room while a row is untouched
    pub touched-free : (i : ℕ) (e : K × V) → slice_get es i ≡ Some e → same e.1 ≡ true → length places < room
    touched-free i e at is = omega (arith, t.counted, t.roomy, count-some es i e at is)

    -- and not all rows are touched
    pub touched-fewer : (i : ℕ) (e : K × V) → slice_get es i ≡ Some e → same e.1 ≡ true → length places < length es
    touched-fewer i e at is = omega (arith, t.counted, count-some es i e at is)

    pub touched-few : length places ≤ length es
    touched-few = omega (arith, t.counted)

    pub touched-room : (more : ℕ) → room ≤ more → AreTouched same es places more
    touched-room more le = record { roomy = omega (arith, t.roomy, le); counted = t.counted; listed = t.listed; marked = t.marked; apart = t.apart }

    -- what is written beside the mark leaves the places
    pub touched-beside : (i : ℕ) (k : K) (v w : V) → slice_get es i ≡ Some (k, v) → same w ≡ same v → AreTouched same (set_value_at es i w) places room
    touched-beside i k v w at is = record {
      roomy = omega (arith, t.roomy, length-written es i w);
      counted = omega (arith, t.counted, length-written es i w, count-written same es i k v w at, ap one_if is);
      listed = at_each-set (λ j e. same e.1 ≡ false → Contains places j) es i k v w t.listed at (λ first. t.listed i (k, v) at (sym is ∙ first));
      marked = λ j there. let m = t.marked j there in beside es i k v w at is j m.0 m.1 m.2;
      apart = t.apart;
    }

    -- a row that was touched is written
    pub touched-again : (i : ℕ) (k : K) (v w : V) → slice_get es i ≡ Some (k, v) → same v ≡ false → same w ≡ false → AreTouched same (set_value_at es i w) places room
    touched-again i k v w at was is = record {
      roomy = omega (arith, t.roomy, length-written es i w);
      counted = omega (arith, t.counted, length-written es i w, count-written same es i k v w at, ap one_if was, ap one_if is);
      listed = at_each-set (λ j e. same e.1 ≡ false → Contains places j) es i k v w t.listed at (λ _. t.listed i (k, v) at was);
      marked = λ j there. let m = t.marked j there in marked-written es i w is j m.0 m.1 m.2;
      apart = t.apart;
    }

    -- so is one that was not, whose place is noted
    pub touched-first : (i : ℕ) (k : K) (v w : V) → slice_get es i ≡ Some (k, v) → same v ≡ true → same w ≡ false → AreTouched same (set_value_at es i w) (places ++ i ∷ []) room
    touched-first i k v w at was is = record {
      roomy = omega (arith, t.roomy, length-written es i w);
      counted = omega (arith, t.counted, length-written es i w, length-append places (i ∷ []), count-written same es i k v w at, ap one_if was, ap one_if is);
      listed = at_each-set (λ j e. same e.1 ≡ false → Contains (places ++ i ∷ []) j) es i k v w
          (λ j e there first. Contains-append_left places (i ∷ []) j (t.listed j e there first)) at (λ _. Contains-push places i);
      marked = λ j there. ⊎_elim
          (λ old. let m = t.marked j old in marked-written es i w is j m.0 m.1 m.2)
          (λ here. subst (λ q. (f : K × V) × (slice_get (set_value_at es i w) q ≡ Some f) × (same f.1 ≡ false)) here ((k, w), slice_get-written es i k v w at, is))
          (Contains-push_cases places i j there);
      apart = apart-push places i t.apart (λ there. let m = t.marked i there in
          let both : Some (k, v) ≡ Some m.0 = sym at ∙ m.1 in
          let value : (k, v) ≡ m.0 = cc in
          true≢false (sym was ∙ ap (λ e. same e.1) value ∙ m.2));
    }

    -- a row that is as it was at the last publish is added
    pub touched-added : (k : K) (v : V) → same v ≡ true → length es + 1 ≤ room → AreTouched same (es ++ (k, v) ∷ []) places room
    touched-added k v is more = record {
      roomy = omega (arith, more, length-append es ((k, v) ∷ []));
      counted = omega (arith, t.counted, length-append es ((k, v) ∷ []), count-push same es k v, ap one_if is);
      listed = at_each-push (λ j e. same e.1 ≡ false → Contains places j) es (k, v) t.listed (λ first. absurd (true≢false (sym is ∙ first)));
      marked = λ j there. let m = t.marked j there in (m.0, slice_get-before es ((k, v) ∷ []) j m.0 m.1, m.2);
      apart = t.apart;
    }

    pub touched-grown : (new : List (K × V)) (k : K) (v : V) → same v ≡ true → length es + 1 ≤ room → Grows es new k v → AreTouched same new places room
    touched-grown new k v is more (inl old) = subst (λ fs. AreTouched same fs places room) (sym old) t
    touched-grown new k v is more (inr grown) = subst (λ fs. AreTouched same fs places room) (sym grown) (touched-added k v is more)

    -- so is one that the batch makes
    pub touched-made : (k : K) (v : V) → same v ≡ false → length es + 1 ≤ room → AreTouched same (es ++ (k, v) ∷ []) (places ++ length es ∷ []) room
    touched-made k v is more = record {
      roomy = omega (arith, more, length-append es ((k, v) ∷ []));
      counted = omega (arith, t.counted, length-append es ((k, v) ∷ []), length-append places (length es ∷ []), count-push same es k v, ap one_if is);
      listed = at_each-push (λ j e. same e.1 ≡ false → Contains (places ++ length es ∷ []) j) es (k, v)
          (λ j e there first. Contains-append_left places (length es ∷ []) j (t.listed j e there first)) (λ _. Contains-push places (length es));
      marked = λ j there. ⊎_elim
          (λ old. let m = t.marked j old in (m.0, slice_get-before es ((k, v) ∷ []) j m.0 m.1, m.2))
          (λ here. subst (λ q. (f : K × V) × (slice_get (es ++ (k, v) ∷ []) q ≡ Some f) × (same f.1 ≡ false)) here ((k, v), slice_get-push es (k, v), is))
          (Contains-push_cases places (length es) j there);
      apart = apart-push places (length es) t.apart (λ there. let m = t.marked (length es) there in absurd (omega (arith, slice_get_within es (length es) m.0 m.1)));
    }

all-front : (P : ℕ → Type 0) (ys : List ℕ) (k : ℕ) → AllByRecursion P (ys ++ k ∷ []) → AllByRecursion P ys × P k
all-front P [] k all = (tt, all.0)
all-front P (y ∷ ys) k all = let rest = all-front P ys k all.1 in ((all.0, rest.0), rest.1)

head-cases : (z : ℕ) (zs : List ℕ) (q : ℕ) → Contains (z ∷ zs) q → (z ≡ q) ⊎ Contains zs q
head-cases z zs q (zero, below, at) = inl at
head-cases z zs q (suc n, below, at) = inr (n, omega arith, at)

none-front : (y : ℕ) (ys : List ℕ) (k : ℕ) → nat_eq y k ≡ false → (Contains ys k → ⊥) → Contains (y ∷ ys) k → ⊥
none-front y ys k apart others there = ⊎_elim
    (λ same. let is : nat_eq y k ≡ true = ap (nat_eq y) (sym same) ∙ nat_equiv.refl y in true≢false (sym is ∙ apart))
    others (head-cases y ys k there)

-- what stands before the last of places that are apart is apart, and has none of it
front-apart : (front : List ℕ) (i : ℕ) → IsDistinct nat_eq (front ++ i ∷ []) → IsDistinct nat_eq front × (Contains front i → ⊥)
unfolding IsDistinct
front-apart [] i apart = (tt, λ there. absurd (omega (arith, there.1)))
front-apart (x ∷ xs) i apart =
    let rest = front-apart xs i apart.1 in
    let all = all-front (λ y. nat_eq x y ≡ false) xs i apart.0 in
    ((all.0, rest.0), λ there. none-front x xs i all.1 rest.1 there)

module _ {K V : Type 0} (same : V → Bool) (es : List (K × V)) (front : List ℕ) (i : ℕ) (room : ℕ) (t : AreTouched same es (front ++ i ∷ []) room) where
  -- the row that was touched last is as it was at the last publish, and its place goes
  pub touched-settled : (k : K) (v w : V) → slice_get es i ≡ Some (k, v) → same w ≡ true → AreTouched same (set_value_at es i w) front room
  touched-settled k v w at is = record {
    roomy = omega (arith, t.roomy, length-written es i w);
    counted = omega (arith, t.counted, length-written es i w, length-append front (i ∷ []), count-written same es i k v w at, ap one_if was, ap one_if is);
    listed = λ j f there first. ⊎_elim
        (λ h. absurd (true≢false (sym is ∙ sym (ap same h.1) ∙ first)))
        (λ old. ⊎_elim (λ h. h) (λ here. absurd (true≢false (sym is ∙ sym (ap same (here-value j f here there)) ∙ first))) (Contains-push_cases front i j (t.listed j f old first)))
        (written-cases same es i w j f there);
    marked = λ j there. let m = t.marked j (Contains-append_left front (i ∷ []) j there) in
        (m.0, written-other same es i w j (λ here. apart.1 (subst (Contains front) (sym here) there)) ∙ m.1, m.2);
    apart = apart.0;
  }
    where
      apart : IsDistinct nat_eq front × (Contains front i → ⊥)
      apart = front-apart front i t.apart

      was : same v ≡ false
      was =
          let m = t.marked i (Contains-push front i) in
          let both : Some (k, v) ≡ Some m.0 = sym at ∙ m.1 in
          let value : (k, v) ≡ m.0 = cc in
          ap (λ e. same e.1) value ∙ m.2

      here-value : (j : ℕ) (f : K × V) → i ≡ j → slice_get (set_value_at es i w) j ≡ Some f → f.1 ≡ w
      here-value j f here there =
          let both : Some (k, w) ≡ Some f = sym (slice_get-written es i k v w at) ∙ ap (slice_get (set_value_at es i w)) here ∙ there in
          ap (λ (y : K × V). y.1) (let value : f ≡ (k, w) = cc in value)

-- where no place is left, no row is touched
pub none-touched : {K V : Type 0} (same : V → Bool) (es : List (K × V)) (room : ℕ) → AreTouched same es [] room → AtEach (λ i e. same e.1 ≡ true) es
none-touched same es room t i e at = by (same e.1) refl
  where
    by : (b : Bool) → same e.1 ≡ b → same e.1 ≡ true
    by true is = is
    by false is = let there : Contains [] i = t.listed i e at is in absurd (omega (arith, there.1))
