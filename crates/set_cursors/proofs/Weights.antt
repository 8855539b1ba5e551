-- How far operands still are from their ends, as a leap goes on.
use Rattle.std.proofs.Common.{◌≡◌, ℕ, ◌+◌, ◌-◌, ◌*◌, ◌<◌, ◌≤◌, Bool, true, false, not, List, [], ◌∷◌, Option, Some, refl, sym, ◌∙◌, ap, subst, arith, length, get_or, slice_get, drop, cond}
use Rattle.std.proofs.Math.Nat.{mul-le-mul_left}
use Rattle.std.proofs.lemmas.List.Sums.{count_by-le-length, length-filter}
use Rattle.std.specs.Ordering.{is_eq}
use Rattle.uni_base.specs.declared.entity.DocKey.{DocKey}
use Rattle.uni_base.specs.RankOrder.{doc_cmp}
use Rattle.uni_base.specs.Cursors.{is_before, keys_from}
use Rattle.uni_base.proofs.RankedLemmas.{is_eq_same, same_from_is_eq, same_from_neither}
use Rattle.set_cursors.specs.Leaps.{IsAsked, IsMoved}
use Rattle.set_cursors.specs.Moves.{AreFew}
use Rattle.set_cursors.proofs.Asked.{not_before_trans}

-- two for each key, less where the first is at the key that is asked about next, and less still where it is before it
abbrev pub tilt : DocKey → List DocKey → ℕ
tilt key [] = 2
tilt key (x ∷ xs) = cond (is_before x key) 0 (cond (is_eq (doc_cmp x key)) 1 2)

abbrev pub weight : DocKey → List DocKey → ℕ
weight key ks = 2 * length ks + tilt key ks

pub tilt_most : (key : DocKey) (ks : List DocKey) → tilt key ks ≤ 2
tilt_most key [] = omega arith
tilt_most key (x ∷ xs) = by (is_before x key) (is_eq (doc_cmp x key))
  where
    by : (a b : Bool) → cond a 0 (cond b 1 2) ≤ 2
    by true b = omega arith
    by false true = omega arith
    by false false = omega arith

-- a first key that is not after the one asked about next
tilt_near : (key x : DocKey) (xs : List DocKey) → is_before key x ≡ false → tilt key (x ∷ xs) ≤ 1
tilt_near key x xs near = by (is_before x key) (is_eq (doc_cmp x key)) refl refl
  where
    by : (a b : Bool) → is_before x key ≡ a → is_eq (doc_cmp x key) ≡ b → cond a 0 (cond b 1 2) ≤ 1
    by true b e f = omega arith
    by false true e f = omega arith
    by false false e f = absurd (let g = is_eq_same x key (same_from_neither x key e near) in cc)

length-keys_from : (to : DocKey) (ks : List DocKey) → length (keys_from to ks) ≤ length ks
length-keys_from to ks = omega (arith, length-filter (λ k. not (is_before k to)) ks, count_by-le-length (λ k. not (is_before k to)) ks)

longer : (k : DocKey) (xs ys : List DocKey) → xs ≡ ys → length (k ∷ xs) ≡ length ys + 1
longer k xs ys e = let f = ap length e in omega (arith, f)

-- once a later key was reached, each operand is nearer to its end
pub lighter : (asked at : DocKey) (old new : List DocKey) → IsMoved asked at old new → is_before asked at ≡ true → weight at new + 1 ≤ weight asked old
lighter asked at [] new m later = absurd (let e = sym m.stands ∙ ap (λ (ks : List DocKey). slice_get ks 0) m.moves in cc)
lighter asked at (x ∷ xs) new m later = by (is_before x m.to) refl new m.moves m.stands
  where
    by : (b : Bool) → is_before x m.to ≡ b → (ks : List DocKey) → ks ≡ cond (not b) (x ∷ keys_from m.to xs) (keys_from m.to xs) → slice_get ks 0 ≡ Some m.at
        → weight at ks + 1 ≤ weight asked (x ∷ xs)
    by b e [] is stands = absurd cc
    by true e (k ∷ ks) is stands =
        let s : k ≡ m.at = cc in
        let near = tilt_near at k ks (subst (λ (y : DocKey). is_before at y ≡ false) (sym s) m.within) in
        let same : length (k ∷ ks) ≡ length (keys_from m.to xs) = ap length is in
        let less = length-keys_from m.to xs in
        omega (arith, near, same, less)
    by false e (k ∷ ks) is stands =
        let s : k ≡ m.at = cc in
        let near = tilt_near at k ks (subst (λ (y : DocKey). is_before at y ≡ false) (sym s) m.within) in
        let is_first : k ≡ x = cc in
        let same : length (k ∷ ks) ≡ length (keys_from m.to xs) + 1 = longer k ks (keys_from m.to xs) (ap (drop 1) is) in
        let less = length-keys_from m.to xs in
        turn (is_before x asked) (is_eq (doc_cmp x asked)) refl refl near same less is_first
      where
        turn : (a c : Bool) → is_before x asked ≡ a → is_eq (doc_cmp x asked) ≡ c → tilt at (k ∷ ks) ≤ 1 → length (k ∷ ks) ≡ length (keys_from m.to xs) + 1 → length (keys_from m.to xs) ≤ length xs
            → k ≡ x → weight at (k ∷ ks) + 1 ≤ 2 * length (x ∷ xs) + cond a 0 (cond c 1 2)
        turn true c f g near same less is_first = absurd (let h = not_before_trans asked m.to x m.not_before e in cc)
        turn false true f g near same less is_first =
            let k_is : k ≡ asked = is_first ∙ same_from_is_eq x asked g in
            let before_at : is_before k at ≡ true = subst (λ (y : DocKey). is_before y at ≡ true) (sym k_is) later in
            let none : tilt at (k ∷ ks) ≡ 0 = ap (λ b. cond b 0 (cond (is_eq (doc_cmp k at)) 1 2)) before_at in
            omega (arith, none, same, less)
        turn false false f g near same less is_first = omega (arith, near, same, less)

-- ---- the moves that were made

-- so many moves are made, and there is as much weight left
pub HasPaid : ℕ → ℕ → DocKey → List (List DocKey) → List (List DocKey) → Type 0
HasPaid was made key inits nows = (i : ℕ) → i < length inits → made + length inits * weight key (get_or nows i []) ≤ was + length inits * (2 * length (get_or inits i []) + 2)

pub start_paid : (was : ℕ) (key : DocKey) (lists : List (List DocKey)) → HasPaid was was key lists lists
unfolding HasPaid
start_paid was key lists i within =
    let most = tilt_most key (get_or lists i []) in
    let m = mul-le-mul_left (length lists) (weight_most (get_or lists i [])) in omega (arith, m)
  where
    weight_most : (ks : List DocKey) → weight key ks ≤ 2 * length ks + 2
    weight_most ks = let most = tilt_most key ks in omega (arith, most)

module _ (was made now : ℕ) (key : DocKey) (answer : Option DocKey) (inits mids news : List (List DocKey)) (paid : HasPaid was made key inits mids) (count : length mids ≡ length inits)
    (few : now ≤ made + length inits) (asked : IsAsked key answer mids news) where
  -- a round more, in which a later key was reached
  pub round_paid : (at : DocKey) → answer ≡ Some at → is_before key at ≡ true → HasPaid was now at inits news
  unfolding HasPaid
  round_paid at e later i within =
      let nearer = lighter key at (get_or mids i []) (get_or news i []) ((asked.reached at e).each_moved i (omega (arith, count))) later in
      let times = mul-le-mul_left (length inits) nearer in
      let before = paid i within in
      let spread : length inits * (weight at (get_or news i []) + 1) ≡ length inits * weight at (get_or news i []) + length inits = grind arith in
      omega (arith, times, before, spread, few)

  -- the last round
  pub last_paid : AreFew was now inits news
  unfolding HasPaid
  last_paid i within =
      by (length (get_or inits i [])) (length (get_or news i [])) (length (get_or mids i [])) (tilt key (get_or mids i [])) (paid i within) (asked.parts i).no_longer
    where
      by : (x y z t : ℕ) → made + length inits * (2 * z + t) ≤ was + length inits * (2 * x + 2) → y ≤ z → now ≤ was + length inits * (2 * (x - y) + 3)
      by x y z t p less =
          let n = length inits in
          let grows : n * (2 * y) ≤ n * (2 * z + t) = mul-le-mul_left n (omega (arith, less)) in
          let spans : n * (2 * x + 3) ≤ n * (2 * y + (2 * (x - y) + 3)) = mul-le-mul_left n (omega arith) in
          let one : n * (2 * x + 3) ≡ n * (2 * x + 2) + n = grind arith in
          let two : n * (2 * y + (2 * (x - y) + 3)) ≡ n * (2 * y) + n * (2 * (x - y) + 3) = grind arith in
          omega (arith, grows, spans, one, two, p, few)
