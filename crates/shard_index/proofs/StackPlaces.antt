-- The places of the stacks of a version.
use Rattle.std.proofs.Common.{◌≡◌, ℕ, zero, suc, ◌+◌, ◌*◌, ◌<◌, ◌≤◌, ◌&&◌, Bool, true, false, List, [], ◌∷◌, ◌++◌, map, take, length, Option, None, Some, refl, sym, ◌∙◌, ap, arith, slice_get, append_assoc, append-nil, length-append, sum_by}
use Rattle.std.proofs.lemmas.List.{take_more, length-take-le}
use Rattle.std.proofs.lemmas.Bool.Decides.{nat_tests}
use Rattle.std.proofs.lemmas.Grind.{flat_map-append}
use Rattle.std.proofs.Math.Nat.{mul-le-mul_right}
use Rattle.std.proofs.lemmas.List.FromFn.{length-map-range_with_len}
use Rattle.std.proofs.lemmas.List.Sums.{sum_by-cons}
use Rattle.std.proofs.lemmas.Nat.{mul-le}
use Rattle.std.proofs.lemmas.Option.{slice_get_within, get_or_from_slice_get}
use Rattle.std.specs.Prelude.{nat_le}
use Rattle.std.specs.List.{flat_map, range_with_len}
use Rattle.std.specs.Option.{option_map_or}
use Rattle.uni_schema.specs.declared.schema.VerticalDef.{VerticalDef}
use Rattle.uni_schema.specs.Schema.{Declarations, vertical_at, is_vertical}
use Rattle.shard_index.specs.Places.{stack_place, shard_places, vertical_places, places_from, stack_places, replicas_in, IsStack, stacks_of, stack_count, stack_no}

pub get_left : {X : Type 0} (xs ys : List X) (i : ℕ) → i < length xs → slice_get (xs ++ ys) i ≡ slice_get xs i
get_left [] ys i fits = absurd (omega arith)
get_left (x ∷ xs) ys zero fits = refl
get_left (x ∷ xs) ys (suc i) fits = get_left xs ys i (omega arith)

pub get_right : {X : Type 0} (xs ys : List X) (i n : ℕ) → i ≡ length xs + n → slice_get (xs ++ ys) i ≡ slice_get ys n
get_right [] ys i n e = let is : i ≡ n = omega arith in ap (slice_get ys) is
get_right (x ∷ xs) ys zero n e = absurd (omega arith)
get_right (x ∷ xs) ys (suc i) n e = get_right xs ys i n (omega arith)

-- ---- the places of one shard

pub at_range : {X : Type 0} (f : ℕ → X) (a n i : ℕ) → i < n → slice_get (map f (range_with_len a n)) i ≡ Some (f (a + i))
at_range f a zero i fits = absurd (omega arith)
at_range f a (suc n) zero fits = let same : a ≡ a + 0 = omega arith in ap (λ k. Some (f k)) same
at_range f a (suc n) (suc i) fits = let same : a + 1 + i ≡ a + suc i = omega arith in at_range f (a + 1) n i (omega arith) ∙ ap (λ k. Some (f k)) same

pub length-shard : (v replicas s : ℕ) → length (shard_places v replicas s) ≡ replicas
length-shard v replicas s = length-map-range_with_len (stack_place v s) 0 replicas

-- ---- those of the shards of a vertical

length-shards : (v replicas a n : ℕ) → length (flat_map (shard_places v replicas) (range_with_len a n)) ≡ n * replicas
length-shards v replicas a zero = omega arith
length-shards v replicas a (suc n) =
    omega (
      arith,
      length-append (shard_places v replicas a) (flat_map (shard_places v replicas) (range_with_len (a + 1) n)),
      length-shard v replicas a,
      length-shards v replicas (a + 1) n,
    )

in_shards : (v replicas a n k r i : ℕ) → k < n → r < replicas → i ≡ k * replicas + r → slice_get (flat_map (shard_places v replicas) (range_with_len a n)) i ≡ Some (stack_place v (a + k) r)
in_shards v replicas a zero k r i below fits e = absurd (omega arith)
in_shards v replicas a (suc n) zero r i below fits e =
    let same : 0 + i ≡ r = omega arith in let first : a ≡ a + 0 = omega arith in
    get_left (shard_places v replicas a) (flat_map (shard_places v replicas) (range_with_len (a + 1) n)) i (omega (arith, length-shard v replicas a)) ∙ at_range (stack_place v a) 0 replicas i (omega arith)
    ∙ (λ j. Some (stack_place v (first j) (same j)))
in_shards v replicas a (suc n) (suc k) r i below fits e =
    let same : a + 1 + k ≡ a + suc k = omega arith in
    get_right (shard_places v replicas a) (flat_map (shard_places v replicas) (range_with_len (a + 1) n)) i (k * replicas + r) (omega (arith, length-shard v replicas a))
    ∙ in_shards v replicas (a + 1) n k r (k * replicas + r) (omega arith) fits refl ∙ ap (λ s. Some (stack_place v s r)) same

length-vertical : (v : ℕ) (d : VerticalDef) → length (vertical_places v d) ≡ stacks_of d
length-vertical v d = length-shards v d.replicas 0 d.shards

-- ---- those of all verticals

length-places : (a : ℕ) (ds : List VerticalDef) → length (places_from a ds) ≡ sum_by stacks_of ds
length-places a [] = refl
length-places a (d ∷ ds) = length-append (vertical_places a d) (places_from (a + 1) ds) ∙ (λ i. length-vertical a d i + length-places (a + 1) ds i) ∙ sym (sum_by-cons stacks_of d ds)

pub count_is : (schema : Declarations) → length (stack_places schema) ≡ stack_count schema
count_is schema = length-places 0 schema.verticals

in_places : (ds : List VerticalDef) (a v i j : ℕ) (d : VerticalDef) → slice_get ds v ≡ Some d → j < stacks_of d → i ≡ sum_by stacks_of (take v ds) + j → slice_get (places_from a ds) i ≡ slice_get (vertical_places (a + v) d) j
in_places [] a v i j d at below e = cc
in_places (x ∷ ds) a zero i j d at below e =
    let is : x ≡ d = cc in let same : i ≡ j = omega arith in let first : a ≡ a + 0 = omega arith in
    let fits : i < length (vertical_places a x) = omega (arith, length-vertical a x, ap stacks_of is) in
    get_left (vertical_places a x) (places_from (a + 1) ds) i fits ∙ (λ k. slice_get (vertical_places (first k) (is k)) (same k))
in_places (x ∷ ds) a (suc v) i j d at below e =
    let same : a + 1 + v ≡ a + suc v = omega arith in
    get_right (vertical_places a x) (places_from (a + 1) ds) i (sum_by stacks_of (take v ds) + j) (omega (arith, length-vertical a x, sum_by-cons stacks_of x (take v ds)))
    ∙ in_places ds (a + 1) v (sum_by stacks_of (take v ds) + j) j d at below refl ∙ ap (λ n. slice_get (vertical_places n d) j) same

regrouped : (a b c : ℕ) → a + b + c ≡ a + (b + c)
regrouped a b c = omega arith

-- the place of a stack is at its number
pub stack_is_at : (schema : Declarations) (v s r : ℕ) → IsStack schema v s r → slice_get (stack_places schema) (stack_no schema v s r) ≡ Some (stack_place v s r)
stack_is_at schema v s r stack = by (vertical_at schema v) refl stack.shard stack.replica
  where
    by : (o : Option VerticalDef) → vertical_at schema v ≡ o → s < option_map_or (λ d. d.shards) o 0 → r < option_map_or (λ d. d.replicas) o 0
        → slice_get (stack_places schema) (stack_no schema v s r) ≡ Some (stack_place v s r)
    by None at shard replica = absurd (omega arith)
    by (Some d) at shard replica =
        let replicas : replicas_in schema v ≡ d.replicas = ap (λ o. option_map_or (λ (x : VerticalDef). x.replicas) o 0) at in
        let top : suc s * d.replicas ≤ d.shards * d.replicas = mul-le-mul_right d.replicas (omega arith) in
        let j : ℕ = s * d.replicas + r in
        let no : stack_no schema v s r ≡ sum_by stacks_of (take v schema.verticals) + j = ap (λ n. sum_by stacks_of (take v schema.verticals) + s * n + r) replicas ∙ regrouped (sum_by stacks_of (take v schema.verticals)) (s * d.replicas) r in
        in_places schema.verticals 0 v (stack_no schema v s r) j d at (omega (arith, top)) no ∙ ap (λ n. slice_get (vertical_places n d) j) zero_left
        ∙ in_shards v d.replicas 0 d.shards s r j (omega arith) replica refl ∙ ap (λ n. Some (stack_place v n r)) first
      where
        zero_left : 0 + v ≡ v
        zero_left = omega arith

        first : 0 + s ≡ s
        first = omega arith

pub stack_below : (schema : Declarations) (v s r : ℕ) → IsStack schema v s r → stack_no schema v s r < stack_count schema
stack_below schema v s r stack = omega (arith, slice_get_within (stack_places schema) (stack_no schema v s r) (stack_place v s r) (stack_is_at schema v s r stack), count_is schema)

-- ---- one vertical more, and one shard more

places-append : (a : ℕ) (xs ys : List VerticalDef) → places_from a (xs ++ ys) ≡ places_from a xs ++ places_from (a + length xs) ys
places-append a [] ys = let same : a ≡ a + 0 = omega arith in ap (λ n. places_from n ys) same
places-append a (x ∷ xs) ys =
    let same : a + 1 + length xs ≡ a + length (x ∷ xs) = omega arith in
    ap (λ ps. vertical_places a x ++ ps) (places-append (a + 1) xs ys ∙ ap (λ n. places_from (a + 1) xs ++ places_from n ys) same)
    ∙ sym (append_assoc (vertical_places a x) (places_from (a + 1) xs) (places_from (a + length (x ∷ xs)) ys))

pub vertical_more : (ds : List VerticalDef) (i : ℕ) (d : VerticalDef) → slice_get ds i ≡ Some d → places_from 0 (take (i + 1) ds) ≡ places_from 0 (take i ds) ++ vertical_places i d
vertical_more ds i d at =
    let fits : i < length ds = slice_get_within ds i d at in
    let long : 0 + length (take i ds) ≡ i = omega (arith, length-take-le i ds (omega arith)) in
    ap (places_from 0) (take_more ds i d fits ∙ ap (λ x. take i ds ++ x ∷ []) (get_or_from_slice_get ds i d d at)) ∙ places-append 0 (take i ds) (d ∷ [])
    ∙ ap (λ ps. places_from 0 (take i ds) ++ ps) (append-nil (vertical_places (0 + length (take i ds)) d) ∙ ap (λ n. vertical_places n d) long)

range_more : (a n : ℕ) → range_with_len a (suc n) ≡ range_with_len a n ++ (a + n) ∷ []
range_more a zero = let same : a ≡ a + 0 = omega arith in ap (λ k. k ∷ []) same
range_more a (suc n) = let same : a + 1 + n ≡ a + suc n = omega arith in ap (λ ks. a ∷ ks) (range_more (a + 1) n ∙ ap (λ k. range_with_len (a + 1) n ++ k ∷ []) same)

pub shard_more : (v replicas n : ℕ) → flat_map (shard_places v replicas) (range_with_len 0 (n + 1)) ≡ flat_map (shard_places v replicas) (range_with_len 0 n) ++ shard_places v replicas n
shard_more v replicas n =
    let one : n + 1 ≡ suc n = omega arith in let first : 0 + n ≡ n = omega arith in
    ap (λ k. flat_map (shard_places v replicas) (range_with_len 0 k)) one ∙ ap (flat_map (shard_places v replicas)) (range_more 0 n ∙ ap (λ k. range_with_len 0 n ++ k ∷ []) first)
    ∙ flat_map-append (shard_places v replicas) (range_with_len 0 n) (n ∷ []) ∙ ap (λ ps. flat_map (shard_places v replicas) (range_with_len 0 n) ++ ps) (append-nil (shard_places v replicas n))

-- ---- how many stacks there are at most

within : (a b : ℕ) → nat_le a b ≡ true → a ≤ b
within a b e = grind (arith, nat_tests)

pub few_stacks : (d : VerticalDef) → is_vertical d ≡ true → stacks_of d ≤ 256
few_stacks d is =
    let replicas : d.replicas ≤ 4 = within d.replicas 4 (last_of_two (nat_le 1 d.shards && nat_le d.shards 64 && nat_le 1 d.replicas) (nat_le d.replicas 4) is) in
    let shards : d.shards ≤ 64 = within d.shards 64 (last_of_two (nat_le 1 d.shards) (nat_le d.shards 64) (first_of_two (nat_le 1 d.shards && nat_le d.shards 64) (nat_le 1 d.replicas) (first_of_two (nat_le 1 d.shards && nat_le d.shards 64 && nat_le 1 d.replicas) (nat_le d.replicas 4) is))) in
    mul-le d.shards d.replicas 64 4 shards replicas
  where
    first_of_two : (a b : Bool) → (a && b) ≡ true → a ≡ true
    first_of_two true b e = refl
    first_of_two false b e = cc

    last_of_two : (a b : Bool) → (a && b) ≡ true → b ≡ true
    last_of_two true b e = e
    last_of_two false b e = cc

pub found_below : {X : Type 0} (xs : List X) (i : ℕ) → i < length xs → (x : X) × (slice_get xs i ≡ Some x)
found_below [] i fits = absurd (omega arith)
found_below (x ∷ xs) zero fits = (x, refl)
found_below (x ∷ xs) (suc i) fits = found_below xs i (omega arith)
