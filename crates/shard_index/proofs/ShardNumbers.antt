-- Each shard has a number among those of all verticals, and no two have the same one.
use Rattle.std.proofs.Common.{◌≡◌, ◌⊎◌, inl, inr, ℕ, zero, suc, ◌+◌, ◌*◌, ◌<◌, ◌≤◌, ◌&&◌, ◌%◌, ◌^◌, true, List, [], ◌∷◌, take, length, Some, refl, sym, ◌∙◌, ap, arith, slice_get, length-append, sum_by}
use Rattle.std.proofs.Math.Seq.{take-length}
use Rattle.std.proofs.Math.Nat.{mod-lt}
use Rattle.std.proofs.lemmas.Bool.{and_parts}
use Rattle.std.proofs.lemmas.Bool.Decides.{nat_tests}
use Rattle.std.proofs.lemmas.List.FromFn.{length-map-range_with_len, get_or-map-range_with_len}
use Rattle.std.proofs.lemmas.List.Sums.{sum_by-cons, sum_by_more, sum_by-take-le, AllPass-from_list_all}
use Rattle.std.proofs.lemmas.Option.{get_or_from_slice_get, slice_get_within}
use Rattle.std.specs.Prelude.{nat_le, slice_index_or}
use Rattle.std.specs.List.{list_all}
use Rattle.std.specs.Option.{option_map, option_map_or}
use Rattle.uni_schema.specs.declared.schema.VerticalDef.{VerticalDef}
use Rattle.uni_schema.specs.Schema.{Declarations, vertical_at, shard_of, is_vertical, IsSchema}
use Rattle.shard_index.specs.Batches.{ShardPlace, shard_place, shards_of, shards_from, all_shards}
use Rattle.shard_index.specs.Numbers.{shard_for, shards_before, AreFirsts}
use Rattle.shard_index.proofs.StackPlaces.{get_left, get_right, at_range}

abbrev shards : VerticalDef → ℕ
shards declared = declared.shards

length-shards : (v : ℕ) (d : VerticalDef) → length (shards_of v d) ≡ d.shards
length-shards v d = length-map-range_with_len (shard_place v) 0 d.shards

length-from : (a : ℕ) (ds : List VerticalDef) → length (shards_from a ds) ≡ sum_by shards ds
length-from a [] = refl
length-from a (d ∷ ds) = length-append (shards_of a d) (shards_from (a + 1) ds) ∙ (λ i. length-shards a d i + length-from (a + 1) ds i) ∙ sym (sum_by-cons shards d ds)

-- as many shards as all verticals have
pub count_is : (schema : Declarations) → shards_before schema (length schema.verticals) ≡ length (all_shards schema)
count_is schema = ap (sum_by shards) (take-length schema.verticals) ∙ sym (length-from 0 schema.verticals)

-- ---- the numbers of the first shards

module _ (schema : Declarations) (firsts : List ℕ) (are : AreFirsts schema firsts) where
  pub firsts_long : length firsts ≡ length schema.verticals + 1
  firsts_long = ap length are ∙ length-map-range_with_len (shards_before schema) 0 (length schema.verticals + 1)

  pub first_at : (vertical : ℕ) → vertical ≤ length schema.verticals → slice_index_or firsts vertical 0 ≡ shards_before schema vertical
  first_at vertical fits =
      let same : 0 + vertical ≡ vertical = omega arith in
      ap (λ ns. slice_index_or ns vertical 0) are ∙ get_or-map-range_with_len (shards_before schema) 0 (length schema.verticals + 1) vertical vertical 0 (omega (arith, fits)) same

  -- the number of a shard in a vertical, by that of the first one
  pub number_is : (vertical : ℕ) → vertical < length schema.verticals → (s t : ℕ) → s ≡ t → slice_index_or firsts vertical 0 + s ≡ shards_before schema vertical + t
  number_is vertical below s t is =
      let fits : vertical ≤ length schema.verticals = omega (arith, below) in
      let first = first_at vertical fits in λ i. first i + is i

-- the sum with one vertical more
pub before_more : (schema : Declarations) (vertical : ℕ) (d : VerticalDef) → vertical_at schema vertical ≡ Some d → shards_before schema vertical + d.shards ≡ shards_before schema (vertical + 1)
before_more schema vertical d at =
    sym (sum_by_more shards schema.verticals vertical d (slice_get_within schema.verticals vertical d at)
    ∙ ap (λ (x : VerticalDef). sum_by shards (take vertical schema.verticals) + x.shards) (get_or_from_slice_get schema.verticals vertical d d at))

-- ---- the shard at a number

pub at_number : (ds : List VerticalDef) (a v i s : ℕ) (d : VerticalDef) → slice_get ds v ≡ Some d → s < d.shards → i ≡ sum_by shards (take v ds) + s → slice_get (shards_from a ds) i ≡ Some (shard_place (a + v) s)
at_number [] a v i s d at below e = cc
at_number (x ∷ ds) a zero i s d at below e =
    let is : x ≡ d = cc in let first : a ≡ a + 0 = omega arith in let same : 0 + i ≡ s = omega (arith, e) in
    let fits : i < length (shards_of a x) = omega (arith, e, below, length-shards a x, ap shards is) in
    let own : i < x.shards = omega (arith, fits, length-shards a x) in
    get_left (shards_of a x) (shards_from (a + 1) ds) i fits ∙ at_range (shard_place a) 0 x.shards i own ∙ (λ k. Some (shard_place (first k) (same k)))
at_number (x ∷ ds) a (suc v) i s d at below e =
    let same : a + 1 + v ≡ a + suc v = omega arith in
    get_right (shards_of a x) (shards_from (a + 1) ds) i (sum_by shards (take v ds) + s) (omega (arith, e, length-shards a x, sum_by-cons shards x (take v ds)))
    ∙ at_number ds (a + 1) v (sum_by shards (take v ds) + s) s d at below refl ∙ ap (λ n. Some (shard_place n s)) same

-- ---- the number of a shard

split : (n j : ℕ) → (j < n) ⊎ ((m : ℕ) × (j ≡ n + m))
split zero j = inr (j, omega arith)
split (suc n) zero = inl (omega arith)
split (suc n) (suc j) = by (split n j)
  where
    by : (j < n) ⊎ ((m : ℕ) × (j ≡ n + m)) → (suc j < suc n) ⊎ ((m : ℕ) × (suc j ≡ suc n + m))
    by (inl below) = inl (omega (arith, below))
    by (inr above) = let e = above.1 in inr (above.0, omega (arith, e))

record Numbered (ds : List VerticalDef) (a j : ℕ) (p : ShardPlace) : Type 0 where
  index : ℕ
  declared : VerticalDef
  at : slice_get ds index ≡ Some declared
  vertical : p.vertical ≡ a + index
  number : j ≡ sum_by shards (take index ds) + p.shard

numbered : (ds : List VerticalDef) (a j : ℕ) (p : ShardPlace) → slice_get (shards_from a ds) j ≡ Some p → Numbered ds a j p
numbered [] a j p e = cc
numbered (d ∷ ds) a j p e = by (split d.shards j) (λ m there. numbered ds (a + 1) m p there)
  where
    by : (j < d.shards) ⊎ ((m : ℕ) × (j ≡ d.shards + m)) → ((m : ℕ) → slice_get (shards_from (a + 1) ds) m ≡ Some p → Numbered ds (a + 1) m p) → Numbered (d ∷ ds) a j p
    by (inl below) more =
        let fits : j < length (shards_of a d) = omega (arith, below, length-shards a d) in
        let here : Some (shard_place a (0 + j)) ≡ Some p = sym (get_left (shards_of a d) (shards_from (a + 1) ds) j fits ∙ at_range (shard_place a) 0 d.shards j below) ∙ e in
        let is : shard_place a (0 + j) ≡ p = cc in
        let vertical : a ≡ p.vertical = ap (λ (q : ShardPlace). q.vertical) is in
        let shard : 0 + j ≡ p.shard = ap (λ (q : ShardPlace). q.shard) is in
        record { index = 0; declared = d; at = refl; vertical = omega (arith, vertical); number = omega (arith, shard) }
    by (inr above) more =
        let e2 = above.1 in
        let later : slice_get (shards_from (a + 1) ds) (above.0) ≡ Some p = sym (get_right (shards_of a d) (shards_from (a + 1) ds) j (above.0) (omega (arith, e2, length-shards a d))) ∙ e in
        let rest = more (above.0) later in
        let vertical = rest.vertical in let number = rest.number in
        record {
          index = suc rest.index;
          declared = rest.declared;
          at = rest.at;
          vertical = omega (arith, vertical);
          number = omega (arith, e2, number, sum_by-cons shards d (take rest.index ds));
        }

-- a shard is of a vertical that there is
pub of_vertical : (schema : Declarations) (j : ℕ) (p : ShardPlace) → slice_get (all_shards schema) j ≡ Some p → (d : VerticalDef) × (vertical_at schema p.vertical ≡ Some d)
of_vertical schema j p e =
    let is = numbered schema.verticals 0 j p e in
    let same : p.vertical ≡ is.index = let vertical = is.vertical in omega (arith, vertical) in
    (is.declared, ap (slice_get schema.verticals) same ∙ is.at)

-- a shard has one number
pub one_number : (schema : Declarations) (j k : ℕ) (p : ShardPlace) → slice_get (all_shards schema) j ≡ Some p → slice_get (all_shards schema) k ≡ Some p → j ≡ k
one_number schema j k p e f =
    let one = numbered schema.verticals 0 j p e in let other = numbered schema.verticals 0 k p f in
    let v = one.vertical in let w = other.vertical in let m = one.number in let n = other.number in
    let same : one.index ≡ other.index = omega (arith, v, w) in
    let before : sum_by shards (take one.index schema.verticals) ≡ sum_by shards (take other.index schema.verticals) = ap (λ i. sum_by shards (take i schema.verticals)) same in
    omega (arith, m, n, before)

-- ---- the shard of an id

within : (a b : ℕ) → nat_le a b ≡ true → a ≤ b
within a b e = grind (arith, nat_tests)

pub bounds : (d : VerticalDef) → is_vertical d ≡ true → (1 ≤ d.shards) × (d.shards ≤ 64)
bounds d e =
    let three = and_parts (nat_le 1 d.shards && nat_le d.shards 64 && nat_le 1 d.replicas) (nat_le d.replicas 4) e in
    let two = and_parts (nat_le 1 d.shards && nat_le d.shards 64) (nat_le 1 d.replicas) three.0 in
    let one = and_parts (nat_le 1 d.shards) (nat_le d.shards 64) two.0 in
    (within 1 d.shards one.0, within d.shards 64 one.1)

few : (ds : List VerticalDef) → list_all is_vertical ds ≡ true → sum_by shards ds ≤ 64 * length ds
few [] e = omega arith
few (d ∷ ds) e =
    let parts = and_parts (is_vertical d) (list_all is_vertical ds) e in
    let own : d.shards ≤ 64 = (bounds d parts.0).1 in
    omega (arith, own, few ds parts.1, sum_by-cons shards d ds)

-- there are few shards
pub few_before : (schema : Declarations) → IsSchema schema → (vertical : ℕ) → shards_before schema vertical ≤ 1024
few_before schema kept vertical =
    let verticals = kept.few_verticals in
    omega (arith, few schema.verticals kept.verticals, sum_by-take-le shards schema.verticals vertical, verticals)

pub shard_under : (schema : Declarations) (vertical id : ℕ) (d : VerticalDef) → vertical_at schema vertical ≡ Some d → is_vertical d ≡ true → shard_of schema vertical id < d.shards
shard_under schema vertical id d at declared =
    let some : 1 ≤ d.shards = (bounds d declared).0 in
    let is : shard_of schema vertical id ≡ id % d.shards = ap (λ o. option_map_or (λ (v : VerticalDef). id % v.shards) o 0) at in
    let under : id % d.shards < d.shards = mod-lt id (omega (arith, some)) in
    omega (arith, is, under)

module _ (schema : Declarations) (kept : IsSchema schema) (vertical id : ℕ) (d : VerticalDef) (at : vertical_at schema vertical ≡ Some d) where
  declared : is_vertical d ≡ true
  declared =
      ap is_vertical (sym (get_or_from_slice_get schema.verticals vertical d d at))
      ∙ AllPass-from_list_all is_vertical schema.verticals kept.verticals vertical d (slice_get_within schema.verticals vertical d at)

  shard_below : shard_of schema vertical id < d.shards
  shard_below = shard_under schema vertical id d at declared

  -- the shard of an id at its number
  pub found : slice_get (all_shards schema) (shards_before schema vertical + shard_of schema vertical id) ≡ shard_for schema vertical id
  found =
      let first : 0 + vertical ≡ vertical = omega arith in
      at_number schema.verticals 0 vertical (shards_before schema vertical + shard_of schema vertical id) (shard_of schema vertical id) d at shard_below refl
      ∙ ap (λ n. Some (shard_place n (shard_of schema vertical id))) first
      ∙ sym (ap (option_map (λ (v : VerticalDef). shard_place vertical (shard_of schema vertical id))) at)

  pub found_within : shards_before schema vertical + shard_of schema vertical id < length (all_shards schema)
  found_within =
      slice_get_within (all_shards schema) (shards_before schema vertical + shard_of schema vertical id) (shard_place vertical (shard_of schema vertical id))
      (found ∙ ap (option_map (λ (v : VerticalDef). shard_place vertical (shard_of schema vertical id))) at)

  pub few_found : shards_before schema vertical + shard_of schema vertical id < 2 ^ 32
  few_found = let most : d.shards ≤ 64 = (bounds d declared).1 in omega (arith, few_before schema kept vertical, shard_below, most)
