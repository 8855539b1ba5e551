-- Binary digits, and keys about a place of a list in rank order.
use Rattle.std.proofs.Common.{◌≡◌, ℕ, zero, suc, ◌+◌, ◌*◌, ◌/◌, ◌<◌, ◌≤◌, true, false, List, length, get_or, sym, ◌⊎◌, inl, inr, ◌∙◌, ap, subst, arith}
use Rattle.std.proofs.lemmas.Bool.{cases_lt}
use Rattle.std.proofs.lemmas.List.{get_or_read}
use Rattle.std.proofs.lemmas.Int.Digits.{length-digits_of_step, length-digits_of-le}
use Rattle.uni_base.specs.declared.entity.DocKey.{DocKey}
use Rattle.uni_base.specs.Cursors.{is_before}
use Rattle.uni_base.proofs.RankedLemmas.{is_before_trans, is_before_trans_left, is_before_back}
use Rattle.posting_lists.specs.Search.{digits, RisesWithin, AllBefore, NoneBefore, HasLasts}

pub digits_half : (n : ℕ) → 0 < n → digits n ≡ digits (n / 2) + 1
digits_half n some = length-digits_of_step 2 n (omega arith) some

-- with enough halvings at hand, more has no fewer digits
monotone : (fuel m n : ℕ) → n ≤ fuel → m ≤ n → digits m ≤ digits n
monotone zero m n fuel le = let is : m ≡ n = omega arith in subst (λ (k : ℕ). digits m ≤ digits k) is (omega arith)
monotone (suc fuel) zero n fits le = omega arith
monotone (suc fuel) (suc m) n fits le =
    let half : digits (suc m / 2) ≤ digits (n / 2) = monotone fuel (suc m / 2) (n / 2) (omega arith) (omega arith) in
    omega (arith, half, digits_half (suc m) (omega arith), digits_half n (omega arith))

pub digits_monotone : (m n : ℕ) → m ≤ n → digits m ≤ digits n
digits_monotone m n le = monotone n m n (omega arith) le

pub digits_double : (n : ℕ) → 0 < n → digits (n * 2) ≡ digits n + 1
digits_double n some = let half : (n * 2) / 2 ≡ n = omega arith in digits_half (n * 2) (omega arith) ∙ ap (λ k. digits k + 1) half

-- a block's places take 8 halvings at most
pub digits_block : (n : ℕ) → n ≤ 128 → digits n ≤ 8
digits_block n le = length-digits_of-le 2 8 n (omega arith) (omega arith)

-- what comes after a key that does not come before another does not either
is_before_back_of : (from a b : DocKey) → is_before a from ≡ false → is_before a b ≡ true → is_before b from ≡ false
is_before_back_of from a b p q = is_before_back from b (is_before_trans_left from a b p q)

-- where a key comes before another, so do all at or before its place
pub all_up_to : (from : DocKey) (keys : List DocKey) (low high place : ℕ) → RisesWithin keys low high → place < high → ((d : DocKey) → is_before (get_or keys place d) from ≡ true)
    → AllBefore from keys low (place + 1)
all_up_to from keys low high place rises lt here i d above below = by (cases_lt i place)
  where
    by : (i < place) ⊎ (place ≤ i) → is_before (get_or keys i d) from ≡ true
    by (inl l) = is_before_trans (get_or keys i d) (get_or keys place d) from (rises i place d above l lt) (here d)
    by (inr l) = let e : i ≡ place = omega arith in subst (λ (k : ℕ). is_before (get_or keys k d) from ≡ true) (sym e) (here d)

-- where a key does not come before another, nor does any at or after its place
pub none_from : (from : DocKey) (keys : List DocKey) (low high place : ℕ) → RisesWithin keys low high → low ≤ place → ((d : DocKey) → is_before (get_or keys place d) from ≡ false)
    → NoneBefore from keys place high
none_from from keys low high place rises le here i d above below = by (cases_lt place i)
  where
    by : (place < i) ⊎ (i ≤ place) → is_before (get_or keys i d) from ≡ false
    by (inl l) = is_before_back_of from (get_or keys place d) (get_or keys i d) (here d) (rises place i d le l below)
    by (inr l) = let e : i ≡ place = omega arith in subst (λ (k : ℕ). is_before (get_or keys k d) from ≡ false) (sym e) (here d)

-- the same for the key that was read at the place
pub passes_up_to : (from : DocKey) (keys : List DocKey) (low high place : ℕ) (x : DocKey) → RisesWithin keys low high → place < high → high ≤ length keys → x ≡ get_or keys place x → is_before x from ≡ true
    → AllBefore from keys low (place + 1)
passes_up_to from keys low high place x rises lt fits is answer =
    all_up_to from keys low high place rises lt (λ d. subst (λ (k : DocKey). is_before k from ≡ true) (get_or_read keys place x (omega arith) is d) answer)

pub fails_from : (from : DocKey) (keys : List DocKey) (low high place : ℕ) (x : DocKey) → RisesWithin keys low high → low ≤ place → place < high → high ≤ length keys → x ≡ get_or keys place x → is_before x from ≡ false
    → NoneBefore from keys place high
fails_from from keys low high place x rises le lt fits is answer =
    none_from from keys low high place rises le (λ d. subst (λ (k : DocKey). is_before k from ≡ false) (get_or_read keys place x (omega arith) is d) answer)

-- what holds of the keys up to a place and of those from there on
pub AllBefore-joined : (from : DocKey) (keys : List DocKey) (low middle high : ℕ) → AllBefore from keys low middle → AllBefore from keys middle high → AllBefore from keys low high
AllBefore-joined from keys low middle high p q i d above below = by (cases_lt i middle)
  where
    by : (i < middle) ⊎ (middle ≤ i) → is_before (get_or keys i d) from ≡ true
    by (inl l) = p i d above l
    by (inr l) = q i d l below

pub NoneBefore-joined : (from : DocKey) (keys : List DocKey) (low middle high : ℕ) → NoneBefore from keys low middle → NoneBefore from keys middle high → NoneBefore from keys low high
NoneBefore-joined from keys low middle high p q i d above below = by (cases_lt i middle)
  where
    by : (i < middle) ⊎ (middle ≤ i) → is_before (get_or keys i d) from ≡ false
    by (inl l) = p i d above l
    by (inr l) = q i d l below

-- one halving less
pub digits_less : (n m : ℕ) → 0 < n → m ≤ n / 2 → digits m + 1 ≤ digits n
digits_less n m some le = omega (arith, digits_half n some, digits_monotone m (n / 2) le)

-- where the last key of a whole block comes before a key, so do all up to the block's end
pub block_passed : (from : DocKey) (keys lasts : List DocKey) (low end b : ℕ) → RisesWithin keys low end → HasLasts keys lasts → end ≤ length keys → b < end / 128
    → ((d : DocKey) → is_before (get_or lasts b d) from ≡ true) → AllBefore from keys low (128 * b + 128)
block_passed from keys lasts low end b rises has fits whole answer i d above below =
    all_up_to from keys low end (128 * b + 127) rises (omega arith) (λ e. subst (λ (k : DocKey). is_before k from ≡ true) (has.key b e (omega (arith, has.count))) (answer e)) i d above (omega arith)

-- where it does not, none of those after the block does
pub block_left : (from : DocKey) (keys lasts : List DocKey) (low end b : ℕ) → RisesWithin keys low end → HasLasts keys lasts → end ≤ length keys → low ≤ 128 * b + 127 → b < end / 128
    → ((d : DocKey) → is_before (get_or lasts b d) from ≡ false) → NoneBefore from keys (128 * b + 128) end
block_left from keys lasts low end b rises has fits le whole answer i d above below =
    none_from from keys low end (128 * b + 127) rises le (λ e. subst (λ (k : DocKey). is_before k from ≡ false) (has.key b e (omega (arith, has.count))) (answer e)) i d (omega arith) below

-- the last keys of the blocks between two places rise
pub lasts_rise : (keys lasts : List DocKey) (low end : ℕ) → RisesWithin keys low end → HasLasts keys lasts → end ≤ length keys → RisesWithin lasts (low / 128) (end / 128)
lasts_rise keys lasts low end rises has fits i j d above less below =
    let first = has.key i d (omega (arith, has.count)) in
    let second = has.key j d (omega (arith, has.count)) in
    subst (λ (k : DocKey). is_before k (get_or lasts j d) ≡ true) (sym first) (subst (λ (k : DocKey). is_before (get_or keys (128 * i + 127) d) k ≡ true) (sym second)
    (rises (128 * i + 127) (128 * j + 127) d (omega arith) (omega arith) (omega arith)))
