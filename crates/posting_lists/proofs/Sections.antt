-- Sections of postings in rank order.
use Rattle.std.proofs.Common.{◌≡◌, ℕ, zero, suc, ◌+◌, ◌-◌, ◌<◌, ◌≤◌, true, false, not, cond, List, [], ◌∷◌, ◌++◌, take, drop, length, get_or, slice_get, Some, refl, sym, ◌∙◌, ap, subst, arith, All, length-drop}
use Rattle.std.proofs.lemmas.List.{take-map, take_more, drop-map, drop-take, drop-drop, get_or-take, get_or-drop, get_or-map, length-map, length-take, map-append}
use Rattle.std.proofs.lemmas.Option.{get_or_from_slice_get, slice_get_within}
use Rattle.std.proofs.lemmas.List.Elements.{All-head, All-tail, All-nil, All-cons, All-append}
use Rattle.uni_base.specs.declared.entity.DocKey.{DocKey}
use Rattle.uni_base.specs.Cursors.{is_before, IsRanked, keys_from}
use Rattle.uni_base.proofs.RankedLemmas.{is_before_trans, is_before_back, IsBeforeAll, IsBeforeAll-ranked, IsRanked-drop}
use Rattle.posting_lists.specs.declared.posting.Posting.{Posting}
use Rattle.posting_lists.specs.Postings.{keys_of, postings_from, section}
use Rattle.posting_lists.specs.Search.{RisesWithin, IsFirstFrom}

pub keys_of-section : (from to : ℕ) (ps : List Posting) → keys_of (section from to ps) ≡ section from to (keys_of ps)
keys_of-section from to ps = sym (take-map (λ (p : Posting). p.key) (to - from) (drop from ps)) ∙ ap (take (to - from)) (sym (drop-map (λ (p : Posting). p.key) from ps))

pub length-section : {X : Type 0} (from to : ℕ) (xs : List X) → from ≤ to → to ≤ length xs → length (section from to xs) ≡ to - from
length-section from to xs le fits = length-take (to - from) (drop from xs) ∙ omega (arith, length-drop from xs)

-- a section with its first ones left out
pub drop-section : {X : Type 0} (n from to : ℕ) (xs : List X) → from + n ≤ to → drop n (section from to xs) ≡ section (from + n) to xs
drop-section n from to xs le =
    let m = to - (from + n) in
    let all : to - from ≡ n + m = omega arith in
    ap (λ k. drop n (take k (drop from xs))) all ∙ drop-take n m (drop from xs) ∙ ap (take m) (drop-drop n from xs)

pub get_or-section : {X : Type 0} (from to i : ℕ) (xs : List X) (d : X) → from + i < to → get_or (section from to xs) i d ≡ get_or xs (from + i) d
get_or-section from to i xs d lt = get_or-take (to - from) (drop from xs) i d (omega arith) ∙ get_or-drop from xs i d

-- a section that gains one item
pub section_more : {X : Type 0} (from i : ℕ) (xs : List X) (x : X) → from ≤ i → slice_get xs i ≡ Some x → section from (i + 1) xs ≡ section from i xs ++ x ∷ []
section_more from i xs x le at =
    let fits : i < length xs = slice_get_within xs i x at in
    let one : i + 1 - from ≡ i - from + 1 = omega arith in
    let place : from + (i - from) ≡ i = omega arith in
    ap (λ n. take n (drop from xs)) one ∙ take_more (drop from xs) (i - from) x (omega (arith, length-drop from xs))
    ∙ ap (λ y. section from i xs ++ y ∷ []) (get_or-drop from xs (i - from) x ∙ ap (λ n. get_or xs n x) place ∙ get_or_from_slice_get xs i x x at)

-- the keys of a ranked list by their places
pub ranked_at : (keys : List DocKey) (i j : ℕ) (d : DocKey) → IsRanked keys → i < j → j < length keys → is_before (get_or keys i d) (get_or keys j d) ≡ true
ranked_at [] i j d ranked less fits = absurd (omega arith)
ranked_at (k ∷ keys) i zero d ranked less fits = absurd (omega arith)
ranked_at (k ∷ keys) zero (suc j) d ranked less fits = ranked.0 j d (omega arith)
ranked_at (k ∷ keys) (suc i) (suc j) d ranked less fits = ranked_at keys i j d ranked.1 (omega arith) (omega arith)

pub section_rises : (keys : List DocKey) (from to : ℕ) → from ≤ to → to ≤ length keys → IsRanked (section from to keys) → RisesWithin keys from to
section_rises keys from to le fits ranked i j d above less below =
    let at : (k : ℕ) → from ≤ k → k < to → get_or (section from to keys) (k - from) d ≡ get_or keys k d =
    λ k l m. get_or-section from to (k - from) keys d (omega arith) ∙ ap (λ n. get_or keys n d) (omega arith) in
    subst (λ (x : DocKey). is_before x (get_or keys j d) ≡ true) (at i above (omega arith))
    (subst (λ (y : DocKey). is_before (get_or (section from to keys) (i - from) d) y ≡ true) (at j (omega arith) below)
    (ranked_at (section from to keys) (i - from) (j - from) d ranked (omega arith) (omega (arith, length-section from to keys le fits))))

-- postings all of whose keys come after a given one
none_passed : (from : DocKey) (ps : List Posting) → IsBeforeAll from (keys_of ps) → postings_from from ps ≡ ps
none_passed from [] all = refl
none_passed from (p ∷ ps) all =
    let here : is_before p.key from ≡ false = is_before_back from p.key (All-head (λ k. is_before from k ≡ true) p.key (keys_of ps) all) in
    ap (λ b. cond (not b) (p ∷ postings_from from ps) (postings_from from ps)) here
    ∙ ap (λ qs. p ∷ qs) (none_passed from ps (All-tail (λ k. is_before from k ≡ true) p.key (keys_of ps) all))

-- what is left of ranked postings from the first place on whose key does not come before a key
pub postings_from-at : (from : DocKey) (ps : List Posting) (i : ℕ) → IsRanked (keys_of ps) → ((j : ℕ) (d : DocKey) → j < i → j < length ps → is_before (get_or (keys_of ps) j d) from ≡ true)
    → ((d : DocKey) → i < length ps → is_before (get_or (keys_of ps) i d) from ≡ false) → postings_from from ps ≡ drop i ps
postings_from-at from [] zero ranked below at = refl
postings_from-at from [] (suc i) ranked below at = refl
postings_from-at from (p ∷ ps) zero ranked below at =
    let here : is_before p.key from ≡ false = at p.key (omega arith) in
    ap (λ b. cond (not b) (p ∷ postings_from from ps) (postings_from from ps)) here
    ∙ ap (λ qs. p ∷ qs) (none_passed from ps (IsBeforeAll-ranked from p.key (keys_of ps) ranked here))
postings_from-at from (p ∷ ps) (suc i) ranked below at =
    ap (λ b. cond (not b) (p ∷ postings_from from ps) (postings_from from ps)) (below 0 p.key (omega arith) (omega arith))
    ∙ postings_from-at from ps i ranked.1 (λ j d l m. below (suc j) d (omega arith) (omega arith)) (λ d l. at d (omega arith))

pub keys_of-postings_from : (from : DocKey) (ps : List Posting) → keys_of (postings_from from ps) ≡ keys_from from (keys_of ps)
keys_of-postings_from from [] = refl
keys_of-postings_from from (p ∷ ps) =
    elim (not (is_before p.key from)) as (λ b. keys_of (cond b (p ∷ postings_from from ps) (postings_from from ps)) ≡ cond b (p.key ∷ keys_from from (keys_of ps)) (keys_from from (keys_of ps))) [
      | true ↦ ap (λ ks. p.key ∷ ks) (keys_of-postings_from from ps)
      | false ↦ keys_of-postings_from from ps
    ]

-- a seek within a section
pub section_from : (from : DocKey) (ps : List Posting) (at end place : ℕ) → at ≤ end → end ≤ length ps → IsRanked (keys_of (section at end ps)) → IsFirstFrom from (keys_of ps) at end place
    → postings_from from (section at end ps) ≡ section place end ps
section_from from ps at end place le fits ranked found =
    let n = place - at in
    let long : length (section at end ps) ≡ end - at = length-section at end ps le fits in
    let key : (j : ℕ) (d : DocKey) → at + j < end → get_or (keys_of (section at end ps)) j d ≡ get_or (keys_of ps) (at + j) d =
    λ j d l. ap (λ ks. get_or ks j d) (keys_of-section at end ps) ∙ get_or-section at end j (keys_of ps) d l in
    postings_from-at from (section at end ps) n ranked
    (λ j d l m. subst (λ (k : DocKey). is_before k from ≡ true) (sym (key j d (omega (arith, long)))) (found.passed (at + j) d (omega arith) (omega (arith, found.above))))
    (λ d l. subst (λ (k : DocKey). is_before k from ≡ false) (sym (key n d (omega (arith, long)))) (found.left (at + n) d (omega (arith, found.above)) (omega (arith, long))))
    ∙ drop-section n at end ps (omega (arith, found.above, found.below)) ∙ ap (λ k. section k end ps) (omega (arith, found.above))

pub section_ranked : (ps : List Posting) (at end place : ℕ) → at ≤ place → place ≤ end → IsRanked (keys_of (section at end ps)) → IsRanked (keys_of (section place end ps))
section_ranked ps at end place le below ranked =
    let n = place - at in
    let is : drop n (keys_of (section at end ps)) ≡ keys_of (section place end ps) =
    drop-map (λ (p : Posting). p.key) n (section at end ps) ∙ ap keys_of (drop-section n at end ps (omega arith) ∙ ap (λ k. section k end ps) (omega arith)) in
    subst IsRanked is (IsRanked-drop n (keys_of (section at end ps)) ranked)

-- the first of a section
pub slice_get-section : {X : Type 0} (at end : ℕ) (xs : List X) → at < end → end ≤ length xs → slice_get (section at end xs) 0 ≡ slice_get xs at
slice_get-section at end [] lt fits = absurd (omega arith)
slice_get-section zero end (x ∷ xs) lt fits = first (end - 0) (omega arith)
  where
    first : (m : ℕ) → 0 < m → slice_get (take m (x ∷ xs)) 0 ≡ Some x
    first zero l = absurd (omega arith)
    first (suc m) l = refl
slice_get-section (suc at) zero (x ∷ xs) lt fits = absurd (omega arith)
slice_get-section (suc at) (suc end) (x ∷ xs) lt fits = ap (λ n. slice_get (take n (drop at xs)) 0) same ∙ slice_get-section at end xs (omega arith) (omega arith)
  where
    same : suc end - suc at ≡ end - at
    same = omega arith

-- one more posting, whose key comes after the last one
pub IsRanked-more : (ps : List Posting) (p : Posting) → IsRanked (keys_of ps) → ((d : Posting) → 0 < length ps → is_before (get_or ps (length ps - 1) d).key p.key ≡ true) → IsRanked (keys_of (ps ++ p ∷ []))
IsRanked-more [] p ranked last = (All-nil (λ k. is_before p.key k ≡ true), tt)
IsRanked-more (q ∷ ps) p ranked last = (after, IsRanked-more ps p ranked.1 later)
  where
    later : (d : Posting) → 0 < length ps → is_before (get_or ps (length ps - 1) d).key p.key ≡ true
    later d some = subst (λ (n : ℕ). is_before (get_or (q ∷ ps) n d).key p.key ≡ true) same (last d (omega arith))
      where
        same : length (q ∷ ps) - 1 ≡ suc (length ps - 1)
        same = omega arith

    here : is_before q.key p.key ≡ true
    here = by ps ranked last
      where
        by : (rest : List Posting) → IsRanked (keys_of (q ∷ rest)) → ((d : Posting) → 0 < length (q ∷ rest) → is_before (get_or (q ∷ rest) (length (q ∷ rest) - 1) d).key p.key ≡ true) → is_before q.key p.key ≡ true
        by [] r l = l p (omega arith)
        by (x ∷ rest) r l =
            let n : length (q ∷ x ∷ rest) - 1 ≡ suc (length rest) = omega arith in
            let final : is_before (get_or (x ∷ rest) (length rest) p).key p.key ≡ true = subst (λ (m : ℕ). is_before (get_or (q ∷ x ∷ rest) m p).key p.key ≡ true) n (l p (omega arith)) in
            is_before_trans q.key (get_or (x ∷ rest) (length rest) p).key p.key (subst (λ (k : DocKey). is_before q.key k ≡ true) (get_or-map (λ (y : Posting). y.key) (x ∷ rest) (length rest) p p.key (omega arith)) (r.0 (length rest) p.key (omega (arith, length-map (x ∷ rest) (λ (y : Posting). y.key))))) final

    after : All (λ k. is_before q.key k ≡ true) (keys_of (ps ++ p ∷ []))
    after = subst (λ (ks : List DocKey). All (λ k. is_before q.key k ≡ true) ks) (sym (map-append (λ (y : Posting). y.key) ps (p ∷ [])))
        (All-append (λ k. is_before q.key k ≡ true) (keys_of ps) (p.key ∷ []) ranked.0 (All-cons (λ k. is_before q.key k ≡ true) p.key [] here (All-nil (λ k. is_before q.key k ≡ true))))
