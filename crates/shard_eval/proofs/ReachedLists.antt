-- Postings of several terms, term by term.
use Rattle.std.proofs.Common.{◌≡◌, ℕ, ◌+◌, ◌<◌, suc, true, false, List, [], ◌∷◌, ◌++◌, Option, None, Some, map, take, drop, length, get_or, slice_get, refl, sym, ◌∙◌, ap, arith, append-nil, append_assoc, subst, take-suc}
use Rattle.std.proofs.lemmas.Bool.{leb-true}
use Rattle.std.proofs.lemmas.Bool.Decides.{nat_tests}
use Rattle.std.proofs.lemmas.List.{length-append, length-map, map-append, take_all}
use Rattle.std.proofs.Math.Seq.{take-append_seam}
use Rattle.std.proofs.lemmas.Grind.{flat_map-append}
use Rattle.posting_lists.specs.declared.posting.Posting.{Posting}
use Rattle.shard_eval.specs.declared.leaf.Leaf.{Leaf}
use Rattle.shard_eval.specs.Found.{Found, found_posting}
use Rattle.shard_eval.specs.Grouped.{firsts}
use Rattle.shard_eval.specs.Kept.{is_full, up_to, IsWithin}

-- the first of each list, with one list more
pub firsts_more : {X : Type 0} (limit : Option ℕ) (find : X → List Found) (xs : List X) (i : ℕ) (x : X) → i < length xs → x ≡ get_or xs i x
    → firsts limit (map find (take (i + 1) xs)) ≡ firsts limit (map find (take i xs)) ++ up_to limit (find x)
firsts_more {X} limit find xs i x within is =
    ap (λ n. firsts limit (map find (take n xs))) (let e : i + 1 ≡ suc i = omega arith in e)
    ∙ ap (λ (ys : List X). firsts limit (map find ys)) (take-suc xs i x within ∙ ap (λ (y : X). take i xs ++ y ∷ []) (sym is))
    ∙ ap (firsts limit) (map-append find (take i xs) (x ∷ []))
    ∙ flat_map-append (up_to limit) (map find (take i xs)) (find x ∷ [])
    ∙ ap (λ (fs : List Found). firsts limit (map find (take i xs)) ++ fs) (append-nil (up_to limit (find x)))

-- what was read so far of a list, behind what was there before
pub record HasRead (before : List Found) (limit : Option ℕ) (now rest all : List Found) : Type 0 where
  pub got : List Found
  pub now_is : now ≡ before ++ got
  pub whole : got ++ rest ≡ all
  pub within : IsWithin (length got) limit

pub within_none : (limit : Option ℕ) → IsWithin 0 limit
within_none None = tt
within_none (Some n) = omega arith

pub within_more : (limit : Option ℕ) (count : ℕ) → is_full count limit ≡ false → IsWithin (count + 1) limit
within_more None count room = tt
within_more (Some n) count room = grind (arith, nat_tests, room)

pub none_read : (before : List Found) (limit : Option ℕ) (all : List Found) → HasRead before limit before all all
none_read before limit all = record { got = []; now_is = sym (append-nil before); whole = refl; within = within_none limit }

pub read_more : (before : List Found) (limit : Option ℕ) (now rest all : List Found) (f : Found) (r : HasRead before limit now (f ∷ rest) all) → is_full (length r.got) limit ≡ false → HasRead before limit (now ++ f ∷ []) rest all
read_more before limit now rest all f r room = record {
  got = r.got ++ f ∷ [];
  now_is = ap (λ (fs : List Found). fs ++ f ∷ []) r.now_is ∙ append_assoc before r.got (f ∷ []);
  whole = append_assoc r.got (f ∷ []) rest ∙ r.whole;
  within = subst (λ n. IsWithin n limit) (sym (length-append r.got (f ∷ []))) (within_more limit (length r.got) room);
}

-- where nothing is left
pub read_all : (before : List Found) (limit : Option ℕ) (now all : List Found) → HasRead before limit now [] all → now ≡ before ++ up_to limit all
read_all before limit now all r = r.now_is ∙ ap (λ (fs : List Found). before ++ fs) (over limit r.within)
  where
    got_all : r.got ≡ all
    got_all = sym (append-nil r.got) ∙ r.whole

    over : (limit : Option ℕ) → IsWithin (length r.got) limit → r.got ≡ up_to limit all
    over None within = got_all
    over (Some n) within = got_all ∙ sym (take_all n all (omega (arith, within, ap length got_all)))

-- where the limit is reached
pub read_full : (before : List Found) (limit : Option ℕ) (now rest all : List Found) (r : HasRead before limit now rest all) → is_full (length r.got) limit ≡ true → now ≡ before ++ up_to limit all
read_full before limit now rest all r full = r.now_is ∙ ap (λ (fs : List Found). before ++ fs) (over limit r.within full)
  where
    over : (limit : Option ℕ) → IsWithin (length r.got) limit → is_full (length r.got) limit ≡ true → r.got ≡ up_to limit all
    over None within full = cc
    over (Some n) within full =
        let exact : length r.got ≡ n = omega (arith, within, leb-true n (length r.got) full) in
        sym (ap (λ k. take k all) (sym exact) ∙ ap (take (length r.got)) (sym r.whole) ∙ take-append_seam r.got rest)

-- how many were read
pub read_count : {X : Type 0} (h : X → Found) (limit : Option ℕ) (olds news : List X) (rest all : List Found) (r : HasRead (map h olds) limit (map h news) rest all) → length news ≡ length olds + length r.got
read_count h limit olds news rest all r = sym (length-map news h) ∙ ap length r.now_is ∙ length-append (map h olds) r.got ∙ ap (λ n. n + length r.got) (length-map olds h)

-- one posting more of a term, and the end of its postings
pub read_posting : (before : List Found) (limit : Option ℕ) (leaf : Leaf) (now : List Found) (ps : List Posting) (p : Posting) (all : List Found) (r : HasRead before limit now (map (found_posting leaf) ps) all)
    → slice_get ps 0 ≡ Some p → is_full (length r.got) limit ≡ false → HasRead before limit (now ++ found_posting leaf p ∷ []) (map (found_posting leaf) (drop 1 ps)) all
read_posting before limit leaf now [] p all r first room = cc
read_posting before limit leaf now (q ∷ ps) p all r first room =
    subst (λ (x : Posting). HasRead before limit (now ++ found_posting leaf x ∷ []) (map (found_posting leaf) ps) all) (let e : q ≡ p = cc in e)
    (read_more before limit now (map (found_posting leaf) ps) all (found_posting leaf q) r room)

pub read_end : (before : List Found) (limit : Option ℕ) (leaf : Leaf) (now : List Found) (ps : List Posting) (all : List Found) → HasRead before limit now (map (found_posting leaf) ps) all
    → ((p : Posting) → slice_get ps 0 ≡ Some p → ⊥) → now ≡ before ++ up_to limit all
read_end before limit leaf now [] all r none = read_all before limit now all r
read_end before limit leaf now (p ∷ ps) all r none = absurd (none p refl)
