-- Postings by their places.
use Rattle.std.proofs.Common.{◌≡◌, ℕ, ◌+◌, ◌<◌, ◌≤◌, ◌++◌, append_assoc, suc, zero, Bool, true, false, not, ◌&&◌, cond, List, [], ◌∷◌, Some, filter, map, take, drop, length, get_or, slice_get, refl, sym, ◌∙◌, ap, subst, arith}
use Rattle.std.specs.List.{drop-map, take-map}
use Rattle.std.specs.List.Sorted.{IsStableByKey, ties}
use Rattle.std.specs.Ordering.{is_eq, is_lt, ordering_reverse}
use Rattle.std.specs.declared.cmp.Ordering.{Ordering}
use Rattle.std.specs.declared.cmp.Ordering.TheVariants.{Less, Equal, Greater}
use Rattle.std.proofs.lemmas.List.{length-map, map-append}
use Rattle.std.proofs.lemmas.List.Elements.{filter_agree}
use Rattle.std.proofs.lemmas.Simd.{map-map}
use Rattle.uni_base.specs.declared.entity.DocKey.{DocKey}
use Rattle.uni_base.specs.RankOrder.{doc_cmp}
use Rattle.uni_base.proofs.RankedLemmas.{doc_total}
use Rattle.lineage_tree.specs.Tree.{Tree}
use Rattle.lineage_tree.specs.declared.lineage.RawHit.{RawHit}
use Rattle.shard_eval.specs.declared.grouped.Place.{Place}
use Rattle.shard_eval.specs.Found.{Found, found_all, found_of, is_at}
use Rattle.shard_eval.specs.Grouped.{by_any, grouped, run_length, Rises}
use Rattle.shard_eval.specs.Reached.{found_place}
use Rattle.shard_eval.proofs.Groups.{grouped_alike}
use Rattle.shard_eval.proofs.Runs.{both_same, grouped_run, rises_later, run_hit, run_within, self_first}

-- ---- after a stable sort

filter_map_is : {X Y : Type 0} (h : X → Y) (p : Y → Bool) (xs : List X) → filter p (map h xs) ≡ map h (filter (λ x. p (h x)) xs)
filter_map_is h p [] = refl
filter_map_is {X} {Y} h p (x ∷ xs) = over (p (h x)) (filter_map_is h p xs)
  where
    over : (b : Bool) → filter p (map h xs) ≡ map h (filter (λ y. p (h y)) xs) → cond b (h x ∷ filter p (map h xs)) (filter p (map h xs)) ≡ map h (cond b (x ∷ filter (λ y. p (h y)) xs) (filter (λ y. p (h y)) xs))
    over true rest = ap (λ (ys : List Y). h x ∷ ys) rest
    over false rest = rest

ties_is : (a b : DocKey) → (not (is_lt (doc_cmp a b)) && not (is_lt (doc_cmp b a))) ≡ is_eq (doc_cmp b a)
ties_is a b =
    ap (λ o. not (is_lt (doc_cmp a b)) && not (is_lt o)) (doc_total.antisymm b a) ∙ over (doc_cmp a b) ∙ ap is_eq (sym (doc_total.antisymm b a))
  where
    over : (o : Ordering) → (not (is_lt o) && not (is_lt (ordering_reverse o))) ≡ is_eq (ordering_reverse o)
    over Less = refl
    over Equal = refl
    over Greater = refl

under_place : (k : DocKey) (p : Place) (olds news : List Place) → IsStableByKey (λ (q : Place). q.key) doc_cmp olds news → filter (λ q. is_at k (found_place q)) news ≡ filter (λ q. is_at k (found_place q)) olds
under_place k p olds news stable =
    let at : Place = record { key = k; reached = p.reached } in
    let tied : (q : Place) → ties (λ (x y : Place). is_lt (doc_cmp x.key y.key)) at q ≡ is_at k (found_place q) = λ q. ties_is k q.key in
    sym (filter_agree (ties (λ (x y : Place). is_lt (doc_cmp x.key y.key)) at) (λ q. is_at k (found_place q)) tied news) ∙ stable at
    ∙ filter_agree (ties (λ (x y : Place). is_lt (doc_cmp x.key y.key)) at) (λ q. is_at k (found_place q)) tied olds

stable_under : (k : DocKey) (olds news : List Place) → IsStableByKey (λ (q : Place). q.key) doc_cmp olds news → filter (λ q. is_at k (found_place q)) news ≡ filter (λ q. is_at k (found_place q)) olds
stable_under k [] [] stable = refl
stable_under k [] (p ∷ news) stable = under_place k p [] (p ∷ news) stable
stable_under k (p ∷ olds) news stable = under_place k p (p ∷ olds) news stable

-- it changes nothing of what is found under each key
pub grouped_stable : (olds news : List Place) → IsStableByKey (λ (q : Place). q.key) doc_cmp olds news → grouped (map found_place news) ≡ grouped (map found_place olds)
grouped_stable olds news stable =
    grouped_alike (map found_place news) (map found_place olds)
    (λ k. filter_map_is found_place (is_at k) news ∙ ap (map found_place) (stable_under k olds news stable) ∙ sym (filter_map_is found_place (is_at k) olds))

-- ---- runs of places

abbrev pub with_tree : DocKey → Tree → Found
with_tree k tree = record { key = k; tree = tree }

-- the hit of the first run
abbrev pub hit_of_run : DocKey → List Place → Found
hit_of_run k run = by_any k (map (λ p. (found_place p).tree) run)

pub next_hit : (ps : List Place) (p : Place) → slice_get ps 0 ≡ Some p → Rises (map found_place ps)
    → grouped (map found_place ps) ≡ hit_of_run p.key (take (run_length p.key (map found_place ps)) ps) ∷ grouped (map found_place (drop (run_length p.key (map found_place ps)) ps))
next_hit [] p first rises = cc
next_hit (q ∷ ps) p first rises =
    subst (λ (x : Place). grouped (map found_place (q ∷ ps)) ≡ hit_of_run x.key (take (run_length x.key (map found_place (q ∷ ps))) (q ∷ ps)) ∷ grouped (map found_place (drop (run_length x.key (map found_place (q ∷ ps))) (q ∷ ps))))
    (let e : q ≡ p = cc in e)
    (grouped_run (found_place q) (map found_place ps) rises ∙ both_same run (ap grouped (drop-map found_place (run_length q.key (map found_place (q ∷ ps))) (q ∷ ps))))
  where
    run : run_hit q.key (take (run_length q.key (map found_place (q ∷ ps))) (map found_place (q ∷ ps))) ≡ hit_of_run q.key (take (run_length q.key (map found_place (q ∷ ps))) (q ∷ ps))
    run =
        let n = run_length q.key (map found_place (q ∷ ps)) in
        ap (by_any q.key) (ap (map (λ (f : Found). f.tree)) (take-map found_place n (q ∷ ps)) ∙ map-map (λ (f : Found). f.tree) found_place (take n (q ∷ ps)))

-- how long the run at a place is
pub run_from : (k : DocKey) (ps : List Place) (i : ℕ) (d : Place) → i < length ps
    → run_length k (map found_place (drop i ps)) ≡ cond (is_eq (doc_cmp (get_or ps i d).key k)) (suc (run_length k (map found_place (drop (i + 1) ps)))) 0
run_from k [] i d within = absurd (omega (arith, within))
run_from k (q ∷ ps) zero d within = refl
run_from k (q ∷ ps) (suc i) d within =
    run_from k ps i d (omega (arith, within))
    ∙ ap (λ n. cond (is_eq (doc_cmp (get_or ps i d).key k)) (suc (run_length k (map found_place (drop n (q ∷ ps))))) 0) (let e : suc (i + 1) ≡ suc i + 1 = omega arith in e)

pub run_some : (ps : List Place) (p : Place) → slice_get ps 0 ≡ Some p → 1 ≤ run_length p.key (map found_place ps)
run_some [] p first = cc
run_some (q ∷ ps) p first =
    subst (λ (x : Place). 1 ≤ run_length x.key (map found_place (q ∷ ps))) (let e : q ≡ p = cc in e)
    (subst (λ n. 1 ≤ n) (sym (self_first (found_place q) (map found_place ps))) (omega arith))

pub run_fits : (k : DocKey) (ps : List Place) → run_length k (map found_place ps) ≤ length ps
run_fits k ps = subst (λ n. run_length k (map found_place ps) ≤ n) (length-map ps found_place) (run_within k (map found_place ps))

pub rises_next : (n : ℕ) (ps : List Place) → Rises (map found_place ps) → Rises (map found_place (drop n ps))
rises_next n ps rises = subst Rises (drop-map found_place n ps) (rises_later n (map found_place ps) rises)

-- hits with that of the first run, and what is left
pub hits_more : (hits : List RawHit) (hit : RawHit) (ps : List Place) (p : Place) (n : ℕ) (all : List Found) → slice_get ps 0 ≡ Some p → Rises (map found_place ps) → n ≡ run_length p.key (map found_place ps)
    → found_of hit ≡ hit_of_run p.key (take n ps) → found_all hits ++ grouped (map found_place ps) ≡ all → found_all (hits ++ hit ∷ []) ++ grouped (map found_place (drop n ps)) ≡ all
hits_more hits hit ps p n all first rises is one whole =
    ap (λ (fs : List Found). fs ++ grouped (map found_place (drop n ps))) (map-append found_of hits (hit ∷ []))
    ∙ append_assoc (found_all hits) (found_of hit ∷ []) (grouped (map found_place (drop n ps)))
    ∙ ap (λ (f : Found). found_all hits ++ f ∷ grouped (map found_place (drop n ps))) one
    ∙ ap (λ (fs : List Found). found_all hits ++ fs) (sym next)
    ∙ whole
  where
    next : grouped (map found_place ps) ≡ hit_of_run p.key (take n ps) ∷ grouped (map found_place (drop n ps))
    next = subst (λ m. grouped (map found_place ps) ≡ hit_of_run p.key (take m ps) ∷ grouped (map found_place (drop m ps))) (sym is) (next_hit ps p first rises)

-- the first of what is left
pub first_left : (ps : List Place) (i : ℕ) (d : Place) → i < length ps → slice_get (drop i ps) 0 ≡ Some (get_or ps i d)
first_left [] i d within = absurd (omega (arith, within))
first_left (p ∷ ps) zero d within = refl
first_left (p ∷ ps) (suc i) d within = first_left ps i d (omega (arith, within))

pub none_left : (n : ℕ) (ps : List Place) → length ps ≤ n → drop n ps ≡ []
none_left n [] within = nil n
  where
    nil : (n : ℕ) → drop {A = Place} n [] ≡ []
    nil zero = refl
    nil (suc n) = refl
none_left zero (p ∷ ps) within = absurd (omega (arith, within))
none_left (suc n) (p ∷ ps) within = none_left n ps (omega (arith, within))
