-- One more person, and one more later round.
use Rattle.std.proofs.Common.{◌≡◌, ℕ, zero, suc, ◌+◌, ◌-◌, ◌*◌, ◌%◌, ◌==◌, codes, List, [], ◌∷◌, ◌++◌, length, filter, refl, sym, ap, ◌∙◌, subst, arith, append_assoc, length-append}
use Rattle.std.specs.List.{flat_map}
use Rattle.std.proofs.lemmas.Grind.{flat_map-append}
use Rattle.std.proofs.lemmas.List.{append-nil}
use Rattle.std.proofs.lemmas.List.Elements.{filter-append}
use Rattle.bench_script.specs.BenchScript.{after_draws, after_rounds, asks, ask_line, drawn, edges, edges_of, entities, entity_line, ids_ending, ids_here, later_rounds, one_to, updates}

-- draws after draws
pub draws_more : (m n x : ℕ) → after_draws (m + n) x ≡ after_draws m (after_draws n x)
draws_more zero n x = let is : 0 + n ≡ n = omega arith in ap (λ k. after_draws k x) is
draws_more (suc m) n x = let is : suc m + n ≡ suc (m + n) = omega arith in ap (λ k. after_draws k x) is ∙ ap drawn (draws_more m n x)

pub draw_one : (n x : ℕ) → after_draws (n + 1) x ≡ drawn (after_draws n x)
draw_one n x = let is : n + 1 ≡ suc n = omega arith in ap (λ k. after_draws k x) is

pub draws_six : (n x : ℕ) → after_draws (6 * (n + 1)) x ≡ after_draws 6 (after_draws (6 * n) x)
draws_six n x = let is : 6 * (n + 1) ≡ 6 + 6 * n = omega arith in ap (λ k. after_draws k x) is ∙ draws_more 6 (6 * n) x

-- a list of numbers with one more
pub one_more : (n : ℕ) → one_to (n + 1) ≡ one_to n ++ (n + 1) ∷ []
one_more n = let is : n + 1 ≡ suc n = omega arith in ap one_to is ∙ ap (λ k. one_to n ++ k ∷ []) (sym is)

texts_more : (f : ℕ → List ℕ) (n : ℕ) → flat_map f (one_to (n + 1)) ≡ flat_map f (one_to n) ++ f (n + 1)
texts_more f n = ap (flat_map f) (one_more n) ∙ flat_map-append f (one_to n) ((n + 1) ∷ []) ∙ ap (λ t. flat_map f (one_to n) ++ t) (append-nil (f (n + 1)))

pub entities_more : (seed n : ℕ) → entities seed (n + 1) ≡ entities seed n ++ entity_line (n + 1) (drawn (after_draws n seed))
entities_more seed n = texts_more (λ id. entity_line id (after_draws id seed)) n ∙ ap (λ x. entities seed n ++ entity_line (n + 1) x) (draw_one n seed)

pub edges_more : (people x n : ℕ) → edges people x (n + 1) ≡ edges people x n ++ edges_of people (n + 1) (after_draws (6 * n) x)
edges_more people x n =
    let is : n + 1 - 1 ≡ n = omega arith in
    texts_more (λ id. edges_of people id (after_draws (6 * (id - 1)) x)) n ∙ ap (λ k. edges people x n ++ edges_of people (n + 1) (after_draws (6 * k) x)) is

pub asks_more : (people k : ℕ) → flat_map (λ n. ask_line people (n - 1)) (one_to (k + 1)) ≡ flat_map (λ n. ask_line people (n - 1)) (one_to k) ++ ask_line people k
asks_more people k =
    let is : k + 1 - 1 ≡ k = omega arith in
    texts_more (λ n. ask_line people (n - 1)) k ∙ ap (λ j. flat_map (λ n. ask_line people (n - 1)) (one_to k) ++ ask_line people j) is

-- one more later round
pub later_more : (people x n : ℕ) → later_rounds people x (n + 1)
    ≡ later_rounds people x n ++ (updates (after_rounds people x n) (ids_ending (n + 1) people) ++ (codes "publish\ngo\n" ++ asks people))
later_more people x n =
    let is : n + 1 ≡ suc n = omega arith in
    ap (λ k. later_rounds people x k) is
    ∙ ap (λ k. later_rounds people x n ++ (updates (after_rounds people x n) (ids_ending k people) ++ (codes "publish\ngo\n" ++ asks people))) (sym is)

pub after_more : (people x n : ℕ) → after_rounds people x (n + 1) ≡ after_draws (length (ids_ending (n + 1) people)) (after_rounds people x n)
after_more people x n =
    let is : n + 1 ≡ suc n = omega arith in
    ap (λ k. after_rounds people x k) is ∙ ap (λ k. after_draws (length (ids_ending k people)) (after_rounds people x n)) (sym is)

-- the people whose numbers end so, with one more
pub ids_more : (round n : ℕ) → ids_ending round (n + 1) ≡ ids_ending round n ++ ids_here round (n + 1)
ids_more round n = ap (filter (λ id. id % 10 == round % 10)) (one_more n) ∙ filter-append (λ id. id % 10 == round % 10) (one_to n) ((n + 1) ∷ [])

-- a draw at the front is one more
pub draws_front : (n x : ℕ) → after_draws n (drawn x) ≡ drawn (after_draws n x)
draws_front zero x = refl
draws_front (suc n) x = ap drawn (draws_front n x)

-- changes of some people, and then of others
pub updates_more : (x : ℕ) (ids others : List ℕ) → updates x (ids ++ others) ≡ updates x ids ++ updates (after_draws (length ids) x) others
updates_more x [] others = refl
updates_more x (id ∷ ids) others =
    ap (λ t. entity_line id (drawn x) ++ t) (updates_more (drawn x) ids others ∙ ap (λ y. updates (drawn x) ids ++ updates y others) (draws_front (length ids) x))
    ∙ sym (append_assoc (entity_line id (drawn x)) (updates (drawn x) ids) (updates (drawn (after_draws (length ids) x)) others))

pub draws_of_both : (x : ℕ) (ids others : List ℕ) → after_draws (length (ids ++ others)) x ≡ after_draws (length others) (after_draws (length ids) x)
draws_of_both x ids others =
    let sum : length (ids ++ others) ≡ length others + length ids = length-append ids others ∙ omega arith in
    ap (λ n. after_draws n x) sum ∙ draws_more (length others) (length ids) x
