-- The script that the service measures itself by: a graph of friends and the places where they live, ten rounds in
-- which a tenth of the people get another rank, and the same nine queries after each publish. Its numbers are drawn,
-- one after the other, from a seed.
use Rattle.std.specs.Prelude.{ℕ, zero, suc, ◌+◌, ◌-◌, ◌*◌, ◌%◌, ◌==◌, if◌then◌else◌, List, [], ◌∷◌, ◌++◌, length, filter, codes}
use Rattle.std.specs.Fmt.{decimal}
use Rattle.std.specs.List.{flat_map}

-- ---- numbers

-- the number that is drawn after another
abbrev pub drawn : ℕ → ℕ
drawn x = x * 16807 % 2147483647

-- the number that so many draws lead to
abbrev pub after_draws : ℕ → ℕ → ℕ
after_draws zero x = x
after_draws (suc n) x = drawn (after_draws n x)

-- the numbers from 1 to n
abbrev pub one_to : ℕ → List ℕ
one_to zero = []
one_to (suc n) = one_to n ++ suc n ∷ []

-- ---- lines, each with its LF

-- a space, and a number
abbrev pub spaced : ℕ → List ℕ
spaced n = 32 ∷ decimal n

-- a person, at a rank below 1000 by a number that was drawn
abbrev pub entity_line : ℕ → ℕ → List ℕ
entity_line id x = codes "entity user" ++ (spaced id ++ (spaced (x % 1000) ++ 10 ∷ []))

-- a friend of a person among so many people, by a number that was drawn
abbrev pub friend_line : ℕ → ℕ → ℕ → List ℕ
friend_line people id x = codes "edge friend" ++ (spaced id ++ (spaced (1 + x % people) ++ codes " public\n"))

-- who may see where a person lives, by a number that was drawn: a quarter is shown to the owner alone
abbrev pub lives_audience : ℕ → List ℕ
lives_audience x = if x % 4 == 0 then codes " only\n" else codes " public\n"

-- where a person lives, one of ten places, by two numbers that were drawn
abbrev pub lives_line : ℕ → ℕ → ℕ → List ℕ
lives_line id place x = codes "edge lives c" ++ (decimal (place % 10) ++ (spaced id ++ lives_audience x))

-- the query of the k-th ask of a block, of a person
abbrev pub query_text : ℕ → ℕ → List ℕ
query_text k person =
    if k % 3 == 0 then codes " friend:" ++ (decimal person ++ codes "\n")
    else if k % 3 == 1 then codes " (apply friend: friend:" ++ (decimal person ++ codes ")\n")
    else codes " (weak-and (term friend:" ++ (decimal person ++ codes " :optional-hits 2) lives:c1)\n")

-- The k-th ask of a block, from 0 on: in one of the first four sessions a person asks for 100 hits.
abbrev pub ask_line : ℕ → ℕ → List ℕ
ask_line people k = codes "ask" ++ (spaced (1 + k % people) ++ (spaced (1 + k % 4) ++ (codes " 100" ++ query_text k (1 + k % people))))

-- ---- the script

abbrev pub header : List ℕ
header =
    codes "unicorn 1\n" ++ (codes "vertical user 4 2\n" ++ (codes "type friend user user both index\n" ++ (codes "type lives word user target index\n" ++ codes "begin\n")))

-- the people, each with a rank
abbrev pub entities : ℕ → ℕ → List ℕ
entities seed people = flat_map (λ id. entity_line id (after_draws id seed)) (one_to people)

-- the edges of a person, four friends and where it lives, by six numbers that are drawn after x
abbrev pub edges_of : ℕ → ℕ → ℕ → List ℕ
edges_of people id x =
    friend_line people id (after_draws 1 x) ++ (friend_line people id (after_draws 2 x) ++ (friend_line people id (after_draws 3 x)
    ++ (friend_line people id (after_draws 4 x) ++ lives_line id (after_draws 5 x) (after_draws 6 x))))

-- the edges of the first n of so many people, by six numbers for each
abbrev pub edges : ℕ → ℕ → ℕ → List ℕ
edges people x n = flat_map (λ id. edges_of people id (after_draws (6 * (id - 1)) x)) (one_to n)

-- a block of nine asks, a round of its own
abbrev pub asks : ℕ → List ℕ
asks people = flat_map (λ n. ask_line people (n - 1)) (one_to 9) ++ codes "go\n"

-- a person whose number ends as that of a round does, and nobody else
abbrev pub ids_here : ℕ → ℕ → List ℕ
ids_here round id = filter (λ i. i % 10 == round % 10) (id ∷ [])

-- the people whose numbers end as that of a round does
abbrev pub ids_ending : ℕ → ℕ → List ℕ
ids_ending round people = filter (λ id. id % 10 == round % 10) (one_to people)

-- another rank for each of some people, by the numbers that are drawn after x
abbrev pub updates : ℕ → List ℕ → List ℕ
updates x [] = []
updates x (id ∷ ids) = entity_line id (drawn x) ++ updates (drawn x) ids

-- the number that was drawn last where so many later rounds have gone by
abbrev pub after_rounds : ℕ → ℕ → ℕ → ℕ
after_rounds people x zero = x
after_rounds people x (suc n) = after_draws (length (ids_ending (suc n) people)) (after_rounds people x n)

-- the first n later rounds, each followed by the asks
abbrev pub later_rounds : ℕ → ℕ → ℕ → List ℕ
later_rounds people x zero = []
later_rounds people x (suc n) =
    later_rounds people x n ++ (updates (after_rounds people x n) (ids_ending (suc n) people) ++ (codes "publish\ngo\n" ++ asks people))

-- the script of a seed and so many people
abbrev pub bench_text : ℕ → ℕ → List ℕ
bench_text seed people =
    let ranked = after_draws people seed in
    header ++ (entities seed people ++ (edges people ranked people
    ++ (codes "publish\ngo\n" ++ (asks people ++ later_rounds people (after_draws (6 * people) ranked) 10))))
