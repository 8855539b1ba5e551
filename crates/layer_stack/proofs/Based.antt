-- Rows over a base, by look-ups, and how many postings they have.
use Rattle.std.proofs.Common.{◌≡◌, ℕ, suc, ◌+◌, ◌==◌, Bool, true, false, cond, not, ◌&&◌, ◌||◌, List, [], ◌∷◌, ◌++◌, map, filter, length, Option, None, Some, refl, sym, ◌∙◌, ap, subst, is_some, arith, All}
use Rattle.std.specs.Cmp.{Equal-is, tied_itself}
use Rattle.std.specs.Prelude.{T}
use Rattle.std.specs.List.{list_any}
use Rattle.std.specs.FinMap as finite
use Rattle.std.specs.FinMap.Entries.{by_order, find, is_sorted, put, is_sorted-where_key, find-where_key, same_entries}
use Rattle.std.specs.declared.cmp.Ordering.{Ordering}
use Rattle.std.specs.declared.cmp.Ordering.TheVariants.{Less, Equal, Greater}
use Rattle.std.specs.Ordering.{eq_by_cmp, is_eq}
use Rattle.std.proofs.lemmas.Bool.{eqb-true}
use Rattle.std.proofs.lemmas.Cmp.{eq_by_cmp_equiv}
use Rattle.std.proofs.lemmas.List.{length-map}
use Rattle.std.proofs.lemmas.List.Elements.{All-head, All-tail, All-nil, All-cons, All-weaker}
use Rattle.uni_base.specs.declared.edge.Audience.{Audience}
use Rattle.uni_base.specs.declared.edge.Key.TheVariants.{Word}
use Rattle.uni_base.specs.declared.entity.DocKey.{DocKey}
use Rattle.uni_base.specs.RankOrder.{doc_cmp}
use Rattle.layer_base.specs.Lookups.{either}
use Rattle.layer_base.specs.Layers.{put_all}
use Rattle.layer_base.proofs.Among.{among-append, or_false, or_nothing}
use Rattle.layer_base.proofs.Sorted.{first, second, find_below}
use Rattle.layer_base.proofs.Tables.{get-put_all}
use Rattle.layer_stack.specs.declared.place.Place.{Place}
use Rattle.layer_stack.specs.declared.place.TermKey.{TermKey}
use Rattle.layer_stack.specs.Based.{is_left, laid_over, is_word, has_postings, IsBased, ArePutAlone, count_under, IsPatch}
use Rattle.layer_stack.specs.Combined.{is_among, putting_terms}
use Rattle.layer_stack.specs.Places.{term_cmp, place_cmp, term_of}
use Rattle.layer_stack.specs.Postings.{PostingTable, PostingChanges, is_under, place_of, posting_of, key_of, postings_of, deletes_of, no_changes, putting_all}
use Rattle.layer_stack.specs.Stacks.{entry_of, has_nothing}
use Rattle.layer_stack.specs.Words.{has_term, IsWordFrom}
use Rattle.layer_stack.proofs.Order.{term_total, term_apart, place_total, place_apart}
use Rattle.layer_stack.proofs.Combined.{Has, has_alike, has_terms, same_postings, none_at, filter_none}
use Rattle.layer_stack.proofs.Terms.{get-under, entries_of_postings}

-- ---- whether there are rows under a term

pub empty_rows : {V : Type 0} → finite.entries (finite.empty {X = V} {R = place_cmp}) ≡ []
empty_rows {V} = none (finite.entries (finite.empty {X = V} {R = place_cmp})) (sym (finite.len-entries (finite.empty {X = V} {R = place_cmp})) ∙ finite.len-empty place_cmp V)
  where
    none : (es : List (Place × V)) → length es ≡ 0 → es ≡ []
    none [] e = refl
    none (r ∷ es) e = absurd (omega (arith, e))

some_length : (n : ℕ) → (suc n == 0) ≡ false
some_length n = by (suc n == 0) refl
  where
    by : (b : Bool) → (suc n == 0) ≡ b → (suc n == 0) ≡ false
    by true e = let none : suc n ≡ 0 = eqb-true (suc n) 0 e in absurd (omega (arith, none))
    by false e = e

any_length : {V X : Type 0} (f : Place × V → X) (t : TermKey) (es : List (Place × V)) → (length (map f (filter (is_under t) es)) == 0) ≡ not (list_any (is_under t) es)
any_length f t [] = refl
any_length f t (e ∷ es) =
    elim (is_under t e) as (λ b. (length (map f (cond b (e ∷ filter (is_under t) es) (filter (is_under t) es))) == 0) ≡ not (b || list_any (is_under t) es)) [
      | true ↦ some_length (length (map f (filter (is_under t) es)))
      | false ↦ any_length f t es
    ]

not_same : (a b : Bool) → not a ≡ not b → a ≡ b
not_same true true e = refl
not_same true false e = cc
not_same false true e = cc
not_same false false e = refl

pub some_postings : (t : TermKey) (table : PostingTable) → (length (postings_of t table) ≡ 0 → ⊥) → has_postings t table ≡ true
some_postings t table some = not_same (has_postings t table) true (sym (any_length posting_of t (finite.entries table)) ∙ by (length (postings_of t table) == 0) refl)
  where
    by : (b : Bool) → (length (postings_of t table) == 0) ≡ b → (length (postings_of t table) == 0) ≡ false
    by true e = absurd (some (eqb-true (length (postings_of t table)) 0 e))
    by false e = e

-- tables with the same postings under a term
has_same : (t : TermKey) (m n : PostingTable) → postings_of t m ≡ postings_of t n → has_postings t m ≡ has_postings t n
has_same t m n same =
    not_same (has_postings t m) (has_postings t n)
    (sym (any_length posting_of t (finite.entries m)) ∙ ap (λ ps. length ps == 0) same ∙ any_length posting_of t (finite.entries n))

pub get_same : (q : Place) (m n : PostingTable) → postings_of q.term m ≡ postings_of q.term n → finite.get m q ≡ finite.get n q
get_same q m n same = told m ∙ ap (λ ps. find doc_cmp q.key (map entry_of ps)) same ∙ sym (told n)
  where
    told : (x : PostingTable) → finite.get x q ≡ find doc_cmp q.key (map entry_of (postings_of q.term x))
    told x = get-under q.term q.key x ∙ ap (find doc_cmp q.key) (sym (entries_of_postings (filter (is_under q.term) (finite.entries x))))

-- rows have nothing under a term exactly where they do not have it
nothing-rows : (t : TermKey) (rows : PostingChanges) → has_nothing (deletes_of t rows, postings_of t rows.puts) ≡ not (has_term t rows)
nothing-rows t rows =
    (λ i. any_length key_of t (finite.entries rows.deletes) i && any_length posting_of t (finite.entries rows.puts) i)
    ∙ by (list_any (is_under t) (finite.entries rows.deletes)) (list_any (is_under t) (finite.entries rows.puts))
  where
    by : (a b : Bool) → (not a && not b) ≡ not (a || b)
    by true b = refl
    by false b = refl

pub has_term-putting : (t : TermKey) (table : PostingTable) → has_term t (putting_all table) ≡ has_postings t table
has_term-putting t table = ap (λ (es : List (Place × Unit {0})). list_any (is_under t) es || has_postings t table) empty_rows

pub deletes-putting : (t : TermKey) (table : PostingTable) → deletes_of t (putting_all table) ≡ []
deletes-putting t table = ap (λ (es : List (Place × Unit {0})). map key_of (filter (is_under t) es)) empty_rows

-- ---- what rows over a base have

either_none : (o : Option Audience) → either o None ≡ o
either_none None = refl
either_none (Some a) = refl

kept_alike : (rows : PostingChanges) (q x : Place) → place_cmp q x ≡ Equal → is_left rows x ≡ is_left rows q
kept_alike rows q x e = ap (is_left rows) (sym (place_apart q x e))

get-laid_over : (base : PostingTable) (rows : PostingChanges) (q : Place) → finite.get (laid_over base rows) q ≡ either (finite.get rows.puts q) (cond (has_term q.term rows) None (finite.get base q))
get-laid_over base rows q =
    get-put_all place_total (finite.entries rows.puts) (finite.retain_keys base (is_left rows)) q ∙ (λ i. either (sym (finite.get-entries rows.puts q) i) (kept i))
  where
    turned : (b : Bool) → cond (not b) (finite.get base q) None ≡ cond b None (finite.get base q)
    turned true = refl
    turned false = refl

    kept : finite.get (finite.retain_keys base (is_left rows)) q ≡ cond (has_term q.term rows) None (finite.get base q)
    kept = finite.get-retain_keys base (is_left rows) q (kept_alike rows q) ∙ turned (has_term q.term rows)

own_postings : (t : TermKey) (base : PostingTable) (rows : PostingChanges) → has_term t rows ≡ true → postings_of t (laid_over base rows) ≡ postings_of t rows.puts
own_postings t base rows has =
    same_postings t (laid_over base rows) rows.puts (λ k. get-laid_over base rows (place_of t k) ∙ ap (λ b. either (finite.get rows.puts (place_of t k)) (cond b None (finite.get base (place_of t k)))) has ∙ either_none (finite.get rows.puts (place_of t k)))

pub base_postings : (t : TermKey) (base : PostingTable) (rows : PostingChanges) → has_term t rows ≡ false → postings_of t (laid_over base rows) ≡ postings_of t base
base_postings t base rows has =
    same_postings t (laid_over base rows) base (λ k. get-laid_over base rows (place_of t k) ∙ (λ i. either (none k i) (cond (has i) None (finite.get base (place_of t k)))))
  where
    none : (k : DocKey) → finite.get rows.puts (place_of t k) ≡ None
    none k =
        let sides = or_false (list_any (is_under t) (finite.entries rows.deletes)) (list_any (is_under t) (finite.entries rows.puts)) has in
        none_at rows.puts (place_of t k) (sym (ap (map posting_of) (filter_none (is_under t) (finite.entries rows.puts) sides.1)))

-- the postings under a term, by what the rows have there
pub postings-laid : (t : TermKey) (base : PostingTable) (rows : PostingChanges) → cond (has_nothing (deletes_of t rows, postings_of t rows.puts)) (postings_of t base) (postings_of t rows.puts) ≡ postings_of t (laid_over base rows)
postings-laid t base rows = by (has_term t rows) refl
  where
    by : (b : Bool) → has_term t rows ≡ b → cond (has_nothing (deletes_of t rows, postings_of t rows.puts)) (postings_of t base) (postings_of t rows.puts) ≡ postings_of t (laid_over base rows)
    by true e = ap (λ c. cond c (postings_of t base) (postings_of t rows.puts)) (nothing-rows t rows ∙ ap not e) ∙ sym (own_postings t base rows e)
    by false e = ap (λ c. cond c (postings_of t base) (postings_of t rows.puts)) (nothing-rows t rows ∙ ap not e) ∙ sym (base_postings t base rows e)

-- ---- the words at which terms start

pub word_has : (rows base : PostingChanges) (count : ℕ) → IsBased rows base count → (t : TermKey) → is_word t ≡ true → (has_term t rows || has_term t base) ≡ has_term t (putting_all (laid_over base.puts rows))
word_has rows base count based t word = by (has_term t rows) refl
  where
    puts_alone : has_term t base ≡ has_postings t base.puts
    puts_alone =
        ap (λ (d : finite.FinMap place_cmp (Unit {0})). list_any (is_under t) (finite.entries d) || has_postings t base.puts) based.deletes
        ∙ ap (λ (es : List (Place × Unit {0})). list_any (is_under t) es || has_postings t base.puts) empty_rows

    by : (b : Bool) → has_term t rows ≡ b → (has_term t rows || has_term t base) ≡ has_term t (putting_all (laid_over base.puts rows))
    by true e =
        ap (λ c. c || has_term t base) e
        ∙ sym (has_term-putting t (laid_over base.puts rows) ∙ has_same t (laid_over base.puts rows) rows.puts (own_postings t base.puts rows e) ∙ based.words t word e)
    by false e =
        ap (λ c. c || has_term t base) e ∙ puts_alone
        ∙ sym (has_term-putting t (laid_over base.puts rows) ∙ has_same t (laid_over base.puts rows) base.puts (base_postings t base.puts rows e))

-- a term that neither the rows nor the base have
pub none_laid : (t : TermKey) (rows base : PostingChanges) → has_term t rows ≡ false → has_term t base ≡ false → has_term t (putting_all (laid_over base.puts rows)) ≡ false
none_laid t rows base own under =
    let sides = or_false (list_any (is_under t) (finite.entries base.deletes)) (has_postings t base.puts) under in
    has_term-putting t (laid_over base.puts rows) ∙ has_same t (laid_over base.puts rows) base.puts (base_postings t base.puts rows own) ∙ sides.1

-- tests that agree on the terms that start at words
pub words_alike : (has other : TermKey → Bool) (type_no : ℕ) (from : List ℕ) (strict : Bool) → ((word : List ℕ) → has (term_of type_no (Word word)) ≡ other (term_of type_no (Word word))) → (found : Option (List ℕ))
    → IsWordFrom has type_no from strict found → IsWordFrom other type_no from strict found
words_alike has other type_no from strict alike None is = λ word there. is word (alike word ∙ there)
words_alike has other type_no from strict alike (Some found) is = record {
  there = sym (alike found) ∙ is.there;
  passes = is.passes;
  least = λ word there passes. is.least word (alike word ∙ there) passes;
}

-- ---- how many postings there are

len-put_all : (es : List (Place × Audience)) (m : PostingTable) → T (is_sorted place_cmp es) → All (λ e. finite.get m e.0 ≡ None) es → finite.len (put_all es m) ≡ length es + finite.len m
len-put_all [] m sorted none = omega arith
len-put_all (e ∷ es) m sorted none =
    let rest = len-put_all es m (second _ _ sorted) (All-tail (λ (d : Place × Audience). finite.get m d.0 ≡ None) e es none) in
    let new : finite.contains_key (put_all es m) e.0 ≡ false =
    ap is_some (get-put_all place_total es m e.0 ∙ (λ i. either (find_below place_cmp e.0 es (first _ _ sorted) i) (All-head (λ (d : Place × Audience). finite.get m d.0 ≡ None) e es none i))) in
    let more : finite.len (put_all (e ∷ es) m) ≡ finite.len (put_all es m) + 1 =
    finite.len-insert place_total (put_all es m) e.0 e.1 ∙ ap (λ b. cond b (finite.len (put_all es m)) (finite.len (put_all es m) + 1)) new in
    omega (arith, rest, more)

-- the entries that are kept
entries-kept : (base : PostingTable) (rows : PostingChanges) → finite.entries (finite.retain_keys base (is_left rows)) ≡ filter (λ e. is_left rows e.0) (finite.entries base)
entries-kept base rows =
    same_entries place_cmp place_total place_apart (finite.entries (finite.retain_keys base (is_left rows))) (filter (λ e. is_left rows e.0) (finite.entries base))
    (finite.entries_sorted (finite.retain_keys base (is_left rows))) (is_sorted-where_key place_cmp (is_left rows) (finite.entries base) (finite.entries_sorted base))
    (λ q. sym (finite.get-entries (finite.retain_keys base (is_left rows)) q) ∙ finite.get-retain_keys base (is_left rows) q (kept_alike rows q)
    ∙ ap (λ o. cond (is_left rows q) o None) (finite.get-entries base q) ∙ sym (find-where_key place_cmp (is_left rows) q (kept_alike rows q) (finite.entries base)))

-- the rows of other terms than some
abbrev others : List (TermKey × Unit {0}) → List (Place × Audience) → List (Place × Audience)
others terms rows = filter (λ row. not (is_among row.0.term terms)) rows

-- and of one term more
split_one : (c : TermKey × Unit {0}) (cs : List (TermKey × Unit {0})) → ((s : TermKey) → eq_by_cmp term_cmp s c.0 ≡ true → is_among s cs ≡ false) → (rows : List (Place × Audience))
    → length (others cs rows) ≡ length (filter (is_under c.0) rows) + length (others (c ∷ cs) rows)
split_one c cs distinct [] = refl
split_one c cs distinct (r ∷ rows) =
    three (is_among r.0.term cs) (eq_by_cmp term_cmp r.0.term c.0) (others cs rows) (filter (is_under c.0) rows) (others (c ∷ cs) rows) (distinct r.0.term) (split_one c cs distinct rows)
    ∙ (λ i. length (cond ((eq_by_cmp_equiv term_total).symm r.0.term c.0 i) (r ∷ filter (is_under c.0) rows) (filter (is_under c.0) rows)) + length (cond (not (or_some (eq_by_cmp term_cmp r.0.term c.0) (find term_cmp r.0.term cs) i)) (r ∷ others (c ∷ cs) rows) (others (c ∷ cs) rows)))
  where
    or_some : (b : Bool) (f : Option (Unit {0})) → (b || is_some f) ≡ is_some (cond b (Some c.1) f)
    or_some true f = refl
    or_some false f = refl

    three : (a b : Bool) (left under other : List (Place × Audience)) → (b ≡ true → a ≡ false) → length left ≡ length under + length other
        → length (cond (not a) (r ∷ left) left) ≡ length (cond b (r ∷ under) under) + length (cond (not (b || a)) (r ∷ other) other)
    three true true left under other h e = let wrong : true ≡ false = h refl in cc
    three true false left under other h e = e
    three false true left under other h e = omega (arith, e)
    three false false left under other h e = omega (arith, e)

-- a table has its postings under some terms, and the others
count_others : (terms : List (TermKey × Unit {0})) → T (is_sorted term_cmp terms) → (table : PostingTable) → count_under table terms + length (others terms (finite.entries table)) ≡ length (finite.entries table)
count_others [] sorted table = let rest = all (finite.entries table) in omega (arith, rest)
  where
    all : (rows : List (Place × Audience)) → length (others [] rows) ≡ length rows
    all [] = refl
    all (r ∷ rows) = ap (λ n. suc n) (all rows)
count_others (c ∷ cs) sorted table =
    let rest = count_others cs (second _ _ sorted) table in
    let split = split_one c cs distinct (finite.entries table) in
    let long : length (postings_of c.0 table) ≡ length (filter (is_under c.0) (finite.entries table)) = length-map (filter (is_under c.0) (finite.entries table)) posting_of in
    omega (arith, rest, split, long)
  where
    distinct : (s : TermKey) → eq_by_cmp term_cmp s c.0 ≡ true → is_among s cs ≡ false
    distinct s e = let same : s ≡ c.0 = term_apart s c.0 ((Equal-is (term_cmp s c.0)).0 e) in ap (λ (t : TermKey). is_among t cs) same ∙ ap is_some (find_below term_cmp c.0 cs (first _ _ sorted))

or_true : (a b : Bool) → b ≡ true → (a || b) ≡ true
or_true true b h = refl
or_true false b h = h

-- each row is under its own term
any_each : {V : Type 0} (es : List (Place × V)) → All (λ (e : Place × V). list_any (is_under e.0.term) es ≡ true) es
any_each {V} [] = All-nil (λ (e : Place × V). list_any (is_under {V = V} e.0.term) [] ≡ true)
any_each {V} (e ∷ es) =
    All-cons (λ (d : Place × V). list_any (is_under d.0.term) (e ∷ es) ≡ true) e es (ap (λ b. b || list_any (is_under e.0.term) es) (ap is_eq (tied_itself term_total e.0.term)))
    (All-weaker (λ (d : Place × V). list_any (is_under d.0.term) es ≡ true) (λ (d : Place × V). list_any (is_under d.0.term) (e ∷ es) ≡ true) (λ d h. or_true (is_under d.0.term e) (list_any (is_under d.0.term) es) h) es (any_each es))

-- how many postings rows over a base have
pub count_laid : (base : PostingTable) (rows : PostingChanges) (terms : List (TermKey × Unit {0})) (left : ℕ) → T (is_sorted term_cmp terms) → ((t : TermKey) → has_term t rows ≡ is_among t terms)
    → left + count_under base terms ≡ finite.len base → left + finite.len rows.puts ≡ finite.len (laid_over base rows)
count_laid base rows terms left sorted has count =
    let whole = len-put_all (finite.entries rows.puts) kept (finite.entries_sorted rows.puts) none in
    let both = count_others terms sorted base in
    let long = finite.len-entries base in
    let own = finite.len-entries rows.puts in
    let rest : finite.len kept ≡ length (others terms (finite.entries base)) = finite.len-entries kept ∙ ap length (entries-kept base rows) ∙ (λ i. length (filter (λ (e : Place × Audience). not (has e.0.term i)) (finite.entries base))) in
    omega (arith, whole, both, long, own, rest, count)
  where
    kept : PostingTable
    kept = finite.retain_keys base (is_left rows)

    none : All (λ e. finite.get kept e.0 ≡ None) (finite.entries rows.puts)
    none = All-weaker (λ (e : Place × Audience). list_any (is_under e.0.term) (finite.entries rows.puts) ≡ true) (λ (e : Place × Audience). finite.get kept e.0 ≡ None)
        (λ e h. finite.get-retain_keys base (is_left rows) e.0 (kept_alike rows e.0) ∙ ap (λ b. cond (not b) (finite.get base e.0) None) (or_true (list_any (is_under e.0.term) (finite.entries rows.deletes)) (list_any (is_under e.0.term) (finite.entries rows.puts)) h))
        (finite.entries rows.puts) (any_each (finite.entries rows.puts))

-- the count under one term more
pub count_more : (table : PostingTable) (terms : List (TermKey × Unit {0})) (e : TermKey × Unit {0}) → count_under table (terms ++ e ∷ []) ≡ count_under table terms + length (postings_of e.0 table)
count_more table [] e = omega arith
count_more table (d ∷ terms) e = let rest = count_more table terms e in omega (arith, rest)

-- ---- a patch

-- what is put under some terms
pub patch_put : (table : PostingTable) (terms : List (TermKey × Unit {0})) → Has table (λ s. is_among s terms) (putting_terms table terms no_changes)
patch_put table terms =
    has_alike table (λ s. is_among s terms || false) (λ s. is_among s terms) (putting_terms table terms no_changes) (λ s. or_nothing (is_among s terms))
    (has_terms table terms (λ s. false) no_changes (record { deletes = refl; puts = λ q. finite.get-empty place_cmp q }))

-- whether there are rows under a term, with one more
any_put : {V : Type 0} (t : TermKey) (k : Place) (v : V) (es : List (Place × V)) → list_any (is_under t) (put place_cmp k v es) ≡ (eq_by_cmp term_cmp t k.term || list_any (is_under t) es)
any_put t k v [] = refl
any_put {V} t k v (e ∷ es) = by (place_cmp k e.0) refl (any_put t k v es)
  where
    swap : (a b c : Bool) → (b || (a || c)) ≡ (a || (b || c))
    swap true true c = refl
    swap true false c = refl
    swap false b c = refl

    twice : (a c : Bool) → (a || c) ≡ (a || (a || c))
    twice true c = refl
    twice false c = refl

    by : (o : Ordering) → place_cmp k e.0 ≡ o → list_any (is_under t) (put place_cmp k v es) ≡ (eq_by_cmp term_cmp t k.term || list_any (is_under t) es)
        → list_any (is_under t) (by_order o ((k, v) ∷ e ∷ es) ((e.0, v) ∷ es) (e ∷ put place_cmp k v es)) ≡ (eq_by_cmp term_cmp t k.term || list_any (is_under t) (e ∷ es))
    by Less f rest = refl
    by Equal f rest =
        let same : k ≡ e.0 = place_apart k e.0 f in
        twice (eq_by_cmp term_cmp t e.0.term) (list_any (is_under t) es) ∙ ap (λ (p : Place). eq_by_cmp term_cmp t p.term || (eq_by_cmp term_cmp t e.0.term || list_any (is_under t) es)) (sym same)
    by Greater f rest =
        ap (λ b. is_under t e || b) rest ∙ swap (eq_by_cmp term_cmp t k.term) (is_under t e) (list_any (is_under t) es)

pub any_insert : {V : Type 0} (t : TermKey) (k : Place) (v : V) (m : finite.FinMap place_cmp V) → list_any (is_under t) (finite.entries (finite.insert m k v)) ≡ (eq_by_cmp term_cmp t k.term || list_any (is_under t) (finite.entries m))
any_insert t k v m = ap (list_any (is_under t)) (finite.entries-insert place_total m k v) ∙ any_put t k v (finite.entries m)

pub patch_has : (terms : List (TermKey × Unit {0})) (table : PostingTable) (patch : PostingChanges) → IsPatch terms table patch → (t : TermKey) → has_term t patch ≡ is_among t terms
patch_has terms table patch is t = ap (λ b. b || has_postings t patch.puts) (is.deletes t) ∙ by (is_among t terms) refl
  where
    by : (b : Bool) → is_among t terms ≡ b → (is_among t terms || has_postings t patch.puts) ≡ is_among t terms
    by true e = ap (λ c. c || has_postings t patch.puts) e ∙ sym e
    by false e =
        let none : has_postings t patch.puts ≡ false =
        has_same t patch.puts finite.empty (same_postings t patch.puts finite.empty (λ k. is.puts (place_of t k) ∙ ap (λ c. cond c (finite.get table (place_of t k)) None) e ∙ sym (finite.get-empty place_cmp (place_of t k))))
        ∙ ap (λ (es : List (Place × Audience)). list_any (is_under t) es) empty_rows in
        (λ i. e i || none i) ∙ sym e

-- a patch over a base that has all else
pub patch_stands : (terms : List (TermKey × Unit {0})) (base : PostingChanges) (table : PostingTable) (patch : PostingChanges) → ArePutAlone terms base table → IsPatch terms table patch → laid_over base.puts patch ≡ table
patch_stands terms base table patch alone is = finite.same_map place_total place_apart (laid_over base.puts patch) table at
  where
    at : (q : Place) → finite.get (laid_over base.puts patch) q ≡ finite.get table q
    at q = get-laid_over base.puts patch q ∙ (λ i. either (is.puts q i) (cond (patch_has terms table patch is q.term i) None (finite.get base.puts q))) ∙ by (is_among q.term terms) refl
      where
        by : (b : Bool) → is_among q.term terms ≡ b → either (cond (is_among q.term terms) (finite.get table q) None) (cond (is_among q.term terms) None (finite.get base.puts q)) ≡ finite.get table q
        by true e = ap (λ c. either (cond c (finite.get table q) None) (cond c None (finite.get base.puts q))) e ∙ either_none (finite.get table q)
        by false e = ap (λ c. either (cond c (finite.get table q) None) (cond c None (finite.get base.puts q))) e ∙ get_same q base.puts table (alone q.term e)

-- among terms with one more
pub among_push : (t : TermKey) (terms : List (TermKey × Unit {0})) (e : TermKey × Unit {0}) → (eq_by_cmp term_cmp t e.0 || is_among t terms) ≡ is_among t (terms ++ e ∷ [])
among_push t terms e = by (eq_by_cmp term_cmp t e.0) (is_among t terms) ∙ sym (among-append term_cmp t terms (e ∷ []))
  where
    by : (a b : Bool) → (a || b) ≡ (b || is_some (cond a (Some e.1) None))
    by true true = refl
    by true false = refl
    by false true = refl
    by false false = refl

-- what holds of each of some terms holds of any one that is among them
pub each_among : (Q : TermKey → Type 0) (terms : List (TermKey × Unit {0})) → All (λ e. Q e.0) terms → (t : TermKey) → is_among t terms ≡ true → Q t
each_among Q [] all t e = cc
each_among Q (d ∷ terms) all t e = by (eq_by_cmp term_cmp t d.0) refl e (each_among Q terms (All-tail (λ (x : TermKey × Unit {0}). Q x.0) d terms all) t)
  where
    by : (b : Bool) → eq_by_cmp term_cmp t d.0 ≡ b → is_some (cond b (Some d.1) (find term_cmp t terms)) ≡ true → (is_among t terms ≡ true → Q t) → Q t
    by true f h rest = subst Q (sym (term_apart t d.0 ((Equal-is (term_cmp t d.0)).0 f))) (All-head (λ (x : TermKey × Unit {0}). Q x.0) d terms all)
    by false f h rest = rest h
