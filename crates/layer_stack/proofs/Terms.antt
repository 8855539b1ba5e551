-- The postings of one term in a table, by look-ups.
use Rattle.std.proofs.Common.{◌≡◌, ℕ, Bool, true, false, cond, not, ◌==◌, ◌&&◌, ◌||◌, List, [], ◌∷◌, ◌++◌, ◌+◌, take, map, filter, length, Option, None, Some, refl, sym, ◌∙◌, ap, All, is_some, arith}
use Rattle.std.specs.Cmp.{Equal-is}
use Rattle.std.specs.Prelude.{T}
use Rattle.std.specs.FinMap as finite
use Rattle.std.specs.FinMap.Entries.{find, is_sorted, below_all}
use Rattle.std.specs.declared.cmp.Ordering.{Ordering}
use Rattle.std.specs.declared.cmp.Ordering.TheVariants.{Less, Equal, Greater}
use Rattle.std.specs.Ordering.{is_eq, is_lt, eq_by_cmp}
use Rattle.std.proofs.lemmas.Bool.{eqb-true}
use Rattle.std.proofs.lemmas.List.{take_more, map-append}
use Rattle.std.proofs.lemmas.List.Elements.{All-nil, All-cons, All-head, All-tail}
use Rattle.std.proofs.lemmas.Option.{get_or_from_slice_get, slice_get_within}
use Rattle.std.specs.List.{slice_get}
use Rattle.uni_base.specs.declared.edge.Audience.{Audience}
use Rattle.uni_base.specs.declared.entity.DocKey.{DocKey}
use Rattle.uni_base.specs.Cursors.{is_before, is_less, IsRanked}
use Rattle.uni_base.specs.RankOrder.{doc_cmp}
use Rattle.uni_base.specs.KeySets.{has_key}
use Rattle.uni_base.proofs.RankedLemmas.{is_eq_swap, is_before_self}
use Rattle.posting_lists.specs.declared.posting.Posting.{Posting}
use Rattle.posting_lists.specs.Postings.{keys_of, postings_from}
use Rattle.layer_base.specs.Lookups.{either}
use Rattle.layer_base.specs.Layers.{layer_over, stack_table}
use Rattle.layer_base.proofs.Tables.{get-layer_over, stack_over-append}
use Rattle.layer_stack.specs.declared.place.Place.{Place}
use Rattle.layer_stack.specs.declared.place.TermKey.{TermKey}
use Rattle.layer_stack.specs.Places.{term_cmp, place_cmp}
use Rattle.layer_stack.specs.Postings.{PostingTable, PostingChanges, is_under, place_of, posting_of, key_of, postings_of, deletes_of}
use Rattle.layer_stack.specs.Stacks.{PartValue, and_part, has_nothing, entry_of, posting_at, part_changes, part_table, remaining_of}
use Rattle.layer_stack.proofs.Order.{term_total, place_total, place_apart}
use Rattle.layer_base.proofs.Sorted.{both, first, second, is_eq-then, then_lt}
use Rattle.layer_stack.proofs.Merged.{same_by_get, find-filter, get-part}

-- a row without its term
abbrev pub keyed : {V : Type 0} → Place × V → DocKey × V
keyed row = (row.0.key, row.1)

pub find-under : {V : Type 0} (t : TermKey) (k : DocKey) (es : List (Place × V)) → find place_cmp (place_of t k) es ≡ find doc_cmp k (map keyed (filter (is_under t) es))
find-under t k [] = refl
find-under {V} t k (e ∷ es) =
    ap (λ b. cond b (Some e.1) (find place_cmp (place_of t k) es)) (is_eq-then (term_cmp t e.0.term) (doc_cmp k e.0.key))
    ∙ elim (eq_by_cmp term_cmp t e.0.term) as (λ b. cond (b && is_eq (doc_cmp k e.0.key)) (Some e.1) (find place_cmp (place_of t k) es) ≡ find doc_cmp k (map keyed (cond b (e ∷ filter (is_under t) es) (filter (is_under t) es)))) [
      | true ↦ ap (cond (is_eq (doc_cmp k e.0.key)) (Some e.1)) (find-under t k es)
      | false ↦ find-under t k es
    ]

pub get-under : {V : Type 0} (t : TermKey) (k : DocKey) (m : finite.FinMap place_cmp V) → finite.get m (place_of t k) ≡ find doc_cmp k (map keyed (filter (is_under t) (finite.entries m)))
get-under t k m = finite.get-entries m (place_of t k) ∙ find-under t k (finite.entries m)

pub entries_of_postings : (rows : List (Place × Audience)) → map entry_of (map posting_of rows) ≡ map keyed rows
entries_of_postings [] = refl
entries_of_postings (r ∷ rows) = ap (λ es. keyed r ∷ es) (entries_of_postings rows)

has_key-rows : (k : DocKey) (rows : List (Place × Unit {0})) → is_some (find doc_cmp k (map keyed rows)) ≡ has_key (map key_of rows) k
has_key-rows k [] = refl
has_key-rows k (r ∷ rows) =
    elim (eq_by_cmp doc_cmp k r.0.key) as (λ b. is_some (cond b (Some r.1) (find doc_cmp k (map keyed rows))) ≡ (b || has_key (map key_of rows) k)) [ true ↦ refl | false ↦ has_key-rows k rows ]
    ∙ ap (λ b. b || has_key (map key_of rows) k) (is_eq_swap k r.0.key)

-- what a table under a layer has at a place
pub get-layer : (t : TermKey) (k : DocKey) (table : PostingTable) (layer : PostingChanges)
    → finite.get (layer_over table layer) (place_of t k) ≡ either (find doc_cmp k (map entry_of (postings_of t layer.puts))) (cond (has_key (deletes_of t layer) k) None (finite.get table (place_of t k)))
get-layer t k table layer =
    get-layer_over place_total place_apart table layer (place_of t k)
    ∙ (λ i. either ((get-under t k layer.puts ∙ ap (find doc_cmp k) (sym (entries_of_postings (filter (is_under t) (finite.entries layer.puts))))) i)
    (cond ((ap is_some (get-under t k layer.deletes) ∙ has_key-rows k (filter (is_under t) (finite.entries layer.deletes))) i) None (finite.get table (place_of t k))))

-- ---- the rows of a term are in rank order

module _ {V : Type 0} (t : TermKey) where
  below_keyed : (e : Place × V) (es : List (Place × V)) → is_under t e ≡ true → T (below_all place_cmp e.0 es) → T (below_all doc_cmp e.0.key (map keyed (filter (is_under t) es)))
  below_keyed e [] u below = tt
  below_keyed e (d ∷ es) u below =
      elim (is_under t d) as (λ b. is_under t d ≡ b → T (below_all doc_cmp e.0.key (map keyed (cond b (d ∷ filter (is_under t) es) (filter (is_under t) es))))) [
        | true ↦ λ v.
            let same : is_eq (term_cmp e.0.term d.0.term) ≡ true =
            ap is_eq (sym (term_total.congr t e.0.term d.0.term ((Equal-is (term_cmp t e.0.term)).0 u))) ∙ v in
            both _ _ (then_lt (term_cmp e.0.term d.0.term) (doc_cmp e.0.key d.0.key) same (first _ _ below)) (below_keyed e es u (second _ _ below))
        | false ↦ λ v. below_keyed e es u (second _ _ below)
      ] refl

  pub sorted_keyed : (es : List (Place × V)) → T (is_sorted place_cmp es) → T (is_sorted doc_cmp (map keyed (filter (is_under t) es)))
  sorted_keyed [] sorted = tt
  sorted_keyed (e ∷ es) sorted =
      elim (is_under t e) as (λ b. is_under t e ≡ b → T (is_sorted doc_cmp (map keyed (cond b (e ∷ filter (is_under t) es) (filter (is_under t) es))))) [
        | true ↦ λ u. both _ _ (below_keyed e es u (first _ _ sorted)) (sorted_keyed es (second _ _ sorted))
        | false ↦ λ u. sorted_keyed es (second _ _ sorted)
      ] refl

pub posting_at-keyed : (rows : List (Place × Audience)) → map posting_at (map keyed rows) ≡ map posting_of rows
posting_at-keyed [] = refl
posting_at-keyed (r ∷ rows) = ap (λ ps. posting_of r ∷ ps) (posting_at-keyed rows)

-- parts that answer as a table does stand for its postings
pub parts_stand : (t : TermKey) (parts : List PartValue) (table : PostingTable) → ((k : DocKey) → finite.get (part_table parts) k ≡ finite.get table (place_of t k)) → remaining_of parts ≡ postings_of t table
parts_stand t parts table alike =
    ap (map posting_at) (sym (same_by_get (map keyed (filter (is_under t) (finite.entries table))) (part_table parts) (sorted_keyed t (finite.entries table) (finite.entries_sorted table)) (λ q. sym (get-under t q table) ∙ sym (alike q))))
    ∙ posting_at-keyed (filter (is_under t) (finite.entries table))

-- ---- after a seek

pub stands_after : (key : DocKey) (ps : List Posting) → All (λ x. is_before x.key key ≡ false) (postings_from key ps)
stands_after key [] = All-nil (λ x. is_before x.key key ≡ false)
stands_after key (p ∷ ps) =
    elim (is_before p.key key) as (λ b. is_before p.key key ≡ b → All (λ x. is_before x.key key ≡ false) (cond (not b) (p ∷ postings_from key ps) (postings_from key ps))) [
      | true ↦ λ e. stands_after key ps
      | false ↦ λ e. All-cons (λ x. is_before x.key key ≡ false) p (postings_from key ps) e (stands_after key ps)
    ] refl

pub find_after : (key : DocKey) (ps : List Posting) → find doc_cmp key (map entry_of (postings_from key ps)) ≡ find doc_cmp key (map entry_of ps)
find_after key ps = find-filter (λ k. not (is_before k key)) key ps ∙ ap (λ b. cond (not b) (find doc_cmp key (map entry_of ps)) None) (is_before_self key)

-- one layer more of a stack
pub stack_more : (layers : List PostingChanges) (i : ℕ) (layer : PostingChanges) → slice_get layers i ≡ Some layer → stack_table (take (i + 1) layers) ≡ layer_over (stack_table (take i layers)) layer
stack_more layers i layer at =
    ap stack_table (take_more layers i layer (slice_get_within layers i layer at) ∙ ap (λ x. take i layers ++ x ∷ []) (get_or_from_slice_get layers i layer layer at)) ∙ stack_over-append finite.empty (take i layers) (layer ∷ [])

-- one part more
part_pushed : (parts : List PartValue) (part : PartValue) (k : DocKey)
    → finite.get (part_table (parts ++ part ∷ [])) k ≡ either (find doc_cmp k (map entry_of part.1)) (cond (has_key part.0 k) None (finite.get (part_table parts) k))
part_pushed parts part k =
    ap (λ changes. finite.get (stack_table changes) k) (map-append part_changes parts (part ∷ []))
    ∙ ap (λ table. finite.get table k) (stack_over-append finite.empty (map part_changes parts) (part_changes part ∷ [])) ∙ get-part (part_table parts) part k

-- a part with nothing in it
part_skipped : (ds : List DocKey) (ps : List Posting) (k : DocKey) (older : Option Audience) → ((length ds == 0) && (length ps == 0)) ≡ true → either (find doc_cmp k (map entry_of ps)) (cond (has_key ds k) None older) ≡ older
part_skipped [] [] k older e = refl
part_skipped [] (p ∷ ps) k older e = let none : length (p ∷ ps) ≡ 0 = eqb-true (length (p ∷ ps)) 0 e in absurd (omega arith)
part_skipped (d ∷ ds) ps k older e = let none : length (d ∷ ds) ≡ 0 = eqb-true (length (d ∷ ds)) 0 (and_first (length (d ∷ ds) == 0) (length ps == 0) e) in absurd (omega arith)
  where
    and_first : (a b : Bool) → (a && b) ≡ true → a ≡ true
    and_first true b h = refl
    and_first false b h = cc

and_part_table : (parts : List PartValue) (part : PartValue) (k : DocKey)
    → finite.get (part_table (and_part parts part)) k ≡ either (find doc_cmp k (map entry_of part.1)) (cond (has_key part.0 k) None (finite.get (part_table parts) k))
and_part_table parts part k = by (has_nothing part) refl
  where
    by : (b : Bool) → has_nothing part ≡ b
        → finite.get (part_table (cond b parts (parts ++ part ∷ []))) k ≡ either (find doc_cmp k (map entry_of part.1)) (cond (has_key part.0 k) None (finite.get (part_table parts) k))
    by true e = sym (part_skipped part.0 part.1 k (finite.get (part_table parts) k) e)
    by false e = part_pushed parts part k

-- parts of some layers, and that of one layer more
pub layer_more : (t : TermKey) (layers : List PostingChanges) (i : ℕ) (layer : PostingChanges) (parts : List PartValue) (part : PartValue)
    → slice_get layers i ≡ Some layer → part ≡ (deletes_of t layer, postings_of t layer.puts)
    → ((k : DocKey) → finite.get (part_table parts) k ≡ finite.get (stack_table (take i layers)) (place_of t k))
    → (k : DocKey) → finite.get (part_table (and_part parts part)) k ≡ finite.get (stack_table (take (i + 1) layers)) (place_of t k)
layer_more t layers i layer parts part at is alike k =
    and_part_table parts part k ∙ (λ j. either (find doc_cmp k (map entry_of (is j).1)) (cond (has_key (is j).0 k) None (alike k j)))
    ∙ sym (ap (λ m. finite.get m (place_of t k)) (stack_more layers i layer at) ∙ get-layer t k (stack_table (take i layers)) layer)

-- ---- one layer alone

less_lt : (o : Ordering) → is_less o ≡ true → T (is_lt o)
less_lt Less e = tt
less_lt Equal e = cc
less_lt Greater e = cc

below_entries : (k : DocKey) (ps : List Posting) → All (λ x. is_before k x ≡ true) (keys_of ps) → T (below_all doc_cmp k (map entry_of ps))
below_entries k [] all = tt
below_entries k (p ∷ ps) all =
    both _ _ (less_lt (doc_cmp k p.key) (All-head (λ (x : DocKey). is_before k x ≡ true) p.key (keys_of ps) all)) (below_entries k ps (All-tail (λ (x : DocKey). is_before k x ≡ true) p.key (keys_of ps) all))

ranked_entries : (ps : List Posting) → IsRanked (keys_of ps) → T (is_sorted doc_cmp (map entry_of ps))
ranked_entries [] ranked = tt
ranked_entries (p ∷ ps) ranked = both _ _ (below_entries p.key ps ranked.0) (ranked_entries ps ranked.1)

postings_of_entries : (ps : List Posting) → map posting_at (map entry_of ps) ≡ ps
postings_of_entries [] = refl
postings_of_entries (p ∷ ps) = ap (λ qs. p ∷ qs) (postings_of_entries ps)

-- where one layer alone has the term, its postings are what is read
pub one_part : (part : PartValue) → IsRanked (keys_of part.1) → remaining_of (part ∷ []) ≡ part.1
one_part part ranked =
    ap (map posting_at) (sym (same_by_get (map entry_of part.1) (part_table (part ∷ [])) (ranked_entries part.1 ranked) alike)) ∙ postings_of_entries part.1
  where
    over_nothing : (said : Option Audience) (b : Bool) → either said (cond b None None) ≡ said
    over_nothing None true = refl
    over_nothing None false = refl
    over_nothing (Some a) b = refl

    alike : (k : DocKey) → find doc_cmp k (map entry_of part.1) ≡ finite.get (part_table (part ∷ [])) k
    alike k =
        sym (part_pushed [] part k ∙ ap (λ (older : Option Audience). either (find doc_cmp k (map entry_of part.1)) (cond (has_key part.0 k) None older)) (finite.get-empty doc_cmp k)
        ∙ over_nothing (find doc_cmp k (map entry_of part.1)) (has_key part.0 k))
