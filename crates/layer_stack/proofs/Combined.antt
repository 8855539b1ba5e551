-- Postings put term by term, by look-ups.
use Rattle.std.proofs.Common.{◌≡◌, ℕ, zero, suc, ◌+◌, ◌-◌, ◌<◌, ◌≤◌, Bool, true, false, cond, ◌||◌, List, [], ◌∷◌, ◌++◌, map, filter, take, length, reverse, slice_get, append-nil, append_assoc, Option, None, Some, refl, sym, ◌∙◌, ap, subst, is_some, arith}
use Rattle.std.specs.Cmp.{Equal-is}
use Rattle.std.specs.Prelude.{T}
use Rattle.std.specs.List.{list_any}
use Rattle.std.specs.Option.{unwrap_or}
use Rattle.std.specs.FinMap as finite
use Rattle.std.specs.FinMap.Entries.{find, is_sorted, is_sorted-where_key, find-where_key, same_entries}
use Rattle.std.specs.declared.cmp.Ordering.{Ordering}
use Rattle.std.specs.Ordering.{eq_by_cmp}
use Rattle.std.proofs.lemmas.Cmp.{eq_by_cmp_equiv}
use Rattle.std.proofs.lemmas.List.{reverse-append}
use Rattle.std.proofs.lemmas.List.Folds.{list_any-append}
use Rattle.uni_base.specs.declared.edge.Audience.{Audience}
use Rattle.uni_base.specs.declared.entity.DocKey.{DocKey}
use Rattle.uni_base.specs.KeySets.{has_key}
use Rattle.uni_base.specs.RankOrder.{doc_cmp}
use Rattle.uni_base.proofs.RankedLemmas.{doc_total, exact_key}
use Rattle.posting_lists.specs.declared.posting.Posting.{Posting}
use Rattle.posting_lists.specs.Postings.{section}
use Rattle.posting_lists.proofs.Sections.{section_more}
use Rattle.layer_base.specs.Lookups.{either}
use Rattle.layer_base.specs.Layers.{from_log, put_all, layer_over, stack_over, stack_table}
use Rattle.layer_base.proofs.Among.{among-append, among_noted, among_first, is_done, done_further, done_skipped, done_copied, done_whole, or_false, or_nothing, or_assoc}
use Rattle.layer_base.specs.Among.{bare}
use Rattle.layer_base.proofs.Rising.{log_sorted}
use Rattle.layer_base.proofs.Tables.{from_log-push, get-put_all, get-layer_over, put_all-append}
use Rattle.layer_stack.specs.declared.place.Place.{Place}
use Rattle.layer_stack.specs.declared.place.TermKey.{TermKey}
use Rattle.layer_stack.specs.declared.term_spans.TermSpans.{TermSpans}
use Rattle.layer_stack.specs.Directories.{puts_in, put_spans}
use Rattle.layer_stack.specs.Based.{ArePutAlone}
use Rattle.layer_stack.specs.Combined.{is_among, is_changed, AreChanged, putting_terms, StandsAlone}
use Rattle.layer_stack.specs.Places.{term_cmp, place_cmp}
use Rattle.layer_stack.specs.Postings.{PostingTable, PostingChanges, no_changes, putting_all, is_under, place_of, posting_of, key_of, postings_of, putting, putting_list}
use Rattle.layer_stack.specs.Spans.{span_of, told}
use Rattle.layer_stack.specs.Stacks.{entry_of, posting_at}
use Rattle.layer_stack.specs.Words.{has_term}
use Rattle.layer_stack.proofs.Order.{term_total, term_apart, place_total, place_apart}
use Rattle.layer_stack.proofs.Terms.{keyed, get-under, get-layer, sorted_keyed, posting_at-keyed}
use Rattle.layer_stack.proofs.Directories.{found_by}

-- ---- the postings of a term, put one after another

abbrev pub put_row : TermKey → Posting → Place × Audience
put_row t p = (place_of t p.key, p.audience)

pub list_deletes : (t : TermKey) (ps : List Posting) (c : PostingChanges) → (putting_list t ps c).deletes ≡ c.deletes
list_deletes t [] c = refl
list_deletes t (p ∷ ps) c = list_deletes t ps (putting c (place_of t p.key) p.audience)

pub list_puts : (t : TermKey) (ps : List Posting) (c : PostingChanges) → (putting_list t ps c).puts ≡ put_all (reverse (map (put_row t) ps)) c.puts
list_puts t [] c = refl
list_puts t (p ∷ ps) c =
    list_puts t ps (putting c (place_of t p.key) p.audience)
    ∙ sym (ap (λ rows. put_all rows c.puts) (reverse-append (put_row t p ∷ []) (map (put_row t) ps)) ∙ put_all-append (reverse (map (put_row t) ps)) (put_row t p ∷ []) c.puts)

-- a log to which the rows of a list are added
pub log_list : (t : TermKey) (ps : List Posting) (rows : List (Place × Audience)) (c : PostingChanges) → from_log {R = place_cmp} rows ≡ c.puts → from_log {R = place_cmp} (rows ++ map (put_row t) ps) ≡ (putting_list t ps c).puts
log_list t [] rows c same = ap (from_log {R = place_cmp}) (append-nil rows) ∙ same
log_list t (p ∷ ps) rows c same =
    ap (from_log {R = place_cmp}) (sym (append_assoc rows (put_row t p ∷ []) (map (put_row t) ps)))
    ∙ log_list t ps (rows ++ put_row t p ∷ []) (putting c (place_of t p.key) p.audience) (from_log-push rows (place_of t p.key) p.audience ∙ ap (λ m. finite.insert m (place_of t p.key) p.audience) same)

-- a list and then another one
pub list_more : (t : TermKey) (ps : List Posting) (p : Posting) (c : PostingChanges) → putting_list t (ps ++ p ∷ []) c ≡ putting (putting_list t ps c) (place_of t p.key) p.audience
list_more t [] p c = refl
list_more t (q ∷ ps) p c = list_more t ps p (putting c (place_of t q.key) q.audience)

pub terms_more : (table : PostingTable) (es : List (TermKey × Unit {0})) (e : TermKey × Unit {0}) (c : PostingChanges)
    → putting_terms table (es ++ e ∷ []) c ≡ putting_list e.0 (postings_of e.0 table) (putting_terms table es c)
terms_more table [] e c = refl
terms_more table (d ∷ es) e c = terms_more table es e (putting_list d.0 (postings_of d.0 table) c)

tags_back : (t : TermKey) (es : List (Place × Audience)) → map (put_row t) (map posting_of (filter (is_under t) es)) ≡ filter (is_under t) es
tags_back t [] = refl
tags_back t (e ∷ es) =
    elim (is_under t e) as (λ b. is_under t e ≡ b → map (put_row t) (map posting_of (cond b (e ∷ filter (is_under t) es) (filter (is_under t) es))) ≡ cond b (e ∷ filter (is_under t) es) (filter (is_under t) es)) [
      | true ↦ λ u. let is : t ≡ e.0.term = term_apart t e.0.term ((Equal-is (term_cmp t e.0.term)).0 u) in λ i. (record { term = is i; key = e.0.key }, e.1) ∷ tags_back t es i
      | false ↦ λ u. tags_back t es
    ] refl

find_turned : (q : Place) (rows : List (Place × Audience)) → T (is_sorted place_cmp rows) → find place_cmp q (reverse rows) ≡ find place_cmp q rows
find_turned q rows sorted =
    sym (finite.get-from_entries place_total (reverse rows) q) ∙ finite.get-entries (from_log {R = place_cmp} rows) q ∙ ap (find place_cmp q) (sym (log_sorted place_cmp place_total place_apart rows sorted))

find_term : (t : TermKey) (table : PostingTable) (q : Place) → find place_cmp q (reverse (map (put_row t) (postings_of t table))) ≡ cond (eq_by_cmp term_cmp t q.term) (finite.get table q) None
find_term t table q =
    ap (λ rows. find place_cmp q (reverse rows)) (tags_back t (finite.entries table))
    ∙ find_turned q (filter (is_under t) (finite.entries table)) (is_sorted-where_key place_cmp (λ p. eq_by_cmp term_cmp t p.term) (finite.entries table) (finite.entries_sorted table))
    ∙ find-where_key place_cmp (λ p. eq_by_cmp term_cmp t p.term) q (λ x e. ap (λ (p : Place). eq_by_cmp term_cmp t p.term) (sym (place_apart q x e))) (finite.entries table)
    ∙ ap (λ o. cond (eq_by_cmp term_cmp t q.term) o None) (sym (finite.get-entries table q))

-- ---- what a table has under some terms

-- changes that put what a table has under the terms that pass a test, and delete nothing
pub record Has (table : PostingTable) (done : TermKey → Bool) (c : PostingChanges) : Type 0 where
  pub deletes : c.deletes ≡ finite.empty
  pub puts : (q : Place) → finite.get c.puts q ≡ cond (done q.term) (finite.get table q) None

pub has_alike : (table : PostingTable) (done other : TermKey → Bool) (c : PostingChanges) → ((s : TermKey) → done s ≡ other s) → Has table done c → Has table other c
has_alike table done other c alike has = record {
  deletes = has.deletes;
  puts = λ q. has.puts q ∙ ap (λ b. cond b (finite.get table q) None) (alike q.term);
}

has_list : (table : PostingTable) (done : TermKey → Bool) (t : TermKey) (c : PostingChanges) → Has table done c → Has table (λ s. eq_by_cmp term_cmp s t || done s) (putting_list t (postings_of t table) c)
has_list table done t c has = record {
  deletes = list_deletes t (postings_of t table) c ∙ has.deletes;
  puts = λ q. ap (λ m. finite.get m q) (list_puts t (postings_of t table) c)
      ∙ get-put_all place_total (reverse (map (put_row t) (postings_of t table))) c.puts q ∙ (λ i. either (find_term t table q i) (has.puts q i))
      ∙ by (eq_by_cmp term_cmp t q.term) (done q.term) (finite.get table q) ∙ ap (λ b. cond (b || done q.term) (finite.get table q) None) ((eq_by_cmp_equiv term_total).symm t q.term);
}
  where
    by : (a b : Bool) (o : Option Audience) → either (cond a o None) (cond b o None) ≡ cond (a || b) o None
    by true true None = refl
    by true true (Some x) = refl
    by true false None = refl
    by true false (Some x) = refl
    by false b o = refl

pub has_terms : (table : PostingTable) (es : List (TermKey × Unit {0})) (done : TermKey → Bool) (c : PostingChanges) → Has table done c → Has table (λ s. is_among s es || done s) (putting_terms table es c)
has_terms table [] done c has = has_alike table done (λ s. is_among {X = Unit {0}} s [] || done s) c (λ s. refl) has
has_terms table (e ∷ es) done c has =
    has_alike table (λ s. is_among s es || (eq_by_cmp term_cmp s e.0 || done s)) (λ s. is_among s (e ∷ es) || done s) (putting_terms table (e ∷ es) c) (λ s. among_first term_cmp s e es (done s))
    (has_terms table es (λ s. eq_by_cmp term_cmp s e.0 || done s) (putting_list e.0 (postings_of e.0 table) c) (has_list table done e.0 c has))

pub done_start : (table : PostingTable) (changed : List (TermKey × Unit {0})) → Has table (is_done term_cmp {X = TermSpans} changed 0 []) no_changes
done_start table changed = record { deletes = refl; puts = λ q. finite.get-empty place_cmp q }

pub done_terms : (table : PostingTable) (changed : List (TermKey × Unit {0})) (at to : ℕ) (rows : List (TermKey × TermSpans)) (c : PostingChanges) → at ≤ to → to ≤ length changed → Has table (is_done term_cmp changed at rows) c
    → Has table (is_done term_cmp changed to rows) (putting_terms table (section at to changed) c)
done_terms table changed at to rows c le fits has =
    has_alike table (λ s. is_among s (section at to changed) || is_done term_cmp changed at rows s) (is_done term_cmp changed to rows) (putting_terms table (section at to changed) c)
    (done_further term_cmp changed at to rows le fits) (has_terms table (section at to changed) (is_done term_cmp changed at rows) c has)

pub done_span : (table : PostingTable) (changed : List (TermKey × Unit {0})) (to : ℕ) (rows : List (TermKey × TermSpans)) (e : TermKey × TermSpans) (ps : List Posting) (c : PostingChanges) → (is_among e.0 changed ≡ false → ps ≡ postings_of e.0 table)
    → Has table (is_done term_cmp changed to rows) c → Has table (is_done term_cmp changed to (rows ++ e ∷ [])) (cond (is_among e.0 changed) c (putting_list e.0 ps c))
done_span table changed to rows e ps c alone has = by (is_among e.0 changed) refl
  where
    by : (b : Bool) → is_among e.0 changed ≡ b → Has table (is_done term_cmp changed to (rows ++ e ∷ [])) (cond b c (putting_list e.0 ps c))
    by true is = has_alike table (is_done term_cmp changed to rows) (is_done term_cmp changed to (rows ++ e ∷ [])) c (done_skipped term_cmp term_apart changed to rows e is) has
    by false is =
        has_alike table (λ s. eq_by_cmp term_cmp s e.0 || is_done term_cmp changed to rows s) (is_done term_cmp changed to (rows ++ e ∷ [])) (putting_list e.0 ps c) (done_copied term_cmp term_apart changed to rows e is)
        (subst (λ (qs : List Posting). Has table (λ s. eq_by_cmp term_cmp s e.0 || is_done term_cmp changed to rows s) (putting_list e.0 qs c)) (sym (alone is)) (has_list table (is_done term_cmp changed to rows) e.0 c has))

-- a term without postings has nothing at any key
pub none_at : (table : PostingTable) (q : Place) → [] ≡ postings_of q.term table → finite.get table q ≡ None
none_at table q none = get-under q.term q.key table ∙ ap (λ es. find doc_cmp q.key (map keyed es)) (empty (filter (is_under q.term) (finite.entries table)) none)
  where
    empty : (rows : List (Place × Audience)) → [] ≡ map posting_of rows → rows ≡ []
    empty [] e = refl
    empty (r ∷ rows) e = cc

-- once all terms are done, the changes put the table
pub all_done : (table : PostingTable) (changed : List (TermKey × Unit {0})) (to : ℕ) (es : List (TermKey × TermSpans)) (ps : List Posting) (c : PostingChanges) → take to changed ≡ changed → T (is_sorted term_cmp es)
    → StandsAlone changed (put_spans es) ps table → Has table (is_done term_cmp changed to es) c → c ≡ putting_all table
all_done table changed to es ps c whole sorted alone has = λ i. record { deletes = has.deletes i; puts = puts i }
  where
    at : (q : Place) → finite.get c.puts q ≡ finite.get table q
    at q = has.puts q ∙ by (is_among q.term changed) (find term_cmp q.term es) refl refl
      where
        by : (b : Bool) (o : Option TermSpans) → is_among q.term changed ≡ b → find term_cmp q.term es ≡ o → cond (is_done term_cmp changed to es q.term) (finite.get table q) None ≡ finite.get table q
        by true o e f = ap (λ b. cond b (finite.get table q) None) (done_whole term_cmp changed to es whole q.term true (is_some o) e (ap is_some f))
        by false (Some s) e f = ap (λ b. cond b (finite.get table q) None) (done_whole term_cmp changed to es whole q.term false true e (ap is_some f))
        by false None e f =
            let none : span_of q.term (put_spans es) ≡ None = sym (found_by puts_in refl q.term es sorted) ∙ ap puts_in f in
            ap (λ b. cond b (finite.get table q) None) (done_whole term_cmp changed to es whole q.term false false e (ap is_some f)) ∙ sym (none_at table q (ap (λ o. told o ps) (sym none) ∙ alone q.term e))

    puts : c.puts ≡ table
    puts = finite.same_map place_total place_apart c.puts table at

-- ---- under terms that newer layers leave alone, the oldest one stands alone

pub filter_none : {X : Type 0} (p : X → Bool) (xs : List X) → list_any p xs ≡ false → filter p xs ≡ []
filter_none p [] none = refl
filter_none p (x ∷ xs) none =
    elim (p x) as (λ b. (b || list_any p xs) ≡ false → cond b (x ∷ filter p xs) (filter p xs) ≡ []) [
      | true ↦ λ e. cc
      | false ↦ λ e. filter_none p xs e
    ] none

get_unchanged : (t : TermKey) (k : DocKey) (layers : List PostingChanges) (table : PostingTable) → is_changed t layers ≡ false → finite.get (stack_over table layers) (place_of t k) ≡ finite.get table (place_of t k)
get_unchanged t k [] table none = refl
get_unchanged t k (layer ∷ layers) table none =
    let two = or_false (has_term t layer) (is_changed t layers) none in
    let sides = or_false (list_any (is_under t) (finite.entries layer.deletes)) (list_any (is_under t) (finite.entries layer.puts)) two.0 in
    get_unchanged t k layers (layer_over table layer) two.1 ∙ get-layer t k table layer
    ∙ (λ i. either (find doc_cmp k (map entry_of (map posting_of (filter_none (is_under t) (finite.entries layer.puts) sides.1 i)))) (cond (has_key (map key_of (filter_none (is_under t) (finite.entries layer.deletes) sides.0 i)) k) None (finite.get table (place_of t k))))

get_oldest : (q : Place) (layer : PostingChanges) → finite.get (layer_over finite.empty layer) q ≡ finite.get layer.puts q
get_oldest q layer =
    get-layer_over place_total place_apart finite.empty layer q
    ∙ (λ i. either (finite.get layer.puts q) (cond (finite.contains_key layer.deletes q) None (finite.get-empty {X = Audience} place_cmp q i))) ∙ by (finite.get layer.puts q) (finite.contains_key layer.deletes q)
  where
    by : (o : Option Audience) (b : Bool) → either o (cond b None None) ≡ o
    by None true = refl
    by None false = refl
    by (Some a) b = refl

-- tables that answer alike under a term have the same postings there
pub same_postings : (t : TermKey) (m n : PostingTable) → ((k : DocKey) → finite.get m (place_of t k) ≡ finite.get n (place_of t k)) → postings_of t m ≡ postings_of t n
same_postings t m n alike =
    sym (posting_at-keyed (filter (is_under t) (finite.entries m)))
    ∙ ap (map posting_at) (same_entries doc_cmp doc_total exact_key (map keyed (filter (is_under t) (finite.entries m))) (map keyed (filter (is_under t) (finite.entries n)))
    (sorted_keyed t (finite.entries m) (finite.entries_sorted m)) (sorted_keyed t (finite.entries n) (finite.entries_sorted n)) (λ k. sym (get-under t k m) ∙ alike k ∙ get-under t k n))
    ∙ posting_at-keyed (filter (is_under t) (finite.entries n))

first_layer : {X : Type 0} (layers : List X) (count : ℕ) (base : X) → slice_get layers 0 ≡ Some base → 0 < count → take count layers ≡ base ∷ section 1 count layers
first_layer [] count base at some = cc
first_layer (x ∷ layers) zero base at some = absurd (omega (arith, some))
first_layer (x ∷ layers) (suc n) base at some =
    let is : x ≡ base = ap (λ o. unwrap_or o base) at in
    let less : suc n - 1 ≡ n = omega arith in
    λ i. is i ∷ take (sym less i) layers

pub oldest_alone : (layers : List PostingChanges) (count : ℕ) (oldest : PostingChanges) (changed : List (TermKey × Unit {0})) → slice_get layers 0 ≡ Some oldest → 0 < count
    → AreChanged (section 1 count layers) changed → ArePutAlone changed oldest (stack_table (take count layers))
oldest_alone layers count oldest changed at some are t none =
    same_postings t oldest.puts (stack_table (take count layers)) (λ k. sym (
    ap (λ ls. finite.get (stack_table ls) (place_of t k)) (first_layer layers count oldest at some)
    ∙ get_unchanged t k (section 1 count layers) (layer_over finite.empty oldest) (are.others t none) ∙ get_oldest (place_of t k) oldest))

-- ---- the terms that are changed

pub changed_more : (t : TermKey) (layers : List PostingChanges) (i : ℕ) (layer : PostingChanges) → 1 ≤ i → slice_get layers i ≡ Some layer → is_changed t (section 1 i layers) ≡ false → has_term t layer ≡ false
    → is_changed t (section 1 (i + 1) layers) ≡ false
changed_more t layers i layer le at so_far none =
    ap (is_changed t) (section_more 1 i layers layer le at) ∙ list_any-append (has_term t) (section 1 i layers) (layer ∷ []) ∙ ap (λ b. is_changed t (section 1 i layers) || b) (or_nothing (has_term t layer))
    ∙ (λ j. so_far j || none j)

pub note_more : {X : Type 0} (t : TermKey) (terms : List (TermKey × Unit {0})) (yielded : List (TermKey × X)) (e : TermKey × X) (older : Bool) → is_among t terms ≡ (older || is_among t yielded)
    → is_among t (terms ++ bare e ∷ []) ≡ (older || is_among t (yielded ++ e ∷ []))
note_more t terms yielded e older so_far =
    among_noted term_cmp t terms (e ∷ []) ∙ ap (λ b. b || is_among t (e ∷ [])) so_far ∙ or_assoc older (is_among t yielded) (is_among t (e ∷ [])) ∙ ap (λ b. older || b) (sym (among-append term_cmp t yielded (e ∷ [])))
