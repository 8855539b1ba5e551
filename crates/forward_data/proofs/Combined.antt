-- Records put one by one, by look-ups.
use Rattle.std.proofs.Common.{◌≡◌, ℕ, zero, suc, ◌+◌, ◌-◌, ◌<◌, ◌≤◌, Bool, true, false, cond, ◌||◌, List, [], ◌∷◌, ◌++◌, take, drop, length, get_or, slice_get, Option, None, Some, refl, sym, ◌∙◌, ap, subst, is_some, arith}
use Rattle.std.specs.Cmp.{Equal-is}
use Rattle.std.specs.Prelude.{T}
use Rattle.std.specs.Option.{unwrap_or}
use Rattle.std.specs.FinMap as finite
use Rattle.std.specs.FinMap.Entries.{find, is_sorted}
use Rattle.std.specs.Ordering.{eq_by_cmp}
use Rattle.std.proofs.lemmas.Cmp.{eq_by_cmp_equiv}
use Rattle.std.proofs.lemmas.List.{take_more, drop-append-le, length-take-le}
use Rattle.std.proofs.lemmas.List.Folds.{list_any-append}
use Rattle.std.proofs.lemmas.Option.{get_or_from_slice_get, slice_get_within}
use Rattle.layer_base.proofs.Among.{among_first, is_done, done_further, done_skipped, done_copied, done_whole, or_false, or_nothing, none_of}
use Rattle.layer_base.proofs.Sorted.{find_at}
use Rattle.forward_data.specs.declared.record.ForwardItem.{ForwardItem}
use Rattle.forward_data.specs.declared.record.RecordKey.{RecordKey}
use Rattle.forward_data.specs.Combined.{is_among, is_changed, AreAlone, AreChanged, putting_record, putting_records, StandAlone}
use Rattle.forward_data.specs.Records.{Records, record_cmp, records_over, records_from, records_of, record_of, AreFull, under}
use Rattle.forward_data.proofs.Newest.{get-over, full_of}
use Rattle.forward_data.proofs.Order.{record_total, record_apart}

-- ---- records put at some keys

-- changes that put the records of a table at the keys that pass a test
abbrev pub Has : Records → (RecordKey → Bool) → Records → Type 0
Has table done records = (q : RecordKey) → finite.get records q ≡ cond (done q) (finite.get table q) None

has_alike : (table : Records) (done other : RecordKey → Bool) (d : Records) → ((s : RecordKey) → done s ≡ other s) → Has table done d → Has table other d
has_alike table done other d alike has q = has q ∙ ap (λ b. cond b (finite.get table q) None) (alike q)

has_record : (table : Records) (full : AreFull table) (done : RecordKey → Bool) (k : RecordKey) (d : Records) → Has table done d → Has table (λ s. eq_by_cmp record_cmp s k || done s) (putting_record k (unwrap_or (finite.get table k) []) d)
has_record table full done k d has q = by (finite.get table k) refl
  where
    there : eq_by_cmp record_cmp q k ≡ true → finite.get table q ≡ finite.get table k
    there e = ap (finite.get table) (record_apart q k ((Equal-is (record_cmp q k)).0 e))

    nothing : (b c : Bool) (answer : Option (List ForwardItem)) → (b ≡ true → answer ≡ None) → cond c answer None ≡ cond (b || c) answer None
    nothing true true answer h = refl
    nothing true false answer h = sym (h refl)
    nothing false c answer h = refl

    put : (b c : Bool) (answer said : Option (List ForwardItem)) → (b ≡ true → answer ≡ said) → cond b said (cond c answer None) ≡ cond (b || c) answer None
    put true c answer said h = sym (h refl)
    put false c answer said h = refl

    by : (f : Option (List ForwardItem)) → finite.get table k ≡ f → finite.get (putting_record k (unwrap_or f []) d) q ≡ cond (eq_by_cmp record_cmp q k || done q) (finite.get table q) None
    by None e = has q ∙ nothing (eq_by_cmp record_cmp q k) (done q) (finite.get table q) (λ t. there t ∙ e)
    by (Some []) e = absurd (full k e)
    by (Some (item ∷ items)) e =
        finite.get-insert record_total d k (item ∷ items) q ∙ ap (cond (eq_by_cmp record_cmp q k) (Some (item ∷ items))) (has q)
        ∙ put (eq_by_cmp record_cmp q k) (done q) (finite.get table q) (Some (item ∷ items)) (λ t. there t ∙ e)

has_records : (layers : List Records) (es : List (RecordKey × Unit {0})) (done : RecordKey → Bool) (d : Records) → Has (records_of layers) done d → Has (records_of layers) (λ s. is_among s es || done s) (putting_records layers es d)
has_records layers [] done d has = has_alike (records_of layers) done (λ s. is_among {X = Unit {0}} s [] || done s) d (λ s. refl) has
has_records layers (e ∷ es) done d has =
    has_alike (records_of layers) (λ s. is_among s es || (eq_by_cmp record_cmp s e.0 || done s)) (λ s. is_among s (e ∷ es) || done s) (putting_records layers (e ∷ es) d)
    (λ s. among_first record_cmp s e es (done s))
    (has_records layers es (λ s. eq_by_cmp record_cmp s e.0 || done s) (putting_record e.0 (record_of e.0 layers) d) (has_record (records_of layers) (full_of layers) done e.0 d has))

pub records_put : (layers : List Records) (es : List (RecordKey × Unit {0})) (e : RecordKey × Unit {0}) (d : Records) → putting_records layers (es ++ e ∷ []) d ≡ putting_record e.0 (record_of e.0 layers) (putting_records layers es d)
records_put layers [] e d = refl
records_put layers (x ∷ es) e d = records_put layers es e (putting_record x.0 (record_of x.0 layers) d)

pub done_start : (layers : List Records) (changed : List (RecordKey × Unit {0})) → Has (records_of layers) (is_done record_cmp {X = List ForwardItem} changed 0 []) finite.empty
done_start layers changed q = finite.get-empty record_cmp q

pub done_records : (layers : List Records) (changed : List (RecordKey × Unit {0})) (at to : ℕ) (rows : List (RecordKey × List ForwardItem)) (d : Records) → at ≤ to → to ≤ length changed → Has (records_of layers) (is_done record_cmp changed at rows) d
    → Has (records_of layers) (is_done record_cmp changed to rows) (putting_records layers (take (to - at) (drop at changed)) d)
done_records layers changed at to rows d le fits has =
    let part = take (to - at) (drop at changed) in
    has_alike (records_of layers) (λ s. is_among s part || is_done record_cmp changed at rows s) (is_done record_cmp changed to rows) (putting_records layers part d)
    (done_further record_cmp changed at to rows le fits) (has_records layers part (is_done record_cmp changed at rows) d has)

pub done_row : (layers : List Records) (changed : List (RecordKey × Unit {0})) (to : ℕ) (rows : List (RecordKey × List ForwardItem)) (e : RecordKey × List ForwardItem) (d : Records) → (is_among e.0 changed ≡ false → e.1 ≡ record_of e.0 layers)
    → Has (records_of layers) (is_done record_cmp changed to rows) d → Has (records_of layers) (is_done record_cmp changed to (rows ++ e ∷ [])) (cond (is_among e.0 changed) d (putting_record e.0 e.1 d))
done_row layers changed to rows e d alone has = by (is_among e.0 changed) refl
  where
    by : (b : Bool) → is_among e.0 changed ≡ b → Has (records_of layers) (is_done record_cmp changed to (rows ++ e ∷ [])) (cond b d (putting_record e.0 e.1 d))
    by true is = has_alike (records_of layers) (is_done record_cmp changed to rows) (is_done record_cmp changed to (rows ++ e ∷ [])) d (done_skipped record_cmp record_apart changed to rows e is) has
    by false is =
        has_alike (records_of layers) (λ s. eq_by_cmp record_cmp s e.0 || is_done record_cmp changed to rows s) (is_done record_cmp changed to (rows ++ e ∷ [])) (putting_record e.0 e.1 d)
        (done_copied record_cmp record_apart changed to rows e is)
        (subst (λ (items : List ForwardItem). Has (records_of layers) (λ s. eq_by_cmp record_cmp s e.0 || is_done record_cmp changed to rows s) (putting_record e.0 items d)) (sym (alone is)) (has_record (records_of layers) (full_of layers) (is_done record_cmp changed to rows) e.0 d has))

-- where a record is empty, there is none
none_at : (table : Records) (q : RecordKey) → AreFull table → unwrap_or (finite.get table q) [] ≡ [] → finite.get table q ≡ None
none_at table q full empty = by (finite.get table q) refl empty
  where
    by : (f : Option (List ForwardItem)) → finite.get table q ≡ f → unwrap_or f [] ≡ [] → f ≡ None
    by None e h = refl
    by (Some []) e h = absurd (full q e)
    by (Some (item ∷ items)) e h = cc

-- once all keys are done, the records are those of the layers
pub all_done : (layers : List Records) (changed : List (RecordKey × Unit {0})) (to : ℕ) (rows : List (RecordKey × List ForwardItem)) (d : Records) → take to changed ≡ changed → StandAlone changed rows layers
    → Has (records_of layers) (is_done record_cmp changed to rows) d → d ≡ records_of layers
all_done layers changed to rows d whole alone has = finite.same_map record_total record_apart d (records_of layers) at
  where
    at : (q : RecordKey) → finite.get d q ≡ finite.get (records_of layers) q
    at q = has q ∙ by (is_among q changed) (is_among q rows) refl refl
      where
        by : (b o : Bool) → is_among q changed ≡ b → is_among q rows ≡ o → cond (is_done record_cmp changed to rows q) (finite.get (records_of layers) q) None ≡ finite.get (records_of layers) q
        by true o e f = ap (λ b. cond b (finite.get (records_of layers) q) None) (done_whole record_cmp changed to rows whole q true o e f)
        by false true e f = ap (λ b. cond b (finite.get (records_of layers) q) None) (done_whole record_cmp changed to rows whole q false true e f)
        by false false e f = ap (λ b. cond b (finite.get (records_of layers) q) None) (done_whole record_cmp changed to rows whole q false false e f) ∙ sym (none_at (records_of layers) q (full_of layers) (alone.none q e f))

-- ---- at keys that newer layers leave alone, the oldest one stands alone

get_unchanged : (k : RecordKey) (layers : List Records) (table : Records) → is_changed k layers ≡ false → finite.get (records_from table layers) k ≡ finite.get table k
get_unchanged k [] table none = refl
get_unchanged k (layer ∷ layers) table none =
    let two = or_false (is_some (finite.get layer k)) (is_changed k layers) none in
    get_unchanged k layers (records_over table layer) two.1 ∙ get-over table layer k ∙ ap (λ f. under f (finite.get table k)) (none_of (finite.get layer k) two.0)

first_layer : {X : Type 0} (layers : List X) (count : ℕ) (base : X) → slice_get layers 0 ≡ Some base → 0 < count → take count layers ≡ base ∷ drop 1 (take count layers)
first_layer [] count base at some = cc
first_layer (x ∷ layers) zero base at some = absurd (omega (arith, some))
first_layer (x ∷ layers) (suc n) base at some = let is : x ≡ base = ap (λ o. unwrap_or o base) at in λ i. is i ∷ take n layers

oldest_record : (layers : List Records) (count : ℕ) (base : Records) (k : RecordKey) → slice_get layers 0 ≡ Some base → 0 < count → is_changed k (drop 1 (take count layers)) ≡ false → record_of k (take count layers) ≡ unwrap_or (finite.get base k) []
oldest_record layers count base k at some none =
    ap (record_of k) (first_layer layers count base at some)
    ∙ ap (λ f. unwrap_or f []) (get_unchanged k (drop 1 (take count layers)) (records_over finite.empty base) none ∙ get-over finite.empty base k ∙ ap (under (finite.get base k)) (finite.get-empty record_cmp k))
    ∙ by (finite.get base k)
  where
    by : (f : Option (List ForwardItem)) → unwrap_or (under f None) [] ≡ unwrap_or f []
    by None = refl
    by (Some []) = refl
    by (Some (item ∷ items)) = refl

self_equal : (k : RecordKey) → eq_by_cmp record_cmp k k ≡ true
self_equal k = (eq_by_cmp_equiv record_total).refl k

pub oldest_alone : (layers : List Records) (count : ℕ) (oldest : Records) (changed : List (RecordKey × Unit {0})) → slice_get layers 0 ≡ Some oldest → 0 < count
    → AreChanged (drop 1 (take count layers)) changed → AreAlone changed oldest (take count layers)
oldest_alone layers count oldest changed at some are k none = oldest_record layers count oldest k at some (are.others k none)

pub stand_alone : (layers : List Records) (records : Records) (changed : List (RecordKey × Unit {0})) (rows : List (RecordKey × List ForwardItem))
    → AreAlone changed records layers → T (is_sorted record_cmp rows) → ((k : RecordKey) → finite.get records k ≡ find record_cmp k rows) → StandAlone changed rows layers
stand_alone layers records changed rows alone sorted tells = record {
  each = λ i d fits none.
      let k = (get_or rows i d).0 in
      sym (alone k none ∙ ap (λ f. unwrap_or f []) (tells k ∙ find_at record_cmp record_total k rows i d sorted fits ((Equal-is (record_cmp k k)).0 (self_equal k))));
  none = λ k none absent. alone k none ∙ ap (λ f. unwrap_or f []) (tells k ∙ none_of (find record_cmp k rows) absent);
}

-- ---- the keys that are changed

-- the keys of one layer more
pub changed_more : (k : RecordKey) (layers : List Records) (i : ℕ) (layer : Records) → 1 ≤ i → slice_get layers i ≡ Some layer → is_changed k (drop 1 (take i layers)) ≡ false → is_some (finite.get layer k) ≡ false
    → is_changed k (drop 1 (take (i + 1) layers)) ≡ false
changed_more k layers i layer le at so_far none =
    ap (is_changed k) more ∙ list_any-append (λ l. is_some (finite.get l k)) (drop 1 (take i layers)) (layer ∷ []) ∙ ap (λ b. is_changed k (drop 1 (take i layers)) || b) (or_nothing (is_some (finite.get layer k)))
    ∙ (λ j. so_far j || none j)
  where
    fits : i < length layers
    fits = slice_get_within layers i layer at

    more : drop 1 (take (i + 1) layers) ≡ drop 1 (take i layers) ++ layer ∷ []
    more = ap (drop 1) (take_more layers i layer fits ∙ ap (λ x. take i layers ++ x ∷ []) (get_or_from_slice_get layers i layer layer at))
        ∙ drop-append-le 1 (take i layers) (layer ∷ []) (omega (arith, le, length-take-le i layers (omega (arith, fits))))

pub changed_start : (k : RecordKey) (layers : List Records) → is_changed k (drop 1 (take 1 layers)) ≡ false
changed_start k [] = refl
changed_start k (layer ∷ layers) = refl
