-- The records of a stack, one layer after another.
use Rattle.std.proofs.Common.{◌≡◌, ℕ, ◌+◌, Bool, true, false, cond, List, [], ◌∷◌, ◌++◌, map, take, drop, Option, None, Some, refl, sym, ◌∙◌, ap, subst}
use Rattle.std.specs.Cmp.{Equal-is}
use Rattle.std.specs.Prelude.{T}
use Rattle.std.specs.List.{slice_get}
use Rattle.std.specs.Option.{unwrap_or}
use Rattle.std.specs.Ordering.{eq_by_cmp}
use Rattle.std.specs.FinMap as finite
use Rattle.std.specs.FinMap.Entries.{find, is_sorted, below_all}
use Rattle.std.proofs.lemmas.List.{take_more, take-append-drop}
use Rattle.std.proofs.lemmas.Option.{get_or_from_slice_get, slice_get_within}
use Rattle.layer_base.specs.Changes.{after, set_at}
use Rattle.layer_base.proofs.Changes.{get-set_at}
use Rattle.layer_base.proofs.Sorted.{first, second, find_below}
use Rattle.forward_data.specs.declared.record.ForwardItem.{ForwardItem}
use Rattle.forward_data.specs.declared.record.RecordKey.{RecordKey}
use Rattle.forward_data.specs.Records.{Records, record_cmp, left_by, replacing, records_over, records_from, records_of, record_of, AreFull, under}
use Rattle.forward_data.proofs.Order.{record_total, record_apart}

pub get-after : (es : List (RecordKey × List ForwardItem)) (records : Records) (q : RecordKey) → T (is_sorted record_cmp es) → finite.get (after records (map replacing es)) q ≡ under (find record_cmp q es) (finite.get records q)
get-after [] records q sorted = refl
get-after (e ∷ es) records q sorted =
    get-after es (set_at records e.0 (left_by e.1)) q (second _ _ sorted) ∙ ap (under (find record_cmp q es)) (get-set_at record_total records e.0 (left_by e.1) q) ∙ by (eq_by_cmp record_cmp q e.0) refl
  where
    by : (b : Bool) → eq_by_cmp record_cmp q e.0 ≡ b → under (find record_cmp q es) (cond b (left_by e.1) (finite.get records q)) ≡ under (cond b (Some e.1) (find record_cmp q es)) (finite.get records q)
    by true t =
        let is : q ≡ e.0 = record_apart q e.0 ((Equal-is (record_cmp q e.0)).0 t) in
        ap (λ f. under f (left_by e.1)) (find_below record_cmp q es (subst (λ (k : RecordKey). T (below_all record_cmp k es)) (sym is) (first _ _ sorted)))
    by false t = refl

pub get-over : (records layer : Records) (q : RecordKey) → finite.get (records_over records layer) q ≡ under (finite.get layer q) (finite.get records q)
get-over records layer q = get-after (finite.entries layer) records q (finite.entries_sorted layer) ∙ ap (λ f. under f (finite.get records q)) (sym (finite.get-entries layer q))

records_from-append : (records : Records) (older newer : List Records) → records_from records (older ++ newer) ≡ records_from (records_from records older) newer
records_from-append records [] newer = refl
records_from-append records (layer ∷ older) newer = records_from-append (records_over records layer) older newer

-- one layer more
pub records_more : (layers : List Records) (i : ℕ) (layer : Records) → slice_get layers i ≡ Some layer → records_of (take (i + 1) layers) ≡ records_over (records_of (take i layers)) layer
records_more layers i layer at =
    ap records_of (take_more layers i layer (slice_get_within layers i layer at) ∙ ap (λ x. take i layers ++ x ∷ []) (get_or_from_slice_get layers i layer layer at)) ∙ records_from-append finite.empty (take i layers) (layer ∷ [])

-- the record under one layer more
pub record_more : (key : RecordKey) (layers : List Records) (i : ℕ) (layer : Records) (said : Option (List ForwardItem)) → slice_get layers i ≡ Some layer → finite.get layer key ≡ said → record_of key (take (i + 1) layers) ≡ unwrap_or said (record_of key (take i layers))
record_more key layers i layer said at is =
    ap (λ records. unwrap_or (finite.get records key) []) (records_more layers i layer at)
    ∙ ap (λ f. unwrap_or f []) (get-over (records_of (take i layers)) layer key) ∙ by (finite.get layer key) (finite.get (records_of (take i layers)) key) ∙ ap (λ s. unwrap_or s (record_of key (take i layers))) is
  where
    whole : (items : List ForwardItem) → unwrap_or (left_by items) [] ≡ items
    whole [] = refl
    whole (item ∷ items) = refl

    by : (s older : Option (List ForwardItem)) → unwrap_or (under s older) [] ≡ unwrap_or s (unwrap_or older [])
    by None older = refl
    by (Some items) older = whole items

-- ---- no record is empty

none_empty : (answer : Option (List ForwardItem)) → answer ≡ Some [] → answer ≡ None → ⊥
none_empty answer is none = absurd cc

full_set : (records : Records) (k : RecordKey) (items : List ForwardItem) → AreFull records → AreFull (set_at records k (left_by items))
full_set records k items full q e = by (eq_by_cmp record_cmp q k) items (sym (get-set_at record_total records k (left_by items) q) ∙ e)
  where
    by : (b : Bool) (is : List ForwardItem) → cond b (left_by is) (finite.get records q) ≡ Some [] → ⊥
    by true [] h = absurd cc
    by true (i ∷ is) h = absurd cc
    by false is h = full q h

full_after : (es : List (RecordKey × List ForwardItem)) (records : Records) → AreFull records → AreFull (after records (map replacing es))
full_after [] records full = full
full_after (e ∷ es) records full = full_after es (set_at records e.0 (left_by e.1)) (full_set records e.0 e.1 full)

full_from : (layers : List Records) (records : Records) → AreFull records → AreFull (records_from records layers)
full_from [] records full = full
full_from (layer ∷ layers) records full = full_from layers (records_over records layer) (full_after (finite.entries layer) records full)

pub full_of : (layers : List Records) → AreFull (records_of layers)
full_of layers = full_from layers finite.empty (λ q e. none_empty (finite.get (finite.empty {R = record_cmp}) q) e (finite.get-empty record_cmp q))

-- records none of which is empty stand for themselves
over_nothing : (records : Records) → AreFull records → records_over finite.empty records ≡ records
over_nothing records full = finite.same_map record_total record_apart (records_over finite.empty records) records (λ q. get-over finite.empty records q ∙ ap (under (finite.get records q)) (finite.get-empty record_cmp q) ∙ by q (finite.get records q) refl)
  where
    by : (q : RecordKey) (f : Option (List ForwardItem)) → finite.get records q ≡ f → under f None ≡ f
    by q None e = refl
    by q (Some []) e = absurd (full q e)
    by q (Some (item ∷ items)) e = refl

-- the first layers as one
pub front_same : (layers : List Records) (n : ℕ) → records_of (records_of (take n layers) ∷ drop n layers) ≡ records_of layers
front_same layers n =
    ap (λ records. records_from records (drop n layers)) (over_nothing (records_of (take n layers)) (full_of (take n layers)))
    ∙ sym (records_from-append finite.empty (take n layers) (drop n layers)) ∙ ap records_of (take-append-drop n layers)
