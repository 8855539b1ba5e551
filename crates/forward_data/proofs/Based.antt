-- Records over a base, by look-ups, and how many they are.
use Rattle.std.proofs.Common.{◌≡◌, ℕ, zero, suc, ◌+◌, ◌||◌, ◌<◌, ◌≤◌, Bool, true, false, cond, List, [], ◌∷◌, ◌++◌, map, take, length, get_or, Option, None, Some, refl, sym, ◌∙◌, ap, is_some, arith, All}
use Rattle.std.specs.Cmp.{Equal-is}
use Rattle.std.specs.Prelude.{T}
use Rattle.std.specs.Option.{option_map, unwrap_or}
use Rattle.std.specs.FinMap as finite
use Rattle.std.specs.FinMap.Entries.{find, is_sorted}
use Rattle.std.specs.declared.cmp.Ordering.TheVariants.{Less}
use Rattle.std.specs.Ordering.{eq_by_cmp, is_eq}
use Rattle.std.proofs.lemmas.Cmp.{eq_by_cmp_equiv}
use Rattle.std.proofs.lemmas.List.{get_or-take, length-take-le, map-append}
use Rattle.std.proofs.lemmas.List.Elements.{All-head, All-tail}
use Rattle.layer_base.specs.Changes.{after, set_at}
use Rattle.layer_base.proofs.Among.{among-append}
use Rattle.layer_base.proofs.Sorted.{sorted_at}
use Rattle.layer_base.proofs.Changes.{after-append, get-set_at}
use Rattle.forward_data.specs.declared.record.ForwardItem.{ForwardItem}
use Rattle.forward_data.specs.declared.record.RecordKey.{RecordKey}
use Rattle.forward_data.specs.Combined.{AreAlone, IsPatch, are_kept, counted, is_among}
use Rattle.forward_data.specs.Records.{Records, record_cmp, left_by, replacing, records_over, records_of, record_of, AreFull, under}
use Rattle.forward_data.proofs.Newest.{get-over, full_of}
use Rattle.forward_data.proofs.Order.{record_total, record_apart}

-- rows without an empty record
pub kept_full : (rows : List (RecordKey × List ForwardItem)) → are_kept rows → (k : RecordKey) → find record_cmp k rows ≡ Some [] → ⊥
kept_full [] kept k e = absurd cc
kept_full (r ∷ rows) kept k e =
    elim (eq_by_cmp record_cmp k r.0) as (λ b. cond b (Some r.1) (find record_cmp k rows) ≡ Some [] → ⊥) [
      | true ↦ λ f. All-head (λ (x : RecordKey × List ForwardItem). x.1 ≡ [] → ⊥) r rows kept (ap (λ o. unwrap_or o r.1) f)
      | false ↦ λ f. kept_full rows (All-tail (λ (x : RecordKey × List ForwardItem). x.1 ≡ [] → ⊥) r rows kept) k f
    ] e

left_full : (f older : Option (List ForwardItem)) → (f ≡ Some [] → ⊥) → under (Some (unwrap_or f [])) older ≡ f
left_full None older full = refl
left_full (Some []) older full = absurd (full refl)
left_full (Some (item ∷ items)) older full = refl

same_full : (f g : Option (List ForwardItem)) → (f ≡ Some [] → ⊥) → (g ≡ Some [] → ⊥) → unwrap_or f [] ≡ unwrap_or g [] → f ≡ g
same_full None None p q e = refl
same_full None (Some []) p q e = absurd (q refl)
same_full None (Some (y ∷ ys)) p q e = cc
same_full (Some []) g p q e = absurd (p refl)
same_full (Some (x ∷ xs)) None p q e = cc
same_full (Some (x ∷ xs)) (Some []) p q e = cc
same_full (Some (x ∷ xs)) (Some (y ∷ ys)) p q e = ap Some e

-- a patch over a base that has all else
pub patch_stands : (changed : List (RecordKey × Unit {0})) (base : Records) (layers : List Records) (patch : Records) → AreFull base → AreAlone changed base layers → IsPatch changed layers patch → records_over base patch ≡ records_of layers
patch_stands changed base layers patch full alone is = finite.same_map record_total record_apart (records_over base patch) (records_of layers) at
  where
    at : (q : RecordKey) → finite.get (records_over base patch) q ≡ finite.get (records_of layers) q
    at q = get-over base patch q ∙ ap (λ f. under f (finite.get base q)) (is q) ∙ by (is_among q changed) refl
      where
        by : (b : Bool) → is_among q changed ≡ b → under (cond (is_among q changed) (Some (record_of q layers)) None) (finite.get base q) ≡ finite.get (records_of layers) q
        by true e = ap (λ c. under (cond c (Some (record_of q layers)) None) (finite.get base q)) e ∙ left_full (finite.get (records_of layers) q) (finite.get base q) (full_of layers q)
        by false e =
            ap (λ c. under (cond c (Some (record_of q layers)) None) (finite.get base q)) e
            ∙ same_full (finite.get base q) (finite.get (records_of layers) q) (full q) (full_of layers q) (sym (alone q e))

-- a key that neither the rows nor the base have
pub none_over : (k : RecordKey) (rows base : Records) → is_some (finite.get rows k) ≡ false → is_some (finite.get base k) ≡ false → is_some (finite.get (records_over base rows) k) ≡ false
none_over k rows base own older = ap is_some (get-over base rows k) ∙ by (finite.get rows k) (finite.get base k) own older
  where
    by : (f g : Option (List ForwardItem)) → is_some f ≡ false → is_some g ≡ false → is_some (under f g) ≡ false
    by None g p q = q
    by (Some items) g p q = cc

-- a key that the rows do not have
pub base_record : (k : RecordKey) (rows base : Records) → is_some (finite.get rows k) ≡ false → finite.get (records_over base rows) k ≡ finite.get base k
base_record k rows base own = get-over base rows k ∙ by (finite.get rows k) own
  where
    by : (f : Option (List ForwardItem)) → is_some f ≡ false → under f (finite.get base k) ≡ finite.get base k
    by None p = refl
    by (Some items) p = cc

-- ---- how many there are

-- changes at other keys
after_other : (es : List (RecordKey × List ForwardItem)) (records : Records) (q : RecordKey) → All (λ e. is_eq (record_cmp e.0 q) ≡ false) es → finite.get (after records (map replacing es)) q ≡ finite.get records q
after_other [] records q apart = refl
after_other (e ∷ es) records q apart =
    let unlike : eq_by_cmp record_cmp q e.0 ≡ false = (eq_by_cmp_equiv record_total).symm q e.0 ∙ All-head (λ (x : RecordKey × List ForwardItem). is_eq (record_cmp x.0 q) ≡ false) e es apart in
    after_other es (set_at records e.0 (left_by e.1)) q (All-tail (λ (x : RecordKey × List ForwardItem). is_eq (record_cmp x.0 q) ≡ false) e es apart)
    ∙ get-set_at record_total records e.0 (left_by e.1) q ∙ ap (λ b. cond b (left_by e.1) (finite.get records q)) unlike

pub count_more : (es : List (RecordKey × List ForwardItem)) (e : RecordKey × List ForwardItem) (base : Records) → All (λ x. is_eq (record_cmp x.0 e.0) ≡ false) es
    → finite.len (after base (map replacing (es ++ e ∷ []))) ≡ counted (is_some (finite.get base e.0)) e.1 (finite.len (after base (map replacing es)))
count_more es e base apart =
    ap (λ cs. finite.len (after base cs)) (map-append replacing es (e ∷ [])) ∙ ap finite.len (after-append base (map replacing es) (replacing e ∷ []))
    ∙ by e.1 ∙ ap (λ known. counted known e.1 (finite.len so_far)) (ap is_some (after_other es base e.0 apart))
  where
    so_far : Records
    so_far = after base (map replacing es)

    by : (items : List ForwardItem) → finite.len (set_at so_far e.0 (left_by items)) ≡ counted (is_some (finite.get so_far e.0)) items (finite.len so_far)
    by [] = finite.len-remove record_total so_far e.0
    by (item ∷ items) = finite.len-insert record_total so_far e.0 (item ∷ items)

-- the rows before a place are at other keys
pub earlier_apart : (rows : List (RecordKey × List ForwardItem)) (i : ℕ) (e : RecordKey × List ForwardItem) → T (is_sorted record_cmp rows) → i < length rows → e ≡ get_or rows i e → All (λ x. is_eq (record_cmp x.0 e.0) ≡ false) (take i rows)
earlier_apart rows i e sorted fits at k d less =
    let before : k < i = omega (arith, less, length-take-le i rows (omega (arith, fits))) in
    let rises : record_cmp (get_or rows k e).0 (get_or rows i e).0 ≡ Less = sorted_at record_cmp rows k i e sorted before fits in
    ap (λ (x : RecordKey × List ForwardItem). is_eq (record_cmp x.0 e.0)) (get_or-take i rows k d before ∙ get_or-same rows k d e (omega (arith, before, fits)))
    ∙ ap (λ (x : RecordKey × List ForwardItem). is_eq (record_cmp (get_or rows k e).0 x.0)) at ∙ ap is_eq rises
  where
    get_or-same : (xs : List (RecordKey × List ForwardItem)) (n : ℕ) (a b : RecordKey × List ForwardItem) → n < length xs → get_or xs n a ≡ get_or xs n b
    get_or-same [] n a b lt = absurd (omega (arith, lt))
    get_or-same (x ∷ xs) zero a b lt = refl
    get_or-same (x ∷ xs) (suc n) a b lt = get_or-same xs n a b (omega (arith, lt))

-- where one is known, there is one
pub some_known : (es : List (RecordKey × List ForwardItem)) (e : RecordKey × List ForwardItem) (base : Records) → All (λ x. is_eq (record_cmp x.0 e.0) ≡ false) es → is_some (finite.get base e.0) ≡ true → 0 < finite.len (after base (map replacing es))
some_known es e base apart known = by (finite.len so_far) refl
  where
    so_far : Records
    so_far = after base (map replacing es)

    by : (n : ℕ) → finite.len so_far ≡ n → 0 < n
    by zero none =
        let nothing : is_some (finite.get base e.0) ≡ false = ap is_some (sym (after_other es base e.0 apart) ∙ ap (λ m. finite.get m e.0) (finite.empty_of_len so_far none) ∙ finite.get-empty record_cmp e.0) in
        absurd cc
    by (suc n) some = omega arith

-- a patch with one key more
pub patch_more : (layers : List Records) (es : List (RecordKey × Unit {0})) (e : RecordKey × Unit {0}) (items : List ForwardItem) → items ≡ record_of e.0 layers → (q : RecordKey)
    → cond (eq_by_cmp record_cmp q e.0) (Some items) (cond (is_among q es) (Some (record_of q layers)) None) ≡ cond (is_among q (es ++ e ∷ [])) (Some (record_of q layers)) None
patch_more layers es e items is q = by (eq_by_cmp record_cmp q e.0) refl ∙ ap (λ b. cond b (Some (record_of q layers)) None) (sym (among-append record_cmp q es (e ∷ [])))
  where
    swap : (a : Bool) → a ≡ (a || false)
    swap true = refl
    swap false = refl

    yes_or : (a : Bool) → (a || true) ≡ true
    yes_or true = refl
    yes_or false = refl

    by : (b : Bool) → eq_by_cmp record_cmp q e.0 ≡ b → cond b (Some items) (cond (is_among q es) (Some (record_of q layers)) None) ≡ cond (is_among q es || is_some (cond b (Some e.1) None)) (Some (record_of q layers)) None
    by true t =
        let same : q ≡ e.0 = record_apart q e.0 ((Equal-is (record_cmp q e.0)).0 t) in
        ap Some (is ∙ ap (λ (k : RecordKey). record_of k layers) (sym same)) ∙ ap (λ b. cond b (Some (record_of q layers)) None) (sym (yes_or (is_among q es)))
    by false t = ap (λ b. cond b (Some (record_of q layers)) None) (swap (is_among q es))

pub counted_most : (known : Bool) (items : List ForwardItem) (count : ℕ) → counted known items count ≤ count + 1
counted_most true [] count = omega arith
counted_most false [] count = omega arith
counted_most true (item ∷ items) count = omega arith
counted_most false (item ∷ items) count = omega arith

pub is_some-map : {X Y : Type 0} (f : X → Y) (o : Option X) → is_some (option_map f o) ≡ is_some o
is_some-map f None = refl
is_some-map f (Some x) = refl
