-- The records that change with edges, one edge after another.
use Rattle.std.proofs.Common.{◌≡◌, ℕ, ◌||◌, Bool, true, false, cond, if◌then◌else◌, List, [], ◌∷◌, ◌++◌, Option, None, Some, refl, sym, ◌∙◌, ap}
use Rattle.std.specs.Cmp.{tied_itself}
use Rattle.std.specs.FinMap as finite
use Rattle.std.specs.List.{list_any}
use Rattle.std.specs.Ordering.{eq_by_cmp, is_eq}
use Rattle.uni_schema.specs.Schema.{Declarations}
use Rattle.uni_table.specs.Contents.{Contents}
use Rattle.uni_table.specs.declared.change.EdgeChange.{EdgeChange}
use Rattle.forward_data.specs.declared.record.ForwardItem.{ForwardItem}
use Rattle.forward_data.specs.declared.record.RecordKey.{RecordKey}
use Rattle.forward_data.specs.Records.{Records, record_cmp}
use Rattle.forward_data.proofs.Order.{record_total, record_apart}
use Rattle.shard_index.specs.ChangedRows.{is_record, changed_record, is_among, items_of, replacing_new, latest, AreShardRecords}
use Rattle.shard_index.proofs.LoggedMaps.{equal_of}

any_more : {X : Type 0} (p : X → Bool) (xs : List X) (x : X) → list_any p (xs ++ x ∷ []) ≡ (list_any p xs || p x)
any_more p [] x = or_false (p x)
  where
    or_false : (b : Bool) → (b || false) ≡ b
    or_false true = refl
    or_false false = refl
any_more p (y ∷ xs) x = elim (p y) as (λ b. (b || list_any p (xs ++ x ∷ [])) ≡ ((b || list_any p xs) || p x)) [ true ↦ refl | false ↦ any_more p xs x ]

or_false : (b : Bool) → (b || false) ≡ b
or_false true = refl
or_false false = refl

pub or_true : (b : Bool) → (b || true) ≡ true
or_true true = refl
or_true false = refl

or_first : (a b : Bool) → a ≡ true → (a || b) ≡ true
or_first true b t = refl
or_first false b t = cc

pub same_record : (x y : RecordKey) → eq_by_cmp record_cmp x y ≡ true → x ≡ y
same_record x y t = record_apart x y (equal_of (record_cmp x y) t)

pub record_itself : (x : RecordKey) → eq_by_cmp record_cmp x x ≡ true
record_itself x = ap is_eq (tied_itself record_total x)

module _ (table : Contents) (among : RecordKey → Bool) (records : Records) (last : Option RecordKey)
    (so_far : (key : RecordKey) → finite.get records key ≡ (if among key then Some (items_of table key) else None))
    (last_is : (key : RecordKey) → last ≡ Some key → among key ≡ true) where
  abbrev there : Bool → RecordKey → Option (List ForwardItem)
  there b q = if b then Some (items_of table q) else None

  known : (k : RecordKey) (l : Option RecordKey) → last ≡ l → is_record k l ≡ true → among k ≡ true
  known k None e t = cc
  known k (Some other) e t = ap among (same_record k other t) ∙ last_is other e

  noted : (key : Option RecordKey) (q : RecordKey) → finite.get (replacing_new table records last key) q ≡ there (among q || is_record q key) q
  noted None q = so_far q ∙ ap (λ b. there b q) (sym (or_false (among q)))
  noted (Some k) q = by (is_record k last) refl (eq_by_cmp record_cmp q k) refl
    where
      by : (b : Bool) → is_record k last ≡ b → (t : Bool) → eq_by_cmp record_cmp q k ≡ t
          → finite.get (if b then records else finite.insert records k (items_of table k)) q ≡ there (among q || eq_by_cmp record_cmp q k) q
      by true again true here =
          so_far q ∙ ap (λ b. there b q) (ap among (same_record q k here) ∙ known k last refl again) ∙ ap (λ b. there b q) (sym (ap (λ b. among q || b) here ∙ or_true (among q)))
      by true again false here = so_far q ∙ ap (λ b. there b q) (sym (ap (λ b. among q || b) here ∙ or_false (among q)))
      by false again true here =
          finite.get-insert record_total records k (items_of table k) q ∙ ap (λ b. cond b (Some (items_of table k)) (finite.get records q)) here
          ∙ ap (λ x. Some (items_of table x)) (sym (same_record q k here)) ∙ ap (λ b. there b q) (sym (ap (λ b. among q || b) here ∙ or_true (among q)))
      by false again false here =
          finite.get-insert record_total records k (items_of table k) q ∙ ap (λ b. cond b (Some (items_of table k)) (finite.get records q)) here
          ∙ so_far q ∙ ap (λ b. there b q) (sym (ap (λ b. among q || b) here ∙ or_false (among q)))

  later : (key : Option RecordKey) (k : RecordKey) → latest last key ≡ Some k → (among k || is_record k key) ≡ true
  later None k e = or_first (among k) false (last_is k e)
  later (Some other) k e = by (is_record other last) e
    where
      by : (b : Bool) → (if b then last else Some other) ≡ Some k → (among k || eq_by_cmp record_cmp k other) ≡ true
      by true f = or_first (among k) (eq_by_cmp record_cmp k other) (last_is k f)
      by false f = let is : other ≡ k = cc in ap (λ x. among k || eq_by_cmp record_cmp k x) is ∙ ap (λ b. among k || b) (record_itself k) ∙ or_true (among k)

-- one change more
module _ (schema : Declarations) (vertical shard : ℕ) (table : Contents) (changes : List EdgeChange) (change : EdgeChange) (records : Records) (last : Option RecordKey)
    (so_far : AreShardRecords schema vertical shard table changes records) (last_is : (key : RecordKey) → last ≡ Some key → is_among schema vertical shard changes key ≡ true) where
  among_more : (q : RecordKey) → is_among schema vertical shard (changes ++ change ∷ []) q ≡ (is_among schema vertical shard changes q || is_record q (changed_record schema vertical shard change))
  among_more q = any_more (λ c. is_record q (changed_record schema vertical shard c)) changes change

  pub records_noted : AreShardRecords schema vertical shard table (changes ++ change ∷ []) (replacing_new table records last (changed_record schema vertical shard change))
  records_noted q =
      noted table (is_among schema vertical shard changes) records last so_far last_is (changed_record schema vertical shard change) q
      ∙ ap (λ b. if b then Some (items_of table q) else None) (sym (among_more q))

  pub latest_noted : (key : RecordKey) → latest last (changed_record schema vertical shard change) ≡ Some key → is_among schema vertical shard (changes ++ change ∷ []) key ≡ true
  latest_noted key e = among_more key ∙ later table (is_among schema vertical shard changes) records last so_far last_is (changed_record schema vertical shard change) key e
