-- What was noted of some edges, and apart from it of others, is joined.
use Rattle.std.proofs.Common.{arith, ◌≡◌, ◌<◌, suc, length, get_or, slice_set, ◌||◌, Bool, true, false, if◌then◌else◌, List, [], ◌∷◌, ◌++◌, Option, None, Some, refl, sym, ◌∙◌, ap}
use Rattle.std.proofs.lemmas.List.Elements.{filter_map-append}
use Rattle.std.proofs.lemmas.List.Folds.{list_any-append}
use Rattle.std.specs.FinMap as finite
use Rattle.std.specs.List.{AllZip, filter_map}
use Rattle.uni_base.specs.declared.edge.Audience.{Audience}
use Rattle.uni_table.specs.TableState.{TableState}
use Rattle.uni_table.specs.declared.change.EdgeChange.{EdgeChange}
use Rattle.uni_table.specs.declared.change.EntityChange.{EntityChange}
use Rattle.layer_base.specs.Layers.{from_log, put_all}
use Rattle.layer_base.specs.Lookups.{either}
use Rattle.layer_base.proofs.Tables.{from_log-append, get-put_all}
use Rattle.layer_stack.specs.declared.place.Place.{Place}
use Rattle.layer_stack.specs.Places.{place_cmp}
use Rattle.layer_stack.specs.Postings.{joined}
use Rattle.layer_stack.proofs.Order.{place_apart, place_total}
use Rattle.forward_data.specs.declared.record.RecordKey.{RecordKey}
use Rattle.forward_data.proofs.Order.{record_total}
use Rattle.shard_index.specs.declared.batch.notes.ShardNotes.{ShardNotes}
use Rattle.shard_index.specs.Batches.{ShardPlace}
use Rattle.shard_index.specs.ChangedRows.{changed_record, if_posted, is_among, is_record, items_of, posting_before, posting_now, same_audience, shard_postings, AreBatchRecords}
use Rattle.shard_index.specs.Differences.{added, dropped}
use Rattle.shard_index.specs.Notes.{IsNoted, with_all, with_notes}

or_true : (b : Bool) → (b || true) ≡ true
or_true true = refl
or_true false = refl

or_false : (b : Bool) → (b || false) ≡ b
or_false true = refl
or_false false = refl

or_first : (a b : Bool) → a ≡ true → (a || b) ≡ true
or_first true b t = refl
or_first false b t = cc

-- the later of two answers, each of which is there by a test
said : {X : Type 0} (x : X) (one other : Bool) → either (if other then Some x else None) (if one then Some x else None) ≡ (if one || other then Some x else None)
said x one true = sym (ap (λ b. if b then Some x else None) (or_true one))
said x one false = sym (ap (λ b. if b then Some x else None) (or_false one))

module _ (table : TableState) (removed placed : List EntityChange) (one other : List EdgeChange) (place : ShardPlace) (old later : ShardNotes)
    (so_far : IsNoted table removed placed one place old) (apart : IsNoted table [] [] other place later) where
  abbrev was : EdgeChange → Option (Place × Audience)
  was c = if_posted table.schema place.vertical place.shard c.edge (posting_before c)

  abbrev now : EdgeChange → Option (Place × Audience)
  now c = if_posted table.schema place.vertical place.shard c.edge (posting_now c)

  postings : joined old.postings later.postings ≡ shard_postings table.schema place.vertical place.shard (one ++ other)
  postings =
      (λ i. joined (so_far.postings i) (apart.postings i))
      ∙ sym (λ i. record {
        deletes = (ap (from_log {R = place_cmp}) (filter_map-append (λ c. dropped place_cmp same_audience (was c) (now c)) one other) ∙ from_log-append place_total place_apart (filter_map (λ c. dropped place_cmp same_audience (was c) (now c)) one) (filter_map (λ c. dropped place_cmp same_audience (was c) (now c)) other)) i;
        puts = (ap (from_log {R = place_cmp}) (filter_map-append (λ c. added place_cmp same_audience (was c) (now c)) one other) ∙ from_log-append place_total place_apart (filter_map (λ c. added place_cmp same_audience (was c) (now c)) one) (filter_map (λ c. added place_cmp same_audience (was c) (now c)) other)) i;
      })

  among : (key : RecordKey) → is_among table.schema place.vertical place.shard (one ++ other) key ≡ (is_among table.schema place.vertical place.shard one key || is_among table.schema place.vertical place.shard other key)
  among key = list_any-append (λ c. is_record key (changed_record table.schema place.vertical place.shard c)) one other

  records : AreBatchRecords table place.vertical place.shard (one ++ other) (put_all (finite.entries later.records) old.records)
  records key =
      get-put_all record_total (finite.entries later.records) old.records key
      ∙ (λ i. either ((sym (finite.get-entries later.records key) ∙ apart.records key) i) (so_far.records key i))
      ∙ said (items_of table.contents key) (is_among table.schema place.vertical place.shard one key) (is_among table.schema place.vertical place.shard other key)
      ∙ ap (λ b. if b then Some (items_of table.contents key) else None) (sym (among key))

  last : (key : RecordKey) → either later.last old.last ≡ Some key → is_among table.schema place.vertical place.shard (one ++ other) key ≡ true
  last key = by later.last refl
    where
      by : (o : Option RecordKey) → later.last ≡ o → either o old.last ≡ Some key → is_among table.schema place.vertical place.shard (one ++ other) key ≡ true
      by None none is = among key ∙ or_first (is_among table.schema place.vertical place.shard one key) (is_among table.schema place.vertical place.shard other key) (so_far.last key is)
      by (Some k) some is = among key ∙ ap (λ b. is_among table.schema place.vertical place.shard one key || b) (apart.last key (some ∙ is)) ∙ or_true (is_among table.schema place.vertical place.shard one key)

  pub one_joined : IsNoted table removed placed (one ++ other) place (with_notes old later)
  one_joined = record { removals = so_far.removals; puts = so_far.puts; postings = postings; records = records; last = last }

-- the same of all shards
pub all_joined : (table : TableState) (removed placed : List EntityChange) (one other : List EdgeChange) (places : List ShardPlace) (old later : List ShardNotes)
    → AllZip (IsNoted table removed placed one) places old → AllZip (IsNoted table [] [] other) places later → AllZip (IsNoted table removed placed (one ++ other)) places (with_all old later)
all_joined table removed placed one other [] [] later so_far apart = tt
all_joined table removed placed one other [] (n ∷ old) later so_far apart = absurd so_far
all_joined table removed placed one other (p ∷ places) [] later so_far apart = absurd so_far
all_joined table removed placed one other (p ∷ places) (n ∷ old) [] so_far apart = absurd apart
all_joined table removed placed one other (p ∷ places) (n ∷ old) (m ∷ later) so_far apart =
    (one_joined table removed placed one other p n m so_far.0 apart.0, all_joined table removed placed one other places old later so_far.1 apart.1)

-- ---- the notes of shards, one after another

pub with_none : (old : List ShardNotes) → with_all old [] ≡ old
with_none [] = refl
with_none (n ∷ old) = refl

pub length-with_all : (old later : List ShardNotes) → length (with_all old later) ≡ length old
length-with_all [] later = refl
length-with_all (n ∷ old) [] = refl
length-with_all (n ∷ old) (m ∷ later) = ap suc (length-with_all old later)

pub with_more : (old later : List ShardNotes) (m d : ShardNotes) → length later < length old
    → slice_set (with_all old later) (length later) (with_notes (get_or (with_all old later) (length later) d) m) ≡ with_all old (later ++ m ∷ [])
with_more [] later m d low = absurd (omega (arith, low))
with_more (n ∷ old) [] m d low = ap (λ ns. with_notes n m ∷ ns) (sym (with_none old))
with_more (n ∷ old) (k ∷ later) m d low = ap (λ ns. with_notes n k ∷ ns) (with_more old later m d (omega (arith, low)))
