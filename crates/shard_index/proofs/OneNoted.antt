-- One change more is noted of the shard that it concerns, and of no other.
use Rattle.std.proofs.Common.{◌≡◌, ℕ, zero, suc, Bool, true, false, if◌then◌else◌, List, [], ◌∷◌, ◌++◌, get_or, slice_set, slice_get, Option, None, Some, refl, sym, ◌∙◌, ap, subst, arith}
use Rattle.std.specs.List.{AllZip}
use Rattle.std.specs.Option.{option_and_then}
use Rattle.uni_base.specs.declared.entity.Rank.{Rank}
use Rattle.uni_schema.specs.declared.schema.Store.{Store}
use Rattle.uni_schema.specs.declared.schema.Store.TheVariants.{Index, Forward}
use Rattle.uni_schema.specs.declared.schema.TypeDef.{TypeDef}
use Rattle.uni_schema.specs.declared.schema.VerticalDef.{VerticalDef}
use Rattle.uni_schema.specs.Schema.{type_at, vertical_at, is_index}
use Rattle.uni_table.specs.TableState.{TableState}
use Rattle.uni_table.specs.declared.change.EdgeChange.{EdgeChange}
use Rattle.uni_table.specs.declared.change.EntityChange.{EntityChange}
use Rattle.uni_table.specs.declared.command.EntityRow.{EntityRow}
use Rattle.forward_data.specs.declared.record.RecordKey.{RecordKey}
use Rattle.forward_data.specs.Records.{Records}
use Rattle.shard_index.specs.declared.batch.notes.ShardNotes.{ShardNotes}
use Rattle.shard_index.specs.Batches.{ShardPlace, all_shards}
use Rattle.shard_index.specs.ChangedRows.{same_rank, same_audience, same_audiences, audience_of, rank_within, ranked_row, is_posted, if_posted, posting_before, posting_now, shard_postings, turning, record_within, changed_record, changed_key, is_among, replacing_new, latest, AreShardRecords}
use Rattle.shard_index.specs.Differences.{with_row}
use Rattle.shard_index.specs.Notes.{with_removal, with_put, with_edge, row_left, row_taken, IsNoted, NotesRemovals, NotesPuts, NotesEdges}
use Rattle.shard_index.specs.Numbers.{shard_for, shard_keeping}
use Rattle.shard_index.proofs.Differing.{deleted_more, put_more, noted_more}
use Rattle.shard_index.proofs.KeptShards.{of_shard, from_place, to_place, posted_here, in_no_record, not_posted, within_here, posted_elsewhere, within_elsewhere, removed_is, placed_is}
use Rattle.shard_index.proofs.RecordsNoted.{records_noted, latest_noted}
use Rattle.shard_index.proofs.ShardNumbers.{of_vertical, one_number}

-- ---- what is looked up

pub nothing : {X : Type 0} (o : Option X) → ((x : X) → o ≡ Some x → ⊥) → o ≡ None
nothing None none = refl
nothing (Some x) none = absurd (none x refl)

pub nowhere : {X Y : Type 0} (f : X → Option Y) (o : Option X) (p : Option Y) → option_and_then f o ≡ p → ((x : X) → o ≡ Some x → ⊥) → p ≡ None
nowhere f o p is none = sym is ∙ ap (option_and_then f) (nothing o none)

-- ---- one item of many

module _ {P N : Type 0} where
  -- what holds of all, where it comes of what held at each place
  pub zip_kept : (R S : P → N → Type 0) (ps : List P) (ns : List N) → ((j : ℕ) (p : P) (n : N) → slice_get ps j ≡ Some p → R p n → S p n) → AllZip R ps ns → AllZip S ps ns
  zip_kept R S [] [] each all = tt
  zip_kept R S [] (n ∷ ns) each all = absurd all
  zip_kept R S (p ∷ ps) [] each all = absurd all
  zip_kept R S (p ∷ ps) (n ∷ ns) each all = (each 0 p n refl all.0, zip_kept R S ps ns (λ j q m at r. each (suc j) q m at r) all.1)

  -- the same with another item at one place
  pub zip_set : (R S : P → N → Type 0) (ps : List P) (ns : List N) (k : ℕ) (old new : N) → old ≡ get_or ns k old → ((p : P) → slice_get ps k ≡ Some p → R p old → S p new)
      → ((j : ℕ) (p : P) (n : N) → (j ≡ k → ⊥) → slice_get ps j ≡ Some p → R p n → S p n) → AllZip R ps ns → AllZip S ps (slice_set ns k new)
  zip_set R S [] [] k old new is here there all = tt
  zip_set R S [] (n ∷ ns) k old new is here there all = absurd all
  zip_set R S (p ∷ ps) [] k old new is here there all = absurd all
  zip_set R S (p ∷ ps) (n ∷ ns) zero old new is here there all =
      (here p refl (subst (λ (m : N). R p m) (sym is) all.0), zip_kept R S ps ns (λ j q m at r. there (suc j) q m (λ e. absurd (omega (arith, e))) at r) all.1)
  zip_set R S (p ∷ ps) (n ∷ ns) (suc k) old new is here there all =
      (there 0 p n (λ e. absurd (omega (arith, e))) refl all.0, zip_set R S ps ns k old new is here (λ j q m apart at r. there (suc j) q m (λ e. apart (omega (arith, e))) at r) all.1)

module _ (table : TableState) (removed placed : List EntityChange) (edges : List EdgeChange) (place : ShardPlace) (notes : ShardNotes) (so_far : IsNoted table removed placed edges place notes) where
  -- ---- an edge

  module _ (c : EdgeChange) where
    -- what is posted of the edge
    unposted : is_posted table.schema place.vertical place.shard c.edge ≡ false → notes.postings ≡ shard_postings table.schema place.vertical place.shard (edges ++ c ∷ [])
    unposted none =
        so_far.postings ∙ (λ i. turning (shard_postings table.schema place.vertical place.shard edges) (if sym none i then posting_before c else None) (if sym none i then posting_now c else None))
        ∙ noted_more same_audience (λ (x : EdgeChange). if_posted table.schema place.vertical place.shard x.edge (posting_before x)) (λ (x : EdgeChange). if_posted table.schema place.vertical place.shard x.edge (posting_now x)) edges c

    posted : is_posted table.schema place.vertical place.shard c.edge ≡ true → turning notes.postings (posting_before c) (posting_now c) ≡ shard_postings table.schema place.vertical place.shard (edges ++ c ∷ [])
    posted here =
        (λ i. turning (so_far.postings i) (if sym here i then posting_before c else None) (if sym here i then posting_now c else None))
        ∙ noted_more same_audience (λ (x : EdgeChange). if_posted table.schema place.vertical place.shard x.edge (posting_before x)) (λ (x : EdgeChange). if_posted table.schema place.vertical place.shard x.edge (posting_now x)) edges c

    -- what is replaced of the records
    module _ (key : Option RecordKey) (is : changed_record table.schema place.vertical place.shard c ≡ key) where
      replaced : AreShardRecords table.schema place.vertical place.shard table.contents (edges ++ c ∷ []) (replacing_new table.contents notes.records notes.last key)
      replaced = subst (λ (k : Option RecordKey). AreShardRecords table.schema place.vertical place.shard table.contents (edges ++ c ∷ []) (replacing_new table.contents notes.records notes.last k)) is
          (records_noted table.schema place.vertical place.shard table.contents edges c notes.records notes.last so_far.records so_far.last)

      last_replaced : (k : RecordKey) → latest notes.last key ≡ Some k → is_among table.schema place.vertical place.shard (edges ++ c ∷ []) k ≡ true
      last_replaced k e = latest_noted table.schema place.vertical place.shard table.contents edges c notes.records notes.last so_far.records so_far.last k (ap (latest notes.last) is ∙ e)

    unrecorded : record_within table.schema place.vertical place.shard c.edge ≡ None → changed_record table.schema place.vertical place.shard c ≡ None
    unrecorded none = by (same_audiences (audience_of c.before) (audience_of c.after))
      where
        by : (b : Bool) → (if b then None else record_within table.schema place.vertical place.shard c.edge) ≡ None
        by true = refl
        by false = none

    module _ (d : TypeDef) (type_is : type_at table.schema c.edge.type_no ≡ Some d) where
      -- an edge of another shard
      edge_elsewhere : (declared : VerticalDef) → vertical_at table.schema place.vertical ≡ Some declared → (shard_keeping table.schema d c.edge ≡ Some place → ⊥) → IsNoted table removed placed (edges ++ c ∷ []) place notes
      edge_elsewhere declared at other =
          let none = unrecorded (within_elsewhere table.schema place.vertical place.shard c.edge d type_is declared at other) in
          record {
            removals = so_far.removals;
            puts = so_far.puts;
            postings = unposted (posted_elsewhere table.schema place.vertical place.shard c.edge d type_is declared at other);
            records = replaced None none;
            last = last_replaced None none;
          }

      -- an edge of the shard
      edge_here : shard_keeping table.schema d c.edge ≡ Some place → IsNoted table removed placed (edges ++ c ∷ []) place (with_edge table.contents d.store c notes)
      edge_here is = by d.store refl
        where
          by : (store : Store) → d.store ≡ store → IsNoted table removed placed (edges ++ c ∷ []) place (with_edge table.contents store c notes)
          by Index e =
              let index : is_index d.store ≡ true = ap is_index e in
              let none = unrecorded (in_no_record table.schema place.vertical place.shard c.edge d type_is index) in
              record {
                removals = so_far.removals;
                puts = so_far.puts;
                postings = posted (posted_here table.schema place.vertical place.shard c.edge d type_is index is);
                records = replaced None none;
                last = last_replaced None none;
              }
          by Forward e =
              let forward : is_index d.store ≡ false = ap is_index e in
              let key : changed_record table.schema place.vertical place.shard c ≡ changed_key c =
              ap (λ k. if same_audiences (audience_of c.before) (audience_of c.after) then None else k) (within_here table.schema place.vertical place.shard c.edge d type_is forward is) in
              record {
                removals = so_far.removals;
                puts = so_far.puts;
                postings = unposted (not_posted table.schema place.vertical place.shard c.edge d type_is forward);
                records = replaced (changed_key c) key;
                last = last_replaced (changed_key c) key;
              }

  -- ---- an entity

  module _ (c : EntityChange) where
    abbrev gone : Option EntityRow → Option (ℕ × Unit {0})
    gone = option_and_then (λ (row : EntityRow). if of_shard table.schema place.vertical place.shard row.vertical c.id then Some (c.id, tt) else None)

    abbrev come : Option EntityRow → Option (ℕ × Rank)
    come = option_and_then (λ (row : EntityRow). if of_shard table.schema place.vertical place.shard row.vertical c.id then Some (c.id, row.rank) else None)

    removal : (row : Option (ℕ × Unit {0})) → gone (row_left c.before c.after) ≡ row → (changed : ShardNotes) → changed.entities.deletes ≡ with_row notes.entities.deletes row → changed.entities.puts ≡ notes.entities.puts
        → changed.postings ≡ notes.postings → changed.records ≡ notes.records → changed.last ≡ notes.last → IsNoted table (removed ++ c ∷ []) placed edges place changed
    removal row is changed deletes puts postings records last = record {
      removals = deletes ∙ (λ i. with_row (so_far.removals i) ((sym is ∙ sym (removed_is table.schema place.vertical place.shard c.id c.before c.after)) i))
          ∙ deleted_more same_rank (λ (x : EntityChange). ranked_row x.id (rank_within table.schema place.vertical place.shard x.id x.before)) (λ (x : EntityChange). ranked_row x.id (rank_within table.schema place.vertical place.shard x.id x.after)) removed c;
      puts = puts ∙ so_far.puts;
      postings = postings ∙ so_far.postings;
      records = subst (λ (r : Records). AreShardRecords table.schema place.vertical place.shard table.contents edges r) (sym records) so_far.records;
      last = λ key e. so_far.last key (sym last ∙ e);
    }

    put : (row : Option (ℕ × Rank)) → come (row_taken c.before c.after) ≡ row → (changed : ShardNotes) → changed.entities.deletes ≡ notes.entities.deletes → changed.entities.puts ≡ with_row notes.entities.puts row
        → changed.postings ≡ notes.postings → changed.records ≡ notes.records → changed.last ≡ notes.last → IsNoted table removed (placed ++ c ∷ []) edges place changed
    put row is changed deletes puts postings records last = record {
      removals = deletes ∙ so_far.removals;
      puts = puts ∙ (λ i. with_row (so_far.puts i) ((sym is ∙ sym (placed_is table.schema place.vertical place.shard c.id c.before c.after)) i))
          ∙ put_more same_rank (λ (x : EntityChange). ranked_row x.id (rank_within table.schema place.vertical place.shard x.id x.before)) (λ (x : EntityChange). ranked_row x.id (rank_within table.schema place.vertical place.shard x.id x.after)) placed c;
      postings = postings ∙ so_far.postings;
      records = subst (λ (r : Records). AreShardRecords table.schema place.vertical place.shard table.contents edges r) (sym records) so_far.records;
      last = λ key e. so_far.last key (sym last ∙ e);
    }

    -- an entity that leaves no shard, or another one
    no_removal : row_left c.before c.after ≡ None → IsNoted table (removed ++ c ∷ []) placed edges place notes
    no_removal none = removal None (ap gone none) notes refl refl refl refl refl

    elsewhere : (number : ℕ) (declared : VerticalDef) → vertical_at table.schema place.vertical ≡ Some declared → (shard_for table.schema number c.id ≡ Some place → ⊥) → of_shard table.schema place.vertical place.shard number c.id ≡ false
    elsewhere number declared at other = by (of_shard table.schema place.vertical place.shard number c.id) refl
      where
        by : (b : Bool) → of_shard table.schema place.vertical place.shard number c.id ≡ b → of_shard table.schema place.vertical place.shard number c.id ≡ false
        by true e = absurd (other (to_place table.schema place.vertical place.shard declared at number c.id e))
        by false e = e

    module _ (row : EntityRow) (left : row_left c.before c.after ≡ Some row) where
      removal_elsewhere : of_shard table.schema place.vertical place.shard row.vertical c.id ≡ false → IsNoted table (removed ++ c ∷ []) placed edges place notes
      removal_elsewhere other = removal None (ap gone left ∙ ap (λ b. if b then Some (c.id, tt) else None) other) notes refl refl refl refl refl

      removal_here : shard_for table.schema row.vertical c.id ≡ Some place → IsNoted table (removed ++ c ∷ []) placed edges place (with_removal notes c.id)
      removal_here own =
          removal (Some (c.id, tt)) (ap gone left ∙ ap (λ b. if b then Some (c.id, tt) else None) (from_place table.schema place.vertical place.shard row.vertical c.id own)) (with_removal notes c.id) refl refl refl refl refl

    -- one that comes to no shard, or to another one
    no_put : row_taken c.before c.after ≡ None → IsNoted table removed (placed ++ c ∷ []) edges place notes
    no_put none = put None (ap come none) notes refl refl refl refl refl

    module _ (row : EntityRow) (taken : row_taken c.before c.after ≡ Some row) where
      put_elsewhere : of_shard table.schema place.vertical place.shard row.vertical c.id ≡ false → IsNoted table removed (placed ++ c ∷ []) edges place notes
      put_elsewhere other = put None (ap come taken ∙ ap (λ b. if b then Some (c.id, row.rank) else None) other) notes refl refl refl refl refl

      put_here : shard_for table.schema row.vertical c.id ≡ Some place → IsNoted table removed (placed ++ c ∷ []) edges place (with_put notes c.id row.rank)
      put_here own =
          put (Some (c.id, row.rank)) (ap come taken ∙ ap (λ b. if b then Some (c.id, row.rank) else None) (from_place table.schema place.vertical place.shard row.vertical c.id own)) (with_put notes c.id row.rank) refl refl refl refl refl

-- ---- of all shards

module _ (table : TableState) (notes : List ShardNotes) where
  -- no other shard is that of a number
  apart : (k j : ℕ) (p : ShardPlace) (o : Option ShardPlace) → slice_get (all_shards table.schema) k ≡ o → (j ≡ k → ⊥) → slice_get (all_shards table.schema) j ≡ Some p → o ≡ Some p → ⊥
  apart k j p o at differ there is = differ (one_number table.schema j k p there (at ∙ is))

  module _ (c : EdgeChange) (d : TypeDef) (type_is : type_at table.schema c.edge.type_no ≡ Some d) where
    pub edge_noted : (k : ℕ) (old new : ShardNotes) → slice_get (all_shards table.schema) k ≡ shard_keeping table.schema d c.edge → old ≡ get_or notes k old → new ≡ with_edge table.contents d.store c old
        → NotesEdges table (c ∷ []) notes (slice_set notes k new)
    edge_noted k old new at is noted removed placed edges =
        zip_set (IsNoted table removed placed edges) (IsNoted table removed placed (edges ++ c ∷ [])) (all_shards table.schema) notes k old new is
        (λ p here so_far. subst (λ (n : ShardNotes). IsNoted table removed placed (edges ++ c ∷ []) p n) (sym noted) (edge_here table removed placed edges p old so_far c d type_is (sym at ∙ here)))
        (λ j p n differ there so_far. let own = of_vertical table.schema j p there in edge_elsewhere table removed placed edges p n so_far c d type_is own.0 own.1 (apart k j p (shard_keeping table.schema d c.edge) at differ there))

    pub edge_ignored : shard_keeping table.schema d c.edge ≡ None → NotesEdges table (c ∷ []) notes notes
    edge_ignored none removed placed edges =
        zip_kept (IsNoted table removed placed edges) (IsNoted table removed placed (edges ++ c ∷ [])) (all_shards table.schema) notes
        (λ j p n there so_far. let own = of_vertical table.schema j p there in edge_elsewhere table removed placed edges p n so_far c d type_is own.0 own.1 (λ e. let clash : None ≡ Some p = sym none ∙ e in cc))

  module _ (c : EntityChange) where
    pub none_removed : row_left c.before c.after ≡ None → NotesRemovals table (c ∷ []) notes notes
    none_removed none removed placed edges =
        zip_kept (IsNoted table removed placed edges) (IsNoted table (removed ++ c ∷ []) placed edges) (all_shards table.schema) notes (λ j p n there so_far. no_removal table removed placed edges p n so_far c none)

    pub none_put : row_taken c.before c.after ≡ None → NotesPuts table (c ∷ []) notes notes
    none_put none removed placed edges =
        zip_kept (IsNoted table removed placed edges) (IsNoted table removed (placed ++ c ∷ []) edges) (all_shards table.schema) notes (λ j p n there so_far. no_put table removed placed edges p n so_far c none)

    module _ (row : EntityRow) (left : row_left c.before c.after ≡ Some row) where
      pub removal_noted : (k : ℕ) (old new : ShardNotes) → slice_get (all_shards table.schema) k ≡ shard_for table.schema row.vertical c.id → old ≡ get_or notes k old → new ≡ with_removal old c.id → NotesRemovals table (c ∷ []) notes (slice_set notes k new)
      removal_noted k old new at is noted removed placed edges =
          zip_set (IsNoted table removed placed edges) (IsNoted table (removed ++ c ∷ []) placed edges) (all_shards table.schema) notes k old new is
          (λ p here so_far. subst (λ (n : ShardNotes). IsNoted table (removed ++ c ∷ []) placed edges p n) (sym noted) (removal_here table removed placed edges p old so_far c row left (sym at ∙ here)))
          (λ j p n differ there so_far.
          let own = of_vertical table.schema j p there in
          removal_elsewhere table removed placed edges p n so_far c row left (elsewhere table removed placed edges p n so_far c row.vertical own.0 own.1 (apart k j p (shard_for table.schema row.vertical c.id) at differ there)))

      pub removal_ignored : shard_for table.schema row.vertical c.id ≡ None → NotesRemovals table (c ∷ []) notes notes
      removal_ignored none removed placed edges =
          zip_kept (IsNoted table removed placed edges) (IsNoted table (removed ++ c ∷ []) placed edges) (all_shards table.schema) notes
          (λ j p n there so_far.
          let own = of_vertical table.schema j p there in
          removal_elsewhere table removed placed edges p n so_far c row left (elsewhere table removed placed edges p n so_far c row.vertical own.0 own.1 (λ e. let clash : None ≡ Some p = sym none ∙ e in cc)))

    module _ (row : EntityRow) (taken : row_taken c.before c.after ≡ Some row) where
      pub put_noted : (k : ℕ) (old new : ShardNotes) → slice_get (all_shards table.schema) k ≡ shard_for table.schema row.vertical c.id → old ≡ get_or notes k old → new ≡ with_put old c.id row.rank → NotesPuts table (c ∷ []) notes (slice_set notes k new)
      put_noted k old new at is noted removed placed edges =
          zip_set (IsNoted table removed placed edges) (IsNoted table removed (placed ++ c ∷ []) edges) (all_shards table.schema) notes k old new is
          (λ p here so_far. subst (λ (n : ShardNotes). IsNoted table removed (placed ++ c ∷ []) edges p n) (sym noted) (put_here table removed placed edges p old so_far c row taken (sym at ∙ here)))
          (λ j p n differ there so_far.
          let own = of_vertical table.schema j p there in
          put_elsewhere table removed placed edges p n so_far c row taken (elsewhere table removed placed edges p n so_far c row.vertical own.0 own.1 (apart k j p (shard_for table.schema row.vertical c.id) at differ there)))

      pub put_ignored : shard_for table.schema row.vertical c.id ≡ None → NotesPuts table (c ∷ []) notes notes
      put_ignored none removed placed edges =
          zip_kept (IsNoted table removed placed edges) (IsNoted table removed (placed ++ c ∷ []) edges) (all_shards table.schema) notes
          (λ j p n there so_far.
          let own = of_vertical table.schema j p there in
          put_elsewhere table removed placed edges p n so_far c row taken (elsewhere table removed placed edges p n so_far c row.vertical own.0 own.1 (λ e. let clash : None ≡ Some p = sym none ∙ e in cc)))
