-- Postings in rank order, parted by the shards of a vertical.
use Rattle.std.proofs.Common.{◌≡◌, ◌==◌, ◌&&◌, ◌+◌, ℕ, zero, suc, Bool, true, false, cond, not, All, List, [], ◌∷◌, map, filter, slice_get, Option, None, Some, refl, sym, ◌∙◌, ap, subst, arith}
use Rattle.std.proofs.lemmas.List.Elements.{All-from_recursion, All-weaker}
use Rattle.std.specs.declared.cmp.Ordering.TheVariants.{Less}
use Rattle.std.specs.declared.vec.Vec.{Vec}
use Rattle.std.specs.Global.{Global}
use Rattle.std.specs.List.{AllByRecursion, filter_map, range_with_len}
use Rattle.std.specs.List.Sorted.{IsStrictlySortedBy}
use Rattle.std.specs.Option.{option_map, option_map_or}
use Rattle.uni_base.specs.declared.edge.Audience.{Audience}
use Rattle.uni_base.specs.declared.edge.Key.TheVariants.{Id}
use Rattle.uni_base.specs.declared.entity.DocKey.{DocKey}
use Rattle.uni_base.specs.declared.limits.Limits.{Limits}
use Rattle.uni_base.specs.Cursors.{IsRanked, is_before, is_less}
use Rattle.uni_base.specs.RankOrder.{doc_cmp}
use Rattle.uni_base.proofs.RankedLemmas.{IsRanked-filter}
use Rattle.uni_schema.specs.declared.schema.Origin.TheVariants.{Vertical}
use Rattle.uni_schema.specs.declared.schema.Store.TheVariants.{Forward}
use Rattle.uni_schema.specs.declared.schema.TypeDef.{TypeDef}
use Rattle.uni_schema.specs.Schema.{Declarations, is_index, shard_of}
use Rattle.uni_table.specs.Contents.{Contents, audience_at}
use Rattle.uni_table.specs.Lists.{starts_in}
use Rattle.uni_table.specs.Ranked.{ranked, ranked_all}
use Rattle.uni_table.specs.Shards.{is_forward_type}
use Rattle.uni_table.specs.TableState.{IsKept}
use Rattle.uni_table.proofs.Exact.{ranked_is_exact}
use Rattle.uni_table.proofs.Sharded.{shards_part}
use Rattle.query_check.specs.Verticals.{IsType}
use Rattle.uni_meaning.specs.Hits.{shards_of, target_of}
use Rattle.uni_meaning.proofs.Typed.{target_is}
use Rattle.posting_lists.specs.declared.posting.Posting.{Posting}
use Rattle.posting_lists.specs.Postings.{keys_of}
use Rattle.shard_index.specs.Laws.{edge_to, posting_to}
use Rattle.apply_extract.specs.Split.{lists_of}
use Rattle.shard_index.proofs.Squeezed.{number_itself}
use Rattle.shard_eval.specs.Meant.{edges_into}
use Rattle.apply_extract.specs.Edges.{AreInOrder, edges_by_shard, posting_in, postings_by_shard, record_items}
use Rattle.apply_extract.proofs.InRankOrder.{given_filtered, in_order_given}
use Rattle.apply_extract.proofs.ReadRecords.{posting_recorded, recorded_posting}

-- ---- the lists are in rank order

keys_filtered : (q : DocKey → Bool) (ps : List Posting) → keys_of (filter (λ p. q p.key) ps) ≡ filter q (keys_of ps)
keys_filtered q [] = refl
keys_filtered q (p ∷ ps) = by (q p.key) (keys_filtered q ps)
  where
    by : (b : Bool) → keys_of (filter (λ x. q x.key) ps) ≡ filter q (keys_of ps)
        → keys_of (cond b (p ∷ filter (λ x. q x.key) ps) (filter (λ x. q x.key) ps)) ≡ cond b (p.key ∷ filter q (keys_of ps)) (filter q (keys_of ps))
    by true later = ap (λ (ks : List DocKey). p.key ∷ ks) later
    by false later = later

ranked_parts : (schema : Declarations) (vertical : ℕ) (ps : List Posting) → IsRanked (keys_of ps) → (shards : List ℕ)
    → AllByRecursion (λ list. IsRanked (keys_of list)) (map (λ s. filter (λ (p : Posting). shard_of schema vertical p.key.id == s) ps) shards)
ranked_parts schema vertical ps ranked [] = tt
ranked_parts schema vertical ps ranked (s ∷ shards) =
    let of_shard : DocKey → Bool = λ k. shard_of schema vertical k.id == s in
    (subst IsRanked (sym (keys_filtered of_shard ps)) (IsRanked-filter of_shard (keys_of ps) ranked), ranked_parts schema vertical ps ranked shards)

in_vectors : (P : List Posting → Type 0) (vectors : List (Vec Posting Global)) → AllByRecursion P (lists_of vectors) → AllByRecursion (λ v. P v.items) vectors
in_vectors P [] all = tt
in_vectors P (v ∷ vectors) all = (all.0, in_vectors P vectors all.1)

pub lists_ranked : (schema : Declarations) (vertical : ℕ) (ps : List Posting) (vectors : List (Vec Posting Global)) → IsRanked (keys_of ps) → lists_of vectors ≡ postings_by_shard schema vertical ps → All (λ v. IsRanked (keys_of v.items)) vectors
lists_ranked schema vertical ps vectors ranked parted =
    All-from_recursion (λ (v : Vec Posting Global). IsRanked (keys_of v.items)) vectors
    (in_vectors (λ list. IsRanked (keys_of list)) vectors
    (subst (AllByRecursion (λ list. IsRanked (keys_of list))) (sym parted) (ranked_parts schema vertical ps ranked (range_with_len 0 (shards_of schema vertical)))))

-- ---- of a table they are the edges into each shard

ranked_from : (ks : List DocKey) → IsStrictlySortedBy doc_cmp ks → IsRanked ks
unfolding IsStrictlySortedBy
ranked_from [] sorted = tt
ranked_from (k ∷ ks) sorted =
    (All-weaker (λ x. doc_cmp k x ≡ Less) (λ x. is_before k x ≡ true) (λ x e. ap is_less e) ks (All-from_recursion (λ x. doc_cmp k x ≡ Less) ks sorted.0), ranked_from ks sorted.1)

posted_key : (table : Contents) (number id : ℕ) (k : DocKey) (p : Posting) → posting_to table number (Id id) k ≡ Some p → p.key ≡ k
posted_key table number id k p is = by (audience_at table (edge_to number (Id id) k.id)) is
  where
    by : (o : Option Audience) → option_map (λ audience. record { key = k; audience = audience }) o ≡ Some p → p.key ≡ k
    by None e = absurd cc
    by (Some audience) e = let same : record { key = k; audience = audience } ≡ p = cc in ap (λ (x : Posting). x.key) (sym same)

module _ (schema : Declarations) (number source target : ℕ) (is : IsType schema number Forward (Vertical source) target) where
  -- its edges are kept with their sources
  pub is_forward : is_forward_type schema source number ≡ true
  is_forward = ap (λ o. option_map_or (λ (d : TypeDef). not (is_index d.store) && starts_in source d.origin) o false) is.declared ∙ (λ i. not (is_index (is.stored i)) && starts_in source (is.starts i)) ∙ number_itself source

  -- the postings of a record in rank order, by the shards that they lead into
  pub parted_edges : (limits : Limits) (table : Contents) (id : ℕ) (y : DocKey) (ps : List Posting) → IsKept schema limits table → y.id ≡ id
      → AreInOrder (filter_map (posting_in schema table target) (record_items table number id)) ps → postings_by_shard schema target ps ≡ edges_by_shard schema table number y
  parted_edges limits table id y ps kept same left =
      let are : ps ≡ filter_map (posting_to table number (Id id)) (ranked_all table target) =
      in_order_given (posting_to table number (Id id)) (posted_key table number id) (ranked_all table target) (filter_map (posting_in schema table target) (record_items table number id)) ps
      (ranked_from (ranked_all table target) (ranked_is_exact.ascends schema limits table target kept)) left
      (recorded_posting schema limits table number id kept target) (posting_recorded schema limits table number id kept target) in
      let leads : target_of schema number ≡ target = target_is schema number Forward (Vertical source) target is in
      let one : (s : ℕ) → filter (λ p. shard_of schema target p.key.id == s) ps ≡ edges_into schema table number s y = λ s.
      ap (filter (λ p. shard_of schema target p.key.id == s)) are
      ∙ given_filtered (posting_to table number (Id id)) (posted_key table number id) (λ k. shard_of schema target k.id == s) (ranked_all table target)
      ∙ ap (filter_map (posting_to table number (Id id))) (sym (shards_part.lists schema limits table target s kept))
      ∙ (λ i. filter_map (posting_to table number (Id (sym same i))) (ranked schema table (sym leads i) s)) in
      λ i. map (λ s. one s i) (range_with_len 0 (shards_of schema (sym leads i)))

-- ---- the list of a shard

got_vector : (vectors : List (Vec Posting Global)) (s : ℕ) (v : Vec Posting Global) → slice_get vectors s ≡ Some v → slice_get (lists_of vectors) s ≡ Some v.items
got_vector [] s v at = absurd cc
got_vector (x ∷ vectors) zero v at = let same : x ≡ v = cc in ap (λ (w : Vec Posting Global). Some w.items) same
got_vector (x ∷ vectors) (suc s) v at = got_vector vectors s v at

got_part : {X : Type 0} (f : ℕ → X) (from count s : ℕ) (x : X) → slice_get (map f (range_with_len from count)) s ≡ Some x → x ≡ f (from + s)
got_part f from zero s x at = absurd cc
got_part f from (suc count) zero x at = let here : f from ≡ x = cc in let none : from ≡ from + 0 = omega arith in sym here ∙ ap f none
got_part f from (suc count) (suc s) x at = let more : from + 1 + s ≡ from + suc s = omega arith in got_part f (from + 1) count s x at ∙ ap f more

pub edges_at : (schema : Declarations) (table : Contents) (number : ℕ) (y : DocKey) (vectors : List (Vec Posting Global)) (s : ℕ) (v : Vec Posting Global) → lists_of vectors ≡ edges_by_shard schema table number y
    → slice_get vectors s ≡ Some v → v.items ≡ edges_into schema table number s y
edges_at schema table number y vectors s v are at =
    let first : 0 + s ≡ s = omega arith in
    got_part (λ shard. edges_into schema table number shard y) 0 (shards_of schema (target_of schema number)) s v.items (ap (λ lists. slice_get lists s) (sym are) ∙ got_vector vectors s v at)
    ∙ ap (λ shard. edges_into schema table number shard y) first
