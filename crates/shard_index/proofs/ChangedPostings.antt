-- The layer of the postings that changed takes those of a shard of one table to those of the other.
use Rattle.std.proofs.Common.{◌≡◌, ◌==◌, ◌&&◌, ◌||◌, ◌⊎◌, inl, inr, ℕ, Bool, true, false, if◌then◌else◌, List, Option, None, Some, is_some, refl, sym, ◌∙◌, ap, subst}
use Rattle.std.proofs.lemmas.Bool.{and_parts}
use Rattle.std.specs.Cmp.{tied_itself}
use Rattle.std.specs.FinMap as finite
use Rattle.std.specs.List.{Contains}
use Rattle.std.specs.Option.{IsSome}
use Rattle.std.specs.Ordering.{eq_by_cmp, is_eq}
use Rattle.uni_base.specs.declared.edge.Audience.{Audience}
use Rattle.uni_base.specs.declared.edge.Audience.TheVariants.{Public, Only, Circle}
use Rattle.uni_base.specs.declared.edge.EdgeRef.{EdgeRef}
use Rattle.uni_base.specs.declared.entity.Rank.{Rank}
use Rattle.uni_base.specs.declared.limits.Limits.{Limits}
use Rattle.uni_base.specs.EdgeOrder.{key_cmp, key_cmp-total}
use Rattle.uni_schema.specs.Schema.{Declarations}
use Rattle.uni_table.specs.Changes.{rank_at, IsEdgeChange}
use Rattle.uni_table.specs.Contents.{Contents, edge_at}
use Rattle.uni_table.specs.TableState.{IsKept}
use Rattle.uni_table.specs.declared.change.EdgeChange.{EdgeChange}
use Rattle.uni_table.specs.declared.command.EdgeRow.{EdgeRow}
use Rattle.uni_base.specs.KeyHash.{exact_keys}
use Rattle.layer_base.specs.Layers.{layer_over as table_over}
use Rattle.layer_base.specs.Lookups.{either}
use Rattle.layer_base.proofs.Tables.{get-layer_over}
use Rattle.layer_stack.specs.declared.place.Place.{Place}
use Rattle.layer_stack.specs.Places.{place_cmp}
use Rattle.layer_stack.proofs.Order.{place_total, place_apart}
use Rattle.shard_index.specs.Batches.{AreAllChanges}
use Rattle.shard_index.specs.ChangedRows.{same_audience, is_posted, posting_for, if_posted, posting_before, posting_now, shard_postings}
use Rattle.shard_index.specs.Shards.{shard_rows}
use Rattle.shard_index.proofs.ChangedEntities.{exact_rank, rank_itself}
use Rattle.shard_index.proofs.Differing.{at_key, decided, Says, AreChanges, turned}
use Rattle.shard_index.proofs.EntityRows.{id_apart}
use Rattle.shard_index.proofs.LoggedMaps.{equal_of}
use Rattle.shard_index.proofs.PostedRows.{named, at_place, same_place, posting_names, posted, posted_read}
use Rattle.shard_index.proofs.ReadRanks.{same_number}
use Rattle.shard_index.proofs.Squeezed.{number_itself}
use Rattle.shard_index.specs.ChangedRows.{same_rank}
use Rattle.std.specs.Cmp.{nat_cmp_total}

-- ---- audiences

pub exact_audience : (x y : Audience) → same_audience x y ≡ true → x ≡ y
exact_audience Public Public t = refl
exact_audience Public Only t = cc
exact_audience Public (Circle n k) t = cc
exact_audience Only Public t = cc
exact_audience Only Only t = refl
exact_audience Only (Circle n k) t = cc
exact_audience (Circle m j) Public t = cc
exact_audience (Circle m j) Only t = cc
exact_audience (Circle m j) (Circle n k) t =
    let parts = and_parts (m == n) (eq_by_cmp key_cmp j k) t in
    λ i. Circle (same_number m n parts.0 i) (exact_keys j k (equal_of (key_cmp j k) parts.1) i)

pub audience_itself : (x : Audience) → same_audience x x ≡ true
audience_itself Public = refl
audience_itself Only = refl
audience_itself (Circle n k) = λ i. number_itself n i && is_eq (tied_itself key_cmp-total k i)

-- ---- of a table

-- what became of an edge from one table to another
abbrev pub change_at : Contents → Contents → EdgeRef → EdgeChange
change_at old new edge = record {
  edge = edge;
  before = edge_at old edge;
  after = edge_at new edge;
  rank_before = rank_at old edge.target;
  rank_after = rank_at new edge.target;
}

module _ (schema : Declarations) (limits : Limits) (old new : Contents) (vertical shard : ℕ) (old_kept : IsKept schema limits old) (new_kept : IsKept schema limits new) (cs : List EdgeChange) (are : AreAllChanges old new cs) where
  abbrev pub was : EdgeChange → Option (Place × Audience)
  was c = if_posted schema vertical shard c.edge (posting_before c)

  abbrev pub now : EdgeChange → Option (Place × Audience)
  now c = if_posted schema vertical shard c.edge (posting_now c)

  module _ (q : Place) where
    abbrev pub before : Option Audience
    before = at_place q (posted schema limits old vertical shard old_kept (named q) (edge_at old (named q)))

    abbrev pub after : Option Audience
    after = at_place q (posted schema limits new vertical shard new_kept (named q) (edge_at new (named q)))

    abbrev at : Option (Place × Audience) → Option Audience
    at = at_key place_total place_apart same_audience exact_audience audience_itself q

    same_at : (o : Option (Place × Audience)) → at o ≡ at_place q o
    same_at None = refl
    same_at (Some p) = refl

    abbrev SaysSo : EdgeChange → Type 0
    SaysSo = Says place_total place_apart same_audience exact_audience audience_itself q was now cs before after

    -- a change of the edge of the place
    says : (c : EdgeChange) → Contains cs c → named q ≡ c.edge → SaysSo c
    says c among is =
        let known = (are c).0 among in
        record {
          was_is = same_at (was c) ∙ (λ i. at_place q (if_posted schema vertical shard c.edge (posting_for c.edge (known.3 i) (known.0 i))))
              ∙ ap (λ (e : EdgeRef). at_place q (if_posted schema vertical shard e (posting_for e (rank_at old e.target) (edge_at old e)))) (sym is);
          now_is = same_at (now c) ∙ (λ i. at_place q (if_posted schema vertical shard c.edge (posting_for c.edge (known.4 i) (known.1 i))))
              ∙ ap (λ (e : EdgeRef). at_place q (if_posted schema vertical shard e (posting_for e (rank_at new e.target) (edge_at new e)))) (sym is);
        }

    -- a posting at the place is of its edge
    names : (edge : EdgeRef) (rank : Option Rank) (row : Option EdgeRow) → is_some (at (if_posted schema vertical shard edge (posting_for edge rank row))) ≡ true → named q ≡ edge
    names edge rank row t = by (if_posted schema vertical shard edge (posting_for edge rank row)) refl t
      where
        next : (p : Place × Audience) → if_posted schema vertical shard edge (posting_for edge rank row) ≡ Some p → (b : Bool) → eq_by_cmp place_cmp q p.0 ≡ b → is_some (if b then Some p.1 else None) ≡ true → named q ≡ edge
        next p is true e f = ap named (same_place q p.0 e) ∙ posting_names schema vertical shard edge rank row p is
        next p is false e f = cc

        by : (o : Option (Place × Audience)) → if_posted schema vertical shard edge (posting_for edge rank row) ≡ o → is_some (at o) ≡ true → named q ≡ edge
        by None is f = cc
        by (Some p) is f = next p is (eq_by_cmp place_cmp q p.0) refl f

    either_names : (c : EdgeChange) (a b : Bool) → is_some (at (was c)) ≡ a → is_some (at (now c)) ≡ b → (a || b) ≡ true → named q ≡ c.edge
    either_names c true b e f t = names c.edge c.rank_before c.before e
    either_names c false b e f t = names c.edge c.rank_after c.after (f ∙ t)

    -- where the place differs, its edge differs or its target's rank does
    differs : (before ≡ after → ⊥) → IsEdgeChange old new (change_at old new (named q))
    differs differ = (refl, refl, by (decided nat_cmp_total id_apart same_rank exact_rank rank_itself (rank_at old q.key.id) (rank_at new q.key.id)), refl, refl)
      where
        said : Option Rank → Option EdgeRow → Option Audience
        said rank row = at_place q (if_posted schema vertical shard (named q) (posting_for (named q) rank row))

        none_said : (rank other : Option Rank) (b : Bool) → at_place q (if b then posting_for (named q) rank None else None) ≡ at_place q (if b then posting_for (named q) other None else None)
        none_said rank other true = refl
        none_said rank other false = refl

        moved : (rank_at old q.key.id ≡ rank_at new q.key.id → ⊥) → (o n : Option EdgeRow) → edge_at old (named q) ≡ o → edge_at new (named q) ≡ n
            → (edge_at old (named q) ≡ edge_at new (named q) → ⊥) ⊎ (IsSome (edge_at new (named q)) × (rank_at old q.key.id ≡ rank_at new q.key.id → ⊥))
        moved apart o (Some n) e f = inr (subst IsSome (sym f) refl, apart)
        moved apart (Some o) None e f = inl (λ g. let h : Some o ≡ None = sym e ∙ g ∙ f in cc)
        moved apart None None e f =
            absurd (differ (ap (said (rank_at old q.key.id)) e ∙ none_said (rank_at old q.key.id) (rank_at new q.key.id) (is_posted schema vertical shard (named q)) ∙ ap (said (rank_at new q.key.id)) (sym f)))

        by : (rank_at old q.key.id ≡ rank_at new q.key.id) ⊎ (rank_at old q.key.id ≡ rank_at new q.key.id → ⊥)
            → (edge_at old (named q) ≡ edge_at new (named q) → ⊥) ⊎ (IsSome (edge_at new (named q)) × (rank_at old q.key.id ≡ rank_at new q.key.id → ⊥))
        by (inl same) = inl (λ e. differ (λ i. said (same i) (e i)))
        by (inr apart) = moved apart (edge_at old (named q)) (edge_at new (named q)) refl refl

    pub changes : AreChanges place_total place_apart same_audience exact_audience audience_itself q was now cs before after
    changes = record {
      sound = λ c among t. says c among (either_names c (is_some (at (was c))) (is_some (at (now c))) refl refl t);
      complete = λ differ.
          let change = change_at old new (named q) in
          let among : Contains cs (change_at old new (named q)) = (are (change_at old new (named q))).1 (differs differ) in
          (change, among, says change among refl);
    }

  pub postings_turned : table_over (shard_rows schema old vertical shard).postings (shard_postings schema vertical shard cs) ≡ (shard_rows schema new vertical shard).postings
  postings_turned =
      finite.same_map place_total place_apart (table_over (shard_rows schema old vertical shard).postings (shard_postings schema vertical shard cs)) (shard_rows schema new vertical shard).postings
      (λ q. get-layer_over place_total place_apart (shard_rows schema old vertical shard).postings (shard_postings schema vertical shard cs) q
      ∙ ap (λ b. either (finite.get (shard_postings schema vertical shard cs).puts q) (if finite.contains_key (shard_postings schema vertical shard cs).deletes q then None else b)) (posted_read schema limits old vertical shard old_kept q)
      ∙ turned place_total place_apart same_audience exact_audience audience_itself q was now cs (before q) (after q) (changes q)
      ∙ sym (posted_read schema limits new vertical shard new_kept q))
