-- A layer has no more entries of postings than twice the edges that differ.
use Rattle.std.proofs.Common.{◌≡◌, ◌≤◌, ◌&&◌, ℕ, Bool, true, false, not, if◌then◌else◌, List, length, Option, None, Some, is_some, refl, sym, ◌∙◌, ap, subst}
use Rattle.std.proofs.lemmas.Map.Made.{is_some-lookup}
use Rattle.std.specs.BTreeMap.{is_at}
use Rattle.std.specs.Cmp.{tied_itself}
use Rattle.std.specs.FinMap as finite
use Rattle.std.specs.Map.{keys_of}
use Rattle.std.specs.Option.{option_map_or}
use Rattle.std.specs.Ordering.{eq_by_cmp, is_eq}
use Rattle.std.specs.Set.{is_member}
use Rattle.uni_base.specs.declared.edge.Audience.{Audience}
use Rattle.uni_base.specs.declared.edge.EdgeRef.{EdgeRef}
use Rattle.uni_base.specs.declared.limits.Limits.{Limits}
use Rattle.uni_base.specs.EdgeOrder.{edge_cmp}
use Rattle.uni_schema.specs.Schema.{Declarations}
use Rattle.uni_table.specs.Changes.{rank_at}
use Rattle.uni_table.specs.Contents.{Contents, edge_at}
use Rattle.uni_table.specs.GraphKeys.{edge_total, exact_edges}
use Rattle.uni_table.specs.TableState.{IsKept}
use Rattle.uni_table.specs.declared.change.EdgeChange.{EdgeChange}
use Rattle.uni_table.specs.declared.command.EdgeRow.{EdgeRow}
use Rattle.layer_stack.specs.declared.place.Place.{Place}
use Rattle.layer_stack.specs.Places.{place_cmp}
use Rattle.layer_stack.proofs.Order.{place_total, place_apart}
use Rattle.shard_index.specs.Batches.{AreAllChanges}
use Rattle.shard_index.specs.ChangedRows.{same_audience, is_posted, posting_for, shard_postings}
use Rattle.shard_index.specs.Touched.{same_rows, same_posting, edge_posting, moved_edges}
use Rattle.shard_index.proofs.ChangedPostings.{exact_audience, audience_itself, was, now, before, after, changes}
use Rattle.shard_index.proofs.Counted.{few_keys, of_first, of_second}
use Rattle.shard_index.proofs.Differing.{deleted_differs, added_differs}
use Rattle.shard_index.proofs.LoggedMaps.{equal_of}
use Rattle.shard_index.proofs.PostedRows.{named, at_place, same_place}

-- ---- one place

module _ (q : Place) where
  -- a posting that stands at a place
  stands : (o : Option (Place × Audience)) → is_some (at_place q o) ≡ true → (audience : Audience) × (o ≡ Some (q, audience))
  stands None t = cc
  stands (Some p) t = by (eq_by_cmp place_cmp q p.0) refl t
    where
      by : (b : Bool) → eq_by_cmp place_cmp q p.0 ≡ b → is_some (if b then Some p.1 else None) ≡ true → (audience : Audience) × (Some p ≡ Some (q, audience))
      by true e f = let is : p.0 ≡ q = sym (same_place q p.0 e) in (p.1, λ i. Some (is i, p.1))
      by false e f = cc

  -- where what stands at a place differs, the postings do
  differ : (o n : Option (Place × Audience)) → not (same_rows same_audience (at_place q o) (at_place q n)) ≡ true → not (same_rows same_posting o n) ≡ true
  differ None None t = t
  differ None (Some y) t = refl
  differ (Some x) None t = refl
  differ (Some x) (Some y) t = by (eq_by_cmp place_cmp x.0 y.0) refl (same_audience x.1 y.1) refl
    where
      alike : x.0 ≡ y.0 → same_audience x.1 y.1 ≡ true → (b : Bool) → same_rows same_audience (if b then Some x.1 else None) (if b then Some y.1 else None) ≡ true
      alike e f true = f
      alike e f false = refl

      by : (a : Bool) → eq_by_cmp place_cmp x.0 y.0 ≡ a → (b : Bool) → same_audience x.1 y.1 ≡ b → not (a && b) ≡ true
      by true e true f =
          let places : x.0 ≡ y.0 = same_place x.0 y.0 e in
          let same : same_rows same_audience (at_place q (Some x)) (at_place q (Some y)) ≡ true =
          ap (λ z. same_rows same_audience (if eq_by_cmp place_cmp q x.0 then Some x.1 else None) (if eq_by_cmp place_cmp q z then Some y.1 else None)) (sym places) ∙ alike places f (eq_by_cmp place_cmp q x.0) in
          let clash : false ≡ true = ap not (sym same) ∙ t in absurd cc
      by true e false f = refl
      by false e b f = refl

module _ (schema : Declarations) (limits : Limits) (old new : Contents) (vertical shard : ℕ) (old_kept : IsKept schema limits old) (new_kept : IsKept schema limits new) (cs : List EdgeChange) (are : AreAllChanges old new cs) where
  abbrev differs : EdgeRef → Bool
  differs edge = not (same_rows same_posting (edge_posting schema old vertical shard edge) (edge_posting schema new vertical shard edge))

  -- an edge with a posting is one of the table
  there : (table : Contents) (edge : EdgeRef) (p : Place × Audience) → edge_posting schema table vertical shard edge ≡ Some p → is_member (eq_by_cmp edge_cmp) (keys_of table.edges) edge ≡ true
  there table edge p e = sym (is_some-lookup (is_at (edge_cmp edge)) table.edges) ∙ by (is_posted schema vertical shard edge) (edge_at table edge) e
    where
      by : (b : Bool) (o : Option EdgeRow) → (if b then posting_for edge (rank_at table edge.target) o else None) ≡ Some p → is_some o ≡ true
      by true None f = cc
      by false None f = cc
      by b (Some r) f = refl

  -- no two places have postings of one edge
  one : (table : Contents) (j k : Place) → is_some (at_place j (edge_posting schema table vertical shard (named j))) ≡ true → is_some (at_place k (edge_posting schema table vertical shard (named k))) ≡ true
      → eq_by_cmp edge_cmp (named j) (named k) ≡ true → eq_by_cmp place_cmp j k ≡ true
  one table j k s t e =
      let edges : named j ≡ named k = exact_edges (named j) (named k) (equal_of (edge_cmp (named j) (named k)) e) in
      let first = stands j (edge_posting schema table vertical shard (named j)) s in let second = stands k (edge_posting schema table vertical shard (named k)) t in
      let both : Some (j, first.0) ≡ Some (k, second.0) = sym first.1 ∙ ap (edge_posting schema table vertical shard) edges ∙ second.1 in
      let same : j ≡ k = ap (λ (o : Option (Place × Audience)). option_map_or (λ x. x.0) o j) both in
      subst (λ (x : Place). eq_by_cmp place_cmp j x ≡ true) same (ap is_eq (tied_itself place_total j))

  pub deleted : (q : Place) → finite.contains_key (shard_postings schema vertical shard cs).deletes q ≡ true
      → (not (same_rows same_audience (at_place q (edge_posting schema old vertical shard (named q))) (at_place q (edge_posting schema new vertical shard (named q)))) ≡ true) × (is_some (at_place q (edge_posting schema old vertical shard (named q))) ≡ true)
  deleted q = deleted_differs place_total place_apart same_audience exact_audience audience_itself q (was schema limits old new vertical shard old_kept new_kept cs are) (now schema limits old new vertical shard old_kept new_kept cs are) cs
      (before schema limits old new vertical shard old_kept new_kept cs are q) (after schema limits old new vertical shard old_kept new_kept cs are q) (changes schema limits old new vertical shard old_kept new_kept cs are q)

  pub put : (q : Place) → finite.contains_key (shard_postings schema vertical shard cs).puts q ≡ true
      → (not (same_rows same_audience (at_place q (edge_posting schema old vertical shard (named q))) (at_place q (edge_posting schema new vertical shard (named q)))) ≡ true) × (is_some (at_place q (edge_posting schema new vertical shard (named q))) ≡ true)
  put q = added_differs place_total place_apart same_audience exact_audience audience_itself q (was schema limits old new vertical shard old_kept new_kept cs are) (now schema limits old new vertical shard old_kept new_kept cs are) cs
      (before schema limits old new vertical shard old_kept new_kept cs are q) (after schema limits old new vertical shard old_kept new_kept cs are q) (changes schema limits old new vertical shard old_kept new_kept cs are q)

  pub few_deleted : finite.len (shard_postings schema vertical shard cs).deletes ≤ length (moved_edges schema old new vertical shard)
  few_deleted =
      few_keys place_total edge_total exact_edges (shard_postings schema vertical shard cs).deletes named (moved_edges schema old new vertical shard)
      (λ q t. let known = deleted q t in let posting = stands q (edge_posting schema old vertical shard (named q)) known.1 in
      of_first edge_total exact_edges differs (keys_of old.edges) (keys_of new.edges) (named q) (differ q (edge_posting schema old vertical shard (named q)) (edge_posting schema new vertical shard (named q)) known.0)
      (there old (named q) (q, posting.0) posting.1))
      (λ j k s t e. one old j k (deleted j s).1 (deleted k t).1 e)

  pub few_put : finite.len (shard_postings schema vertical shard cs).puts ≤ length (moved_edges schema old new vertical shard)
  few_put =
      few_keys place_total edge_total exact_edges (shard_postings schema vertical shard cs).puts named (moved_edges schema old new vertical shard)
      (λ q t. let known = put q t in let posting = stands q (edge_posting schema new vertical shard (named q)) known.1 in
      of_second edge_total exact_edges differs (keys_of old.edges) (keys_of new.edges) (named q) (differ q (edge_posting schema old vertical shard (named q)) (edge_posting schema new vertical shard (named q)) known.0)
      (there new (named q) (q, posting.0) posting.1))
      (λ j k s t e. one new j k (put j s).1 (put k t).1 e)
