-- The hits of a plan, shard by shard and over all shards.
use Rattle.std.proofs.Common.{◌≡◌, ◌<◌, ◌+◌, ◌||◌, ℕ, zero, suc, Bool, true, false, if◌then◌else◌, List, [], ◌∷◌, ◌++◌, All, map, take, length, refl, sym, ◌∙◌, ap, subst, arith}
use Rattle.std.proofs.lemmas.List.{take-map}
use Rattle.std.proofs.lemmas.List.Elements.{All-append, All-cons, All-head, All-nil, All-tail, All-take}
use Rattle.std.specs.List.{AllByRecursion, flat_map, list_any, range_with_len}
use Rattle.std.specs.Ordering.{is_eq, is_lt}
use Rattle.uni_base.specs.declared.entity.DocKey.{DocKey}
use Rattle.uni_base.specs.declared.limits.Limits.{Limits}
use Rattle.uni_base.specs.Cursors.{is_before, IsRanked}
use Rattle.uni_base.specs.KeySets.{has_key}
use Rattle.uni_base.specs.RankOrder.{doc_cmp}
use Rattle.uni_base.proofs.RankedLemmas.{is_eq_self, same_from_is_eq}
use Rattle.uni_schema.specs.Schema.{Declarations, shard_of}
use Rattle.uni_table.specs.Contents.{Contents}
use Rattle.uni_table.specs.Ranked.{in_rank_order, ranked}
use Rattle.uni_table.specs.TableState.{IsKept}
use Rattle.query_check.specs.Plan.{Plan, term_plan, prefix_plan, list_plan, join_plan}
use Rattle.query_check.specs.Verticals.{IsOf}
use Rattle.uni_meaning.specs.Hits.{cut, hits, first_vertical, operands, shards_of, vertical_of}
use Rattle.lineage_tree.specs.declared.lineage.RawHit.{RawHit}
use Rattle.lineage_tree.specs.Tree.{Tree, any_of, no_members, tree_of}
use Rattle.rack_aggregate.specs.Merged.{AreApart, all_hits, hits_in_rank_order, keys_of, place_hit}
use Rattle.shard_index.specs.Shards.{shard_rows}
use Rattle.shard_index.specs.Versions.{VersionState, Stands}
use Rattle.shard_eval.specs.Found.{found_all}
use Rattle.shard_eval.specs.Meant.{filled, seen_found, StandsFor as IsMeant}
use Rattle.shard_eval.specs.PlanTrees.{plan_tree}
use Rattle.shard_eval.specs.Resolution.{Resolution, found}
use Rattle.shard_eval.proofs.HitsWithin.{IsPartOf, filter_part, kept_part, later_true}
use Rattle.shard_eval.proofs.MeantShards.{node_meant, own_shard}
use Rattle.shard_eval.proofs.RankedShards.{ranked_ranked}
use Rattle.apply_extract.specs.Parts.{AllFirst, AreFirst}
use Rattle.apply_extract.proofs.Tops.{first_of_first}

-- ---- keys in rank order, and what is true of each

IsRanked-take : (n : ℕ) (ks : List DocKey) → IsRanked ks → IsRanked (take n ks)
IsRanked-take zero ks rank = tt
IsRanked-take (suc n) [] rank = tt
IsRanked-take (suc n) (k ∷ ks) rank = (All-take (λ x. is_before k x ≡ true) n ks rank.0, IsRanked-take n ks rank.1)

all_keys : (P : DocKey → Type 0) (ks : List DocKey) → ((k : DocKey) → has_key ks k ≡ true → P k) → All P ks
all_keys P [] each = All-nil P
all_keys P (k ∷ ks) each =
    All-cons P k ks (each k (ap (λ b. b || has_key ks k) (is_eq_self k)))
    (all_keys P ks (λ x there. each x (later_true (is_eq (doc_cmp k x)) (has_key ks x) there)))

-- ---- lists whose keys have other numbers are apart

module _ (number_of : DocKey → ℕ) where
  abbrev AreNumbered : ℕ → List (List DocKey) → Type 0
  AreNumbered number [] = Unit {0}
  AreNumbered number (ks ∷ lists) = All (λ k. number_of k ≡ number) ks × AreNumbered (number + 1) lists

  none_in : (number : ℕ) (ks : List DocKey) (k : DocKey) → All (λ x. number_of x ≡ number) ks → (number_of k ≡ number → ⊥) → has_key ks k ≡ false
  none_in number [] k all other = refl
  none_in number (x ∷ xs) k all other = over (is_eq (doc_cmp x k)) refl (none_in number xs k (All-tail (λ y. number_of y ≡ number) x xs all) other)
    where
      over : (b : Bool) → is_eq (doc_cmp x k) ≡ b → has_key xs k ≡ false → (b || has_key xs k) ≡ false
      over true e rest = absurd (other (ap number_of (sym (same_from_is_eq x k e)) ∙ All-head (λ y. number_of y ≡ number) x xs all))
      over false e rest = rest

  none_later : (number own : ℕ) (lists : List (List DocKey)) (k : DocKey) → own < number → number_of k ≡ own → AreNumbered number lists → list_any (λ others. has_key others k) lists ≡ false
  none_later number own [] k less is all = refl
  none_later number own (ks ∷ lists) k less is all =
      ap (λ b. b || list_any (λ others. has_key others k) lists) (none_in number ks k all.0 (λ same. omega (arith, less, is, same)))
      ∙ none_later (number + 1) own lists k (omega (arith, less)) is all.1

  numbered_apart : (number : ℕ) (lists : List (List DocKey)) → AreNumbered number lists → AreApart lists
  numbered_apart number [] all = tt
  numbered_apart number (ks ∷ lists) all = (each ks all.0, numbered_apart (number + 1) lists all.1)
    where
      each : (xs : List DocKey) → All (λ k. number_of k ≡ number) xs → AllByRecursion (λ k. list_any (λ others. has_key others k) lists ≡ false) xs
      each [] own = tt
      each (x ∷ xs) own = (none_later (number + 1) number lists x (omega arith) (All-head (λ k. number_of k ≡ number) x xs own) all.1, each xs (All-tail (λ k. number_of k ≡ number) x xs own))

-- ---- hits in rank order keep what is true of each

module _ (P : RawHit → Type 0) where
  all_placed : (h : RawHit) (hs : List RawHit) → P h → All P hs → All P (place_hit h hs)
  all_placed h [] here all = All-cons P h [] here (All-nil P)
  all_placed h (x ∷ xs) here all = over (is_lt (doc_cmp h.key x.key)) (all_placed h xs here (All-tail P x xs all))
    where
      over : (b : Bool) → All P (place_hit h xs) → All P (if b then h ∷ x ∷ xs else x ∷ place_hit h xs)
      over true rest = All-cons P h (x ∷ xs) here all
      over false rest = All-cons P x (place_hit h xs) (All-head P x xs all) rest

  all_in_order : (hs : List RawHit) → All P hs → All P (hits_in_rank_order hs)
  all_in_order [] all = All-nil P
  all_in_order (h ∷ hs) all = all_placed h (hits_in_rank_order hs) (All-head P h hs all) (all_in_order hs (All-tail P h hs all))

-- ---- hits with their trees

pairs_are : (told : RawHit → Tree) (tree : DocKey → Tree) (hs : List RawHit) (ks : List DocKey) → map {B = DocKey × Tree} (λ h. (h.key, told h)) hs ≡ map {B = DocKey × Tree} (λ k. (k, tree k)) ks
    → (keys_of hs ≡ ks) × All (λ h. told h ≡ tree h.key) hs
pairs_are told tree [] [] same = (refl, All-nil (λ h. told h ≡ tree h.key))
pairs_are told tree [] (k ∷ ks) same = absurd cc
pairs_are told tree (h ∷ hs) [] same = absurd cc
pairs_are told tree (h ∷ hs) (k ∷ ks) same =
    let head : ◌≡◌ {A = DocKey × Tree} (h.key, told h) (k, tree k) = cc in
    let tail : map {B = DocKey × Tree} (λ x. (x.key, told x)) hs ≡ map {B = DocKey × Tree} (λ x. (x, tree x)) ks = cc in
    let key : h.key ≡ k = ap (λ p. p.0) head in
    let rest = pairs_are told tree hs ks tail in
    ((λ i. key i ∷ rest.0 i), All-cons (λ h. told h ≡ tree h.key) h hs (ap (λ p. p.1) head ∙ ap tree (sym key)) rest.1)

-- the hits of a plan in a shard, as many as a limit says, each with its tree once the entries are in place
pub record IsPart (schema : Declarations) (table : Contents) (plan : Plan) (limit : ℕ) (book : ℕ → Tree) (shard : ℕ) (part : List RawHit) : Type 0 where
  pub keys : keys_of part ≡ take limit (hits schema table plan shard)
  pub trees : All (λ h. filled book (tree_of h.lineage) ≡ plan_tree schema table plan h.key) part

-- the same of each shard from a number on
abbrev pub AreParts : Declarations → Contents → Plan → ℕ → (ℕ → Tree) → ℕ → List (List RawHit) → Type 0
AreParts schema table plan limit book shard [] = Unit {0}
AreParts schema table plan limit book shard (part ∷ parts) = IsPart schema table plan limit book shard part × AreParts schema table plan limit book (shard + 1) parts

seen_hits : (book : ℕ → Tree) (hs : List RawHit) → map (seen_found book) (found_all hs) ≡ map {B = DocKey × Tree} (λ h. (h.key, filled book (tree_of h.lineage))) hs
seen_hits book [] = refl
seen_hits book (h ∷ hs) = ap (λ (ps : List (DocKey × Tree)). (h.key, filled book (tree_of h.lineage)) ∷ ps) (seen_hits book hs)

module _ (schema : Declarations) (limits : Limits) (table : Contents) (kept : IsKept schema limits table) (plan : Plan) where
  hits_part : (plan : Plan) (shard : ℕ) → IsPartOf (hits schema table plan shard) (ranked schema table (vertical_of schema plan) shard)
  hits_part (term_plan number key) shard = filter_part _ _
  hits_part (prefix_plan number from) shard = filter_part _ _
  hits_part (list_plan kind plans) shard = kept_part kind (operands schema table plans shard) (ranked schema table (first_vertical schema plans) shard)
  hits_part (join_plan kind number limit inner) shard = filter_part _ _

  hits_ranked : (shard : ℕ) → IsRanked (hits schema table plan shard)
  hits_ranked shard = (hits_part plan shard).ranked (ranked_ranked schema limits table (vertical_of schema plan) shard kept)

  hits_own : (shard : ℕ) → All (λ k. shard_of schema (vertical_of schema plan) k.id ≡ shard) (hits schema table plan shard)
  hits_own shard =
      all_keys (λ k. shard_of schema (vertical_of schema plan) k.id ≡ shard) (hits schema table plan shard)
      (λ k there. own_shard schema limits table (λ n. any_of no_members) (vertical_of schema plan) shard kept k ((hits_part plan shard).within k there))

  -- the parts of shards are in rank order, and apart
  pub parts_ranked : (limit : ℕ) (book : ℕ → Tree) (shard : ℕ) (parts : List (List RawHit)) → AreParts schema table plan limit book shard parts → AllByRecursion (λ part. IsRanked (keys_of part)) parts
  parts_ranked limit book shard [] are = tt
  parts_ranked limit book shard (part ∷ parts) are =
      (subst IsRanked (sym are.0.keys) (IsRanked-take limit (hits schema table plan shard) (hits_ranked shard)), parts_ranked limit book (shard + 1) parts are.1)

  parts_numbered : (limit : ℕ) (book : ℕ → Tree) (shard : ℕ) (parts : List (List RawHit)) → AreParts schema table plan limit book shard parts
      → AreNumbered (λ k. shard_of schema (vertical_of schema plan) k.id) shard (map keys_of parts)
  parts_numbered limit book shard [] are = tt
  parts_numbered limit book shard (part ∷ parts) are =
      (subst (All (λ k. shard_of schema (vertical_of schema plan) k.id ≡ shard)) (sym are.0.keys) (All-take (λ k. shard_of schema (vertical_of schema plan) k.id ≡ shard) limit (hits schema table plan shard) (hits_own shard)), parts_numbered limit book (shard + 1) parts are.1)

  pub parts_apart : (limit : ℕ) (book : ℕ → Tree) (parts : List (List RawHit)) → AreParts schema table plan limit book 0 parts → AreApart (map keys_of parts)
  parts_apart limit book parts are = numbered_apart (λ k. shard_of schema (vertical_of schema plan) k.id) 0 (map keys_of parts) (parts_numbered limit book 0 parts are)

  -- the first of their keys are the plan's cut
  parts_keys : (limit : ℕ) (book : ℕ → Tree) (shard : ℕ) (parts : List (List RawHit)) → AreParts schema table plan limit book shard parts
      → flat_map keys_of parts ≡ flat_map (λ s. take limit (hits schema table plan s)) (range_with_len shard (length parts))
  parts_keys limit book shard [] are = refl
  parts_keys limit book shard (part ∷ parts) are = λ i. are.0.keys i ++ parts_keys limit book (shard + 1) parts are.1 i

  pub first_keys : (limit : ℕ) (book : ℕ → Tree) (parts : List (List RawHit)) → AreParts schema table plan limit book 0 parts → length parts ≡ shards_of schema (vertical_of schema plan)
      → take limit (in_rank_order (flat_map keys_of parts)) ≡ cut schema table plan limit
  first_keys limit book parts are count =
      (λ i. take limit (in_rank_order (parts_keys limit book 0 parts are i)))
      ∙ first_of_first limit (hits schema table plan) (range_with_len 0 (length parts)) hits_ranked
      ∙ (λ i. take limit (in_rank_order (flat_map (hits schema table plan) (range_with_len 0 (count i)))))

  -- and so are their trees
  parts_trees : (limit : ℕ) (book : ℕ → Tree) (shard : ℕ) (parts : List (List RawHit)) → AreParts schema table plan limit book shard parts
      → All (λ h. filled book (tree_of h.lineage) ≡ plan_tree schema table plan h.key) (all_hits parts)
  parts_trees limit book shard [] are = All-nil (λ h. filled book (tree_of h.lineage) ≡ plan_tree schema table plan h.key)
  parts_trees limit book shard (part ∷ parts) are = All-append (λ h. filled book (tree_of h.lineage) ≡ plan_tree schema table plan h.key) part (all_hits parts) are.0.trees (parts_trees limit book (shard + 1) parts are.1)

  pub first_trees : (limit : ℕ) (book : ℕ → Tree) (parts : List (List RawHit)) → AreParts schema table plan limit book 0 parts
      → All (λ h. filled book (tree_of h.lineage) ≡ plan_tree schema table plan h.key) (take limit (hits_in_rank_order (all_hits parts)))
  first_trees limit book parts are =
      All-take (λ h. filled book (tree_of h.lineage) ≡ plan_tree schema table plan h.key) limit (hits_in_rank_order (all_hits parts)) (all_in_order (λ h. filled book (tree_of h.lineage) ≡ plan_tree schema table plan h.key) (all_hits parts) (parts_trees limit book 0 parts are))

  -- what shards have of a query that stands for the plan
  part_is : (version : VersionState) (vertical shard limit : ℕ) (book : ℕ → Tree) (query : Resolution) (part : List RawHit) → version.schema ≡ schema → Stands version table → IsOf schema plan vertical
      → IsMeant schema table book shard plan query → AreFirst version vertical shard limit query part → IsPart schema table plan limit book shard part
  part_is version vertical shard limit book query part same stands is meant_so first =
      let told : map {B = DocKey × Tree} (λ h. (h.key, filled book (tree_of h.lineage))) part ≡ map {B = DocKey × Tree} (λ k. (k, plan_tree schema table plan k)) (take limit (hits schema table plan shard)) =
      sym (seen_hits book part)
      ∙ ap (map (seen_found book)) (first table stands)
      ∙ (λ i. map (seen_found book) (take limit (found (shard_rows (same i) table vertical shard).postings query)))
      ∙ sym (take-map (seen_found book) limit (found (shard_rows schema table vertical shard).postings query))
      ∙ ap (take limit) (node_meant schema limits table book vertical shard kept plan query is meant_so)
      ∙ take-map {Y = DocKey × Tree} (λ k. (k, plan_tree schema table plan k)) limit (hits schema table plan shard) in
      let both = pairs_are (λ h. filled book (tree_of h.lineage)) (plan_tree schema table plan) part (take limit (hits schema table plan shard)) told in
      record { keys = both.0; trees = both.1 }

  pub parts_are : (version : VersionState) (vertical count limit : ℕ) (book : ℕ → Tree) (query : ℕ → Resolution) → version.schema ≡ schema → Stands version table → IsOf schema plan vertical
      → ((shard : ℕ) → shard < count → IsMeant schema table book shard plan (query shard)) → (shard : ℕ) (parts : List (List RawHit)) → shard + length parts ≡ count
      → AllFirst version vertical shard limit query parts → AreParts schema table plan limit book shard parts
  parts_are version vertical count limit book query same stands is each shard [] long first = tt
  parts_are version vertical count limit book query same stands is each shard (part ∷ parts) long first = (
    part_is version vertical shard limit book (query shard) part same stands is (each shard (omega (arith, long))) first.0,
    parts_are version vertical count limit book query same stands is each (shard + 1) parts (omega (arith, long)) first.1,
  )
