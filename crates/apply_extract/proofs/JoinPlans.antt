-- Joins that are answered stand for the plans of joins.
use Rattle.std.proofs.Common.{◌≡◌, ◌<◌, ℕ, zero, suc, List, [], ◌∷◌, ◌++◌, Vec, Global, All, map, get_or, refl, sym, ◌∙◌, ap, subst, arith}
use Rattle.std.proofs.lemmas.List.Elements.{All-cons, All-head, All-nil, All-tail}
use Rattle.uni_base.specs.Cursors.{IsRanked}
use Rattle.uni_schema.specs.Schema.{Declarations}
use Rattle.uni_table.specs.Contents.{Contents}
use Rattle.query_tree.specs.declared.kind.JoinKind.TheVariants.{Apply, Extract}
use Rattle.lineage_tree.specs.declared.lineage.RawHit.{RawHit}
use Rattle.query_tree.specs.declared.query.Mark.{Mark}
use Rattle.query_check.specs.Plan.{Plan, Plans, join_plan}
use Rattle.posting_lists.specs.declared.posting.Posting.{Posting}
use Rattle.posting_lists.specs.Postings.{keys_of}
use Rattle.lineage_tree.specs.Tree.{Tree}
use Rattle.std.proofs.lemmas.List.FromFn.{get_or-map-range_with_len}
use Rattle.query_check.specs.Verticals.{IsType}
use Rattle.uni_schema.specs.declared.schema.Origin.TheVariants.{Vertical}
use Rattle.uni_schema.specs.declared.schema.Store.TheVariants.{Forward}
use Rattle.uni_meaning.specs.Hits.{shards_of, target_of}
use Rattle.uni_meaning.proofs.Typed.{target_is}
use Rattle.shard_index.specs.Places.{shards_in}
use Rattle.apply_extract.specs.Split.{lists_of}
use Rattle.apply_extract.specs.Edges.{edges_by_shard}
use Rattle.shard_eval.specs.declared.resolved.InnerHit.{InnerHit}
use Rattle.shard_eval.specs.Meant.{edges_into, AreOfCut, StandsFor as IsMeant}
use Rattle.shard_eval.specs.Resolution.{Listing, Resolution, joined_node, listed_node, IsReady}
use Rattle.apply_extract.specs.declared.answered.Led.{Led}
use Rattle.apply_extract.specs.Answered.{hits_led, listing_in, AreListed, IsLedRanked, IsReadyIn}
use Rattle.apply_extract.specs.Booked.{tree_in}
use Rattle.apply_extract.specs.Hits.{AreAnswered, AreCut, AreInner, Book, IsAnswered, cut_booked}

-- by index edges
pub apply_answered : (schema : Declarations) (table : Contents) (number limit shards : ℕ) (plan : Plan) (old new : Book) (inner : List InnerHit) (query : ℕ → Resolution) → ((shard : ℕ) → query shard ≡ joined_node number inner)
    → AreInner schema plan limit old new inner table → IsAnswered schema (join_plan Apply number limit plan) shards old new query table
apply_answered schema table number limit shards plan old new inner query is are = record {
  gains = are.gains;
  stands = λ shard below before after count.
      subst (IsMeant schema table (tree_in (before ++ (cut_booked schema table plan limit ++ after))) shard (join_plan Apply number limit plan)) (sym (is shard)) (refl, are.cuts before after count);
}

hits_listed : (shard : ℕ) (led : List Led) → map (λ (listing : Listing). listing.hit) (map (listing_in shard) led) ≡ hits_led led
hits_listed shard [] = refl
hits_listed shard (l ∷ led) = ap (λ (hs : List InnerHit). l.hit ∷ hs) (hits_listed shard led)

-- by forward edges
pub extract_answered : (schema : Declarations) (table : Contents) (number limit shards : ℕ) (plan : Plan) (old new : Book) (inner : List InnerHit) (led : List Led) (query : ℕ → Resolution)
    → ((shard : ℕ) → query shard ≡ listed_node number (map (listing_in shard) led)) → hits_led led ≡ inner → AreInner schema plan limit old new inner table → AreListed schema number shards led table
    → IsAnswered schema (join_plan Extract number limit plan) shards old new query table
extract_answered schema table number limit shards plan old new inner led query is same are listed = record {
  gains = are.gains;
  stands = λ shard below before after count.
      let book : ℕ → Tree = tree_in (before ++ (cut_booked schema table plan limit ++ after)) in
      let hits : map (λ (listing : Listing). listing.hit) (map (listing_in shard) led) ≡ inner = hits_listed shard led ∙ same in
      subst (IsMeant schema table (tree_in (before ++ (cut_booked schema table plan limit ++ after))) shard (join_plan Extract number limit plan)) (sym (is shard))
      (refl, subst (AreOfCut schema table (tree_in (before ++ (cut_booked schema table plan limit ++ after))) plan limit) (sym hits) (are.cuts before after count), listed shard below);
}

-- which can be asked of each shard
ranked_in : (shard : ℕ) (rows : List (Vec Posting Global)) → All (λ ps. IsRanked (keys_of ps.items)) rows → IsRanked (keys_of (get_or (map (λ (ps : Vec Posting Global). ps.items) rows) shard []))
ranked_in shard [] all = tt
ranked_in zero (ps ∷ rows) all = All-head (λ (qs : Vec Posting Global). IsRanked (keys_of qs.items)) ps rows all
ranked_in (suc shard) (ps ∷ rows) all = ranked_in shard rows (All-tail (λ (qs : Vec Posting Global). IsRanked (keys_of qs.items)) ps rows all)

listings_ranked : (shard : ℕ) (led : List Led) → All IsLedRanked led → All (λ (listing : Listing). IsRanked (keys_of listing.rows)) (map (listing_in shard) led)
listings_ranked shard [] all = All-nil (λ (listing : Listing). IsRanked (keys_of listing.rows))
listings_ranked shard (l ∷ led) all =
    All-cons (λ (listing : Listing). IsRanked (keys_of listing.rows)) (listing_in shard l) (map (listing_in shard) led)
    (ranked_in shard l.rows.items (All-head IsLedRanked l led all)) (listings_ranked shard led (All-tail IsLedRanked l led all))

pub extract_ready : (number shards : ℕ) (led : List Led) (query : ℕ → Resolution) → ((shard : ℕ) → query shard ≡ listed_node number (map (listing_in shard) led)) → All IsLedRanked led → IsReadyIn shards query
extract_ready number shards led query is all shard below = subst IsReady (sym (is shard)) (listings_ranked shard led all)

-- one hit more with its edges
pub led_more : (schema : Declarations) (table : Contents) (number shards : ℕ) (led : List Led) (l : Led) → AreListed schema number shards led table
    → ((shard : ℕ) → shard < shards → get_or (map (λ (ps : Vec Posting Global). ps.items) l.rows.items) shard [] ≡ edges_into schema table number shard l.hit.key)
    → AreListed schema number shards (led ++ l ∷ []) table
led_more schema table number shards led l are edges shard below = more led (are shard below)
  where
    more : (ls : List Led) → All (λ (listing : Listing). listing.rows ≡ edges_into schema table number shard listing.hit.key) (map (listing_in shard) ls)
        → All (λ (listing : Listing). listing.rows ≡ edges_into schema table number shard listing.hit.key) (map (listing_in shard) (ls ++ l ∷ []))
    more [] all =
        All-cons (λ (listing : Listing). listing.rows ≡ edges_into schema table number shard listing.hit.key) (listing_in shard l) [] (edges shard below)
        (All-nil (λ (listing : Listing). listing.rows ≡ edges_into schema table number shard listing.hit.key))
    more (x ∷ ls) all =
        All-cons (λ (listing : Listing). listing.rows ≡ edges_into schema table number shard listing.hit.key) (listing_in shard x) (map (listing_in shard) (ls ++ l ∷ []))
        (All-head (λ (listing : Listing). listing.rows ≡ edges_into schema table number shard listing.hit.key) (listing_in shard x) (map (listing_in shard) ls) all)
        (more ls (All-tail (λ (listing : Listing). listing.rows ≡ edges_into schema table number shard listing.hit.key) (listing_in shard x) (map (listing_in shard) ls) all))

pub led_at : (schema : Declarations) (table : Contents) (number source target : ℕ) → IsType schema number Forward (Vertical source) target → (l : Led) → lists_of l.rows.items ≡ edges_by_shard schema table number l.hit.key
    → (shard : ℕ) → shard < shards_in schema target → get_or (map (λ (ps : Vec Posting Global). ps.items) l.rows.items) shard [] ≡ edges_into schema table number shard l.hit.key
led_at schema table number source target type l is shard below =
    let count : shards_of schema (target_of schema number) ≡ shards_in schema target = ap (shards_of schema) (target_is schema number Forward (Vertical source) target type) in
    ap (λ (lists : List (List Posting)). get_or lists shard []) is
    ∙ get_or-map-range_with_len (λ s. edges_into schema table number s l.hit.key) 0 (shards_of schema (target_of schema number)) shard shard [] (omega (arith, below, count)) (omega arith)

-- the same of a plan that is the same
pub with_plan : {schema : Declarations} {shards : ℕ} {old new : Book} {query : ℕ → Resolution} {table : Contents} {one other : Plan} → one ≡ other → IsAnswered schema other shards old new query table → IsAnswered schema one shards old new query table
with_plan {schema} {shards} {old} {new} {query} {table} same is = subst (λ (p : Plan). IsAnswered schema p shards old new query table) (sym same) is

pub with_plans : {schema : Declarations} {shards : ℕ} {old new : Book} {os : List ((ℕ → Resolution) × Mark)} {table : Contents} {one other : Plans} → one ≡ other → AreAnswered schema other shards old new os table → AreAnswered schema one shards old new os table
with_plans {schema} {shards} {old} {new} {os} {table} same are = subst (λ (ps : Plans). AreAnswered schema ps shards old new os table) (sym same) are

pub cut_plan : {schema : Declarations} {limit : ℕ} {old new : Book} {hits : List RawHit} {table : Contents} {one other : Plan} → one ≡ other → AreCut schema other limit old new hits table → AreCut schema one limit old new hits table
cut_plan {schema} {limit} {old} {new} {hits} {table} same are = subst (λ (p : Plan). AreCut schema p limit old new hits table) (sym same) are
