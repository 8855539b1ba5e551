-- The trees of joined hits are small.
use Rattle.std.proofs.Common.{◌≡◌, ◌≤◌, ◌+◌, ◌*◌, ◌||◌, ℕ, Bool, true, false, List, [], ◌∷◌, Option, None, Some, All, map, filter, length, cond, if◌then◌else◌, refl, ap, arith}
use Rattle.std.proofs.lemmas.List.Elements.{All-cons, All-nil}
use Rattle.std.specs.List.{cons_option, list_any}
use Rattle.query_tree.specs.declared.kind.ListKind.TheVariants.{Or}
use Rattle.uni_base.specs.declared.entity.DocKey.{DocKey}
use Rattle.posting_lists.specs.declared.posting.Posting.{Posting}
use Rattle.layer_stack.specs.Places.{term_of}
use Rattle.layer_stack.specs.Postings.{PostingTable, postings_of}
use Rattle.lineage_tree.specs.Tree.{Tree, edge, all_of, any_of, entry, forest_of}
use Rattle.shard_eval.specs.declared.leaf.Leaf.{Leaf}
use Rattle.shard_eval.specs.declared.resolved.InnerHit.{InnerHit}
use Rattle.shard_eval.specs.Found.{Found, found_posting, held_by, is_at, led_by, tree_at, trees_at}
use Rattle.shard_eval.specs.Kept.{found_at}
use Rattle.shard_eval.specs.Laws.{JoinsAreSmall}
use Rattle.shard_eval.specs.Resolution.{Listing, found_joined, found_listing, leaf_from}
use Rattle.shard_eval.specs.Sizes.{IsSmall, joining, node_count, node_counts}

-- each tree of a list is an edge and an entry
abbrev AreThree : List Found → Type 0
AreThree fs = (k : DocKey) → node_counts (forest_of (cons_option (tree_at fs k) [])) ≡ (if list_any (is_at k) fs then 3 else 0)

led_three : (leaf : Leaf) (number : ℕ) → leaf.led ≡ Some number → (ps : List Posting) → AreThree (map (found_posting leaf) ps)
led_three leaf number led [] = λ k. refl
led_three leaf number led (p ∷ ps) = λ k. over k (is_at k (found_posting leaf p)) (led_three leaf number led ps k)
  where
    three : node_count (found_posting leaf p).tree ≡ 3
    three = ap (λ o. node_count (led_by o (edge (held_by leaf.type_no leaf.key p)))) led

    over : (k : DocKey) (b : Bool) → node_counts (forest_of (cons_option (tree_at (map (found_posting leaf) ps) k) [])) ≡ (if list_any (is_at k) (map (found_posting leaf) ps) then 3 else 0)
        → node_counts (forest_of (cons_option (if b then Some (found_posting leaf p).tree else tree_at (map (found_posting leaf) ps) k) []))
        ≡ (if (b || list_any (is_at k) (map (found_posting leaf) ps)) then 3 else 0)
    over k true rest = ap (λ n. n + 0) three
    over k false rest = rest

-- so the trees of an entity have three nodes for each list that has it
abbrev AllThree : List (List Found) → Type 0
AllThree [] = Unit {0}
AllThree (fs ∷ lists) = AreThree fs × AllThree lists

least : (tree : Tree) → 1 ≤ node_count tree
least (edge held) = omega arith
least (all_of parts) = omega arith
least (any_of parts) = omega arith
least (entry number) = omega arith

trees_count : (lists : List (List Found)) (k : DocKey) → AllThree lists → node_counts (forest_of (trees_at lists k)) ≡ 3 * joining lists k
trees_count [] k all = refl
trees_count (fs ∷ lists) k all = over (tree_at fs k) (list_any (is_at k) fs) (all.0 k) (trees_count lists k all.1)
  where
    over : (o : Option Tree) (b : Bool) → node_counts (forest_of (cons_option o [])) ≡ (if b then 3 else 0) → node_counts (forest_of (trees_at lists k)) ≡ 3 * joining lists k
        → node_counts (forest_of (cons_option o (trees_at lists k))) ≡ 3 * length (cond b (fs ∷ filter (λ gs. list_any (is_at k) gs) lists) (filter (λ gs. list_any (is_at k) gs) lists))
    over None true own rest = absurd (omega (arith, own))
    over None false own rest = rest
    over (Some tree) true own rest = omega (arith, own, rest)
    over (Some tree) false own rest = absurd (omega (arith, own, least tree))

all_small : (lists : List (List Found)) → AllThree lists → (ks : List DocKey) → All (IsSmall lists) (map (found_at Or lists) ks)
all_small lists three [] = All-nil (IsSmall lists)
all_small lists three (k ∷ ks) = All-cons (IsSmall lists) (found_at Or lists k) (map (found_at Or lists) ks) (omega (arith, trees_count lists k three)) (all_small lists three ks)

joined_three : (table : PostingTable) (number : ℕ) (inner : List InnerHit) → AllThree (found_joined table number inner)
joined_three table number [] = tt
joined_three table number (hit ∷ inner) = (led_three (leaf_from number hit) hit.entry refl (postings_of (term_of (leaf_from number hit).type_no (leaf_from number hit).key) table), joined_three table number inner)

listed_three : (number : ℕ) (inner : List Listing) → AllThree (map (found_listing number) inner)
listed_three number [] = tt
listed_three number (listing ∷ inner) = (led_three (leaf_from number listing.hit) listing.hit.entry refl listing.rows, listed_three number inner)

pub joins_are_small : JoinsAreSmall
joins_are_small = record {
  joined = λ table number inner. all_small (found_joined table number inner) (joined_three table number inner) _;
  listed = λ table number inner. all_small (map (found_listing number) inner) (listed_three number inner) _;
}
