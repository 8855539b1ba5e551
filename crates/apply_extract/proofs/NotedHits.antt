-- Hits whose trees a book gains.
use Rattle.std.proofs.Common.{◌≡◌, ◌<◌, ◌+◌, ℕ, suc, true, List, [], ◌∷◌, ◌++◌, All, map, length, get_or, refl, sym, ◌∙◌, ap, subst, arith}
use Rattle.std.proofs.Math.ListN.{get_or-append}
use Rattle.std.proofs.Math.Seq.{get_or-append_seam}
use Rattle.std.proofs.lemmas.List.{append_assoc, append-nil, length-append, length-map, map-append}
use Rattle.std.proofs.lemmas.List.Elements.{All-cons, All-head, All-nil, All-tail}
use Rattle.uni_base.specs.declared.edge.Held.{Held}
use Rattle.uni_base.specs.declared.entity.DocKey.{DocKey}
use Rattle.uni_schema.specs.Schema.{Declarations}
use Rattle.uni_table.specs.Contents.{Contents}
use Rattle.query_check.specs.Plan.{Plan}
use Rattle.uni_meaning.specs.Hits.{cut}
use Rattle.lineage_tree.specs.declared.lineage.RawHit.{RawHit}
use Rattle.lineage_tree.specs.Entries.{names_below}
use Rattle.lineage_tree.specs.Lists.{lists_of}
use Rattle.lineage_tree.specs.Tree.{Tree, any_of, no_members, tree_of}
use Rattle.lineage_tree.proofs.EntryLemmas.{lists_of_agree, names_below-more}
use Rattle.rack_aggregate.specs.Merged.{keys_of}
use Rattle.shard_eval.specs.declared.resolved.InnerHit.{InnerHit}
use Rattle.shard_eval.specs.Meant.{filled}
use Rattle.shard_eval.specs.PlanTrees.{plan_tree}
use Rattle.apply_extract.specs.Booked.{booked, lists_each, tree_in}
use Rattle.apply_extract.specs.Hits.{AreCut, AreInner, Book, numbered, with_hits}
use Rattle.apply_extract.specs.Shown.{NameEntries}
use Rattle.apply_extract.proofs.Entries.{lists_filled, names_known, told_at, trees_count, trees_for, trees_told}

-- ---- one hit more

pub numbered_more : (number : ℕ) (hs : List RawHit) (h : RawHit) → numbered number (hs ++ h ∷ []) ≡ numbered number hs ++ record { key = h.key; entry = number + length hs } ∷ []
numbered_more number [] h = ap (λ n. record { key = h.key; entry = n } ∷ []) (omega arith)
numbered_more number (x ∷ hs) h =
    ap (λ (rest : List InnerHit). record { key = x.key; entry = number } ∷ rest)
    (numbered_more (number + 1) hs h ∙ ap (λ n. numbered (number + 1) hs ++ record { key = h.key; entry = n } ∷ []) (counts (length hs)))
  where
    counts : (n : ℕ) → number + 1 + n ≡ number + suc n
    counts n = omega arith

pub with_count : (book : Book) (hs : List RawHit) → length (with_hits book hs) ≡ length book + length hs
with_count book hs =
    length-append book (map (λ (h : RawHit). lists_of book (tree_of h.lineage)) hs)
    ∙ ap (λ n. length book + n) (length-map hs (λ (h : RawHit). lists_of book (tree_of h.lineage)))

-- a tree that names entries of a book stands for the same once it has gained more
same_later : (book more : Book) (tree : Tree) → names_below (length book) tree ≡ true → lists_of (book ++ more) tree ≡ lists_of book tree
same_later book more tree names = lists_of_agree (length book) (book ++ more) book (λ m below. get_or-append book more [] m below) tree names

pub names_later : (book : Book) (hs : List RawHit) (tree : Tree) → names_below (length book) tree ≡ true → names_below (length (with_hits book hs)) tree ≡ true
names_later book hs tree names = names_below-more (length book) (length (with_hits book hs)) (omega (arith, with_count book hs)) tree names

-- a hit among hits whose trees name entries
pub names_at : (book : Book) (past : List RawHit) (hit : RawHit) (rest hits : List RawHit) → past ++ hit ∷ rest ≡ hits → NameEntries book hits → names_below (length book) (tree_of hit.lineage) ≡ true
names_at book past hit rest hits whole names = among past (subst (NameEntries book) (sym whole) names)
  where
    among : (before : List RawHit) → NameEntries book (before ++ hit ∷ rest) → names_below (length book) (tree_of hit.lineage) ≡ true
    among [] all = All-head (λ h. names_below (length book) (tree_of h.lineage) ≡ true) hit rest all
    among (h ∷ before) all = among before (All-tail (λ h. names_below (length book) (tree_of h.lineage) ≡ true) h (before ++ hit ∷ rest) all)

pub with_more : (book : Book) (hs : List RawHit) (h : RawHit) → names_below (length book) (tree_of h.lineage) ≡ true
    → with_hits book hs ++ lists_of (with_hits book hs) (tree_of h.lineage) ∷ [] ≡ with_hits book (hs ++ h ∷ [])
with_more book hs h names =
    let told : RawHit → List (List Held) = λ h. lists_of book (tree_of h.lineage) in
    ap (λ (ls : List (List Held)). with_hits book hs ++ ls ∷ []) (same_later book (map told hs) (tree_of h.lineage) names)
    ∙ append_assoc book (map told hs) (told h ∷ []) ∙ ap (λ (ls : Book). book ++ ls) (sym (map-append told hs (h ∷ [])))

-- ---- the trees of a cut

each_known : (P : List Tree → RawHit → Type 0) (Q : RawHit → Type 0) → ((h : RawHit) → ((after : List Tree) → P after h) → Q h) → (hs : List RawHit) → ((after : List Tree) → All (P after) hs) → All Q hs
each_known P Q goes [] all = All-nil Q
each_known P Q goes (h ∷ hs) all = All-cons Q h hs (goes h (λ after. All-head (P after) h hs (all after))) (each_known P Q goes hs (λ after. All-tail (P after) h hs (all after)))

module _ (schema : Declarations) (table : Contents) (plan : Plan) (limit : ℕ) (old new : Book) (hs : List RawHit) (are : AreCut schema plan limit old new hs table) where
  abbrev known : List Tree
  known = trees_for old ++ booked schema table plan

  new_is : new ≡ lists_each known
  new_is = are.gains ∙ ap (λ (b : Book). b ++ lists_each (booked schema table plan)) (sym (trees_told old)) ∙ sym (map-append (lists_of []) (trees_for old) (booked schema table plan))

  known_count : length known ≡ length new
  known_count = sym (ap length new_is ∙ length-map known (lists_of []))

  in_place : (after : List Tree) → All (λ h. filled (tree_in (known ++ after)) (tree_of h.lineage) ≡ plan_tree schema table plan h.key) hs
  in_place after =
      subst (λ (ts : List Tree). All (λ h. filled (tree_in ts) (tree_of h.lineage) ≡ plan_tree schema table plan h.key) hs) (sym (append_assoc (trees_for old) (booked schema table plan) after))
      (are.trees (trees_for old) after (trees_count old))

  names_of : (h : RawHit) → ((after : List Tree) → filled (tree_in (known ++ after)) (tree_of h.lineage) ≡ plan_tree schema table plan h.key) → names_below (length new) (tree_of h.lineage) ≡ true
  names_of h told = subst (λ n. names_below n (tree_of h.lineage) ≡ true) known_count (names_known known (tree_of h.lineage) (λ after. told after ∙ sym (told [])))

  -- they name entries of the book
  pub cut_names : NameEntries new hs
  cut_names = each_known (λ after h. filled (tree_in (known ++ after)) (tree_of h.lineage) ≡ plan_tree schema table plan h.key) (λ h. names_below (length new) (tree_of h.lineage) ≡ true) names_of hs in_place

  new_at : (m : ℕ) → m < length new → get_or new m [] ≡ lists_of [] (tree_in (known ++ []) m)
  new_at m below = ap (λ (b : Book). get_or b m []) new_is ∙ told_at known m ∙ ap (λ (ts : List Tree). lists_of [] (tree_in ts m)) (sym (append-nil known))

  -- and stand for what the plan's trees do
  pub cut_told : All (λ h. lists_of new (tree_of h.lineage) ≡ lists_of [] (plan_tree schema table plan h.key)) hs
  cut_told =
      each_known (λ after h. filled (tree_in (known ++ after)) (tree_of h.lineage) ≡ plan_tree schema table plan h.key) (λ h. lists_of new (tree_of h.lineage) ≡ lists_of [] (plan_tree schema table plan h.key))
      (λ h told. lists_filled new (known ++ []) (length new) new_at (tree_of h.lineage) (names_of h told) ∙ ap (lists_of []) (told [])) hs in_place

-- ---- the hits by the numbers of their entries

keys_numbered : (number : ℕ) (hs : List RawHit) → map (λ (hit : InnerHit). hit.key) (numbered number hs) ≡ keys_of hs
keys_numbered number [] = refl
keys_numbered number (h ∷ hs) = ap (λ (ks : List DocKey). h.key ∷ ks) (keys_numbered (number + 1) hs)

entries_are : (tree : DocKey → Tree) (front after : List Tree) (hs : List RawHit) (number : ℕ) → number ≡ length front
    → All (λ (hit : InnerHit). tree_in (front ++ (map tree (keys_of hs) ++ after)) hit.entry ≡ tree hit.key) (numbered number hs)
entries_are tree front after [] number is = All-nil (λ (hit : InnerHit). tree_in (front ++ ([] ++ after)) hit.entry ≡ tree hit.key)
entries_are tree front after (h ∷ hs) number is =
    let rest : List Tree = map tree (keys_of hs) ++ after in
    All-cons (λ (hit : InnerHit). tree_in (front ++ (tree h.key ∷ rest)) hit.entry ≡ tree hit.key) (record { key = h.key; entry = number }) (numbered (number + 1) hs)
    (ap (λ n. tree_in (front ++ (tree h.key ∷ rest)) n) is ∙ get_or-append_seam front (tree h.key) rest (any_of no_members))
    (subst (λ (ts : List Tree). All (λ (hit : InnerHit). tree_in ts hit.entry ≡ tree hit.key) (numbered (number + 1) hs)) (append_assoc front (tree h.key ∷ []) rest)
    (entries_are tree (front ++ tree h.key ∷ []) after hs (number + 1) (omega (arith, is, length-append front (tree h.key ∷ [])))))

lists_hits : (schema : Declarations) (table : Contents) (plan : Plan) (book : Book) (hs : List RawHit) → All (λ h. lists_of book (tree_of h.lineage) ≡ lists_of [] (plan_tree schema table plan h.key)) hs
    → map (λ (h : RawHit). lists_of book (tree_of h.lineage)) hs ≡ lists_each (map (plan_tree schema table plan) (keys_of hs))
lists_hits schema table plan book [] all = refl
lists_hits schema table plan book (h ∷ hs) all = λ i. All-head (λ (h : RawHit). lists_of book (tree_of h.lineage) ≡ lists_of [] (plan_tree schema table plan h.key)) h hs all i ∷ lists_hits schema table plan book hs (All-tail (λ (h : RawHit). lists_of book (tree_of h.lineage) ≡ lists_of [] (plan_tree schema table plan h.key)) h hs all) i

-- a cut whose trees the book gains
pub inner_are : (schema : Declarations) (table : Contents) (plan : Plan) (limit : ℕ) (old mid new : Book) (hs : List RawHit) (inner : List InnerHit) → AreCut schema plan limit old mid hs table
    → inner ≡ numbered (length mid) hs → new ≡ with_hits mid hs → AreInner schema plan limit old new inner table
inner_are schema table plan limit old mid new hs inner are is grown =
    let trees = booked schema table plan in
    let own = map (plan_tree schema table plan) (cut schema table plan limit) in
    let told = cut_told schema table plan limit old mid hs are in
    record {
      gains = grown ∙ (λ i. are.gains i ++ (lists_hits schema table plan mid hs told ∙ ap (λ (ks : List DocKey). lists_each (map (plan_tree schema table plan) ks)) are.keys) i)
          ∙ append_assoc old (lists_each trees) (lists_each own) ∙ ap (λ (b : Book). old ++ b) (sym (map-append (lists_of []) trees own));
      cuts = λ before after count.
          let front = before ++ trees in
          let count_front : length mid ≡ length front = omega (arith, count, ap length are.gains, length-append old (lists_each trees), length-map trees (lists_of []), length-append before trees) in
          let whole : front ++ (map (plan_tree schema table plan) (keys_of hs) ++ after) ≡ before ++ ((trees ++ own) ++ after) =
          (λ i. front ++ (map (plan_tree schema table plan) (are.keys i) ++ after)) ∙ append_assoc before trees (own ++ after) ∙ ap (λ (ts : List Tree). before ++ ts) (sym (append_assoc trees own after)) in
          record {
            keys = ap (map (λ (hit : InnerHit). hit.key)) is ∙ keys_numbered (length mid) hs ∙ are.keys;
            trees = subst (λ (hits : List InnerHit). All (λ hit. tree_in (before ++ ((trees ++ own) ++ after)) hit.entry ≡ plan_tree schema table plan hit.key) hits) (sym is)
                (subst (λ (ts : List Tree). All (λ (hit : InnerHit). tree_in ts hit.entry ≡ plan_tree schema table plan hit.key) (numbered (length mid) hs)) whole
                (entries_are (plan_tree schema table plan) front after hs (length mid) count_front));
          };
    }
