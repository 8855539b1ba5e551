-- What any of some terms finds, term by term.
use Rattle.std.proofs.Common.{◌≡◌, ◌<◌, ◌+◌, ◌++◌, ℕ, zero, suc, arith, Bool, true, false, not, cond, ◌||◌, List, [], ◌∷◌, Option, None, Some, is_some, map, take, take-suc, drop, get_or, set, length, true≢false, refl, sym, ◌∙◌, ap, subst}
use Rattle.std.specs.List.{cons_option, filter_map, list_any}
use Rattle.std.specs.Ordering.{is_eq}
use Rattle.std.proofs.lemmas.List.{get_or-map, length-map, map-set}
use Rattle.std.proofs.lemmas.List.Edits.{map_over_more}
use Rattle.std.proofs.lemmas.List.Elements.{All-append, All-cons, All-head, All-nil, All-tail}
use Rattle.uni_base.specs.declared.entity.DocKey.{DocKey}
use Rattle.uni_base.specs.Cursors.{is_before, keys_from, IsRanked}
use Rattle.uni_base.specs.KeySets.{has_key, united}
use Rattle.uni_base.specs.RankOrder.{doc_cmp}
use Rattle.uni_base.proofs.RankedLemmas.{same_from_is_eq}
use Rattle.uni_base.proofs.UnitedLemmas.{has_key-united, united-filter, IsRanked-united}
use Rattle.query_tree.specs.declared.kind.ListKind.TheVariants.{Or}
use Rattle.lineage_tree.specs.declared.lineage.Lineage.{Lineage}
use Rattle.lineage_tree.specs.Tree.{Tree, any_of, forest_of, tree_of}
use Rattle.shard_eval.specs.declared.witness.Postings.{Postings}
use Rattle.shard_eval.specs.Found.{Found, first_at, found_from, found_keys, is_at, tree_at, trees_at, KeepsLater}
use Rattle.shard_eval.specs.Grouped.{found_any}
use Rattle.shard_eval.specs.Kept.{found_at}
use Rattle.shard_eval.specs.Sources.{AreRanked}
use Rattle.shard_eval.specs.Witnesses.{found_postings}
use Rattle.shard_eval.proofs.FoundLists.{has_tree, keeps_from, keys_found_from, tree_here}
use Rattle.shard_eval.proofs.KeptRanked.{keys_of_list}

-- ---- the tree of an entity

-- any of some trees, if there is one
abbrev pub any_if : List Tree → Option Tree
any_if [] = None
any_if (tree ∷ trees) = Some (any_of (forest_of (tree ∷ trees)))

abbrev has_some : List Tree → Bool
has_some [] = false
has_some (tree ∷ trees) = true

-- some list has a key exactly where there is a tree of it
some_has : (lists : List (List Found)) (k : DocKey) → list_any (λ ks. has_key ks k) (map found_keys lists) ≡ has_some (trees_at lists k)
some_has [] k = refl
some_has (fs ∷ lists) k = over (tree_at fs k) (has_tree fs k) (some_has lists k)
  where
    over : (t : Option Tree) → is_some t ≡ has_key (found_keys fs) k → list_any (λ ks. has_key ks k) (map found_keys lists) ≡ has_some (trees_at lists k)
        → (has_key (found_keys fs) k || list_any (λ ks. has_key ks k) (map found_keys lists)) ≡ has_some (cons_option t (trees_at lists k))
    over None e rest = ap (λ b. b || list_any (λ ks. has_key ks k) (map found_keys lists)) (sym e) ∙ rest
    over (Some t) e rest = ap (λ b. b || list_any (λ ks. has_key ks k) (map found_keys lists)) (sym e)

-- the tree of a key that is among those that are kept
at_kept : (lists : List (List Found)) (ks : List DocKey) (k : DocKey) → tree_at (map (found_at Or lists) ks) k ≡ cond (has_key ks k) (Some (any_of (forest_of (trees_at lists k)))) None
at_kept lists [] k = refl
at_kept lists (x ∷ ks) k = over (is_eq (doc_cmp x k)) refl (at_kept lists ks k)
  where
    over : (b : Bool) → is_eq (doc_cmp x k) ≡ b → tree_at (map (found_at Or lists) ks) k ≡ cond (has_key ks k) (Some (any_of (forest_of (trees_at lists k)))) None
        → cond b (Some (any_of (forest_of (trees_at lists x)))) (tree_at (map (found_at Or lists) ks) k) ≡ cond (b || has_key ks k) (Some (any_of (forest_of (trees_at lists k)))) None
    over true at rest = ap (λ (y : DocKey). Some (any_of (forest_of (trees_at lists y)))) (same_from_is_eq x k at)
    over false at rest = rest

pub any_tree : (lists : List (List Found)) (k : DocKey) → tree_at (found_any lists) k ≡ any_if (trees_at lists k)
any_tree lists k =
    at_kept lists (united (map found_keys lists)) k
    ∙ ap (λ b. cond b (Some (any_of (forest_of (trees_at lists k)))) None) (has_key-united (map found_keys lists) k ∙ some_has lists k)
    ∙ over (trees_at lists k)
  where
    over : (trees : List Tree) → cond (has_some trees) (Some (any_of (forest_of trees))) None ≡ any_if trees
    over [] = refl
    over (tree ∷ trees) = refl

-- where there is no tree, and where there are some
pub no_tree : (trees : List Lineage) → length trees ≡ 0 → any_if (map tree_of trees) ≡ None
no_tree [] none = refl
no_tree (tree ∷ trees) none = absurd (omega (arith, none))

pub some_tree : (trees : List Lineage) → 0 < length trees → Some (any_of (forest_of (map tree_of trees))) ≡ any_if (map tree_of trees)
some_tree [] some = absurd (omega (arith, some))
some_tree (tree ∷ trees) some = refl

-- ---- from a key on

-- nothing that does not come before the key is passed
kept : (fs : List Found) (key k : DocKey) → is_before k key ≡ false → tree_at (found_from key fs) k ≡ tree_at fs k
kept [] key k stays = refl
kept (f ∷ fs) key k stays = over (kept fs key k stays) (is_before f.key key) refl
  where
    apart : (b : Bool) → is_at k f ≡ b → is_before f.key key ≡ true → is_at k f ≡ false
    apart true at passed = absurd (true≢false (sym passed ∙ ap (λ x. is_before x key) (same_from_is_eq f.key k at) ∙ stays))
    apart false at passed = at

    over : tree_at (found_from key fs) k ≡ tree_at fs k → (b : Bool) → is_before f.key key ≡ b → tree_at (cond (not b) (f ∷ found_from key fs) (found_from key fs)) k ≡ tree_at (f ∷ fs) k
    over rest true passed = rest ∙ sym (ap (λ b. cond b (Some f.tree) (tree_at fs k)) (apart (is_at k f) refl passed))
    over rest false here = ap (λ (x : Option Tree). cond (is_at k f) (Some f.tree) x) rest

trees_kept : (lists : List (List Found)) (key k : DocKey) → is_before k key ≡ false → trees_at (map (found_from key) lists) k ≡ trees_at lists k
trees_kept [] key k stays = refl
trees_kept (fs ∷ lists) key k stays = λ i. cons_option (kept fs key k stays i) (trees_kept lists key k stays i)

keys_kept : (lists : List (List Found)) (key : DocKey) → map found_keys (map (found_from key) lists) ≡ map (keys_from key) (map found_keys lists)
keys_kept [] key = refl
keys_kept (fs ∷ lists) key = λ i. keys_found_from key fs i ∷ keys_kept lists key i

kept_alike : (lists : List (List Found)) (key : DocKey) (ks : List DocKey) → map (found_at Or (map (found_from key) lists)) (keys_from key ks) ≡ found_from key (map (found_at Or lists) ks)
kept_alike lists key [] = refl
kept_alike lists key (k ∷ ks) = over (kept_alike lists key ks) (is_before k key) refl
  where
    over : map (found_at Or (map (found_from key) lists)) (keys_from key ks) ≡ found_from key (map (found_at Or lists) ks) → (b : Bool) → is_before k key ≡ b
        → map (found_at Or (map (found_from key) lists)) (cond (not b) (k ∷ keys_from key ks) (keys_from key ks))
        ≡ cond (not b) (found_at Or lists k ∷ found_from key (map (found_at Or lists) ks)) (found_from key (map (found_at Or lists) ks))
    over rest true passed = rest
    over rest false stays = λ i. record { key = k; tree = any_of (forest_of (trees_kept lists key k stays i)) } ∷ rest i

-- any of what is found from the key on is what any finds from there on
any_from : (lists : List (List Found)) (key : DocKey) → found_any (map (found_from key) lists) ≡ found_from key (found_any lists)
any_from lists key =
    ap (map (found_at Or (map (found_from key) lists))) (ap united (keys_kept lists key) ∙ united-filter (λ k. not (is_before k key)) (map found_keys lists))
    ∙ kept_alike lists key (united (map found_keys lists))

pub any_keeps : (lists : List (List Found)) (key : DocKey) → KeepsLater key (found_any lists) (found_any (map (found_from key) lists))
any_keeps lists key = subst (KeepsLater key (found_any lists)) (sym (any_from lists key))
    (keeps_from key (found_any lists) (subst IsRanked (sym (keys_of_list Or [] lists)) (IsRanked-united (map found_keys lists))))

-- and the trees at the key stand first
pub trees_first : (lists : List (List Found)) (key : DocKey) → AreRanked lists → filter_map (first_at key) (map (found_from key) lists) ≡ trees_at lists key
trees_first [] key ranked = refl
trees_first (fs ∷ lists) key ranked =
    let here = tree_here fs key (All-head (λ (gs : List Found). IsRanked (found_keys gs)) fs lists ranked) in
    let rest = trees_first lists key (All-tail (λ (gs : List Found). IsRanked (found_keys gs)) fs lists ranked) in
    λ i. cons_option (sym here i) (rest i)

-- ---- a loop that passes what stands before a key, term by term

untouched : {X : Type 0} (f : X → X) (xs : List X) (i : ℕ) (d : X) → get_or (map f (take i xs) ++ drop i xs) i d ≡ get_or xs i d
untouched f [] zero d = refl
untouched f [] (suc i) d = refl
untouched f (x ∷ xs) zero d = refl
untouched f (x ∷ xs) (suc i) d = untouched f xs i d

module _ (key : DocKey) (olds nows : List Postings) (i : ℕ) (old : Postings) (count : length nows ≡ length olds) (within : i < length olds)
    (before : map found_postings nows ≡ map (found_from key) (take i (map found_postings olds)) ++ drop i (map found_postings olds)) (is : old ≡ get_or nows i old) where
  pub moved_more : (new : Postings) → found_postings new ≡ found_from key (found_postings old)
      → map found_postings (set nows i new) ≡ map (found_from key) (take (i + 1) (map found_postings olds)) ++ drop (i + 1) (map found_postings olds)
  moved_more new moves =
      map-set found_postings nows i new
      ∙ ap (set (map found_postings nows) i) moves
      ∙ map_over_more (found_from key) (map found_postings olds) (map found_postings nows) i (found_postings old) (omega (arith, within, length-map olds found_postings)) before
      (ap found_postings is ∙ sym (get_or-map found_postings nows i old (found_postings old) (omega (arith, within, count))))

  pub ranked_more : IsRanked (found_keys (found_postings old)) → AreRanked (take i (map found_postings olds)) → AreRanked (take (i + 1) (map found_postings olds))
  ranked_more ranked all =
      let at : found_postings old ≡ get_or (map found_postings olds) i [] =
      ap found_postings is ∙ sym (get_or-map found_postings nows i old [] (omega (arith, within, count))) ∙ ap (λ (ls : List (List Found)). get_or ls i []) before
      ∙ untouched (found_from key) (map found_postings olds) i [] in
      let more : take (i + 1) (map found_postings olds) ≡ take i (map found_postings olds) ++ found_postings old ∷ [] =
      ap (λ n. take n (map found_postings olds)) (let e : i + 1 ≡ suc i = omega arith in e) ∙ take-suc (map found_postings olds) i [] (omega (arith, within, length-map olds found_postings))
      ∙ ap (λ (fs : List Found). take i (map found_postings olds) ++ fs ∷ []) (sym at) in
      subst AreRanked (sym more) (All-append (λ (fs : List Found). IsRanked (found_keys fs)) (take i (map found_postings olds)) (found_postings old ∷ []) all
      (All-cons (λ (fs : List Found). IsRanked (found_keys fs)) (found_postings old) [] ranked (All-nil (λ (fs : List Found). IsRanked (found_keys fs)))))
