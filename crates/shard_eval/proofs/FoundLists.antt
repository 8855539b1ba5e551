-- What is found, read key by key.
use Rattle.std.proofs.Common.{◌≡◌, Bool, true, false, not, cond, ◌||◌, ◌&&◌, ◌==◌, arith, List, [], ◌∷◌, Option, None, Some, is_some, true≢false, refl, sym, ◌∙◌, ap, subst}
use Rattle.std.specs.Ordering.{is_eq}
use Rattle.std.proofs.lemmas.Bool.Decides.{nat_tests}
use Rattle.uni_base.specs.declared.entity.DocKey.{DocKey}
use Rattle.uni_base.specs.Cursors.{is_before, IsRanked, keys_from}
use Rattle.uni_base.specs.KeySets.{has_key}
use Rattle.uni_base.specs.RankOrder.{doc_cmp}
use Rattle.uni_base.proofs.RankedLemmas.{IsBeforeAll, IsBeforeAll-ranked, IsRanked-keys_from, Standing, standing, before, same, after, has_key-before, is_before_trans, is_before_self, is_before_back, is_eq_self, same_from_is_eq, IsBeforeAll-head, IsBeforeAll-tail}
use Rattle.lineage_tree.specs.Tree.{Tree}
use Rattle.shard_eval.specs.Found.{Found, first_at, found_from, found_keys, is_at, tree_at, KeepsLater}

-- there is a tree exactly where the key is found
pub has_tree : (fs : List Found) (k : DocKey) → is_some (tree_at fs k) ≡ has_key (found_keys fs) k
has_tree [] k = refl
has_tree (f ∷ fs) k = over (has_tree fs k) (is_at k f)
  where
    over : is_some (tree_at fs k) ≡ has_key (found_keys fs) k → (b : Bool) → is_some (cond b (Some f.tree) (tree_at fs k)) ≡ (b || has_key (found_keys fs) k)
    over rest true = refl
    over rest false = rest

none_from : {X : Type 0} (x : Option X) → is_some x ≡ false → x ≡ None
none_from None e = refl
none_from (Some x) e = cc

-- none where all keys come after it
pub none_before : (fs : List Found) (k : DocKey) → IsBeforeAll k (found_keys fs) → tree_at fs k ≡ None
none_before fs k all = none_from (tree_at fs k) (has_tree fs k ∙ has_key-before k (found_keys fs) all)

-- the tree at a key stands first of what is found from there on
pub tree_here : (fs : List Found) (k : DocKey) → IsRanked (found_keys fs) → tree_at fs k ≡ first_at k (found_from k fs)
tree_here [] k ranked = refl
tree_here (f ∷ fs) k ranked = over (tree_here fs k ranked.1) (standing f.key k)
  where
    over : tree_at fs k ≡ first_at k (found_from k fs) → Standing f.key k → tree_at (f ∷ fs) k ≡ first_at k (found_from k (f ∷ fs))
    over rest (before lt gt eq qe) = rw (eq, lt) rest
    over rest (same e) = rw (subst (λ x. is_before f.key x ≡ false) e (is_before_self f.key), subst (λ x. is_eq (doc_cmp f.key x) ≡ true) e (is_eq_self f.key)) refl
    over rest (after gt lt eq qe) = rw (lt, eq) (none_before fs k (IsBeforeAll-ranked k f.key (found_keys fs) ranked lt))

-- what is found from a key on is read as before behind it
pub later_from : (fs : List Found) (key k : DocKey) → is_before key k ≡ true → tree_at (found_from key fs) k ≡ tree_at fs k
later_from [] key k lt = refl
later_from (f ∷ fs) key k lt = over (later_from fs key k lt) (is_before f.key key) refl
  where
    not_at : Standing f.key k → is_before f.key k ≡ true → is_at k f ≡ false
    not_at (before l g eq qe) p = eq
    not_at (same e) p = absurd (true≢false (sym p ∙ subst (λ x. is_before f.key x ≡ false) e (is_before_self f.key)))
    not_at (after g l eq qe) p = eq

    over : tree_at (found_from key fs) k ≡ tree_at fs k → (b : Bool) → is_before f.key key ≡ b → tree_at (cond (not b) (f ∷ found_from key fs) (found_from key fs)) k ≡ tree_at (f ∷ fs) k
    over rest true passed = rest ∙ sym (ap (λ b. cond b (Some f.tree) (tree_at fs k)) (not_at (standing f.key k) (is_before_trans f.key key k passed lt)))
    over rest false stays = ap (λ (x : Option Tree). cond (is_at k f) (Some f.tree) x) rest

pub keys_found_from : (key : DocKey) (fs : List Found) → found_keys (found_from key fs) ≡ keys_from key (found_keys fs)
keys_found_from key [] = refl
keys_found_from key (f ∷ fs) = over (keys_found_from key fs) (is_before f.key key)
  where
    over : found_keys (found_from key fs) ≡ keys_from key (found_keys fs) → (b : Bool) → found_keys (cond (not b) (f ∷ found_from key fs) (found_from key fs)) ≡ cond (not b) (f.key ∷ keys_from key (found_keys fs)) (keys_from key (found_keys fs))
    over rest true = rest
    over rest false = ap (λ (ks : List DocKey). f.key ∷ ks) rest

pub keeps_from : (key : DocKey) (fs : List Found) → IsRanked (found_keys fs) → KeepsLater key fs (found_from key fs)
keeps_from key fs ranked = record {
  ranked = subst IsRanked (sym (keys_found_from key fs)) (IsRanked-keys_from key (found_keys fs) ranked);
  later = λ k lt. later_from fs key k lt;
}

-- keys are at one place exactly where their ranks and ids are the same
pub same_place : (a b : DocKey) → is_eq (doc_cmp a b) ≡ (a.rank.0 == b.rank.0 && a.id == b.id)
same_place a b = grind (arith, nat_tests)

-- nothing is passed where all keys come after one
stay_after : (key : DocKey) (fs : List Found) → IsBeforeAll key (found_keys fs) → found_from key fs ≡ fs
stay_after key [] all = refl
stay_after key (f ∷ fs) all =
    rw (is_before_back key f.key (IsBeforeAll-head key f.key (found_keys fs) all)) (ap (λ (gs : List Found). f ∷ gs) (stay_after key fs (IsBeforeAll-tail key f.key (found_keys fs) all)))

-- or where the first does not come before it
pub all_stay : (key : DocKey) (f : Found) (fs : List Found) → IsRanked (found_keys (f ∷ fs)) → is_before f.key key ≡ false → found_from key (f ∷ fs) ≡ f ∷ fs
all_stay key f fs ranked here = over (standing f.key key)
  where
    over : Standing f.key key → found_from key (f ∷ fs) ≡ f ∷ fs
    over (before l g eq qe) = absurd (true≢false (sym l ∙ here))
    over (same e) = rw here (ap (λ (gs : List Found). f ∷ gs) (stay_after key fs (subst (λ k. IsBeforeAll k (found_keys fs)) e ranked.0)))
    over (after g l eq qe) = rw here (ap (λ (gs : List Found). f ∷ gs) (stay_after key fs (IsBeforeAll-ranked key f.key (found_keys fs) ranked here)))

-- what is at a key is not at a later one
pub not_at_before : (f : Found) (key k : DocKey) → is_at key f ≡ true → is_before key k ≡ true → is_at k f ≡ false
not_at_before f key k at lt = subst (λ x. is_eq (doc_cmp x k) ≡ false) (sym (same_from_is_eq f.key key at)) (over (standing key k))
  where
    over : Standing key k → is_eq (doc_cmp key k) ≡ false
    over (before l g eq qe) = eq
    over (same e) = absurd (true≢false (sym lt ∙ subst (λ x. is_before key x ≡ false) e (is_before_self key)))
    over (after g l eq qe) = eq
