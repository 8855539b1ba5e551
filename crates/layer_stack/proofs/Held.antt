-- A key among keys in rank order, by halving.
use Rattle.std.proofs.Common.{◌≡◌, ℕ, zero, suc, ◌<◌, Bool, true, false, ◌||◌, List, [], ◌∷◌, length, get_or, refl, ◌∙◌, ap, arith, All}
use Rattle.std.specs.List.{list_any}
use Rattle.std.specs.List.Sorted.{IsNonDecreasingBy}
use Rattle.std.specs.declared.cmp.Ordering.{Ordering}
use Rattle.std.specs.declared.cmp.Ordering.TheVariants.{Less, Equal, Greater}
use Rattle.std.specs.Ordering.{is_eq, ordering_index}
use Rattle.std.proofs.lemmas.List.Elements.{All-head, All-tail}
use Rattle.uni_base.specs.declared.entity.DocKey.{DocKey}
use Rattle.uni_base.specs.Cursors.{IsRanked, is_less}
use Rattle.uni_base.specs.RankOrder.{doc_cmp}
use Rattle.uni_base.specs.KeySets.{has_key}
use Rattle.uni_base.proofs.RankedLemmas.{doc_total}
use Rattle.posting_lists.proofs.Sections.{ranked_at}
use Rattle.layer_base.proofs.Sorted.{rises_about}

any_at : {X : Type 0} (p : X → Bool) (xs : List X) (i : ℕ) (d : X) → i < length xs → p (get_or xs i d) ≡ true → list_any p xs ≡ true
any_at p [] i d fits e = absurd (omega arith)
any_at p (x ∷ xs) zero d fits e = ap (λ b. b || list_any p xs) e
any_at p (x ∷ xs) (suc i) d fits e = by (p x) (any_at p xs i d (omega arith) e)
  where
    by : (b : Bool) → list_any p xs ≡ true → (b || list_any p xs) ≡ true
    by true h = refl
    by false h = h

any_none : {X : Type 0} (p : X → Bool) (xs : List X) → All (λ x. p x ≡ false) xs → list_any p xs ≡ false
any_none p [] all = refl
any_none {X} p (x ∷ xs) all = ap (λ b. b || list_any p xs) (All-head (λ (y : X). p y ≡ false) x xs all) ∙ any_none p xs (All-tail (λ (y : X). p y ≡ false) x xs all)

less_is : (o : Ordering) → is_less o ≡ true → o ≡ Less
less_is Less e = refl
less_is Equal e = cc
less_is Greater e = cc

pub key_held : (keys : List DocKey) (k : DocKey) (i : ℕ) (d : DocKey) → i < length keys → doc_cmp (get_or keys i d) k ≡ Equal → has_key keys k ≡ true
key_held keys k i d fits same = any_at (λ x. is_eq (doc_cmp x k)) keys i d fits (ap is_eq same)

pub key_missed : (keys : List DocKey) (k : DocKey) → All (λ x. is_eq (doc_cmp x k) ≡ false) keys → has_key keys k ≡ false
key_missed keys k = any_none (λ x. is_eq (doc_cmp x k)) keys

pub keys_rise : (keys : List DocKey) (k : DocKey) → IsRanked keys → IsNonDecreasingBy (λ x. ordering_index (doc_cmp x k)) keys
keys_rise keys k ranked = rises_about doc_cmp doc_total (λ x. x) k keys (λ i j d less fits. less_is (doc_cmp (get_or keys i d) (get_or keys j d)) (ranked_at keys i j d ranked less fits))
