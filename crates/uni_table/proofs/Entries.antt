-- Entries whose keys ascend, with some of them taken out.
use Rattle.std.proofs.Common.{◌≡◌, ◌≤◌, ◌+◌, ℕ, Bool, true, false, List, [], ◌∷◌, None, cond, refl, sym, ◌∙◌, ap, arith, length, filter, is_some}
use Rattle.std.proofs.lemmas.Bool.{and_parts}
use Rattle.std.proofs.lemmas.Map.{lookup-none}
use Rattle.std.proofs.lemmas.Map.Entries.{none_below_head}
use Rattle.std.proofs.lemmas.Map.Keys.{sorted_head, sorted_tail}
use Rattle.std.specs.Cmp.{IsTotalOrder}
use Rattle.std.specs.declared.cmp.Ordering.{Ordering}
use Rattle.std.specs.declared.cmp.Ordering.TheVariants.{Less, Equal, Greater}
use Rattle.std.specs.Ordering.{match_ordering}
use Rattle.std.specs.List.{AllByRecursion, list_all}
use Rattle.std.specs.List.Sorted.{IsStrictlySortedBy}
use Rattle.std.specs.Map.{keys_of, lookup, remove_entry}
use Rattle.std.specs.BTreeMap.{insert_entry, is_at}
use Rattle.uni_table.proofs.Placed.{sorted_cons}

module _ {K X : Type 0} where
  -- what holds of each key holds of each that a filter leaves
  all-filter : (P : K → Type 0) (p : K × X → Bool) (es : List (K × X)) → AllByRecursion P (keys_of es) → AllByRecursion P (keys_of (filter p es))
  all-filter P p [] all = tt
  all-filter P p (e ∷ es) all =
      elim (p e) as (λ b. AllByRecursion P (keys_of (cond b (e ∷ filter p es) (filter p es)))) [
        | true ↦ (all.0, all-filter P p es all.1)
        | false ↦ all-filter P p es all.1
      ]

  -- keys that ascend do so where a filter leaves some of them
  pub sorted-filter : (cmp : K → K → Ordering) (p : K × X → Bool) (es : List (K × X)) → IsStrictlySortedBy cmp (keys_of es) → IsStrictlySortedBy cmp (keys_of (filter p es))
  sorted-filter cmp p [] sorted = sorted
  sorted-filter cmp p (e ∷ es) sorted =
      let later = sorted-filter cmp p es (sorted_tail cmp e.0 (keys_of es) sorted) in
      elim (p e) as (λ b. IsStrictlySortedBy cmp (keys_of (cond b (e ∷ filter p es) (filter p es)))) [
        | true ↦ sorted_cons cmp e.0 (keys_of (filter p es)) (all-filter (λ y. cmp e.0 y ≡ Less) p es (sorted_head cmp e.0 (keys_of es) sorted)) later
        | false ↦ later
      ]

  -- what holds of each key holds of each that is left
  all-remove_entry : (P : K → Type 0) (test : K → Bool) (es : List (K × X)) → AllByRecursion P (keys_of es) → AllByRecursion P (keys_of (remove_entry test es))
  all-remove_entry P test [] all = tt
  all-remove_entry P test (e ∷ es) all =
      elim (test e.0) as (λ b. AllByRecursion P (keys_of (cond b es (e ∷ remove_entry test es)))) [
        | true ↦ all.1
        | false ↦ (all.0, all-remove_entry P test es all.1)
      ]

  -- keys that ascend do so without one of them
  pub sorted-remove_entry : (cmp : K → K → Ordering) (test : K → Bool) (es : List (K × X)) → IsStrictlySortedBy cmp (keys_of es) → IsStrictlySortedBy cmp (keys_of (remove_entry test es))
  sorted-remove_entry cmp test [] sorted = sorted
  sorted-remove_entry cmp test (e ∷ es) sorted =
      let rest = sorted_tail cmp e.0 (keys_of es) sorted in
      elim (test e.0) as (λ b. IsStrictlySortedBy cmp (keys_of (cond b es (e ∷ remove_entry test es)))) [
        | true ↦ rest
        | false ↦
            sorted_cons cmp e.0 (keys_of (remove_entry test es)) (all-remove_entry (λ y. cmp e.0 y ≡ Less) test es (sorted_head cmp e.0 (keys_of es) sorted))
            (sorted-remove_entry cmp test es rest)
      ]

  -- a test of each key holds of those that are left
  pub list_all-remove_entry : (test : K → Bool) (q : K × X → Bool) (es : List (K × X)) → list_all q es ≡ true → list_all q (remove_entry test es) ≡ true
  list_all-remove_entry test q [] all = refl
  list_all-remove_entry test q (e ∷ es) all =
      let parts = and_parts (q e) (list_all q es) all in
      elim (test e.0) as (λ b. list_all q (cond b es (e ∷ remove_entry test es)) ≡ true) [
        | true ↦ parts.1
        | false ↦ rw parts.0 (list_all-remove_entry test q es parts.1)
      ]

  -- no more entries pass where one is taken out
  pub count-remove_entry : (test : K → Bool) (p : K × X → Bool) (es : List (K × X)) → length (filter p (remove_entry test es)) ≤ length (filter p es)
  count-remove_entry test p [] = omega arith
  count-remove_entry test p (e ∷ es) = by (test e.0) (p e) refl (count-remove_entry test p es)
    where
      by : (t b : Bool) → p e ≡ b → length (filter p (remove_entry test es)) ≤ length (filter p es)
          → length (filter p (cond t es (e ∷ remove_entry test es))) ≤ length (cond b (e ∷ filter p es) (filter p es))
      by true true is later = omega arith
      by true false is later = omega arith
      by false true is later = rw is (omega arith)
      by false false is later = rw is later

  module _ {cmp : K → K → Ordering} (o : IsTotalOrder cmp) (k : K) (v : X) (test : K → Bool) where
    -- how many entries pass a test of keys
    abbrev passing : List (K × X) → ℕ
    passing es = length (filter (λ e. test e.0) es)

    -- at most one more passes where one is put
    pub count-insert_entry : (es : List (K × X)) → passing (insert_entry cmp es k v) ≤ cond (test k) (passing es + 1) (passing es)
    count-insert_entry [] = by (test k)
      where
        one : List (K × X)
        one = (k, v) ∷ []

        by : (b : Bool) → length (cond b one []) ≤ cond b 1 0
        by true = omega arith
        by false = omega arith
    count-insert_entry (e ∷ es) = by (cmp k e.0) (test k) (test e.0) refl refl (count-insert_entry es)
      where
        by : (r : Ordering) (b c : Bool) → test k ≡ b → test e.0 ≡ c → passing (insert_entry cmp es k v) ≤ cond (test k) (passing es + 1) (passing es)
            → passing (match_ordering r ((k, v) ∷ e ∷ es) ((e.0, v) ∷ es) (e ∷ insert_entry cmp es k v))
            ≤ cond b (length (cond c (e ∷ filter (λ x. test x.0) es) (filter (λ x. test x.0) es)) + 1) (length (cond c (e ∷ filter (λ x. test x.0) es) (filter (λ x. test x.0) es)))
        by Less true true f g later = rw (f, g) (omega arith)
        by Less true false f g later = rw (f, g) (omega arith)
        by Less false true f g later = rw (f, g) (omega arith)
        by Less false false f g later = rw (f, g) (omega arith)
        by Equal true true f g later = rw g (omega arith)
        by Equal true false f g later = rw g (omega arith)
        by Equal false true f g later = rw g (omega arith)
        by Equal false false f g later = rw g (omega arith)
        by Greater true true f g later = let up : passing (insert_entry cmp es k v) ≤ passing es + 1 = rw f at later in rw g (omega (arith, up))
        by Greater true false f g later = let up : passing (insert_entry cmp es k v) ≤ passing es + 1 = rw f at later in rw g up
        by Greater false true f g later = let up : passing (insert_entry cmp es k v) ≤ passing es = rw f at later in rw g (omega (arith, up))
        by Greater false false f g later = let up : passing (insert_entry cmp es k v) ≤ passing es = rw f at later in rw g up

    -- none more passes where one is put in place of one that is there
    pub count-put_again : (es : List (K × X)) → IsStrictlySortedBy cmp (keys_of es) → is_some (lookup (is_at (cmp k)) es) ≡ true → passing (insert_entry cmp es k v) ≡ passing es
    count-put_again [] sorted there = cc
    count-put_again (e ∷ es) sorted there = by (cmp k e.0) (test e.0) refl refl (count-put_again es (sorted_tail cmp e.0 (keys_of es) sorted))
      where
        by : (r : Ordering) (c : Bool) → cmp k e.0 ≡ r → test e.0 ≡ c → (is_some (lookup (is_at (cmp k)) es) ≡ true → passing (insert_entry cmp es k v) ≡ passing es)
            → passing (match_ordering r ((k, v) ∷ e ∷ es) ((e.0, v) ∷ es) (e ∷ insert_entry cmp es k v)) ≡ length (cond c (e ∷ filter (λ x. test x.0) es) (filter (λ x. test x.0) es))
        by Less c at f later =
            let none : lookup (is_at (cmp k)) (e ∷ es) ≡ None = lookup-none (is_at (cmp k)) (e ∷ es) (none_below_head o k e es sorted at) in
            let missing : false ≡ true = sym (ap is_some none) ∙ there in
            absurd cc
        by Equal true at f later = rw f refl
        by Equal false at f later = rw f refl
        by Greater true at f later = let found : is_some (lookup (is_at (cmp k)) es) ≡ true = rw at at there in rw f (omega (arith, later found))
        by Greater false at f later = let found : is_some (lookup (is_at (cmp k)) es) ≡ true = rw at at there in rw f (later found)

module _ {X : Type 0} where
  -- where some items are left out, the others pass what they pass with the reason why they are left
  pub list_all-left : (left old new : X → Bool) → ((x : X) → left x ≡ true → old x ≡ true → new x ≡ true) → (xs : List X) → list_all old xs ≡ true → list_all new (filter left xs) ≡ true
  list_all-left left old new wider [] all = refl
  list_all-left left old new wider (x ∷ xs) all =
      let parts = and_parts (old x) (list_all old xs) all in
      by (left x) refl parts.0 (list_all-left left old new wider xs parts.1)
    where
      by : (b : Bool) → left x ≡ b → old x ≡ true → list_all new (filter left xs) ≡ true → list_all new (cond b (x ∷ filter left xs) (filter left xs)) ≡ true
      by true e here later = rw (wider x e here) later
      by false e here later = later

  -- no more items pass where some are left out
  pub count-filter : (left p : X → Bool) (xs : List X) → length (filter p (filter left xs)) ≤ length (filter p xs)
  count-filter left p [] = omega arith
  count-filter left p (x ∷ xs) = by (left x) (p x) refl (count-filter left p xs)
    where
      by : (b c : Bool) → p x ≡ c → length (filter p (filter left xs)) ≤ length (filter p xs)
          → length (filter p (cond b (x ∷ filter left xs) (filter left xs))) ≤ length (cond c (x ∷ filter p xs) (filter p xs))
      by true true e later = rw e (omega arith)
      by true false e later = rw e later
      by false true e later = omega arith
      by false false e later = later
