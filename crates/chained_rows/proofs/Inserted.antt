-- An entry that is put in its place among entries whose keys ascend, and one that is taken out.
use Rattle.std.proofs.Common.{◌≡◌, Bool, true, false, List, [], ◌∷◌, Option, None, Some, cond, refl, sym, ◌∙◌, ap, length, ◌+◌, arith, if◌then◌else◌, filter}
use Rattle.std.specs.Cmp.{IsTotalOrder}
use Rattle.std.specs.declared.cmp.Ordering.{Ordering}
use Rattle.std.specs.declared.cmp.Ordering.TheVariants.{Less, Equal, Greater}
use Rattle.std.specs.Ordering.{is_eq, match_ordering, ordering_reverse}
use Rattle.std.specs.List.{AllByRecursion}
use Rattle.std.specs.List.Sorted.{IsStrictlySortedBy, IsPermutation}
use Rattle.std.specs.Map.{keys_of, lookup, remove_entry}
use Rattle.std.specs.BTreeMap.{insert_entry, is_at}
use Rattle.std.proofs.lemmas.List.Sorted.{IsPermutation-refl, IsPermutation-cons, IsPermutation-trans, IsPermutation-append_left, IsPermutation-append_comm, length_permutation}
use Rattle.std.proofs.lemmas.Map.{NonePasses}
use Rattle.std.proofs.lemmas.Map.Keys.{sorted_head, sorted_tail}
use Rattle.chained_rows.proofs.Compared.{equal_from, flip, sorted_nil, sorted_cons, all_wider}

module _ {K X : Type 0} {cmp : K → K → Ordering} (o : IsTotalOrder cmp) (k : K) (v : X) where
  all-insert_entry : (P : K → Type 0) (es : List (K × X)) → P k → AllByRecursion P (keys_of es) → AllByRecursion P (keys_of (insert_entry cmp es k v))
  all-insert_entry P [] here all = (here, tt)
  all-insert_entry P (e ∷ es) here all =
      elim (cmp k e.0) as (λ r. AllByRecursion P (keys_of (match_ordering r ((k, v) ∷ e ∷ es) ((e.0, v) ∷ es) (e ∷ insert_entry cmp es k v)))) [
        | Less ↦ (here, all)
        | Equal ↦ all
        | Greater ↦ (all.0, all-insert_entry P es here all.1)
      ]

  -- the keys ascend as before
  pub sorted-insert_entry : (es : List (K × X)) → IsStrictlySortedBy cmp (keys_of es) → IsStrictlySortedBy cmp (keys_of (insert_entry cmp es k v))
  sorted-insert_entry [] sorted = sorted_cons cmp k [] tt (sorted_nil cmp)
  sorted-insert_entry (e ∷ es) sorted = by (cmp k e.0) refl (sorted-insert_entry es (sorted_tail cmp e.0 (keys_of es) sorted))
    where
      past : AllByRecursion (λ y. cmp e.0 y ≡ Less) (keys_of es)
      past = sorted_head cmp e.0 (keys_of es) sorted

      by : (r : Ordering) → cmp k e.0 ≡ r → IsStrictlySortedBy cmp (keys_of (insert_entry cmp es k v))
          → IsStrictlySortedBy cmp (keys_of (match_ordering r ((k, v) ∷ e ∷ es) ((e.0, v) ∷ es) (e ∷ insert_entry cmp es k v)))
      by Less at later = sorted_cons cmp k (e.0 ∷ keys_of es) (at, all_wider (λ y. cmp e.0 y ≡ Less) (λ y. cmp k y ≡ Less) (λ y below. o.trans k e.0 y at below) (keys_of es) past) sorted
      by Equal at later = sorted
      by Greater at later =
          sorted_cons cmp e.0 (keys_of (insert_entry cmp es k v)) (all-insert_entry (λ y. cmp e.0 y ≡ Less) es (o.antisymm e.0 k ∙ ap ordering_reverse at) past) later

  -- a look-up finds the entry at its key, and else what it found before
  pub lookup-insert_entry : (q : K) (es : List (K × X)) → lookup (is_at (cmp q)) (insert_entry cmp es k v) ≡ cond (is_at (cmp k) q) (Some v) (lookup (is_at (cmp q)) es)
  lookup-insert_entry q [] = ap (λ b. cond b (Some v) None) (flip o q k)
  lookup-insert_entry q (e ∷ es) = by (cmp k e.0) refl (lookup-insert_entry q es)
    where
      rest : Option X
      rest = lookup (is_at (cmp q)) es

      over : (b c : Bool) → c ≡ b → cond b (Some v) rest ≡ cond c (Some v) (cond b (Some e.1) rest)
      over true true h = refl
      over false false h = refl
      over true false h = cc
      over false true h = cc

      past : (b c : Bool) → is_eq (cmp q e.0) ≡ b → is_eq (cmp k q) ≡ c → cmp k e.0 ≡ Greater → cond b (Some e.1) (cond c (Some v) rest) ≡ cond c (Some v) (cond b (Some e.1) rest)
      past true true f g at =
          let one : cmp k e.0 ≡ Equal = o.congr k q e.0 (equal_from (cmp k q) g) ∙ equal_from (cmp q e.0) f in
          let two : Equal ≡ Greater = sym one ∙ at in
          absurd cc
      past true false f g at = refl
      past false c f g at = refl

      by : (r : Ordering) → cmp k e.0 ≡ r → lookup (is_at (cmp q)) (insert_entry cmp es k v) ≡ cond (is_at (cmp k) q) (Some v) rest
          → lookup (is_at (cmp q)) (match_ordering r ((k, v) ∷ e ∷ es) ((e.0, v) ∷ es) (e ∷ insert_entry cmp es k v)) ≡ cond (is_at (cmp k) q) (Some v) (lookup (is_at (cmp q)) (e ∷ es))
      by Less at later = ap (λ b. cond b (Some v) (lookup (is_at (cmp q)) (e ∷ es))) (flip o q k)
      by Equal at later = over (is_eq (cmp q e.0)) (is_eq (cmp k q)) (ap is_eq (o.congr k e.0 q at) ∙ flip o e.0 q)
      by Greater at later =
          ap (λ found. cond (is_eq (cmp q e.0)) (Some e.1) found) later ∙ past (is_eq (cmp q e.0)) (is_eq (cmp k q)) refl refl at

module _ {K X : Type 0} (cmp : K → K → Ordering) (test : K → Bool) where
  all-remove_entry : (P : K → Type 0) (es : List (K × X)) → AllByRecursion P (keys_of es) → AllByRecursion P (keys_of (remove_entry test es))
  all-remove_entry P [] all = tt
  all-remove_entry P (e ∷ es) all =
      elim (test e.0) as (λ b. AllByRecursion P (keys_of (cond b es (e ∷ remove_entry test es)))) [
        | true ↦ all.1
        | false ↦ (all.0, all-remove_entry P es all.1)
      ]

  -- the keys ascend without one
  pub sorted-remove_entry : (es : List (K × X)) → IsStrictlySortedBy cmp (keys_of es) → IsStrictlySortedBy cmp (keys_of (remove_entry test es))
  sorted-remove_entry [] sorted = sorted_nil cmp
  sorted-remove_entry (e ∷ es) sorted =
      let later = sorted_tail cmp e.0 (keys_of es) sorted in
      elim (test e.0) as (λ b. IsStrictlySortedBy cmp (keys_of (cond b es (e ∷ remove_entry test es)))) [
        | true ↦ later
        | false ↦ sorted_cons cmp e.0 (keys_of (remove_entry test es)) (all-remove_entry (λ y. cmp e.0 y ≡ Less) es (sorted_head cmp e.0 (keys_of es) sorted)) (sorted-remove_entry es later)
      ]

module _ {K X : Type 0} {cmp : K → K → Ordering} (o : IsTotalOrder cmp) (k : K) (v : X) where
  -- where the key is new, the entries are those before and one more
  pub IsPermutation-insert_entry : (es : List (K × X)) → NonePasses (is_at (cmp k)) es → IsPermutation ((k, v) ∷ es) (insert_entry cmp es k v)
  IsPermutation-insert_entry [] none = IsPermutation-refl ((k, v) ∷ [])
  IsPermutation-insert_entry (e ∷ es) none = by (cmp k e.0) refl none.0 (IsPermutation-insert_entry es none.1)
    where
      by : (r : Ordering) → cmp k e.0 ≡ r → is_eq (cmp k e.0) ≡ false → IsPermutation ((k, v) ∷ es) (insert_entry cmp es k v)
          → IsPermutation ((k, v) ∷ e ∷ es) (match_ordering r ((k, v) ∷ e ∷ es) ((e.0, v) ∷ es) (e ∷ insert_entry cmp es k v))
      by Less at apart later = IsPermutation-refl ((k, v) ∷ e ∷ es)
      by Equal at apart later = let same : is_eq Equal ≡ false = ap is_eq (sym at) ∙ apart in absurd cc
      by Greater at apart later =
          IsPermutation-trans ((k, v) ∷ e ∷ es) (e ∷ (k, v) ∷ es) (e ∷ insert_entry cmp es k v)
          (IsPermutation-append_left es ((k, v) ∷ e ∷ []) (e ∷ (k, v) ∷ []) (IsPermutation-append_comm ((k, v) ∷ []) (e ∷ [])))
          (IsPermutation-cons e ((k, v) ∷ es) (insert_entry cmp es k v) later)

  pub length-insert_entry : (es : List (K × X)) → NonePasses (is_at (cmp k)) es → length (insert_entry cmp es k v) ≡ length es + 1
  length-insert_entry es none = omega (arith, length_permutation ((k, v) ∷ es) (insert_entry cmp es k v) (IsPermutation-insert_entry es none))

  -- a key below all stands first
  insert_below : (es : List (K × X)) → AllByRecursion (λ y. cmp k y ≡ Less) (keys_of es) → insert_entry cmp es k v ≡ (k, v) ∷ es
  insert_below [] below = refl
  insert_below (e ∷ es) below = ap (λ r. match_ordering r ((k, v) ∷ e ∷ es) ((e.0, v) ∷ es) (e ∷ insert_entry cmp es k v)) below.0

  -- a filter of entries with a new key among them
  pub filter-insert_entry : (p : K × X → Bool) (es : List (K × X)) → IsStrictlySortedBy cmp (keys_of es) → NonePasses (is_at (cmp k)) es
      → filter p (insert_entry cmp es k v) ≡ (if p (k, v) then insert_entry cmp (filter p es) k v else filter p es)
  filter-insert_entry p [] sorted none = refl
  filter-insert_entry p (e ∷ es) sorted none =
      by (cmp k e.0) refl none.0 (filter-insert_entry p es (sorted_tail cmp e.0 (keys_of es) sorted) none.1)
    where
      past : AllByRecursion (λ y. cmp e.0 y ≡ Less) (keys_of es)
      past = sorted_head cmp e.0 (keys_of es) sorted

      below : (fs : List (K × X)) → AllByRecursion (λ y. cmp k y ≡ Less) (keys_of fs) → AllByRecursion (λ y. cmp k y ≡ Less) (keys_of (filter p fs))
      below [] all = tt
      below (f ∷ fs) all =
          elim (p f) as (λ b. AllByRecursion (λ y. cmp k y ≡ Less) (keys_of (if b then f ∷ filter p fs else filter p fs))) [
            | true ↦ (all.0, below fs all.1)
            | false ↦ below fs all.1
          ]

      over : (a b : Bool) (fs : List (K × X)) → cmp k e.0 ≡ Greater → (if a then e ∷ (if b then insert_entry cmp fs k v else fs) else (if b then insert_entry cmp fs k v else fs))
          ≡ (if b then insert_entry cmp (if a then e ∷ fs else fs) k v else (if a then e ∷ fs else fs))
      over true true fs at = sym (ap (λ r. match_ordering r ((k, v) ∷ e ∷ fs) ((e.0, v) ∷ fs) (e ∷ insert_entry cmp fs k v)) at)
      over true false fs at = refl
      over false b fs at = refl

      by : (r : Ordering) → cmp k e.0 ≡ r → is_eq (cmp k e.0) ≡ false → filter p (insert_entry cmp es k v) ≡ (if p (k, v) then insert_entry cmp (filter p es) k v else filter p es)
          → filter p (match_ordering r ((k, v) ∷ e ∷ es) ((e.0, v) ∷ es) (e ∷ insert_entry cmp es k v)) ≡ (if p (k, v) then insert_entry cmp (filter p (e ∷ es)) k v else filter p (e ∷ es))
      by Less at apart later =
          ap (λ fs. if p (k, v) then fs else filter p (e ∷ es))
          (sym (insert_below (filter p (e ∷ es)) (below (e ∷ es) (at, all_wider (λ y. cmp e.0 y ≡ Less) (λ y. cmp k y ≡ Less) (λ y less. o.trans k e.0 y at less) (keys_of es) past))))
      by Equal at apart later = let same : is_eq Equal ≡ false = ap is_eq (sym at) ∙ apart in absurd cc
      by Greater at apart later =
          ap (λ fs. if p e then e ∷ fs else fs) later ∙ over (p e) (p (k, v)) (filter p es) at
