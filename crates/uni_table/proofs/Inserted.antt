-- An entry that is put in its place among entries whose keys ascend.
use Rattle.std.proofs.Common.{◌≡◌, Bool, true, false, List, [], ◌∷◌, Option, None, Some, cond, refl, sym, ◌∙◌, ap}
use Rattle.std.specs.Cmp.{IsTotalOrder}
use Rattle.std.specs.declared.cmp.Ordering.{Ordering}
use Rattle.std.specs.declared.cmp.Ordering.TheVariants.{Less, Equal, Greater}
use Rattle.std.specs.Ordering.{is_eq, match_ordering, ordering_reverse}
use Rattle.std.specs.List.{AllByRecursion}
use Rattle.std.specs.List.Sorted.{IsStrictlySortedBy}
use Rattle.std.specs.Map.{keys_of, lookup}
use Rattle.std.specs.BTreeMap.{insert_entry, is_at}
use Rattle.std.proofs.lemmas.Map.Keys.{sorted_head, sorted_tail}
use Rattle.uni_table.proofs.Compared.{equal_from}
use Rattle.uni_table.proofs.Placed.{sorted_nil, sorted_cons, all_wider}

turned : (o : Ordering) → is_eq (ordering_reverse o) ≡ is_eq o
turned Less = refl
turned Equal = refl
turned Greater = refl

module _ {K X : Type 0} {cmp : K → K → Ordering} (o : IsTotalOrder cmp) (k : K) (v : X) where
  all-insert_entry : (P : K → Type 0) (es : List (K × X)) → P k → AllByRecursion P (keys_of es) → AllByRecursion P (keys_of (insert_entry cmp es k v))
  all-insert_entry P [] here all = (here, tt)
  all-insert_entry P (e ∷ es) here all =
      elim (cmp k e.0) as (λ r. AllByRecursion P (keys_of (match_ordering r ((k, v) ∷ e ∷ es) ((e.0, v) ∷ es) (e ∷ insert_entry cmp es k v)))) [
        | Less ↦ (here, all)
        | Equal ↦ all
        | Greater ↦ (all.0, all-insert_entry P es here all.1)
      ]

  -- the keys ascend as before
  pub sorted-insert_entry : (es : List (K × X)) → IsStrictlySortedBy cmp (keys_of es) → IsStrictlySortedBy cmp (keys_of (insert_entry cmp es k v))
  sorted-insert_entry [] sorted = sorted_cons cmp k [] tt (sorted_nil cmp)
  sorted-insert_entry (e ∷ es) sorted = by (cmp k e.0) refl (sorted-insert_entry es (sorted_tail cmp e.0 (keys_of es) sorted))
    where
      past : AllByRecursion (λ y. cmp e.0 y ≡ Less) (keys_of es)
      past = sorted_head cmp e.0 (keys_of es) sorted

      by : (r : Ordering) → cmp k e.0 ≡ r → IsStrictlySortedBy cmp (keys_of (insert_entry cmp es k v))
          → IsStrictlySortedBy cmp (keys_of (match_ordering r ((k, v) ∷ e ∷ es) ((e.0, v) ∷ es) (e ∷ insert_entry cmp es k v)))
      by Less at later = sorted_cons cmp k (e.0 ∷ keys_of es) (at, all_wider (λ y. cmp e.0 y ≡ Less) (λ y. cmp k y ≡ Less) (λ y below. o.trans k e.0 y at below) (keys_of es) past) sorted
      by Equal at later = sorted
      by Greater at later =
          sorted_cons cmp e.0 (keys_of (insert_entry cmp es k v)) (all-insert_entry (λ y. cmp e.0 y ≡ Less) es (o.antisymm e.0 k ∙ ap ordering_reverse at) past) later

  flip : (x y : K) → is_eq (cmp x y) ≡ is_eq (cmp y x)
  flip x y = ap is_eq (o.antisymm x y) ∙ turned (cmp y x)

  -- a look-up finds the entry at its key, and else what it found before
  pub lookup-insert_entry : (q : K) (es : List (K × X)) → lookup (is_at (cmp q)) (insert_entry cmp es k v) ≡ cond (is_at (cmp k) q) (Some v) (lookup (is_at (cmp q)) es)
  lookup-insert_entry q [] = ap (λ b. cond b (Some v) None) (flip q k)
  lookup-insert_entry q (e ∷ es) = by (cmp k e.0) refl (lookup-insert_entry q es)
    where
      rest : Option X
      rest = lookup (is_at (cmp q)) es

      over : (b c : Bool) → c ≡ b → cond b (Some v) rest ≡ cond c (Some v) (cond b (Some e.1) rest)
      over true true h = refl
      over false false h = refl
      over true false h = cc
      over false true h = cc

      past : (b c : Bool) → is_eq (cmp q e.0) ≡ b → is_eq (cmp k q) ≡ c → cmp k e.0 ≡ Greater → cond b (Some e.1) (cond c (Some v) rest) ≡ cond c (Some v) (cond b (Some e.1) rest)
      past true true f g at =
          let one : cmp k e.0 ≡ Equal = o.congr k q e.0 (equal_from (cmp k q) g) ∙ equal_from (cmp q e.0) f in
          let two : Equal ≡ Greater = sym one ∙ at in
          absurd cc
      past true false f g at = refl
      past false c f g at = refl

      by : (r : Ordering) → cmp k e.0 ≡ r → lookup (is_at (cmp q)) (insert_entry cmp es k v) ≡ cond (is_at (cmp k) q) (Some v) rest
          → lookup (is_at (cmp q)) (match_ordering r ((k, v) ∷ e ∷ es) ((e.0, v) ∷ es) (e ∷ insert_entry cmp es k v)) ≡ cond (is_at (cmp k) q) (Some v) (lookup (is_at (cmp q)) (e ∷ es))
      by Less at later = ap (λ b. cond b (Some v) (lookup (is_at (cmp q)) (e ∷ es))) (flip q k)
      by Equal at later = over (is_eq (cmp q e.0)) (is_eq (cmp k q)) (ap is_eq (o.congr k e.0 q at) ∙ flip e.0 q)
      by Greater at later =
          ap (λ found. cond (is_eq (cmp q e.0)) (Some e.1) found) later ∙ past (is_eq (cmp q e.0)) (is_eq (cmp k q)) refl refl at
