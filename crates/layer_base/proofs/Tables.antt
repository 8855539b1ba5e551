-- Tables under layers, by their look-ups.
use Rattle.std.proofs.Common.{◌≡◌, Bool, true, false, cond, not, List, [], ◌∷◌, ◌++◌, reverse, None, Some, refl, sym, ◌∙◌, ap}
use Rattle.std.proofs.lemmas.List.{reverse-append}
use Rattle.std.specs.Cmp.{IsTotalOrder}
use Rattle.std.specs.declared.cmp.Ordering.{Ordering}
use Rattle.std.specs.Ordering.{eq_by_cmp}
use Rattle.std.specs.FinMap as map
use Rattle.std.specs.FinMap.Entries.{find}
use Rattle.layer_base.specs.Lookups.{either}
use Rattle.layer_base.specs.Layers.{TellsApart, Changes, from_log, put_all, layer_over, stack_over}

module _ {K X : Type 0} {R : K → K → Ordering} (o : IsTotalOrder R) where
  pub get-put_all : (es : List (K × X)) (table : map.FinMap R X) (q : K) → map.get (put_all es table) q ≡ either (find R q es) (map.get table q)
  get-put_all [] table q = refl
  get-put_all (e ∷ es) table q =
      map.get-insert o (put_all es table) e.0 e.1 q
      ∙ elim (eq_by_cmp R q e.0) as (λ b. cond b (Some e.1) (map.get (put_all es table) q) ≡ either (cond b (Some e.1) (find R q es)) (map.get table q)) [
        | true ↦ refl
        | false ↦ get-put_all es table q
      ]

  -- what a table under a layer has at a key: what the layer puts there, or else nothing where it
  -- deletes the key, or else what the table has
  pub get-layer_over : TellsApart R → (table : map.FinMap R X) (layer : Changes R X) (q : K)
      → map.get (layer_over table layer) q ≡ either (map.get layer.puts q) (cond (map.contains_key layer.deletes q) None (map.get table q))
  get-layer_over apart table layer q =
      get-put_all (map.entries layer.puts) (map.retain_keys table (λ k. not (map.contains_key layer.deletes k))) q
      ∙ (λ i. either (sym (map.get-entries layer.puts q) i) (kept i))
    where
      kept : map.get (map.retain_keys table (λ k. not (map.contains_key layer.deletes k))) q ≡ cond (map.contains_key layer.deletes q) None (map.get table q)
      kept =
          map.get-retain_keys table (λ k. not (map.contains_key layer.deletes k)) q (λ x e. ap (λ k. not (map.contains_key layer.deletes k)) (sym (apart q x e)))
          ∙ turned (map.contains_key layer.deletes q)
        where
          turned : (b : Bool) → cond (not b) (map.get table q) None ≡ cond b None (map.get table q)
          turned true = refl
          turned false = refl

-- values of one list, and then those of another that stand before it
pub put_all-append : {K X : Type 0} {R : K → K → Ordering} (xs ys : List (K × X)) (m : map.FinMap R X) → put_all (xs ++ ys) m ≡ put_all xs (put_all ys m)
put_all-append [] ys m = refl
put_all-append (x ∷ xs) ys m = ap (λ n. map.insert n x.0 x.1) (put_all-append xs ys m)

from_entries-all : {K X : Type 0} {R : K → K → Ordering} (es : List (K × X)) → map.from_entries {R = R} es ≡ put_all es map.empty
from_entries-all [] = refl
from_entries-all (e ∷ es) = ap (λ n. map.insert n e.0 e.1) (from_entries-all es)

module _ {K X : Type 0} {R : K → K → Ordering} (o : IsTotalOrder R) (apart : TellsApart R) where
  -- to add what a log says of each key is to add its words, one after another
  pub put_all-log : (log : List (K × X)) (m : map.FinMap R X) → put_all (map.entries (from_log {R = R} log)) m ≡ put_all (reverse log) m
  put_all-log log m = map.same_map o apart (put_all (map.entries (from_log {R = R} log)) m) (put_all (reverse log) m) (λ q.
      get-put_all o (map.entries (from_log {R = R} log)) m q
      ∙ ap (λ found. either found (map.get m q)) (sym (map.get-entries (from_log {R = R} log) q) ∙ map.get-from_entries o (reverse log) q)
      ∙ sym (get-put_all o (reverse log) m q))

  -- what a log says, and then another one
  pub from_log-append : (xs ys : List (K × X)) → from_log {R = R} (xs ++ ys) ≡ put_all (map.entries (from_log {R = R} ys)) (from_log xs)
  from_log-append xs ys =
      ap (map.from_entries {R = R}) (reverse-append xs ys)
      ∙ from_entries-all (reverse ys ++ reverse xs)
      ∙ put_all-append (reverse ys) (reverse xs) map.empty
      ∙ ap (put_all (reverse ys)) (sym (from_entries-all (reverse xs)))
      ∙ sym (put_all-log ys (from_log xs))

pub stack_over-append : {K X : Type 0} {R : K → K → Ordering} (table : map.FinMap R X) (older newer : List (Changes R X)) → stack_over table (older ++ newer) ≡ stack_over (stack_over table older) newer
stack_over-append table [] newer = refl
stack_over-append table (layer ∷ older) newer = stack_over-append (layer_over table layer) older newer

pub reverse-push : {X : Type 0} (xs : List X) (x : X) → reverse (xs ++ x ∷ []) ≡ x ∷ reverse xs
reverse-push xs x = reverse-append xs (x ∷ [])

-- one more word of a log
pub from_log-push : {K X : Type 0} {R : K → K → Ordering} (log : List (K × X)) (k : K) (v : X) → from_log {R = R} (log ++ (k, v) ∷ []) ≡ map.insert (from_log log) k v
from_log-push {R = R} log k v = ap (map.from_entries {R = R}) (reverse-push log (k, v))

-- a map of its own entries
pub from_sorted-entries : {K X : Type 0} {R : K → K → Ordering} (m : map.FinMap R X) → map.from_sorted (map.entries m) ≡ m
from_sorted-entries {R = R} m = map.same_entries_map (map.from_sorted (map.entries m)) m (map.entries-from_sorted R (map.entries m) (map.entries_sorted m))
