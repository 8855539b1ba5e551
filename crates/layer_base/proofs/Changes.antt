-- Tables after changes one after another, by their look-ups.
use Rattle.std.proofs.Common.{◌≡◌, Bool, true, false, cond, List, [], ◌∷◌, ◌++◌, map, reverse, Option, None, Some, refl, sym, ◌∙◌, ap, subst, is_some}
use Rattle.std.specs.Cmp.{Equal-is}
use Rattle.std.proofs.lemmas.List.{reverse-append}
use Rattle.std.specs.Prelude.{T}
use Rattle.std.specs.Cmp.{IsTotalOrder}
use Rattle.std.specs.declared.cmp.Ordering.{Ordering}
use Rattle.std.specs.Ordering.{eq_by_cmp}
use Rattle.std.specs.FinMap as finite
use Rattle.std.specs.FinMap.Entries.{find, is_sorted, below_all, same_entries}
use Rattle.layer_base.specs.Lookups.{either}
use Rattle.layer_base.specs.Layers.{TellsApart, Changes, from_log, layer_over}
use Rattle.layer_base.specs.Changes.{set_at, after, deleted, put, in_turn}
use Rattle.layer_base.proofs.Sorted.{both, first, second, find_below}
use Rattle.layer_base.proofs.Tables.{get-layer_over}

-- the answer that a last change gives, or else the older one
abbrev said : {X : Type 0} → Option (Option X) → Option X → Option X
said None older = older
said (Some value) older = value

-- an entry, where a value stands at its key
abbrev pub kept_first : {K X : Type 0} → K → Option X → List (K × X) → List (K × X)
kept_first k None rows = rows
kept_first k (Some v) rows = (k, v) ∷ rows

-- the keys that have a value, with it
abbrev pub kept : {K X : Type 0} → List (K × Option X) → List (K × X)
kept [] = []
kept (c ∷ changes) = kept_first c.0 c.1 (kept changes)

pub kept-append : {K X : Type 0} (cs ds : List (K × Option X)) → kept (cs ++ ds) ≡ kept cs ++ kept ds
kept-append [] ds = refl
kept-append {K} {X} (c ∷ cs) ds =
    elim c.1 as (λ v. kept_first c.0 v (kept (cs ++ ds)) ≡ kept_first c.0 v (kept cs) ++ kept ds) [
      | None ↦ kept-append cs ds
      | Some x ↦ ap (λ rows. (c.0, x) ∷ rows) (kept-append cs ds)
    ]

pub find-append : {K X : Type 0} (R : K → K → Ordering) (q : K) (xs ys : List (K × X)) → find R q (xs ++ ys) ≡ either (find R q xs) (find R q ys)
find-append R q [] ys = refl
find-append R q (x ∷ xs) ys =
    elim (eq_by_cmp R q x.0) as (λ b. cond b (Some x.1) (find R q (xs ++ ys)) ≡ either (cond b (Some x.1) (find R q xs)) (find R q ys)) [
      | true ↦ refl
      | false ↦ find-append R q xs ys
    ]

module _ {K X : Type 0} {R : K → K → Ordering} (o : IsTotalOrder R) where
  pub get-set_at : (table : finite.FinMap R X) (k : K) (value : Option X) (q : K) → finite.get (set_at table k value) q ≡ cond (eq_by_cmp R q k) value (finite.get table q)
  get-set_at table k None q = finite.get-remove o table k q
  get-set_at table k (Some v) q = finite.get-insert o table k v q

  pub get-after : (changes : List (K × Option X)) (table : finite.FinMap R X) (q : K) → finite.get (after table changes) q ≡ said (find R q (reverse changes)) (finite.get table q)
  get-after [] table q = refl
  get-after (c ∷ changes) table q =
      get-after changes (set_at table c.0 c.1) q ∙ ap (said (find R q (reverse changes))) (get-set_at table c.0 c.1 q)
      ∙ by (find R q (reverse changes)) (eq_by_cmp R q c.0)
      ∙ ap (λ a. said a (finite.get table q)) (sym (ap (find R q) (reverse-append (c ∷ []) changes) ∙ find-append R q (reverse changes) (c ∷ [])))
    where
      by : (a : Option (Option X)) (b : Bool) → said a (cond b c.1 (finite.get table q)) ≡ said (either a (cond b (Some c.1) None)) (finite.get table q)
      by None true = refl
      by None false = refl
      by (Some w) b = refl

  -- ---- what a log leaves

  below-kept : (k : K) (es : List (K × Option X)) → T (below_all R k es) → T (below_all R k (kept es))
  below-kept k [] below = tt
  below-kept k (e ∷ es) below =
      elim e.1 as (λ v. T (below_all R k (kept_first e.0 v (kept es)))) [
        | None ↦ below-kept k es (second _ _ below)
        | Some x ↦ both _ _ (first _ _ below) (below-kept k es (second _ _ below))
      ]

  sorted-kept : (es : List (K × Option X)) → T (is_sorted R es) → T (is_sorted R (kept es))
  sorted-kept [] sorted = tt
  sorted-kept (e ∷ es) sorted =
      elim e.1 as (λ v. T (is_sorted R (kept_first e.0 v (kept es)))) [
        | None ↦ sorted-kept es (second _ _ sorted)
        | Some x ↦ both _ _ (below-kept e.0 es (first _ _ sorted)) (sorted-kept es (second _ _ sorted))
      ]

  module _ (apart : TellsApart R) where
    find-kept : (q : K) (es : List (K × Option X)) → T (is_sorted R es) → find R q (kept es) ≡ said (find R q es) None
    find-kept q [] sorted = refl
    find-kept q (e ∷ es) sorted = by e.1 (eq_by_cmp R q e.0) refl (find-kept q es (second _ _ sorted))
      where
        by : (v : Option X) (b : Bool) → eq_by_cmp R q e.0 ≡ b → find R q (kept es) ≡ said (find R q es) None → find R q (kept_first e.0 v (kept es)) ≡ said (cond b (Some v) (find R q es)) None
        by None true t rest =
            let is : q ≡ e.0 = apart q e.0 ((Equal-is (R q e.0)).0 t) in
            rest ∙ ap (λ f. said f None) (find_below R q es (subst (λ (k : K). T (below_all R k es)) (sym is) (first _ _ sorted)))
        by None false t rest = rest
        by (Some x) true t rest = ap (λ b. cond b (Some x) (find R q (kept es))) t
        by (Some x) false t rest = ap (λ b. cond b (Some x) (find R q (kept es))) t ∙ rest

    pub rows_left_are : (log words : List (K × Option X)) → words ≡ finite.entries (from_log {R = R} log) → kept words ≡ finite.entries (after {R = R} finite.empty log)
    rows_left_are log words is =
        same_entries R o apart (kept words) (finite.entries (after {R = R} finite.empty log)) (sorted-kept words sorted) (finite.entries_sorted (after {R = R} finite.empty log))
        (λ q. find-kept q words sorted
        ∙ ap (λ a. said a None) (ap (find R q) is ∙ sym (finite.get-entries (from_log {R = R} log) q) ∙ finite.get-from_entries o (reverse log) q)
        ∙ ap (said (find R q (reverse log))) (sym (finite.get-empty R q)) ∙ sym (get-after log finite.empty q) ∙ finite.get-entries (after {R = R} finite.empty log) q)
      where
        sorted : T (is_sorted R words)
        sorted = subst (λ es. T (is_sorted R es)) (sym is) (finite.entries_sorted (from_log {R = R} log))

    -- ---- the changes of a layer

    get-puts : (es : List (K × X)) (table : finite.FinMap R X) (q : K) → T (is_sorted R es) → finite.get (after table (map put es)) q ≡ either (find R q es) (finite.get table q)
    get-puts [] table q sorted = refl
    get-puts (e ∷ es) table q sorted =
        get-puts es (finite.insert table e.0 e.1) q (second _ _ sorted) ∙ ap (either (find R q es)) (finite.get-insert o table e.0 e.1 q) ∙ by (eq_by_cmp R q e.0) refl
      where
        by : (b : Bool) → eq_by_cmp R q e.0 ≡ b → either (find R q es) (cond b (Some e.1) (finite.get table q)) ≡ either (cond b (Some e.1) (find R q es)) (finite.get table q)
        by true t =
            let is : q ≡ e.0 = apart q e.0 ((Equal-is (R q e.0)).0 t) in
            ap (λ f. either f (Some e.1)) (find_below R q es (subst (λ (k : K). T (below_all R k es)) (sym is) (first _ _ sorted)))
        by false t = refl

  get-deletes : (ds : List (K × Unit {0})) (table : finite.FinMap R X) (q : K) → finite.get (after table (map deleted ds)) q ≡ cond (is_some (find R q ds)) None (finite.get table q)
  get-deletes [] table q = refl
  get-deletes (d ∷ ds) table q =
      get-deletes ds (finite.remove table d.0) q ∙ ap (cond (is_some (find R q ds)) None) (finite.get-remove o table d.0 q) ∙ by (eq_by_cmp R q d.0) (find R q ds)
    where
      by : (b : Bool) (f : Option (Unit {0})) → cond (is_some f) None (cond b None (finite.get table q)) ≡ cond (is_some (cond b (Some d.1) f)) None (finite.get table q)
      by true None = refl
      by true (Some u) = refl
      by false f = refl

pub after-append : {K X : Type 0} {R : K → K → Ordering} (table : finite.FinMap R X) (cs ds : List (K × Option X)) → after table (cs ++ ds) ≡ after (after table cs) ds
after-append table [] ds = refl
after-append table (c ∷ cs) ds = after-append (set_at table c.0 c.1) cs ds

-- a table after the changes of a layer in their turn is the table under the layer
pub after-in_turn : {K X : Type 0} {R : K → K → Ordering} → IsTotalOrder R → TellsApart R → (table : finite.FinMap R X) (layer : Changes R X) → after table (in_turn layer) ≡ layer_over table layer
after-in_turn {R = R} o apart table layer =
    after-append table (map deleted (finite.entries layer.deletes)) (map put (finite.entries layer.puts))
    ∙ finite.same_map o apart (after (after table (map deleted (finite.entries layer.deletes))) (map put (finite.entries layer.puts))) (layer_over table layer)
    (λ q. get-puts o apart (finite.entries layer.puts) (after table (map deleted (finite.entries layer.deletes))) q (finite.entries_sorted layer.puts)
    ∙ (λ i. either (sym (finite.get-entries layer.puts q) i) (get-deletes o (finite.entries layer.deletes) table q i))
    ∙ ap (λ d. either (finite.get layer.puts q) (cond (is_some d) None (finite.get table q))) (sym (finite.get-entries layer.deletes q))
    ∙ sym (get-layer_over o apart table layer q))
