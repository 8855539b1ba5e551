-- Halves come together and apart, and entries are added, under the rule.
use Rattle.std.proofs.Common.{◌≡◌, ◌≢◌, ℕ, zero, suc, List, [], ◌∷◌, ◌++◌, get_or, set, refl, sym, ap, ◌∙◌, subst, ⊎_elim, arith, Option, Some, None}
use Rattle.std.proofs.lemmas.List.Sums.{sum_by_push}
use mathlib.Core.Option.{none, some, some-injective, some-ne-none}
use lib.ListN.{get_elem?}
use lib.Seq.{set-get_or}
use Rattle.atomic_table.specs.Table.{State, Me, Allows, Splits, Joins, keeps, opening, step}
use Rattle.atomic_table.proofs.Lists.{at_set, at_snoc, set_else}
use Rattle.twin_list.specs.declared.law.Part.{Part}
use Rattle.twin_list.specs.declared.law.Part.TheVariants.{Spent, One, Both}
use Rattle.twin_list.specs.declared.law.View.{View}
use Rattle.twin_list.specs.Law.{halves, halves_of, PartFits, Fits, Kept, opening_view}
use Rattle.twin_list.specs.Steps.{apart, together, spent, with_entry, Compares, Adds}
use Rattle.twin_list.proofs.Sums.{sum_changed, sum_pair}

module _ {E : Type 0} where
  -- the table at the start
  pub opens : Kept (opening (0 ∷ []) [] (opening_view {E = E}))
  opens = record {
    log = [];
    two = refl;
    each = λ j v e. subst (Fits []) (only j v e) (refl, refl);
  }
    where
      only : (j : ℕ) (v : View E) → get_elem? (opening_view ∷ []) j ≡ some v → opening_view ≡ v
      only zero v e = some-injective opening_view v e
      only (suc j) v e = absurd (some-ne-none v (sym e))

  fits_by : (log : List E) (v : View E) (part : Part) → v.part ≡ part → Fits log v → PartFits log part v.list v.other
  fits_by log v part is = subst (λ p. PartFits log p v.list v.other) is

  -- the rule after one view has changed that has as many halves as before
  kept : (s : State ℕ (View E)) (k : Kept s) (id : ℕ) (v w : View E) (words : List ℕ) (log : List E) → get_elem? s.views id ≡ some v → halves_of w ≡ halves_of v → Fits log w
      → ((j : ℕ) (u : View E) → j ≢ id → get_elem? s.views j ≡ some u → Fits log u) → Kept record { words = words; homes = s.homes; views = set s.views id w }
  kept s k id v w words log at same mine others = record {
    log = log;
    two = omega (arith, k.two, same, sum_changed halves_of s.views id v w at);
    each = λ j u e. ⊎_elim (λ (t : (j ≡ id) × (w ≡ u)). subst (Fits log) t.1 mine)
        (λ (t : (j ≢ id) × (get_elem? s.views j ≡ some u)). others j u t.0 t.1) (at_set s.views id j w u e);
  }

  -- a load leaves the words as they are
  loaded : (s : State ℕ (View E)) (i : ℕ) (views : List (View E)) → Kept record { words = s.words; homes = s.homes; views = views } → Kept record { words = set s.words i (get_or s.words i 0); homes = s.homes; views = views }
  loaded s i views = subst (λ (ws : List ℕ). Kept record { words = ws; homes = s.homes; views = views }) (sym (set-get_or s.words i 0))

  -- where a view has both halves, any other one has none, and fits any list
  none_beside : (s : State ℕ (View E)) (k : Kept s) (id : ℕ) (v : View E) (log : List E) → get_elem? s.views id ≡ some v → v.part ≡ Both → (j : ℕ) (u : View E) → j ≢ id → get_elem? s.views j ≡ some u → Fits log u
  none_beside s k id v log at both j u far there = by u.part refl
    where
      by : (part : Part) → u.part ≡ part → PartFits log u.part u.list u.other
      by Spent is = subst (λ p. PartFits log p u.list u.other) (sym is) tt
      by One is = absurd (omega (arith, sum_pair halves_of s.views id j v u at there far, k.two, ap halves both, ap halves is))
      by Both is = absurd (omega (arith, sum_pair halves_of s.views id j v u at there far, k.two, ap halves both, ap halves is))

  -- what both halves know is compared
  pub compares : (slots id : ℕ) (me : Me ℕ (View E)) → me.0.part ≡ Both → Allows Kept slots id me 0 (λ n. n) (Compares (step slots 0 0 0 none) me)
  compares slots id me both s k deep at fits =
      let v : View E = me.0 in
      let mine = fits_by k.log v Both both (k.each id v at) in (
        v,
        keeps,
        tt,
        loaded s 0 (set s.views id v) (kept s k id v v s.words k.log at refl (k.each id v at) (λ j u far there. k.each j u there)),
        (λ _. (mine.1 ∙ sym mine.0, refl)),
      )

  -- an entry is added
  pub adds : (slots id : ℕ) (me : Me ℕ (View E)) (said : Option E) (e : E) → me.0.part ≡ Both → said ≡ Some e → Allows Kept slots id me 0 (λ n. n) (Adds said (step slots 0 0 0 none) me)
  adds slots id me said e both says s k deep at fits =
      let v : View E = me.0 in
      let w : View E = with_entry v e in
      let mine = fits_by k.log v Both both (k.each id v at) in
      let longer : v.list ++ e ∷ [] ≡ k.log ++ e ∷ [] = ap (λ l. l ++ e ∷ []) mine.0 in (
        w,
        keeps,
        tt,
        loaded s 0 (set s.views id w) (kept s k id v w s.words (k.log ++ e ∷ []) at (sym (ap halves both)) (longer, longer) (none_beside s k id v (k.log ++ e ∷ []) at both)),
        (λ f is said_is. (mine.1 ∙ sym mine.0, ap (λ x. (with_entry v x, me.1)) (same_said said e f says said_is))),
      )
    where
      entry_of : E → Option E → E
      entry_of d (Some x) = x
      entry_of d None = d

      same_said : (o : Option E) (x y : E) → o ≡ Some x → o ≡ Some y → x ≡ y
      same_said o x y p q = ap (entry_of x) (sym p ∙ q)

  -- both halves are taken apart
  pub parts : (id : ℕ) (v : View E) → v.part ≡ Both → Splits Kept id v (apart v) (apart v)
  parts id v both s k at =
      let w : View E = apart v in
      let mine = fits_by k.log v Both both (k.each id v at) in record {
        log = k.log;
        two = omega (arith, k.two, ap halves both, sum_changed halves_of s.views id v w at, sum_by_push halves_of (set s.views id w) w);
        each = λ j u e. ⊎_elim
            (λ (p : get_elem? (set s.views id w) j ≡ some u).
            ⊎_elim (λ (t : (j ≡ id) × (w ≡ u)). subst (Fits k.log) t.1 mine.0)
            (λ (t : (j ≢ id) × (get_elem? s.views j ≡ some u)). k.each j u t.1) (at_set s.views id j w u p))
            (λ (p : w ≡ u). subst (Fits k.log) p mine.0) (at_snoc (set s.views id w) w u j e);
      }

  -- both halves are put together
  pub joins : (id : ℕ) (v : View E) (other : ℕ) (u : View E) → v.part ≡ One → u.part ≡ One → Joins Kept id v other u (together v u) spent
  joins id v other u one one' s k at far there =
      let w : View E = together v u in
      let was : get_elem? s.views other ≡ some u = sym (set_else s.views id other w far) ∙ there in
      let mine = fits_by k.log v One one (k.each id v at) in
      let theirs = fits_by k.log u One one' (k.each other u was) in
      let middle = set s.views id w in record {
        log = k.log;
        two = omega (arith, k.two, ap halves one, ap halves one', sum_changed halves_of s.views id v w at, sum_changed halves_of middle other u spent there);
        each = λ j x e. ⊎_elim
            (λ (t : (j ≡ other) × (spent ≡ x)). subst (Fits k.log) t.1 tt)
            (λ (t : (j ≢ other) × (get_elem? middle j ≡ some x)).
            ⊎_elim (λ (r : (j ≡ id) × (w ≡ x)). subst (Fits k.log) r.1 (mine, theirs))
            (λ (r : (j ≢ id) × (get_elem? s.views j ≡ some x)). k.each j x r.1) (at_set s.views id j w x t.1))
            (at_set middle other j spent x e);
      }
