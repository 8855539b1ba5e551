-- The rule after one view has changed, or a new one has come.
use Rattle.std.proofs.Common.{◌≡◌, ◌≢◌, ℕ, zero, suc, ◌+◌, ◌<◌, List, [], ◌∷◌, ◌++◌, length, get_or, set, sum_by, refl, sym, ap, ◌∙◌, subst, ⊎_elim, arith, Option, Some}
use Rattle.std.proofs.lemmas.List.Sums.{sum_by_push}
use mathlib.Core.Option.{none, some, some-ne-none, some-injective}
use mathlib.Core.Option as maybe
use lib.ListN.{get_elem?}
use lib.Seq.{set-get_or}
use Rattle.atomic_table.specs.Table.{State}
use Rattle.atomic_table.proofs.Lists.{at_set, at_snoc}
use Rattle.turn_lock.specs.declared.law.View.{View}
use Rattle.turn_lock.specs.declared.law.Stage.{Stage}
use Rattle.turn_lock.specs.declared.law.Stage.TheVariants.{Away}
use Rattle.turn_lock.specs.Law.{Holds, ticketed, turning, has_ticket, in_turn, is_writer, Fits, Ordered, Kept}
use Rattle.turn_lock.proofs.Sums.{sum_set}

module _ {S E : Type 0} (stands_for : S → List E → Type 0) where
  abbrev St : Type 0
  St = State (Option S) (View E)

  abbrev Homes : Type 0
  Homes = List (maybe.Option (Option S))

  abbrev Rule : St → Type 0
  Rule = Kept stands_for

  -- the value that is at home stands for the list
  abbrev HomeFor : Homes → List E → Type 0
  HomeFor homes log = (x : S) × (get_elem? homes 0 ≡ some (some (Some x))) × stands_for x log

  -- what the rule says of each view holds after one view has changed
  each_set : (a b : ℕ) (log : List E) (vs : List (View E)) (id : ℕ) (w : View E) → Fits a b log w
      → ((j : ℕ) (u : View E) → j ≢ id → get_elem? vs j ≡ some u → Fits a b log u) → (j : ℕ) (u : View E) → get_elem? (set vs id w) j ≡ some u → Fits a b log u
  each_set a b log vs id w mine others j u e = ⊎_elim (λ (t : (j ≡ id) × (w ≡ u)). subst (Fits a b log) t.1 mine)
      (λ (t : (j ≢ id) × (get_elem? vs j ≡ some u)). others j u t.0 t.1) (at_set vs id j w u e)

  -- tickets differ after one view has changed, if what it has then was its own or was not drawn
  apart_set : (vs : List (View E)) (id : ℕ) (v w : View E) → get_elem? vs id ≡ some v
      → ((i j t : ℕ) (x y : View E) → get_elem? vs i ≡ some x → get_elem? vs j ≡ some y → Holds x.stage t → Holds y.stage t → i ≡ j)
      → ((j t : ℕ) (u : View E) → j ≢ id → get_elem? vs j ≡ some u → Holds w.stage t → Holds u.stage t → ⊥)
      → (i j t : ℕ) (x y : View E) → get_elem? (set vs id w) i ≡ some x → get_elem? (set vs id w) j ≡ some y → Holds x.stage t → Holds y.stage t → i ≡ j
  apart_set vs id v w at old new i j t x y ei ej hx hy =
      ⊎_elim
      (λ (p : (i ≡ id) × (w ≡ x)).
      ⊎_elim (λ (q : (j ≡ id) × (w ≡ y)). p.0 ∙ sym q.0)
      (λ (q : (j ≢ id) × (get_elem? vs j ≡ some y)). absurd (new j t y q.0 q.1 (subst (λ (z : View E). Holds z.stage t) (sym p.1) hx) hy))
      (at_set vs id j w y ej))
      (λ (p : (i ≢ id) × (get_elem? vs i ≡ some x)).
      ⊎_elim (λ (q : (j ≡ id) × (w ≡ y)). absurd (new i t x p.0 p.1 (subst (λ (z : View E). Holds z.stage t) (sym q.1) hy) hx))
      (λ (q : (j ≢ id) × (get_elem? vs j ≡ some y)). old i j t x y p.1 q.1 hx hy)
      (at_set vs id j w y ej))
      (at_set vs id i w x ei)

  -- the view v of the seat id becomes w, in a step after which the writer's list is log
  pub moves : (s : St) (r : Ordered stands_for s) (id : ℕ) (v w : View E) (words : List ℕ) (homes : Homes) (log : List E) → get_elem? s.views id ≡ some v
      → (length words ≡ 3) × (length homes ≡ 1) → get_or words 2 0 ≡ length log
      → get_or words 1 0 + has_ticket w + get_or s.words 0 0 ≡ get_or words 0 0 + has_ticket v + get_or s.words 1 0
      → ((j t : ℕ) (u : View E) → j ≢ id → get_elem? s.views j ≡ some u → Holds w.stage t → Holds u.stage t → ⊥)
      → (sum_by in_turn (set s.views id w) ≡ 0 → HomeFor homes log) → (0 < sum_by in_turn (set s.views id w) → get_elem? homes 0 ≡ some none)
      → is_writer w ≡ is_writer v → Fits (get_or words 1 0) (get_or words 0 0) log w
      → ((j : ℕ) (u : View E) → j ≢ id → get_elem? s.views j ≡ some u → Fits (get_or words 1 0) (get_or words 0 0) log u)
      → Ordered stands_for record { words = words; homes = homes; views = set s.views id w }
  moves s r id v w words homes log at sized count balance apart home away same mine others = record {
    log = log;
    sized = sized;
    count = count;
    drawn = omega (arith, r.drawn, balance, sum_set has_ticket s.views id v w at);
    apart = apart_set s.views id v w at r.apart apart;
    home = home;
    away = away;
    one_writer = omega (arith, r.one_writer, same, sum_set is_writer s.views id v w at);
    each = each_set (get_or words 1 0) (get_or words 0 0) log s.views id w mine others;
  }

  -- no other view has the ticket of the view id
  pub alone : (s : St) (o : Ordered stands_for s) (id t j : ℕ) (v u : View E) → get_elem? s.views id ≡ some v → Holds v.stage t → j ≢ id → get_elem? s.views j ≡ some u → Holds u.stage t → ⊥
  alone s o id t j v u at mine apart there theirs = apart (o.apart j id t u v there at theirs mine)

  -- a load leaves the words as they are
  pub loaded : (s : St) (i : ℕ) (homes : Homes) (views : List (View E)) → Rule record { words = s.words; homes = homes; views = views } → Rule record { words = set s.words i (get_or s.words i 0); homes = homes; views = views }
  loaded s i homes views = subst (λ (ws : List ℕ). Rule record { words = ws; homes = homes; views = views }) (sym (set-get_or s.words i 0))

  pub at_here : (s : St) (id : ℕ) (v w : View E) → get_elem? s.views id ≡ some v → get_elem? (set s.views id w) id ≡ some w
  at_here s id v w at = put s.views id at
    where
      put : (vs : List (View E)) (i : ℕ) → get_elem? vs i ≡ some v → get_elem? (set vs i w) i ≡ some w
      put [] i e = absurd (some-ne-none v (sym e))
      put (x ∷ xs) zero e = refl
      put (x ∷ xs) (suc i) e = put xs i e

  -- a new view, which has no ticket and is not the writer's
  pub grows : (s : St) → Ordered stands_for s → (w : View E) → w.stage ≡ Away → is_writer w ≡ 0 → ((log : List E) (a b : ℕ) → ((j : ℕ) (u : View E) → get_elem? s.views j ≡ some u → Fits a b log u) → Fits a b log w)
      → Ordered stands_for record { words = s.words; homes = s.homes; views = s.views ++ w ∷ [] }
  grows s o w away role fits =
      let a : ℕ = get_or s.words 1 0 in
      let b : ℕ = get_or s.words 0 0 in
      let out : has_ticket w ≡ 0 = ap ticketed away in
      let still : in_turn w ≡ 0 = ap turning away in
      let tickets = sum_by_push has_ticket s.views w in
      let turns = sum_by_push in_turn s.views w in
      let drawn = o.drawn in
      let none_held : (t : ℕ) (u : View E) → w ≡ u → Holds u.stage t → ⊥ = λ t u e h. subst (λ (z : Stage E). Holds z t) away (subst (λ (z : View E). Holds z.stage t) (sym e) h) in record {
        log = o.log;
        sized = o.sized;
        count = o.count;
        drawn = omega arith;
        apart = λ i j t x y ei ej hx hy.
            ⊎_elim
            (λ (p : get_elem? s.views i ≡ some x).
            ⊎_elim (λ (q : get_elem? s.views j ≡ some y). o.apart i j t x y p q hx hy) (λ (q : w ≡ y). absurd (none_held t y q hy)) (at_snoc s.views w y j ej))
            (λ (p : w ≡ x). absurd (none_held t x p hx))
            (at_snoc s.views w x i ei);
        home = λ z. o.home (omega arith);
        away = λ z. o.away (omega arith);
        one_writer = omega (arith, o.one_writer, role, sum_by_push is_writer s.views w);
        each = λ j u e. ⊎_elim (o.each j u) (λ (p : w ≡ u). subst (Fits a b o.log) p (fits o.log a b o.each)) (at_snoc s.views w u j e);
      }
