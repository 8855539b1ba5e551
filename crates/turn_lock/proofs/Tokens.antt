-- Seats and notes are made and notes are met under the rule.
use Rattle.std.proofs.Common.{◌≡◌, ℕ, zero, suc, if◌then◌else◌, nat_lt, ◌+◌, ◌-◌, ◌*◌, ◌^◌, ◌<◌, Bool, true, false, List, [], ◌∷◌, ◌++◌, length, get_or, set, refl, sym, ap, ◌∙◌, subst, arith, Option, Some}
use Rattle.std.proofs.lemmas.Bool.{ltb-true, ltb-false}
use Rattle.std.proofs.lemmas.List.Sums.{sum_by_push}
use mathlib.Core.Option.{some, some-ne-none, some-injective}
use mathlib.Core.List.{IsPrefix}
use lib.ListN.{get_elem?}
use Rattle.atomic_table.specs.Table.{State, Splits, Joins, opening}
use Rattle.atomic_table.proofs.Lists.{set_else, set_again}
use Rattle.turn_lock.specs.declared.law.View.{View}
use Rattle.turn_lock.specs.declared.law.Role.{Role}
use Rattle.turn_lock.specs.declared.law.Role.TheVariants.{Spent, Carries, Sits, Writes}
use Rattle.turn_lock.specs.declared.law.Stage.TheVariants.{Away}
use Rattle.turn_lock.specs.Law.{allowance, writing, Holds, ticketed, turning, has_ticket, in_turn, is_writer, left, Fits, Ordered, Kept, opening_view}
use Rattle.turn_lock.specs.Steps.{longer, met, meets, makes, fresh}
use Rattle.turn_lock.proofs.Sums.{sum_set}
use Rattle.turn_lock.proofs.Prefixes.{prefix_self, prefix_empty, prefix_shorter}
use Rattle.turn_lock.proofs.Stages.{fresh_fits}
use Rattle.turn_lock.proofs.Kept.{moves, alone, at_here, grows}

module _ {S E : Type 0} (stands_for : S → List E → Type 0) where
  abbrev St : Type 0
  St = State (Option S) (View E)

  abbrev Rule : St → Type 0
  Rule = Kept stands_for

  -- the table at the start
  pub opens : (value : S) → stands_for value [] → Rule (opening (0 ∷ 0 ∷ 0 ∷ []) (Some value ∷ []) opening_view)
  opens value stands = (
    record {
      log = [];
      sized = (refl, refl);
      count = refl;
      drawn = refl;
      apart = λ i j t v w ei ej hv hw. absurd (subst (λ (z : View E). Holds z.stage t) (sym (only i v ei)) hv);
      home = λ _. (value, refl, stands);
      away = λ z. absurd (omega arith);
      one_writer = refl;
      each = λ j v e. subst (Fits 0 0 []) (only j v e) record {
        stage = tt;
        seen = prefix_self [];
        olds = (prefix_self [], prefix_self []);
        turns = (omega arith, omega arith, omega arith);
        writer = λ _. (refl, omega arith);
      };
    },
    refl,
  )
    where
      only : (j : ℕ) (v : View E) → get_elem? (opening_view ∷ []) j ≡ some v → opening_view ≡ v
      only zero v e = some-injective opening_view v e
      only (suc j) v e = absurd (some-ne-none v (sym e))

  -- kind 6: the writer makes a seat
  pub seats : (id : ℕ) (v : View E) → v.role ≡ Writes → v.made < 127 → Splits Rule id v (makes v) (fresh Sits v.seen)
  seats id v role few s r at =
      let o = r.0 in
      let a : ℕ = get_or s.words 1 0 in
      let b : ℕ = get_or s.words 0 0 in
      let w : View E = makes v in
      let u : View E = fresh Sits v.seen in
      let mine = o.each id v at in
      let t₀ = mine.turns.0 in
      let now : allowance v.role (v.made + 1) ≡ (128 - (v.made + 1)) * 2 ^ 56 = ap (λ (z : Role). allowance z (v.made + 1)) role in
      let was : allowance v.role v.made ≡ (128 - v.made) * 2 ^ 56 = ap (λ (z : Role). allowance z v.made) role in
      let turns_sum = sum_set in_turn s.views id v w at in
      let mine' : Fits a b o.log w = record { stage = mine.stage; seen = mine.seen; olds = mine.olds; turns = (mine.turns.0, omega arith, omega arith); writer = mine.writer } in
      let first = moves stands_for s o id v w s.words s.homes o.log at o.sized o.count (omega arith) (λ j t x apart there h g. alone stands_for s o id t j v x at h apart there g)
      (λ z. o.home (omega arith)) (λ z. o.away (omega arith)) refl mine' (λ j x apart there. o.each j x there) in
      let budget = r.1 in
      let left_v : left v ≡ (128 - v.made) * 2 ^ 56 - v.turns = omega arith in
      let left_w : left w ≡ (128 - (v.made + 1)) * 2 ^ 56 - v.turns = omega arith in
      let left_u : left u ≡ 2 ^ 56 = refl in (
        grows stands_for record { words = s.words; homes = s.homes; views = set s.views id w } first u refl refl
            (λ log c d each. fresh_fits c d log Sits v.seen (each id w (at_here stands_for s id v w at)).seen refl),
        omega (arith, sum_set left s.views id v w at, sum_by_push left (set s.views id w) u),
      )

  -- kind 6: a note is written
  pub notes : (id : ℕ) (v : View E) → Splits Rule id v v (fresh Carries v.seen)
  notes id v s r at =
      let o = r.0 in
      let u : View E = fresh Carries v.seen in
      let budget = r.1 in
      subst (λ (vs : List (View E)). Rule record { words = s.words; homes = s.homes; views = vs ++ u ∷ [] }) (sym (set_again s.views id v at)) (
        grows stands_for s o u refl refl
            (λ log c d each. fresh_fits c d log Carries v.seen (each id v at).seen refl),
        omega (arith, sum_by_push left s.views u),
      )

  longer_fits : (xs ys log : List E) → IsPrefix xs log → IsPrefix ys log → (IsPrefix xs (longer xs ys)) × (IsPrefix ys (longer xs ys)) × (IsPrefix (longer xs ys) log)
  longer_fits xs ys log p q = by (nat_lt (length xs) (length ys)) refl
    where
      by : (c : Bool) → nat_lt (length xs) (length ys) ≡ c → (IsPrefix xs (if c then ys else xs)) × (IsPrefix ys (if c then ys else xs)) × (IsPrefix (if c then ys else xs) log)
      by true e = let l = ltb-true (length xs) (length ys) e in (prefix_shorter xs ys log p q (omega arith), prefix_self ys, q)
      by false e = let l = ltb-false (length xs) (length ys) e in (prefix_self xs, prefix_shorter ys xs log q p l, p)

  met_fits : (role : Role) (xs ys log : List E) → IsPrefix xs log → IsPrefix ys log → (role ≡ Writes → xs ≡ log)
      → (IsPrefix xs (met role xs ys)) × (IsPrefix ys (met role xs ys)) × (IsPrefix (met role xs ys) log) × (role ≡ Writes → met role xs ys ≡ log)
  met_fits Spent xs ys log p q w = let h = longer_fits xs ys log p q in (h.0, h.1, h.2, λ e. absurd (omega (arith, ap writing e)))
  met_fits Carries xs ys log p q w = let h = longer_fits xs ys log p q in (h.0, h.1, h.2, λ e. absurd (omega (arith, ap writing e)))
  met_fits Sits xs ys log p q w = let h = longer_fits xs ys log p q in (h.0, h.1, h.2, λ e. absurd (omega (arith, ap writing e)))
  met_fits Writes xs ys log p q w = (prefix_self xs, subst (IsPrefix ys) (sym (w refl)) q, p, λ _. w refl)

  -- kind 7
  pub joins : (id : ℕ) (v : View E) (other : ℕ) (u : View E) → u.role ≡ Carries → u.stage ≡ Away → Joins Rule id v other u (meets v u) (fresh Spent [])
  joins id v other u role away s r at apart there =
      let o = r.0 in
      let a : ℕ = get_or s.words 1 0 in
      let b : ℕ = get_or s.words 0 0 in
      let w : View E = meets v u in
      let z : View E = fresh Spent [] in
      let mine = o.each id v at in
      let was : get_elem? s.views other ≡ some u = sym (set_else s.views id other w apart) ∙ there in
      let theirs = o.each other u was in
      let h = met_fits v.role v.seen u.seen o.log mine.seen theirs.seen (λ e. (mine.writer e).0) in
      let turns_sum = sum_set in_turn s.views id v w at in
      let mine' : Fits a b o.log w = record {
        stage = mine.stage;
        seen = h.2;
        olds = (h.0, h.1);
        turns = mine.turns;
        writer = λ e. (h.3 e, (mine.writer e).1);
      } in
      let middle : St = record { words = s.words; homes = s.homes; views = set s.views id w } in
      let first : Ordered stands_for middle = moves stands_for s o id v w s.words s.homes o.log at o.sized o.count (omega arith) (λ j t x far near h g. alone stands_for s o id t j v x at h far near g)
      (λ e. o.home (omega arith)) (λ e. o.away (omega arith)) refl mine' (λ j x far near. o.each j x near) in
      let out : has_ticket u ≡ 0 = ap ticketed away in
      let still : in_turn u ≡ 0 = ap turning away in
      let not_writer : is_writer u ≡ 0 = ap writing role in
      let none_left : allowance u.role u.made ≡ 0 = ap (λ (q : Role). allowance q u.made) role in
      let rest_sum = sum_set in_turn middle.views other u z there in
      let spent : Fits a b first.log z = fresh_fits a b first.log Spent [] (prefix_empty first.log) refl in
      let budget = r.1 in (
        moves stands_for middle first other u z s.words s.homes first.log there first.sized first.count (omega arith) (λ j t x far near h g. absurd h)
            (λ e. first.home (omega arith)) (λ e. first.away (omega arith)) (sym not_writer) spent (λ j x far near. first.each j x near),
        omega (arith, sum_set left s.views id v w at, sum_set left middle.views other u z there),
      )
