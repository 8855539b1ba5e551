-- The steps of a turn keep the rule.
use Rattle.std.proofs.Common.{◌≡◌, ◌≢◌, ℕ, ◌+◌, ◌-◌, ◌%◌, ◌^◌, ◌<◌, ◌≤◌, Bool, false, List, [], ◌∷◌, ◌++◌, length, get_or, set, sum_by, refl, sym, ap, ◌∙◌, subst, ⊎_elim, arith, Option, Some, length-set, length-append, get_or-set_other, get_or-set_same}
use mathlib.Core.Logic.{dite}
use mathlib.Core.Option.{none, some, some-ne-none, some-injective}
use mathlib.Core.Option as maybe
use mathlib.Core.List.{IsPrefix}
use native.Mathlib.Decide.{ℕ_discrete}
use lib.ListN.{get_elem?}
use Rattle.atomic_table.specs.Table.{rest, State, Me, step, keeps, takes, gives, stepped, Allows}
use Rattle.atomic_table.proofs.Lists.{at_set, set_here, set_again}
use Rattle.turn_lock.specs.declared.law.View.{View}
use Rattle.turn_lock.specs.declared.law.Role.TheVariants.{Writes}
use Rattle.turn_lock.specs.declared.law.Stage.TheVariants.{Away, Waits, Turns}
use Rattle.turn_lock.specs.Law.{allowance, writing, Holds, ticketed, turning, due, StageFits, has_ticket, in_turn, is_writer, left, Fits, Kept}
use Rattle.turn_lock.specs.Steps.{waiting, entered, ended, looked, added_to, Draws, Finds, Looks, Adds, Ends}
use Rattle.turn_lock.proofs.Sums.{sum_set, sum_some, sum_two, sum_none}
use Rattle.turn_lock.proofs.Prefixes.{prefix_self, prefix_empty, prefix_trans, prefix_push}
use Rattle.turn_lock.proofs.Stages.{holds_below, later, holds_at, ticket_of, list_of, entry_of, not_turning, stage_served, stage_added, reached_fits}
use Rattle.turn_lock.proofs.Kept.{moves, alone, loaded}

module _ {S E : Type 0} (stands_for : S → List E → Type 0) where
  abbrev M : Type 0
  M = Me (Option S) (View E)

  abbrev Homes : Type 0
  Homes = List (maybe.Option (Option S))

  abbrev Rule : State (Option S) (View E) → Type 0
  Rule = Kept stands_for

  -- kind 1
  pub draws : (slots id : ℕ) (me : M) → me.0.stage ≡ Away → me.0.turns < 2 ^ 56 → me.0.turns < allowance me.0.role me.0.made
      → Allows Rule slots id me 0 (λ n. (n + 1) % 2 ^ 64) (Draws (step slots 0 1 0 none) me)
  draws slots id me away few some_left s r deep at fits =
      let o = r.0 in
      let v : View E = me.0 in
      let n : ℕ = get_or s.words 0 0 in
      let a : ℕ = get_or s.words 1 0 in
      let w : View E = waiting v n in
      let mine = o.each id v at in
      let budget = r.1 in
      let wide = o.sized.0 in
      let room : left v ≤ sum_by left s.views = sum_some left s.views id v at in
      let left_v : left v ≡ allowance v.role v.made - v.turns = refl in
      let next : ((n + 1) % 2 ^ 64) ≡ n + 1 = omega arith in
      let now : get_or (set s.words 0 (n + 1)) 0 0 ≡ n + 1 = get_or-set_same s.words 0 (n + 1) 0 (omega arith) in
      let serving : get_or (set s.words 0 (n + 1)) 1 0 ≡ a = get_or-set_other s.words 0 1 (n + 1) 0 (λ e. omega arith) in
      let count : get_or (set s.words 0 (n + 1)) 2 0 ≡ get_or s.words 2 0 = get_or-set_other s.words 0 2 (n + 1) 0 (λ e. omega arith) in
      let out : has_ticket v ≡ 0 = ap ticketed away in
      let still : in_turn v ≡ 0 = ap turning away in
      let turns_sum = sum_set in_turn s.views id v w at in
      let low : a ≤ n = omega (arith, o.drawn) in
      let owes : due v.stage ≡ 0 = ap due away in
      let at_new : (P : ℕ → ℕ → Type 0) → P a (n + 1) → P (get_or (set s.words 0 (n + 1)) 1 0) (get_or (set s.words 0 (n + 1)) 0 0) = λ P p. subst (λ x. P x (get_or (set s.words 0 (n + 1)) 0 0)) (sym serving) (subst (λ y. P a y) (sym now) p) in
      let mine' : Fits a (n + 1) o.log w = record {
        stage = (low, omega arith);
        seen = mine.seen;
        olds = mine.olds;
        turns = let t₀ = mine.turns.0 in let t₁ = mine.turns.1 in (omega arith, omega arith, mine.turns.2);
        writer = λ e. let h = mine.writer e in let h₁ = h.1 in (h.0, omega arith);
      } in (
        w,
        keeps,
        tt,
        subst (λ (x : ℕ). Rule (stepped s 0 x id me.1 w keeps)) (sym next) (
          moves stands_for s o id v w (set s.words 0 (n + 1)) s.homes o.log at (length-set s.words 0 (n + 1) ∙ o.sized.0, o.sized.1) (count ∙ o.count) (omega arith)
              (λ j t u apart there h g. let below = holds_below a n t o.log u.stage (o.each j u there).stage g in let b₁ = below.1 in let h' : n ≡ t = h in omega arith)
              (λ z. o.home (omega arith)) (λ z. o.away (omega arith)) refl
              (at_new (λ x y. Fits x y o.log w) mine')
              (λ j u apart there. at_new (λ x y. Fits x y o.log u) (later a n (n + 1) o.log u (omega arith) (o.each j u there))),
          omega (arith, now, budget, sum_set left s.views id v w at),
        ),
        refl,
      )

  -- kind 2
  pub finds : (slots id : ℕ) (me : M) (t : ℕ) → me.0.stage ≡ Waits t → Allows Rule slots id me 1 (λ n. n) (Finds stands_for (step slots 1 0 0 none) me)
  finds slots id me t is s r deep at fits =
      let o = r.0 in
      let v : View E = me.0 in
      let a : ℕ = get_or s.words 1 0 in
      let b : ℕ = get_or s.words 0 0 in
      let mine = o.each id v at in
      let same : (u : ℕ) → v.stage ≡ Waits u → t ≡ u = λ u e. sym (ap ticket_of is) ∙ ap ticket_of e in
      dite (ℕ_discrete a t)
      (λ hit.
      let held : Holds v.stage a = holds_at v.stage (Waits t) a is (sym hit) in
      let none_turns : sum_by in_turn s.views ≡ 0 = sum_none in_turn s.views
      (λ i x there. dite (ℕ_discrete i id)
      (λ e. ap in_turn (some-injective x v (sym there ∙ ap (get_elem? s.views) e ∙ at)) ∙ ap turning is)
      (λ e. not_turning a b o.log x.stage (alone stands_for s o id a i v x at held e there) (o.each i x there).stage)) in
      let home = o.home none_turns in
      let w : View E = entered v t o.log in
      let stage : StageFits a b o.log (Waits t) = subst (StageFits a b o.log) is mine.stage in
      let turns_sum = sum_set in_turn s.views id v w at in
      let out : has_ticket v ≡ 1 = ap ticketed is in
      let owes : due v.stage ≡ 1 = ap due is in
      let not_yet : in_turn v ≡ 0 = ap turning is in
      let one_slot = o.sized.1 in
      let mine' : Fits a b o.log w = record {
        stage = (sym hit, stage.1, refl);
        seen = mine.seen;
        olds = mine.olds;
        turns = mine.turns;
        writer = λ e. let h = mine.writer e in let h₁ = h.1 in (h.0, omega arith);
      } in (
        w,
        takes 0 (Some home.0),
        home.1,
        loaded stands_for s 1 (set s.homes 0 none) (set s.views id w) (
          moves stands_for s o id v w s.words (set s.homes 0 none) o.log at (o.sized.0, length-set s.homes 0 none ∙ o.sized.1) o.count (omega arith)
              (λ j u x apart there h g. alone stands_for s o id u j v x at (holds_at v.stage (Waits t) u is h) apart there g)
              (λ z. absurd (omega arith)) (λ _. set_here s.homes 0 none (omega arith)) refl mine' (λ j u apart there. o.each j u there),
          let budget = r.1 in omega (arith, sum_set left s.views id v w at),
        ),
        λ u e. (
          (λ miss. absurd (miss (hit ∙ same u e))),
          λ _. (home.0, o.log, home.2, mine.seen, (λ z. (mine.writer z).0), ap (λ (k : ℕ). let x : M = (entered v k o.log, (0, Some home.0) ∷ me.1) in x) (same u e)),
        ),
      ))
      (λ miss. (
        v,
        keeps,
        tt,
        loaded stands_for s 1 s.homes (set s.views id v) (subst (λ (vs : List (View E)). Rule record { words = s.words; homes = s.homes; views = vs }) (sym (set_again s.views id v at)) r),
        λ u e. ((λ _. refl), λ hit. absurd (miss (hit ∙ sym (same u e)))),
      ))

  -- kind 3
  pub looks : (slots id : ℕ) (me : M) → Allows Rule slots id me 2 (λ n. n) (Looks (step slots 2 0 0 none) me)
  looks slots id me s r deep at fits =
      let o = r.0 in
      let v : View E = me.0 in
      let w : View E = looked v in
      let mine = o.each id v at in
      let saw = reached_fits (get_or s.words 1 0) (get_or s.words 0 0) o.log v.stage v.seen mine.stage mine.seen in
      let turns_sum = sum_set in_turn s.views id v w at in
      let mine' : Fits (get_or s.words 1 0) (get_or s.words 0 0) o.log w = record {
        stage = mine.stage;
        seen = saw.1;
        olds = (prefix_empty w.seen, prefix_empty w.seen);
        turns = mine.turns;
        writer = λ e. let h = mine.writer e in (saw.3 h.0, h.1);
      } in (
        w,
        keeps,
        tt,
        loaded stands_for s 2 s.homes (set s.views id w) (
          moves stands_for s o id v w s.words s.homes o.log at o.sized o.count (omega arith) (λ j u x apart there h g. alone stands_for s o id u j v x at h apart there g)
              (λ z. o.home (omega arith)) (λ z. o.away (omega arith)) refl mine' (λ j u apart there. o.each j u there),
          let budget = r.1 in omega (arith, sum_set left s.views id v w at),
        ),
        (
          refl,
          saw.0,
          prefix_trans v.own v.seen w.seen mine.olds.0 saw.0,
          prefix_trans v.other v.seen w.seen mine.olds.1 saw.0,
          λ e. ap length (saw.2 e) ∙ sym o.count,
        ),
      )

  -- kind 5
  pub leaves : (slots id : ℕ) (me : M) (t : ℕ) (list : List E) (added : Bool) (x : S) → me.0.stage ≡ Turns t list added → me.1 ≡ (0, Some x) ∷ [] → stands_for x list
      → Allows Rule slots id me 1 (λ n. (n + 1) % 2 ^ 64) (Ends (step slots 1 1 0 none) me)
  leaves slots id me t list added x is carried stands s r deep at fits =
      let o = r.0 in
      let v : View E = me.0 in
      let a : ℕ = get_or s.words 1 0 in
      let b : ℕ = get_or s.words 0 0 in
      let w : View E = ended v in
      let mine = o.each id v at in
      let stage : StageFits a b o.log (Turns t list added) = subst (StageFits a b o.log) is mine.stage in
      let served : t ≡ a = stage.0 in
      let below : t < b = stage.1 in
      let held : Holds v.stage a = holds_at v.stage (Turns t list added) a is served in
      let budget = r.1 in
      let wide = o.sized.0 in
      let one_slot = o.sized.1 in
      let next : ((a + 1) % 2 ^ 64) ≡ a + 1 = omega arith in
      let homes' : Homes = set s.homes 0 (some (Some x)) in
      let now : get_or (set s.words 1 (a + 1)) 1 0 ≡ a + 1 = get_or-set_same s.words 1 (a + 1) 0 (omega arith) in
      let drawn : get_or (set s.words 1 (a + 1)) 0 0 ≡ b = get_or-set_other s.words 1 0 (a + 1) 0 (λ e. omega arith) in
      let count : get_or (set s.words 1 (a + 1)) 2 0 ≡ get_or s.words 2 0 = get_or-set_other s.words 1 2 (a + 1) 0 (λ e. omega arith) in
      let out : has_ticket v ≡ 1 = ap ticketed is in
      let at_new : (P : ℕ → ℕ → Type 0) → P (a + 1) b → P (get_or (set s.words 1 (a + 1)) 1 0) (get_or (set s.words 1 (a + 1)) 0 0) =
      λ P p. subst (λ k. P k (get_or (set s.words 1 (a + 1)) 0 0)) (sym now) (subst (λ k. P (a + 1) k) (sym drawn) p) in
      let none_turns : sum_by in_turn (set s.views id w) ≡ 0 = sum_none in_turn (set s.views id w)
      (λ i y there. ⊎_elim (λ (p : (i ≡ id) × (w ≡ y)). sym (ap in_turn p.1))
      (λ (p : (i ≢ id) × (get_elem? s.views i ≡ some y)). not_turning a b o.log y.stage (alone stands_for s o id a i v y at held p.0 p.1) (o.each i y p.1).stage)
      (at_set s.views id i w y there)) in
      let mine' : Fits (a + 1) b o.log w = record {
        stage = tt;
        seen = mine.seen;
        olds = mine.olds;
        turns = mine.turns;
        writer = λ e. let h = mine.writer e in let h₁ = h.1 in (h.0, omega arith);
      } in
      let others : (j : ℕ) (u : View E) → j ≢ id → get_elem? s.views j ≡ some u → Fits (a + 1) b o.log u = λ j u apart there.
      let h = o.each j u there in
      record { stage = stage_served a b o.log u.stage (alone stands_for s o id a j v u at held apart there) h.stage; seen = h.seen; olds = h.olds; turns = h.turns; writer = h.writer } in (
        w,
        gives,
        tt,
        subst (λ (cs : List (ℕ × Option S)). Rule (stepped s 1 ((a + 1) % 2 ^ 64) id cs w gives)) (sym carried)
            (subst (λ (k : ℕ). Rule record { words = set s.words 1 k; homes = homes'; views = set s.views id w }) (sym next) (
              moves stands_for s o id v w (set s.words 1 (a + 1)) homes' o.log at (length-set s.words 1 (a + 1) ∙ o.sized.0, length-set s.homes 0 (some (Some x)) ∙ o.sized.1) (count ∙ o.count) (omega arith)
                  (λ j u y apart there h g. absurd h)
                  (λ _. (x, set_here s.homes 0 (some (Some x)) (omega arith), subst (stands_for x) stage.2 stands)) (λ z. absurd (omega arith)) refl
                  (at_new (λ k l. Fits k l o.log w) mine') (λ j u apart there. at_new (λ k l. Fits k l o.log u) (others j u apart there)),
              omega (arith, drawn, budget, sum_set left s.views id v w at),
            )),
        refl,
      )

  -- kind 4
  pub adds : (slots id : ℕ) (me : M) (t : ℕ) (list : List E) (e : E) (said : Option E) → me.0.role ≡ Writes → me.0.stage ≡ Turns t list false → said ≡ Some e
      → Allows Rule slots id me 2 (λ n. (n + 1) % 2 ^ 64) (Adds said (step slots 2 1 0 none) me)
  adds slots id me t list e said role is says s r deep at fits =
      let o = r.0 in
      let v : View E = me.0 in
      let a : ℕ = get_or s.words 1 0 in
      let b : ℕ = get_or s.words 0 0 in
      let n : ℕ = get_or s.words 2 0 in
      let w : View E = added_to v t list e in
      let mine = o.each id v at in
      let stage : StageFits a b o.log (Turns t list false) = subst (StageFits a b o.log) is mine.stage in
      let held : Holds v.stage a = holds_at v.stage (Turns t list false) a is stage.0 in
      let known = mine.writer role in
      let room : length o.log + due v.stage ≤ v.turns = known.1 in
      let owes : due v.stage ≡ 1 = ap due is in
      let most = mine.turns.0 in
      let count = o.count in
      let wide = o.sized.0 in
      let log' : List E = o.log ++ e ∷ [] in
      let long : length log' ≡ length o.log + 1 = length-append o.log (e ∷ []) in
      let next : ((n + 1) % 2 ^ 64) ≡ n + 1 = omega arith in
      let now : get_or (set s.words 2 (n + 1)) 2 0 ≡ n + 1 = get_or-set_same s.words 2 (n + 1) 0 (omega arith) in
      let serving : get_or (set s.words 2 (n + 1)) 1 0 ≡ a = get_or-set_other s.words 2 1 (n + 1) 0 (λ c. omega arith) in
      let drawn : get_or (set s.words 2 (n + 1)) 0 0 ≡ b = get_or-set_other s.words 2 0 (n + 1) 0 (λ c. omega arith) in
      let out : has_ticket v ≡ 1 = ap ticketed is in
      let turns : in_turn v ≡ 1 = ap turning is in
      let some_turns = sum_some in_turn s.views id v at in
      let turns_sum = sum_set in_turn s.views id v w at in
      let at_new : (P : ℕ → ℕ → Type 0) → P a b → P (get_or (set s.words 2 (n + 1)) 1 0) (get_or (set s.words 2 (n + 1)) 0 0) =
      λ P p. subst (λ k. P k (get_or (set s.words 2 (n + 1)) 0 0)) (sym serving) (subst (λ k. P a k) (sym drawn) p) in
      let same : list ++ e ∷ [] ≡ log' = ap (λ l. l ++ e ∷ []) stage.2 in
      let grown : IsPrefix v.seen (list ++ e ∷ []) = subst (IsPrefix v.seen) (sym same) (prefix_push v.seen o.log e mine.seen) in
      let mine' : Fits a b log' w = record {
        stage = (stage.0, stage.1, same);
        seen = subst (λ l. IsPrefix l log') (sym same) (prefix_self log');
        olds = (prefix_trans v.own v.seen w.seen mine.olds.0 grown, prefix_trans v.other v.seen w.seen mine.olds.1 grown);
        turns = mine.turns;
        writer = λ _. (same, omega arith);
      } in
      let one : is_writer v ≡ 1 = ap writing role in
      let writers = o.one_writer in
      let others : (j : ℕ) (u : View E) → j ≢ id → get_elem? s.views j ≡ some u → Fits a b log' u = λ j u apart there.
      let h = o.each j u there in record {
        stage = stage_added a b o.log e u.stage (alone stands_for s o id a j v u at held apart there) h.stage;
        seen = prefix_push u.seen o.log e h.seen;
        olds = h.olds;
        turns = h.turns;
        writer = λ c. let one_more : is_writer u ≡ 1 = ap writing c in absurd (omega (arith, sum_two is_writer s.views id j v u at there apart));
      } in (
        w,
        keeps,
        tt,
        subst (λ (k : ℕ). Rule record { words = set s.words 2 k; homes = s.homes; views = set s.views id w }) (sym next) (
          moves stands_for s o id v w (set s.words 2 (n + 1)) s.homes log' at (length-set s.words 2 (n + 1) ∙ o.sized.0, o.sized.1) (omega arith) (omega arith)
              (λ j u x apart there h g. alone stands_for s o id u j v x at (holds_at v.stage (Turns t list false) u is h) apart there g)
              (λ z. absurd (omega arith)) (λ _. o.away (omega arith)) refl (at_new (λ k l. Fits k l log' w) mine') (λ j u apart there. at_new (λ k l. Fits k l log' u) (others j u apart there)),
          let budget = r.1 in omega (arith, drawn, sum_set left s.views id v w at),
        ),
        λ t' list' e' is' says'.
            let stages : Turns t list false ≡ Turns t' list' false = sym is ∙ is' in
            ap (λ (x : ℕ × List E × E). let y : M = (added_to v x.0 x.1 x.2, me.1) in y)
            (λ i. (ticket_of (stages i), list_of list (stages i), entry_of e ((sym says ∙ says') i))),
      )

-- where a seat has just taken the slot x, its row of slots is x and the rest of the row
pub slot_found : {S V : Type 0} (row : List (ℕ × S)) (m : Me S V) (v : V) (x : ℕ × S) (others : List (ℕ × S)) → row ≡ m.1 → m ≡ (v, x ∷ others) → row ≡ x ∷ rest row
slot_found row m v x others same is =
    let e : row ≡ x ∷ others = same ∙ ap (λ n. n.1) is in
    e ∙ ap (λ xs. x ∷ rest xs) (sym e)
