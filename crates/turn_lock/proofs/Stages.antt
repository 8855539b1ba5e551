-- What the rule says of one view, as the words, the history or the view move.
use Rattle.std.proofs.Common.{◌≡◌, ◌≢◌, ℕ, ◌+◌, ◌<◌, ◌≤◌, List, [], ◌∷◌, ◌++◌, refl, sym, ap, subst, arith, Option, Some, None}
use mathlib.Core.List.{IsPrefix}
use Rattle.turn_lock.specs.declared.law.View.{View}
use Rattle.turn_lock.specs.declared.law.Role.{Role}
use Rattle.turn_lock.specs.declared.law.Stage.{Stage}
use Rattle.turn_lock.specs.declared.law.Stage.TheVariants.{Away, Waits, Turns}
use Rattle.turn_lock.specs.Law.{writing, Holds, turning, StageFits, Fits}
use Rattle.turn_lock.specs.Steps.{reached, fresh}
use Rattle.turn_lock.proofs.Prefixes.{prefix_self, prefix_empty}

module _ {E : Type 0} where
  -- a ticket that was drawn before stays, where the next one is no less
  pub stage_drawn : (a b b' : ℕ) (log : List E) (stage : Stage E) → b ≤ b' → StageFits a b log stage → StageFits a b' log stage
  stage_drawn a b b' log Away le h = tt
  stage_drawn a b b' log (Waits t) le h = (h.0, omega (arith, h.1))
  stage_drawn a b b' log (Turns t list added) le h = (h.0, omega (arith, h.1), h.2)

  -- a ticket is less than the next one
  pub holds_below : (a b t : ℕ) (log : List E) (stage : Stage E) → StageFits a b log stage → Holds stage t → (a ≤ t) × (t < b)
  holds_below a b t log Away h e = absurd e
  holds_below a b t log (Waits u) h e = (omega (arith, h.0), omega (arith, h.1))
  holds_below a b t log (Turns u list added) h e = (omega (arith, h.0), omega (arith, h.1))

  pub later : (a b b' : ℕ) (log : List E) (u : View E) → b ≤ b' → Fits a b log u → Fits a b' log u
  later a b b' log u le h = record { stage = stage_drawn a b b' log u.stage le h.stage; seen = h.seen; olds = h.olds; turns = h.turns; writer = h.writer }

  pub holds_at : (stage stage' : Stage E) (t : ℕ) → stage ≡ stage' → Holds stage' t → Holds stage t
  holds_at stage stage' t is = subst (λ (z : Stage E). Holds z t) (sym is)

  abbrev pub ticket_of : Stage E → ℕ
  ticket_of Away = 0
  ticket_of (Waits t) = t
  ticket_of (Turns t list added) = t

  abbrev pub list_of : List E → Stage E → List E
  list_of d (Turns t list added) = list
  list_of d _ = d

  abbrev pub entry_of : E → Option E → E
  entry_of d (Some e) = e
  entry_of d None = d

  -- a view is in its turn only with the ticket that is served
  pub not_turning : (a b : ℕ) (log : List E) (stage : Stage E) → (Holds stage a → ⊥) → StageFits a b log stage → turning stage ≡ 0
  not_turning a b log Away n h = refl
  not_turning a b log (Waits t) n h = refl
  not_turning a b log (Turns t list added) n h = absurd (n h.0)

  -- a ticket that is not the one that is served stays when the next one is served
  pub stage_served : (a b : ℕ) (log : List E) (stage : Stage E) → (Holds stage a → ⊥) → StageFits a b log stage → StageFits (a + 1) b log stage
  stage_served a b log Away n h = tt
  stage_served a b log (Waits t) n h = let h₀ = h.0 in let n' : t ≢ a = n in (omega arith, h.1)
  stage_served a b log (Turns t list added) n h = absurd (n h.0)

  -- and when an entry is added
  pub stage_added : (a b : ℕ) (log : List E) (e : E) (stage : Stage E) → (Holds stage a → ⊥) → StageFits a b log stage → StageFits a b (log ++ e ∷ []) stage
  stage_added a b log e Away n h = tt
  stage_added a b log e (Waits t) n h = h
  stage_added a b log e (Turns t list added) n h = absurd (n h.0)

  -- what a view has once it has looked
  pub reached_fits : (a b : ℕ) (log : List E) (stage : Stage E) (seen : List E) → StageFits a b log stage → IsPrefix seen log
      → IsPrefix seen (reached stage seen) × IsPrefix (reached stage seen) log × (turning stage ≡ 1 → reached stage seen ≡ log) × (seen ≡ log → reached stage seen ≡ log)
  reached_fits a b log Away seen h p = (prefix_self seen, p, (λ e. absurd (omega (arith, e))), λ e. e)
  reached_fits a b log (Waits t) seen h p = (prefix_self seen, p, (λ e. absurd (omega (arith, e))), λ e. e)
  reached_fits a b log (Turns t list added) seen h p = (subst (IsPrefix seen) (sym h.2) p, subst (λ l. IsPrefix l log) (sym h.2) (prefix_self log), (λ _. h.2), λ _. h.2)

  -- a view that has only seen a beginning of the list
  pub fresh_fits : (a b : ℕ) (log : List E) (role : Role) (seen : List E) → IsPrefix seen log → writing role ≡ 0 → Fits a b log (fresh role seen)
  fresh_fits a b log role seen pre other = record {
    stage = tt;
    seen = pre;
    olds = (prefix_empty seen, prefix_empty seen);
    turns = (omega arith, omega arith, omega arith);
    writer = λ e. absurd (omega (arith, ap writing e, other));
  }
