-- The core by induction on the list of events.
use Rattle.std.proofs.Common.{◌≡◌, ◌==◌, ℕ, ◌+◌, ◌≤◌, true, false, List, [], ◌∷◌, ◌++◌, length, Option, Some, None, refl, sym, ap, subst, ◌∙◌, arith, inl, inr, append_assoc, append-nil, length-append}
use Rattle.std.specs.Prelude.{max, if◌then◌else◌}
use Rattle.std.proofs.Math.Nat.{le-max_left, max-le}
use Rattle.std.proofs.lemmas.Bool.Decides.{eqb_tells}
use Rattle.std.proofs.lemmas.List.Elements.{filter_map-append}
use Rattle.version_catalog.specs.Core.{Event, publish, pin, install, meet, State, opening, feeder, with_number, Step, Runs, batch_of, published, IsCore, IsPast, IsDetermined}

-- every covered and every seen number is at most the journal's length
pub record IsWithin {B : Type 0} (state : State B) : Type 0 where
  pub covered : (stack : ℕ) → state.covered stack ≤ length state.journal
  pub seen : (seat : ℕ) → state.seen seat ≤ length state.journal

-- no covered and no seen number falls from one state to the other
pub record Rises {B : Type 0} (before after : State B) : Type 0 where
  pub covered : (stack : ℕ) → before.covered stack ≤ after.covered stack
  pub seen : (seat : ℕ) → before.seen seat ≤ after.seen seat

-- what one event does to the journal and to the numbers
pub record Moves {B : Type 0} (before : State B) (event : Event B) (after : State B) : Type 0 where
  pub journal : after.journal ≡ before.journal ++ published (event ∷ [])
  pub within : IsWithin after
  pub rises : Rises before after

with_number-≤ : (numbers : ℕ → ℕ) (place n other bound : ℕ) → n ≤ bound → numbers other ≤ bound
    → with_number numbers place n other ≤ bound
with_number-≤ numbers place n other bound new old =
    elim (other == place) as (λ test. (if test then n else numbers other) ≤ bound) [ true ↦ new | false ↦ old ]

≤-with_number : (numbers : ℕ → ℕ) (place n other : ℕ) → numbers place ≤ n
    → numbers other ≤ with_number numbers place n other
≤-with_number numbers place n other rises =
    elim (eqb_tells other place) [
      | inl same ↦ rw same.0 (subst (λ (k : ℕ). numbers k ≤ n) (sym same.1) rises)
      | inr apart ↦ rw apart.0 (omega arith)
    ]

longer : {B : Type 0} (xs : List B) (x : B) → length (xs ++ x ∷ []) ≡ length xs + 1
longer xs x = length-append xs (x ∷ [])

step_moves : {B : Type 0} (before : State B) (event : Event B) (answer : Option ℕ) (after : State B)
    → IsWithin before → Step before event answer after → Moves before event after
step_moves {B} before (publish batch) answer after within step =
    let length-journal : length (before.journal ++ batch ∷ []) ≡ length before.journal + 1 = longer before.journal batch in
    subst (λ (state : State B). Moves before (publish batch) state) (sym step.1) record {
      journal = refl;
      within = record {
        covered = λ stack. omega (arith, within.covered stack);
        seen = λ seat.
            with_number-≤ before.seen feeder (length before.journal + 1) seat (length (before.journal ++ batch ∷ []))
            (omega arith) (omega (arith, within.seen seat));
      };
      rises = record {
        covered = λ stack. omega arith;
        seen = λ seat.
            ≤-with_number before.seen feeder (length before.journal + 1) seat (omega (arith, within.seen feeder));
      };
    }
step_moves {B} before (pin seat) answer after within step =
    subst (λ (state : State B). Moves before (pin seat) state) (sym step.1) record {
      journal = sym (append-nil before.journal);
      within = record {
        covered = within.covered;
        seen = λ other.
            with_number-≤ before.seen seat (length before.journal) other (length before.journal) (omega arith) (within.seen other);
      };
      rises = record {
        covered = λ stack. omega arith;
        seen = λ other. ≤-with_number before.seen seat (length before.journal) other (within.seen seat);
      };
    }
step_moves {B} before (install stack covers) answer after within step =
    subst (λ (state : State B). Moves before (install stack covers) state) (sym step.2) record {
      journal = sym (append-nil before.journal);
      within = record {
        covered = λ other.
            with_number-≤ before.covered stack (max (before.covered stack) covers) other (length before.journal)
            (max-le (within.covered stack) step.0) (within.covered other);
        seen = within.seen;
      };
      rises = record {
        covered = λ other.
            ≤-with_number before.covered stack (max (before.covered stack) covers) other
            (le-max_left (before.covered stack) covers);
        seen = λ seat. omega arith;
      };
    }
step_moves {B} before (meet seat known) answer after within step =
    subst (λ (state : State B). Moves before (meet seat known) state) (sym step.1) record {
      journal = sym (append-nil before.journal);
      within = record {
        covered = within.covered;
        seen = λ other.
            with_number-≤ before.seen seat (max (before.seen seat) (before.seen known)) other (length before.journal)
            (max-le (within.seen seat) (within.seen known)) (within.seen other);
      };
      rises = record {
        covered = λ stack. omega arith;
        seen = λ other.
            ≤-with_number before.seen seat (max (before.seen seat) (before.seen known)) other
            (le-max_left (before.seen seat) (before.seen known));
      };
    }

-- what a run does to the journal and to the numbers
pub record RunMoves {B : Type 0} (before : State B) (events : List (Event B)) (after : State B) : Type 0 where
  pub journal : after.journal ≡ before.journal ++ published events
  pub within : IsWithin after
  pub rises : Rises before after

published-cons : {B : Type 0} (event : Event B) (events : List (Event B))
    → published (event ∷ events) ≡ published (event ∷ []) ++ published events
published-cons event events = filter_map-append batch_of (event ∷ []) events

pub runs_move : {B : Type 0} (before : State B) (events : List (Event B)) (after : State B)
    → IsWithin before → Runs before events after → RunMoves before events after
runs_move {B} before [] after within runs =
    subst (λ (state : State B). RunMoves before [] state) runs record {
      journal = sym (append-nil before.journal);
      within = within;
      rises = record { covered = λ stack. omega arith; seen = λ seat. omega arith };
    }
runs_move before (event ∷ events) after within (answer, (between, (step, runs))) =
    let first : Moves before event between = step_moves before event answer between within step in
    let others : RunMoves between events after = runs_move between events after first.within runs in
    record {
      journal =
          others.journal
          ∙ ap (λ journal. journal ++ published events) first.journal
          ∙ append_assoc before.journal (published (event ∷ [])) (published events)
          ∙ ap (λ batches. before.journal ++ batches) (sym (published-cons event events));
      within = others.within;
      rises = record {
        covered = λ stack. omega (arith, first.rises.covered stack, others.rises.covered stack);
        seen = λ seat. omega (arith, first.rises.seen seat, others.rises.seen seat);
      };
    }

opening_within : {B : Type 0} → IsWithin (opening {B = B})
opening_within = record { covered = λ stack. omega arith; seen = λ seat. omega arith }

pub core : (B : Type 0) → IsCore B
core B = record {
  journal_is_published = λ events state runs. (runs_move opening events state opening_within runs).journal;
  pin_is_between = λ events before after seat number runs step.
      let moved : RunMoves opening events before = runs_move opening events before opening_within runs in
      let answered : number ≡ length before.journal = cc step.0 in
      let all_published : length before.journal ≡ length (published events) = ap length moved.journal in
      (omega (arith, moved.within.seen seat), omega arith);
  seen_rises = λ events later before after seat runs more.
      (runs_move before later after (runs_move opening events before opening_within runs).within more).rises.seen seat;
  install_keeps = λ events before after stack covers answer runs step.
      (ap (λ (state : State B). state.journal) step.2, ap (λ (state : State B). state.seen) step.2);
  covered_rises = λ events later before after stack runs more.
      (runs_move before later after (runs_move opening events before opening_within runs).within more).rises.covered stack;
  covered_within = λ events state stack runs. (runs_move opening events state opening_within runs).within.covered stack;
}

-- the answer to an event, and the state after it
abbrev pub answer_of : {B : Type 0} → State B → Event B → Option ℕ
answer_of before (publish batch) = Some (length before.journal + 1)
answer_of before (pin seat) = Some (length before.journal)
answer_of before (install stack covers) = Some covers
answer_of before (meet seat other) = None

abbrev pub next : {B : Type 0} → State B → Event B → State B
next before (publish batch) =
    record before {
      journal = before.journal ++ batch ∷ [];
      seen = with_number before.seen feeder (length before.journal + 1);
    }
next before (pin seat) = record before { seen = with_number before.seen seat (length before.journal) }
next before (install stack covers) =
    record before { covered = with_number before.covered stack (max (before.covered stack) covers) }
next before (meet seat other) =
    record before { seen = with_number before.seen seat (max (before.seen seat) (before.seen other)) }

pub step_next : {B : Type 0} (before : State B) (event : Event B) → ¬ IsPast before event
    → Step before event (answer_of before event) (next before event)
step_next before (publish batch) enabled = (refl, refl)
step_next before (pin seat) enabled = (refl, refl)
step_next before (install stack covers) enabled = (omega arith, refl, refl)
step_next before (meet seat other) enabled = (refl, refl)

step_only : {B : Type 0} (before one two : State B) (event : Event B) (answer reply : Option ℕ)
    → Step before event answer one → Step before event reply two → (answer ≡ reply) × (one ≡ two)
step_only before one two (publish batch) answer reply first second = (first.0 ∙ sym second.0, first.1 ∙ sym second.1)
step_only before one two (pin seat) answer reply first second = (first.0 ∙ sym second.0, first.1 ∙ sym second.1)
step_only before one two (install stack covers) answer reply first second =
    (first.1 ∙ sym second.1, first.2 ∙ sym second.2)
step_only before one two (meet seat other) answer reply first second = (first.0 ∙ sym second.0, first.1 ∙ sym second.1)

step_none : {B : Type 0} (before after : State B) (event : Event B) (answer : Option ℕ)
    → IsPast before event → ¬ Step before event answer after
step_none before after (publish batch) answer past step = past
step_none before after (pin seat) answer past step = past
step_none before after (install stack covers) answer past step = omega (arith, step.0)
step_none before after (meet seat other) answer past step = past

pub determined : (B : Type 0) → IsDetermined B
determined B = record { there = λ before event enabled. (answer_of before event, (next before event, step_next before event enabled)); only = step_only; none = step_none }
