-- The short runs, by computation.
use Rattle.std.proofs.Common.{ℕ, ◌≡◌, List, [], ◌∷◌, length, refl, arith, ap}
use Rattle.version_catalog.specs.Core.{State, Event, pin, opening, Runs, IsPast}
use Rattle.version_catalog.specs.Examples.{short_events, ShortRun, LastPin, NoEarlyInstall}
use Rattle.version_catalog.proofs.CoreLemmas.{next, step_next}

-- no event is past the journal as it is by then
abbrev NonePast : State ℕ → List (Event ℕ) → Type 0
NonePast before [] = Unit {0}
NonePast before (event ∷ events) = (¬ IsPast before event) × NonePast (next before event) events

abbrev state_after : State ℕ → List (Event ℕ) → State ℕ
state_after before [] = before
state_after before (event ∷ events) = state_after (next before event) events

runs_on : (before : State ℕ) (events : List (Event ℕ)) → NonePast before events
    → Runs before events (state_after before events)
runs_on before [] none_past = refl
runs_on before (event ∷ events) none_past =
    (_, (_, (step_next before event none_past.0, runs_on (next before event) events none_past.1)))

short_runs : Runs opening short_events (state_after opening short_events)
short_runs = runs_on opening short_events (λ h. h, (λ h. h, (λ h. h, (λ h. omega arith, (λ h. omega arith, (λ h. h, tt))))))

pub short_run : ShortRun
short_run = (_, (short_runs, record { journal = refl; covered = refl; seen = refl }))

pub last_pin : LastPin
last_pin =
    (_, (_, (short_runs, step_next (state_after opening short_events) (pin 3) (λ h. h), record { journal = refl; covered = refl; seen = refl })))

pub no_early_install : NoEarlyInstall
no_early_install state (answer, (one, (first, (reply, (two, (second, runs)))))) =
    let published_one : length one.journal ≡ 1 = ap (λ (state : State ℕ). length state.journal) first.1 in
    omega (arith, second.0)
