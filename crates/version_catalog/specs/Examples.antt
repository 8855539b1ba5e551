-- Short runs, by computation. The batches are numbers.
use Rattle.std.specs.Prelude.{ℕ, ◌≡◌, List, [], ◌∷◌, map, Some}
use Rattle.version_catalog.specs.Core.{Event, publish, pin, install, meet, State, opening, Step, Runs}

-- a state with these batches, in which stacks 0 and 1 cover, and seats 0 to 3 have seen, so many
pub record IsState (state : State ℕ) (batches covers sees : List ℕ) : Type 0 where
  pub journal : state.journal ≡ batches
  pub covered : map state.covered (0 ∷ 1 ∷ []) ≡ covers
  pub seen : map state.seen (0 ∷ 1 ∷ 2 ∷ 3 ∷ []) ≡ sees

-- two publishes round a pin of seat 1, two installs in stack 0, the newer one first, and seat 2 meets seat 1
abbrev pub short_events : List (Event ℕ)
short_events = publish 70 ∷ pin 1 ∷ publish 80 ∷ install 0 2 ∷ install 0 1 ∷ meet 2 1 ∷ []

-- the older install and the second publish leave what they are not about
abbrev pub ShortRun : Type 0
ShortRun = (state : State ℕ) × (Runs opening short_events state × IsState state (70 ∷ 80 ∷ []) (2 ∷ 0 ∷ []) (2 ∷ 1 ∷ 1 ∷ 0 ∷ []))

-- a pin after both answers 2, and seat 3 has then seen both
abbrev pub LastPin : Type 0
LastPin =
    (before : State ℕ) × ((after : State ℕ) × (
    Runs opening short_events before
    × Step before (pin 3) (Some 2) after
    × IsState after (70 ∷ 80 ∷ []) (2 ∷ 0 ∷ []) (2 ∷ 1 ∷ 1 ∷ 2 ∷ [])
    ))

-- before the second publish nothing can be installed that covers it
abbrev pub NoEarlyInstall : Type 0
NoEarlyInstall = (state : State ℕ) → ¬ Runs opening (publish 70 ∷ install 0 2 ∷ publish 80 ∷ []) state
