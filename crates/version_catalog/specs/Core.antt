-- The core of versions: what happens to a journal, to the stacks that are built from it and to the
-- seats that look at it, with all contents left out. Seats and stacks go by number, and seat 0 is
-- the feeder's, which alone publishes.
use Rattle.std.specs.Prelude.{ℕ, ◌≡◌, ◌==◌, ◌+◌, ◌<◌, ◌≤◌, List, [], ◌∷◌, ◌++◌, length, max, Option, Some, None, if◌then◌else◌}
use Rattle.std.specs.List.{filter_map}

-- what may happen: a batch is published; a seat pins the newest version; a compaction of the first
-- `covers` batches is installed in a stack; one seat learns what another one has seen
pub data Event (B : Type 0) : Type 0 where
  publish : B → Event B
  pin : ℕ → Event B
  install : ℕ → ℕ → Event B
  meet : ℕ → ℕ → Event B

-- the batches published so far, how many of them each stack covers in one piece, and how many of
-- them each seat has seen
pub record State (B : Type 0) : Type 0 where
  pub journal : List B
  pub covered : ℕ → ℕ
  pub seen : ℕ → ℕ

-- nothing is published, covered or seen
abbrev pub opening : {B : Type 0} → State B
opening = record { journal = []; covered = λ stack. 0; seen = λ seat. 0 }

-- the feeder's seat
abbrev pub feeder : ℕ
feeder = 0

-- the numbers with n at one place
abbrev pub with_number : (ℕ → ℕ) → ℕ → ℕ → ℕ → ℕ
with_number numbers place n = λ other. if other == place then n else numbers other

-- One event, with its answer and the state after it. A publish and a pin answer the journal's
-- length, which their seat has then seen. An install answers what it covers, and the stack then
-- covers the greater of that and what it covered before; past the journal there is no such step.
-- A meet has no answer, and its seat has then seen the greater of both.
abbrev pub Step : {B : Type 0} → State B → Event B → Option ℕ → State B → Type 0
Step before (publish batch) answer after =
    let longer = length before.journal + 1 in
    (answer ≡ Some longer)
    × (after ≡ record before { journal = before.journal ++ batch ∷ []; seen = with_number before.seen feeder longer })
Step before (pin seat) answer after =
    (answer ≡ Some (length before.journal))
    × (after ≡ record before { seen = with_number before.seen seat (length before.journal) })
Step before (install stack covers) answer after =
    (covers ≤ length before.journal)
    × (answer ≡ Some covers)
    × (after ≡ record before { covered = with_number before.covered stack (max (before.covered stack) covers) })
Step before (meet seat other) answer after =
    (answer ≡ None)
    × (after ≡ record before { seen = with_number before.seen seat (max (before.seen seat) (before.seen other)) })

-- the event installs more batches than the journal has
abbrev pub IsPast : {B : Type 0} → State B → Event B → Type 0
IsPast state (publish batch) = ⊥
IsPast state (pin seat) = ⊥
IsPast state (install stack covers) = length state.journal < covers
IsPast state (meet seat other) = ⊥

-- The events lead from one state to another, each by a step. A list that installs past the journal
-- as it is by then leads nowhere.
abbrev pub Runs : {B : Type 0} → State B → List (Event B) → State B → Type 0
Runs before [] after = before ≡ after
Runs {B} before (event ∷ events) after =
    (answer : Option ℕ) × ((between : State B) × (Step before event answer between × Runs between events after))

-- the batch of a publish
abbrev pub batch_of : {B : Type 0} → Event B → Option B
batch_of (publish batch) = Some batch
batch_of (pin seat) = None
batch_of (install stack covers) = None
batch_of (meet seat other) = None

-- the published batches, each once and in order
abbrev pub published : {B : Type 0} → List (Event B) → List B
published events = filter_map batch_of events

-- The core, for every list of events from the opening state.
pub record IsCore (B : Type 0) : Type 0 where
  -- the journal is the list of published batches, each once and in order
  pub journal_is_published :
      (events : List (Event B)) → (state : State B) → Runs opening events state → state.journal ≡ published events
  -- a pin answers at least what its seat had seen, and at most the publishes up to there
  pub pin_is_between :
      (events : List (Event B)) → (before after : State B) → (seat number : ℕ)
      → Runs opening events before → Step before (pin seat) (Some number) after
      → (before.seen seat ≤ number) × (number ≤ length (published events))
  -- no seat's seen number falls
  pub seen_rises :
      (events later : List (Event B)) → (before after : State B) → (seat : ℕ)
      → Runs opening events before → Runs before later after → before.seen seat ≤ after.seen seat
  -- an install changes neither the journal nor a seen number
  pub install_keeps :
      (events : List (Event B)) → (before after : State B) → (stack covers : ℕ) → (answer : Option ℕ)
      → Runs opening events before → Step before (install stack covers) answer after
      → (after.journal ≡ before.journal) × (after.seen ≡ before.seen)
  -- no stack's covered number falls
  pub covered_rises :
      (events later : List (Event B)) → (before after : State B) → (stack : ℕ)
      → Runs opening events before → Runs before later after → before.covered stack ≤ after.covered stack
  -- and none passes the journal's length
  pub covered_within :
      (events : List (Event B)) → (state : State B) → (stack : ℕ)
      → Runs opening events state → state.covered stack ≤ length state.journal

-- Each event has one step from each state, except that an install past the journal has none.
pub record IsDetermined (B : Type 0) : Type 0 where
  pub there :
      (before : State B) → (event : Event B) → ¬ IsPast before event
      → (answer : Option ℕ) × ((after : State B) × Step before event answer after)
  pub only :
      (before one other : State B) → (event : Event B) → (answer reply : Option ℕ)
      → Step before event answer one → Step before event reply other → (answer ≡ reply) × (one ≡ other)
  pub none :
      (before after : State B) → (event : Event B) → (answer : Option ℕ)
      → IsPast before event → ¬ Step before event answer after
