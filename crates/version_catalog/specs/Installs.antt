-- What was installed in the stacks of a catalogue.
use Rattle.std.specs.Prelude.{◌≡◌, ℕ, ◌+◌, ◌==◌, ◌&&◌, ◌||◌, ◌≤◌, ◌⊎◌, Bool, true, false, List, [], ◌∷◌, length, get_or, max, if◌then◌else◌}
use Rattle.uni_schema.specs.Schema.{Declarations}
use Rattle.shard_index.specs.Places.{IsStack, stack_no}
use Rattle.shard_index.specs.Versions.{VersionState}
use Rattle.version_catalog.specs.declared.install.Install.{Install}
use Rattle.version_catalog.specs.declared.stack_id.StackId.{StackId}

-- that a stack has one layer in place of those of its first publishes, so many
abbrev pub install_of : ℕ → ℕ → ℕ → ℕ → Install
install_of v s r covers = record { stack = record { vertical = v; shard = s; replica = r }; covers = covers }

-- a stack is the one of these numbers
abbrev pub is_stack : ℕ → ℕ → ℕ → StackId → Bool
is_stack v s r stack = stack.vertical == v && stack.shard == s && stack.replica == r

-- it is one in the stack of these numbers
abbrev pub is_in : ℕ → ℕ → ℕ → Install → Bool
is_in v s r install = is_stack v s r install.stack

-- how many publishes the oldest layer of a stack covers after some installs: as many as the one that covers most
abbrev pub covers_of : List Install → ℕ → ℕ → ℕ → ℕ
covers_of [] v s r = 0
covers_of (install ∷ installs) v s r = if is_in v s r install then max install.covers (covers_of installs v s r) else covers_of installs v s r

-- some stacks have one of these numbers
abbrev pub has_stack : ℕ → ℕ → ℕ → List StackId → Bool
has_stack v s r [] = false
has_stack v s r (stack ∷ stacks) = is_stack v s r stack || has_stack v s r stacks

-- each stack covers what it did, or it is one of some stacks and covers at least so many publishes
abbrev pub Raises : List StackId → ℕ → List Install → List Install → Type 0
Raises stacks least old new =
    (v s r : ℕ) → (covers_of new v s r ≡ covers_of old v s r) ⊎ ((has_stack v s r stacks ≡ true) × (least ≤ covers_of new v s r))

-- each stack of a version covers no more publishes than were made, by some installs, and has a layer for what its oldest one covers and one more for each later publish
abbrev pub IsLayered : Declarations → List Install → ℕ → VersionState → Type 0
IsLayered schema installs publishes version =
    (v s r : ℕ) → IsStack schema v s r → (covers_of installs v s r ≤ publishes) × (length (get_or version.stacks (stack_no schema v s r) []) + covers_of installs v s r ≡ 1 + publishes)
