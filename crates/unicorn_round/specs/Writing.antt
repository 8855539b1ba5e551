-- What writing gives to a sink.
use Rattle.std.specs.Prelude.{ℕ, ◌≡◌, ◌<◌, List, ◌++◌, Option, None, Some, length, take}

-- a sink took a text, after what it had taken, where it tells that
abbrev pub Took : Option (List ℕ) → List ℕ → Option (List ℕ) → Type 0
Took None text after = after ≡ None
Took (Some before) text after = after ≡ Some (before ++ text)

-- a sink took the first bytes of a text, and not all
abbrev pub TookPart : Option (List ℕ) → List ℕ → Option (List ℕ) → Type 0
TookPart before text after = (count : ℕ) × (count < length text) × Took before (take count text) after
