-- When a run goes to its end.
use Rattle.std.specs.Prelude.{ℕ, ◌≡◌, ◌≤◌, ◌⊎◌, List, length, Option, Some}
use Rattle.uni_base.specs.Streams.{Rose}
use Rattle.uni_base.specs.declared.limits.Limits.{Limits}
use Rattle.uni_schema.specs.Schema.{Declarations}
use Rattle.script_rounds.specs.Entries.{Entry}
use Rattle.script_rounds.specs.Rounds.{script_of, opened}
use Rattle.unicorn_round.specs.declared.status.Status.{Status}
use Rattle.unicorn_round.specs.declared.status.Status.TheVariants.{Done, Memory}

-- a script is within its limit, and its header breaks no rule
pub record IsServable (limits : Limits) (script : List ℕ) : Type 0 where
  pub in_limit : length script ≤ limits.script
  pub schema : Declarations
  pub rounds : List (List Entry)
  pub header : script_of limits script ≡ opened schema rounds

-- such a script is answered whole, but for want of memory, where neither a read nor a write failed
abbrev pub Completes : Limits → Option (List ℕ) → ℕ → ℕ → ℕ → ℕ → Status → Type 0
Completes limits left reads_before reads_after writes_before writes_after status =
    (script : List ℕ) → left ≡ Some script → IsServable limits script
    → (Rose reads_before reads_after → ⊥) → (Rose writes_before writes_after → ⊥) → (status ≡ Done) ⊎ (status ≡ Memory)
