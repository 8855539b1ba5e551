-- What is written for a header's fault.
use Rattle.std.specs.Prelude.{ℕ, ◌≡◌, List, Option}
use Rattle.uni_schema.specs.declared.refusal.SchemaRefusal.{SchemaRefusal}
use Rattle.uni_schema.specs.declared.refusal.SchemaRefusal.TheVariants as header
use Rattle.unicorn_round.specs.declared.status.Status.{Status}
use Rattle.unicorn_round.specs.declared.status.Status.TheVariants.{Schema, WriteFault, Memory}
use Rattle.unicorn_round.specs.Outcome.{schema_text}
use Rattle.unicorn_round.specs.Writing.{Took, TookPart}

-- the line of the fault, or a part of it where a write failed, or nothing for want of memory
abbrev pub FaultWritten : SchemaRefusal → Option (List ℕ) → Option (List ℕ) → Status → Type 0
FaultWritten refusal before after Schema = (refusal ≡ header.Memory → ⊥) × Took before (schema_text refusal) after
FaultWritten refusal before after WriteFault = (refusal ≡ header.Memory → ⊥) × TookPart before (schema_text refusal) after
FaultWritten refusal before after Memory = after ≡ before
FaultWritten refusal before after status = ⊥
