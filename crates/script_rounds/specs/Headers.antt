-- What taking the lines of a header gives.
use Rattle.std.specs.Prelude.{ℕ, true, ◌≡◌, ◌≤◌, ◌+◌, ◌⊎◌, List, [], ◌++◌, length, Result, Ok, Err}
use Rattle.uni_base.specs.declared.limits.Limits.{Limits}
use Rattle.uni_schema.specs.Header.{opens, opening_of, refused}
use Rattle.uni_schema.specs.Schema.{Declarations}
use Rattle.uni_schema.specs.declared.refusal.SchemaRefusal.{SchemaRefusal}
use Rattle.uni_schema.specs.declared.refusal.SchemaRefusal.TheVariants.{NoBegin, Memory}
use Rattle.script_rounds.specs.declared.header.OpenRefusal.{OpenRefusal}
use Rattle.script_rounds.specs.declared.header.OpenRefusal.TheVariants.{Schema, Script}
use Rattle.script_rounds.specs.declared.lines.ScriptRefusal.{ScriptRefusal}
use Rattle.script_rounds.specs.Lines.{lines_so_far, cut}
use Rattle.script_rounds.specs.Reading.{Place, Went, Stopped, FaultsFit, to_come}

-- a header was taken, whole, whatever follows
pub record TookHeader (limits : Limits) (schema : Declarations) (before after : Place) : Type 0 where
  pub lines : List (List ℕ)
  pub went : Went before after lines
  pub opening : (rest : List (List ℕ)) → opening_of limits.line (lines ++ rest) ≡ opens schema (length lines + 1) rest

-- a header was refused, in the lines so far and whatever follows; or memory was wanting
pub record FaultyHeader (limits : Limits) (refusal : SchemaRefusal) (before after : Place) : Type 0 where
  pub lines : List (List ℕ)
  pub went : Went before after lines
  pub in_limit : after.reader.taken ≤ after.reader.limit
  pub so_far : (refusal ≡ Memory) ⊎ (opening_of limits.line (lines ++ cut after.reader.kept (lines_so_far after.reader.ended after.reader.ahead)) ≡ refused refusal)
  pub refuses : (refusal ≡ Memory) ⊎ ((rest : List ℕ) → (after.reader.ended ≡ true → rest ≡ [])
      → opening_of limits.line (lines ++ to_come after.reader rest) ≡ refused refusal)

-- reading stopped within a header
pub record BrokenHeader (limits : Limits) (refusal : ScriptRefusal) (before after : Place) : Type 0 where
  pub lines : List (List ℕ)
  pub stopped : Stopped before after lines refusal
  pub begun : opening_of limits.line lines ≡ refused (NoBegin (length lines + 1))

abbrev pub HeaderFaults : Limits → OpenRefusal → Place → Place → Type 0
HeaderFaults limits (Schema refusal) before after = FaultyHeader limits refusal before after
HeaderFaults limits (Script refusal) before after = BrokenHeader limits refusal before after

-- the count of faults rose where a read failed, and only there
abbrev pub OpenFits : {A : Type 0} → Result A OpenRefusal → ℕ → ℕ → Type 0
OpenFits (Ok answer) before after = after ≡ before
OpenFits {A} (Err (Schema refusal)) before after = after ≡ before
OpenFits {A} (Err (Script refusal)) before after = FaultsFit {A = A} (Err refusal) before after
