-- The header of a script, line by line.
use Rattle.std.specs.Prelude.{ℕ, ◌≡◌, Bool, true, false, ◌+◌, nat_le, if◌then◌else◌, List, [], ◌∷◌, length, Option, None, Some}
use Rattle.uni_base.specs.Fields.{is_skipped}
use Rattle.uni_schema.specs.Lines.{declaration_of}
use Rattle.uni_schema.specs.Rules.{rules, declares}
use Rattle.uni_schema.specs.Schema.{Declarations, IsSchema, nothing}
use Rattle.uni_schema.specs.declared.line.HeaderLine.{HeaderLine}
use Rattle.uni_schema.specs.declared.line.HeaderLine.TheVariants.{Begin}
use Rattle.uni_schema.specs.declared.refusal.SchemaRefusal.{SchemaRefusal}
use Rattle.uni_schema.specs.declared.refusal.SchemaRefusal.TheVariants.{BadLine, NoBegin}

-- where a reader of a header stands: how many lines it has taken, skipped ones among them, whether
-- the format line was one of them, whether `begin` was, what they declare, and how long a line may be
pub record HeaderState : Type 0 where
  pub taken : ℕ
  pub begun : Bool
  pub ended : Bool
  pub schema : Declarations
  pub longest : ℕ

-- no line is taken
abbrev pub opening : ℕ → HeaderState
opening longest = record { taken = 0; begun = false; ended = false; schema = nothing; longest = longest }

abbrev pub is_begin : HeaderLine → Bool
is_begin Begin = true
is_begin _ = false

-- one line more is taken, which is skipped
abbrev pub passed : HeaderState → HeaderState
passed state = record state { taken = state.taken + 1 }

-- one line more is taken, which says this
abbrev pub told : HeaderState → HeaderLine → HeaderState
told state line = record state { taken = state.taken + 1; begun = true; ended = is_begin line; schema = declares state.schema line }

-- what one line more leads to
pub data Step : Type 0 where
  goes : HeaderState → Step
  refuses : SchemaRefusal → Step

-- what a line says to a reader, if it is not too long and of one of the forms
abbrev pub line_of : HeaderState → List ℕ → Option HeaderLine
line_of state line = if nat_le (length line) state.longest then declaration_of line else None

-- the step of a line that says something, where a rule may refuse it
abbrev pub judged : HeaderState → HeaderLine → Option SchemaRefusal → Step
judged state line None = goes (told state line)
judged state line (Some refusal) = refuses refusal

abbrev pub step_by : HeaderState → Option HeaderLine → Step
step_by state None = refuses (BadLine (state.taken + 1))
step_by state (Some line) = judged state line (rules (state.taken + 1) state.begun state.schema line)

-- the step of one line more
abbrev pub step : HeaderState → List ℕ → Step
step state line = if is_skipped line then goes (passed state) else step_by state (line_of state line)

-- what the lines of a script open with: a header, the number of the line after it, and the lines from
-- there on; or the first refusal
pub data Opening : Type 0 where
  opens : Declarations → ℕ → List (List ℕ) → Opening
  refused : SchemaRefusal → Opening

-- what follows a step: the end of the header, what later lines open with, or a refusal
abbrev pub after_step : List (List ℕ) → (HeaderState → Opening) → Step → Opening
after_step lines later (goes next) = elim next.ended [ true ↦ opens next.schema (next.taken + 1) lines | false ↦ later next ]
after_step lines later (refuses refusal) = refused refusal

abbrev pub opening_from : HeaderState → List (List ℕ) → Opening
opening_from state [] = refused (NoBegin (state.taken + 1))
opening_from state (line ∷ lines) = after_step lines (λ next. opening_from next lines) (step state line)

-- the header of the lines of a script, whose lines are at most so long
abbrev pub opening_of : ℕ → List (List ℕ) → Opening
opening_of longest lines = opening_from (opening longest) lines

-- what lines that open declare keeps what every schema keeps
pub record OpenedIsSchema : Type 0 where
  pub is : (longest : ℕ) (lines : List (List ℕ)) (schema : Declarations) (number : ℕ) (rest : List (List ℕ)) → opening_of longest lines ≡ opens schema number rest → IsSchema schema
