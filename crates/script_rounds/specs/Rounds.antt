-- The rounds of a script.
use Rattle.std.specs.Prelude.{ℕ, ◌+◌, List, [], ◌∷◌, ◌++◌, take, count_by}
use Rattle.uni_base.specs.declared.limits.Limits.{Limits}
use Rattle.uni_schema.specs.Schema.{Declarations}
use Rattle.uni_schema.specs.Header.{Opening, opens, opening_of}
use Rattle.uni_schema.specs.Header.{refused as header_refused}
use Rattle.uni_schema.specs.declared.refusal.SchemaRefusal.{SchemaRefusal}
use Rattle.script_rounds.specs.Entries.{Entry}
use Rattle.script_rounds.specs.Terms.{Terms, under}
use Rattle.script_rounds.specs.Lines.{whole_lines}
use Rattle.uni_base.specs.Lines.{lines_of}
use Rattle.script_rounds.specs.Roles.{Role, go, skipped, counted, role_of, is_go}

-- how many lines of its round counted, after a line that so many did before: `go` begins another round
abbrev pub counted_after : ℕ → Role → ℕ
counted_after before go = 0
counted_after before skipped = before
counted_after before (counted entry) = before + 1

-- a line in front of the rounds of the lines after it: `go` ends a round, in which no entry follows; any
-- other line belongs to the first of them, which it begins where there is none; a skipped line has no entry
abbrev pub in_front : Role → List (List Entry) → List (List Entry)
in_front go rounds = [] ∷ rounds
in_front skipped [] = [] ∷ []
in_front skipped (round ∷ rounds) = round ∷ rounds
in_front (counted entry) [] = (entry ∷ []) ∷ []
in_front (counted entry) (round ∷ rounds) = (entry ∷ round) ∷ rounds

-- Rounds: the rounds of lines, the first of which has this number, with so many lines of its round that
-- counted before it. A round ends with `go`, or with the lines
abbrev pub rounds_from : Terms → ℕ → ℕ → List (List ℕ) → List (List Entry)
rounds_from terms number before [] = []
rounds_from terms number before (line ∷ lines) =
    let role : Role = role_of terms number before line in
    in_front role (rounds_from terms (number + 1) (counted_after before role) lines)

-- Closed: the rounds that end with their `go`: the first ones, as many as there are such lines
abbrev pub closed_from : Terms → ℕ → ℕ → List (List ℕ) → List (List Entry)
closed_from terms number before lines = take (count_by is_go lines) (rounds_from terms number before lines)

-- what the bytes of a script are: a schema and rounds, or the refusal of its header
pub data Script : Type 0 where
  opened : Declarations → List (List Entry) → Script
  unopened : SchemaRefusal → Script

-- a header and the rounds of the lines after it
abbrev pub script_by : (Declarations → ℕ → List (List ℕ) → List (List Entry)) → Opening → Script
script_by rounds (opens schema number lines) = opened schema (rounds schema number lines)
script_by rounds (header_refused refusal) = unopened refusal

-- a script of these bytes: its rounds, the last of which may lack its `go`
abbrev pub script_of : Limits → List ℕ → Script
script_of limits bytes = script_by (λ schema number lines. rounds_from (under limits schema) number 0 lines) (opening_of limits.line (lines_of bytes))

-- a script that begins with these bytes, as far as its lines are whole: its rounds that end with their `go`
abbrev pub closed_script_of : Limits → List ℕ → Script
closed_script_of limits bytes = script_by (λ schema number lines. closed_from (under limits schema) number 0 lines) (opening_of limits.line (whole_lines bytes))

-- the entry of a line that counts, and none of another
abbrev pub entry_in : Role → List Entry
entry_in go = []
entry_in skipped = []
entry_in (counted entry) = entry ∷ []

-- the entries of lines within a round, none of which ends it
abbrev pub entries_from : Terms → ℕ → ℕ → List (List ℕ) → List Entry
entries_from terms number before [] = []
entries_from terms number before (line ∷ lines) =
    let role : Role = role_of terms number before line in
    entry_in role ++ entries_from terms (number + 1) (counted_after before role) lines
