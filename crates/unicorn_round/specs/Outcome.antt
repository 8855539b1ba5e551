-- How a run over a script ends, why, and what it then wrote.
use Rattle.std.specs.Prelude.{ℕ, Bool, true, false, ◌≡◌, ◌<◌, ◌+◌, List, [], ◌∷◌, ◌++◌, length, take, Option, codes}
use Rattle.std.specs.Fmt.{decimal}
use Rattle.uni_base.specs.declared.limits.Limits.{Limits}
use Rattle.uni_schema.specs.Header.{opening_of}
use Rattle.uni_schema.specs.Header.{refused as header_refused}
use Rattle.uni_schema.specs.declared.refusal.SchemaRefusal.{SchemaRefusal}
use Rattle.uni_schema.specs.declared.refusal.SchemaRefusal.TheVariants as header
use Rattle.script_rounds.specs.Entries.{Entry}
use Rattle.script_rounds.specs.Lines.{lines_so_far}
use Rattle.script_rounds.specs.Reading.{Gave, NoneLeft}
use Rattle.script_rounds.specs.Rounds.{Script, opened, unopened, script_of, closed_script_of}
use Rattle.script_rounds.specs.Terms.{Terms, under}
use Rattle.unicorn_round.specs.declared.status.Status.{Status}
use Rattle.unicorn_round.specs.declared.status.Status.TheVariants.{Done, Usage, Schema, ReadFault, WriteFault, TooLong, Memory}
use Rattle.uni_base.specs.Lines.{lines_of}
use Rattle.unicorn_round.specs.Writing.{Took, TookPart}

-- what a mode says that a text is, of a script's rounds
abbrev pub Claim : Type 1
Claim = Terms → List (List Entry) → List ℕ → Type 0

-- a text answers all rounds of a script
abbrev pub AnswersAll : Limits → Claim → Script → List ℕ → Type 0
AnswersAll limits says (opened schema rounds) text = says (under limits schema) rounds text
AnswersAll limits says (unopened refusal) text = ⊥

-- a text answers some first rounds of a script, each whole; before the end of its header there is none
abbrev pub AnswersFirst : Limits → Claim → Script → List ℕ → Type 0
AnswersFirst limits says (opened schema rounds) text = (count : ℕ) × says (under limits schema) (take count rounds) text
AnswersFirst limits says (unopened refusal) text = text ≡ []

-- a text answers all rounds of a script that broke off; its header may be one whose end has not come, and
-- breaks no other rule
abbrev pub AnswersClosed : Limits → Claim → Script → List ℕ → Type 0
AnswersClosed limits says (opened schema rounds) text = says (under limits schema) rounds text
AnswersClosed limits says (unopened (header.NoBegin line)) text = text ≡ []
AnswersClosed limits says (unopened refusal) text = ⊥

-- a script as far as its bytes were taken: all of it where the input has ended, else the rounds that end
-- with their `go`
abbrev pub script_so_far : Limits → Bool → List ℕ → Script
script_so_far limits true bytes = script_of limits bytes
script_so_far limits false bytes = closed_script_of limits bytes

-- the line and the code of a header's fault
abbrev pub place_of : SchemaRefusal → ℕ × ℕ
place_of (header.BadLine line) = (line, 1)
place_of (header.NamedTwice line) = (line, 2)
place_of (header.UnknownVertical line) = (line, 3)
place_of (header.OutOfRange line) = (line, 4)
place_of (header.WordSource line) = (line, 5)
place_of (header.TooMany line) = (line, 6)
place_of (header.BadDeny line) = (line, 7)
place_of (header.NoBegin line) = (line, 8)
place_of header.Memory = (0, 0)

-- `schema LINE CODE`, with its LF
abbrev pub schema_text : SchemaRefusal → List ℕ
schema_text refusal =
    let place = place_of refusal in
    codes "schema " ++ (decimal place.0 ++ (codes " " ++ (decimal place.1 ++ 10 ∷ [])))

-- a header breaks a rule in the lines that were taken, whatever follows them
pub record IsHeaderFault (limits : Limits) (bytes : List ℕ) (ended : Bool) (refusal : SchemaRefusal) : Type 0 where
  pub so_far : opening_of limits.line (lines_so_far ended bytes) ≡ header_refused refusal
  pub whatever : (rest : List ℕ) → (ended ≡ true → rest ≡ []) → opening_of limits.line (lines_of (bytes ++ rest)) ≡ header_refused refusal

-- the text that was due where a write failed: the line of a header's fault, the answers of some first
-- rounds, or those of all with what closes them
pub data IsDue (limits : Limits) (says : Claim) (closing : ℕ → List ℕ) (bytes : List ℕ) (ended : Bool) (text : List ℕ) : Type 0 where
  of_header : (refusal : SchemaRefusal) → IsHeaderFault limits bytes ended refusal → text ≡ schema_text refusal → IsDue limits says closing bytes ended text
  of_rounds : AnswersFirst limits says (script_so_far limits ended bytes) text → IsDue limits says closing bytes ended text
  of_all :
      (front : List ℕ) → ended ≡ true → AnswersAll limits says (script_of limits bytes) front → text ≡ front ++ closing (length (lines_of bytes))
      → IsDue limits says closing bytes ended text

-- Why a run ended so, after these bytes of the script, the end of the input among them or not, and what it
-- wrote. Done: the answers of all rounds, and what closes them. Schema: the line of the header's fault.
-- ReadFault: the answers of the rounds whose `go` was taken. TooLong: of those whose `go` is within the limit.
-- WriteFault: a part of the text that was due. Memory: the answers of some first rounds.
abbrev pub Ends : Limits → Claim → (ℕ → List ℕ) → List ℕ → Bool → Option (List ℕ) → Option (List ℕ) → Status → Type 0
Ends limits says closing bytes ended before after Done =
    (text : List ℕ) × (ended ≡ true) × AnswersAll limits says (script_of limits bytes) text × Took before (text ++ closing (length (lines_of bytes))) after
Ends limits says closing bytes ended before after Schema =
    (refusal : SchemaRefusal) × IsHeaderFault limits bytes ended refusal × Took before (schema_text refusal) after
Ends limits says closing bytes ended before after ReadFault =
    (text : List ℕ) × (ended ≡ false) × AnswersClosed limits says (closed_script_of limits bytes) text × Took before text after
Ends limits says closing bytes ended before after TooLong =
    (text : List ℕ) × (ended ≡ false) × AnswersClosed limits says (closed_script_of limits (take limits.script bytes)) text × Took before text after
Ends limits says closing bytes ended before after WriteFault =
    (text : List ℕ) × IsDue limits says closing bytes ended text × TookPart before text after
Ends limits says closing bytes ended before after Memory =
    (text : List ℕ) × AnswersFirst limits says (script_so_far limits ended bytes) text × Took before text after
Ends limits says closing bytes ended before after Usage = ⊥

-- a run took bytes of the script, the first of those that its source had left where it tells them, and
-- ended for its cause; it stops for the script's length exactly where it took more than the limit, and that
-- by one byte
pub record Ran (limits : Limits) (says : Claim) (closing : ℕ → List ℕ) (left_before left_after taken_before taken_after : Option (List ℕ)) (status : Status) : Type 0 where
  pub bytes : List ℕ
  pub gave : Gave left_before bytes left_after
  pub ended : Bool
  pub none_left : ended ≡ true → NoneLeft left_after
  pub ends : Ends limits says closing bytes ended taken_before taken_after status
  pub too_long : status ≡ TooLong → length bytes ≡ limits.script + 1
  pub in_limit : limits.script < length bytes → status ≡ TooLong
