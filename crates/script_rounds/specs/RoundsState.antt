-- Where the reading of a script's rounds stands, and what each call gives.
use Rattle.std.specs.Prelude.{ℕ, Bool, true, false, ◌≡◌, ◌≤◌, ◌+◌, ◌⊎◌, List, [], ◌∷◌, ◌++◌, length, Option, None, Some, ⊤}
use Rattle.uni_base.specs.declared.limits.Limits.{Limits}
use Rattle.uni_schema.specs.Header.{opening_of}
use Rattle.uni_schema.specs.Header.{refused as header_refused}
use Rattle.uni_schema.specs.Schema.{Declarations}
use Rattle.uni_schema.specs.declared.refusal.SchemaRefusal.{SchemaRefusal}
use Rattle.uni_schema.specs.declared.refusal.SchemaRefusal.TheVariants.{NoBegin}
use Rattle.uni_schema.specs.declared.refusal.SchemaRefusal.TheVariants as schema_refusals
use Rattle.script_rounds.specs.declared.item.Item.{Item}
use Rattle.script_rounds.specs.declared.header.OpenRefusal.{OpenRefusal}
use Rattle.script_rounds.specs.declared.header.OpenRefusal.TheVariants as opening
use Rattle.script_rounds.specs.declared.item.Round.{Round}
use Rattle.script_rounds.specs.declared.lines.ScriptRefusal.{ScriptRefusal}
use Rattle.script_rounds.specs.declared.lines.ScriptRefusal.TheVariants.{ReadFault, TooLong, Memory}
use Rattle.script_rounds.specs.Entries.{Entry, AreItemsOf}
use Rattle.script_rounds.specs.Lines.{whole_lines, lines_so_far}
use Rattle.script_rounds.specs.Reading.{LineState, Gave, IsSpent, NoneLeft}
use Rattle.script_rounds.specs.RoundReads.{Keeps}
use Rattle.script_rounds.specs.Rounds.{rounds_from, closed_from, script_of, closed_script_of, opened}
use Rattle.uni_base.specs.Lines.{lines_of}
use Rattle.script_rounds.specs.Terms.{Terms, under}

-- a reader of lines, what they are read under, and the refusal that was answered, if one was
pub record RoundsState : Type 0 where
  pub reader : LineState
  pub terms : Terms
  pub refusal : Option ScriptRefusal

-- what the state of a reader of rounds keeps
pub record IsReady (terms : Terms) (reader : LineState) (refusal : Option ScriptRefusal) : Type 0 where
  pub keeps : Keeps terms.limits reader
  pub limit : reader.limit ≡ terms.limits.script
  pub few : reader.lines ≤ terms.limits.script
  pub in_limit : refusal ≡ None → reader.taken ≤ reader.limit

-- the rounds to come, where these bytes follow those that are held
abbrev pub rounds_ahead : RoundsState → List ℕ → List (List Entry)
rounds_ahead state rest = rounds_from state.terms (state.reader.lines + 1) 0 (lines_of (state.reader.ahead ++ rest))

-- of them those that end with their `go`, as far as lines are whole
abbrev pub closed_ahead : RoundsState → List ℕ → List (List Entry)
closed_ahead state rest = closed_from state.terms (state.reader.lines + 1) 0 (whole_lines (state.reader.ahead ++ rest))

-- how many lines there are in all, where these bytes follow those that are held
abbrev pub lines_in_all : RoundsState → List ℕ → ℕ
lines_in_all state rest = state.reader.lines + length (lines_of (state.reader.ahead ++ rest))

-- bytes were taken from the source
pub record Took (before after : RoundsState) (left_before left_after : Option (List ℕ)) : Type 0 where
  pub more : List ℕ
  pub gave : Gave left_before more left_after
  pub taken : after.reader.taken ≡ before.reader.taken + length more
  pub terms : after.terms ≡ before.terms
  pub limit : after.reader.limit ≡ before.reader.limit
  -- after the end of the input none are
  pub spent : before.reader.ended ≡ true → more ≡ []
  pub stays : before.reader.ended ≡ true → after.reader.ended ≡ true

-- A round was read: whatever follows the bytes that were taken, it is the first of the rounds that were to
-- come, and the others are to come then; and so of those that end with their `go`.
pub record ReadRound (before after : RoundsState) (left_before left_after : Option (List ℕ)) (items : List Item) : Type 0 where
  pub took : Took before after left_before left_after
  pub entries : List Entry
  pub first : (rest : List ℕ) → (after.reader.ended ≡ true → rest ≡ []) → rounds_ahead before (took.more ++ rest) ≡ entries ∷ rounds_ahead after rest
  pub closed : after.reader.ended ≡ false → (rest : List ℕ) → closed_ahead before (took.more ++ rest) ≡ entries ∷ closed_ahead after rest
  pub lines : (rest : List ℕ) → (after.reader.ended ≡ true → rest ≡ []) → lines_in_all before (took.more ++ rest) ≡ lines_in_all after rest
  pub gives : AreItemsOf entries items

-- no round is left: the input has ended, and all of it was given on
pub record ReadEnd (before after : RoundsState) (left_before left_after : Option (List ℕ)) : Type 0 where
  pub took : Took before after left_before left_after
  pub none : rounds_ahead before took.more ≡ []
  pub spent : IsSpent after.reader
  pub lines : lines_in_all before took.more ≡ after.reader.lines

abbrev pub ReadNext : RoundsState → RoundsState → Option (List ℕ) → Option (List ℕ) → Option Round → Type 0
ReadNext before after left_before left_after None = ReadEnd before after left_before left_after
ReadNext before after left_before left_after (Some round) = ReadRound before after left_before left_after round.items

-- No further round ends with its `go` in the bytes that were taken, where a read failed; nor in those
-- within the limit, where one byte more was taken.
abbrev pub NoneClosed : RoundsState → List ℕ → ScriptRefusal → Type 0
NoneClosed before more ReadFault = closed_ahead before more ≡ []
NoneClosed before more (TooLong count) = (front : List ℕ) × ((last : ℕ) × ((more ≡ front ++ last ∷ []) × (closed_ahead before front ≡ [])))
NoneClosed before more Memory = ⊤

-- so many bytes were taken, that the limit was passed, or it was not
abbrev pub LimitFits : ScriptRefusal → ℕ → ℕ → Type 0
LimitFits (TooLong count) taken limit = (count ≡ taken) × (taken ≡ limit + 1)
LimitFits refusal taken limit = taken ≤ limit

-- reading stopped within a round
pub record ReadStopped (before after : RoundsState) (left_before left_after : Option (List ℕ)) (refusal : ScriptRefusal) : Type 0 where
  pub took : Took before after left_before left_after
  pub none : NoneClosed before took.more refusal
  pub limit : LimitFits refusal after.reader.taken after.reader.limit
  -- where a read failed, or the limit was passed, the input had not ended
  pub unended : (refusal ≡ Memory) ⊎ (before.reader.ended ≡ false)

-- A script was opened: whatever follows the bytes that were taken, its header is whole in them, and its
-- rounds are those to come.
pub record Opened (limits : Limits) (rounds : RoundsState) (schema : Declarations) (left_before left_after : Option (List ℕ)) : Type 0 where
  pub more : List ℕ
  pub gave : Gave left_before more left_after
  pub taken : rounds.reader.taken ≡ length more
  pub terms : rounds.terms ≡ under limits schema
  pub ready : rounds.refusal ≡ None
  pub script : (rest : List ℕ) → (rounds.reader.ended ≡ true → rest ≡ []) → script_of limits (more ++ rest) ≡ opened schema (rounds_ahead rounds rest)
  pub closed : rounds.reader.ended ≡ false → (rest : List ℕ) → closed_script_of limits (more ++ rest) ≡ opened schema (closed_ahead rounds rest)
  pub lines : (rest : List ℕ) → (rounds.reader.ended ≡ true → rest ≡ []) → length (lines_of (more ++ rest)) ≡ lines_in_all rounds rest
  pub end : rounds.reader.ended ≡ true → NoneLeft left_after

-- A header was refused, in the lines that are whole in the bytes that were taken, or in all lines of the
-- input where it has ended, and whatever follows; or memory was wanting for it.
pub record HeaderRefused (limits : Limits) (refusal : SchemaRefusal) (left_before left_after : Option (List ℕ)) : Type 0 where
  pub more : List ℕ
  pub gave : Gave left_before more left_after
  pub in_limit : length more ≤ limits.script
  pub ended : Bool
  pub end : ended ≡ true → NoneLeft left_after
  pub so_far : (refusal ≡ schema_refusals.Memory) ⊎ (opening_of limits.line (lines_so_far ended more) ≡ header_refused refusal)
  pub refuses : (refusal ≡ schema_refusals.Memory) ⊎ ((rest : List ℕ) → (ended ≡ true → rest ≡ []) → opening_of limits.line (lines_of (more ++ rest)) ≡ header_refused refusal)

-- the whole lines of bytes begin a header, and are not all of it
abbrev pub IsUnfinished : Limits → List ℕ → Type 0
IsUnfinished limits bytes = opening_of limits.line (whole_lines bytes) ≡ header_refused (NoBegin (length (whole_lines bytes) + 1))

abbrev pub NoHeader : Limits → List ℕ → ScriptRefusal → Type 0
NoHeader limits more ReadFault = IsUnfinished limits more
NoHeader limits more (TooLong count) = (front : List ℕ) × ((last : ℕ) × ((more ≡ front ++ last ∷ []) × IsUnfinished limits front))
NoHeader limits more Memory = ⊤

-- reading stopped within the header
pub record HeaderStopped (limits : Limits) (refusal : ScriptRefusal) (left_before left_after : Option (List ℕ)) : Type 0 where
  pub more : List ℕ
  pub gave : Gave left_before more left_after
  pub none : NoHeader limits more refusal
  pub limit : LimitFits refusal (length more) limits.script

-- why a script was not opened
abbrev pub OpenRefused : Limits → OpenRefusal → Option (List ℕ) → Option (List ℕ) → Type 0
OpenRefused limits (opening.Schema refusal) left_before left_after = HeaderRefused limits refusal left_before left_after
OpenRefused limits (opening.Script refusal) left_before left_after = HeaderStopped limits refusal left_before left_after
