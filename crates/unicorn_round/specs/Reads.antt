-- A script that is read and answered round by round.
use Rattle.std.specs.Prelude.{ℕ, true, false, ◌≡◌, ◌≤◌, ◌*◌, List, [], ◌++◌, length, Option}
use Rattle.uni_base.specs.declared.limits.Limits.{Limits}
use Rattle.uni_schema.specs.Schema.{Declarations}
use Rattle.script_rounds.specs.Entries.{Entry}
use Rattle.uni_base.specs.Lines.{lines_of}
use Rattle.script_rounds.specs.Reading.{Gave, IsSpent, NoneLeft}
use Rattle.script_rounds.specs.Rounds.{opened, script_of, closed_script_of}
use Rattle.script_rounds.specs.RoundsState.{RoundsState, rounds_ahead, closed_ahead, lines_in_all}
use Rattle.script_rounds.specs.Terms.{Terms, under}
use Rattle.unicorn_round.specs.Writing.{Took}

-- bytes were taken of a script, and its header and these rounds were read in them; whatever follows, the
-- rounds to come are those that the reader has ahead
pub record HasRead (limits : Limits) (state : RoundsState) (schema : Declarations) (left_before left_now : Option (List ℕ)) (rounds : List (List Entry)) : Type 0 where
  pub bytes : List ℕ
  pub gave : Gave left_before bytes left_now
  pub taken : state.reader.taken ≡ length bytes
  pub limit : state.reader.limit ≡ limits.script
  pub in_limit : state.reader.taken ≤ limits.script
  pub terms : state.terms ≡ under limits schema
  pub script : (rest : List ℕ) → (state.reader.ended ≡ true → rest ≡ []) → script_of limits (bytes ++ rest) ≡ opened schema (rounds ++ rounds_ahead state rest)
  pub closed : state.reader.ended ≡ false → (rest : List ℕ) → closed_script_of limits (bytes ++ rest) ≡ opened schema (rounds ++ closed_ahead state rest)
  pub lines : (rest : List ℕ) → (state.reader.ended ≡ true → rest ≡ []) → length (lines_of (bytes ++ rest)) ≡ lines_in_all state rest
  pub end : state.reader.ended ≡ true → NoneLeft left_now

-- rounds of a script were read and answered, and the sink took the text
pub record Ongoing (limits : Limits) (terms : Terms) (answered : List (List Entry) → List ℕ → Type 0) (state : RoundsState)
    (left_before left_now taken_before taken_now : Option (List ℕ)) : Type 0 where
  pub schema : Declarations
  pub is_under : terms ≡ under limits schema
  pub rounds : List (List Entry)
  pub text : List ℕ
  pub read : HasRead limits state schema left_before left_now rounds
  pub stands : answered rounds text
  pub took : Took taken_before text taken_now

-- a script was read to its end, all its rounds were answered, and the sink took the text
pub record ScriptAnswered {A : Type 0} (limits : Limits) (terms : A → Terms) (behind : A → List (List Entry) → List ℕ → Type 0)
    (left_before left_now taken_before taken_now : Option (List ℕ)) (answering : A) (lines : ℕ) : Type 0 where
  pub state : RoundsState
  pub ongoing : Ongoing limits (terms answering) (behind answering) state left_before left_now taken_before taken_now
  pub spent : IsSpent state.reader
  pub counted : lines ≡ state.reader.lines

-- what answers may go on, where at most twice as many lines count as were read
pub record GoesOn (goes : ℕ → Type 0) (read : ℕ) : Type 0 where
  pub lines : ℕ
  pub is : goes lines
  pub few : lines ≤ 2 * read
