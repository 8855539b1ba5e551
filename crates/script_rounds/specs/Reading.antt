-- What a reader of lines takes from its source.
use Rattle.std.specs.Prelude.{ℕ, Bool, true, false, ◌≡◌, ◌<◌, ◌≤◌, ◌+◌, ◌^◌, ◌⊎◌, List, ◌++◌, ◌∷◌, [], length, take, drop, slice_get, Option, None, Some, Result, Ok, Err}
use Rattle.uni_base.specs.Streams.{Rose}
use Rattle.script_rounds.specs.declared.lines.ScriptRefusal.{ScriptRefusal}
use Rattle.script_rounds.specs.declared.lines.ScriptRefusal.TheVariants.{ReadFault, TooLong, Memory}
use Rattle.uni_base.specs.Lines.{has_lf, lines_of}
use Rattle.script_rounds.specs.Lines.{cut}

-- a source gave these bytes, the first of those that it had left, where it tells them
abbrev pub Gave : Option (List ℕ) → List ℕ → Option (List ℕ) → Type 0
Gave None bytes after = after ≡ None
Gave (Some left) bytes after = (rest : List ℕ) × (left ≡ bytes ++ rest) × (after ≡ Some rest)

-- nothing is left, where the source tells it
abbrev pub NoneLeft : Option (List ℕ) → Type 0
NoneLeft None = Unit {0}
NoneLeft (Some left) = left ≡ []

-- where a reader of lines stands: the bytes that it holds and has not given on, how many lines it has
-- given on, how many bytes it has taken and may take, whether it has read the end of the input, and how
-- many bytes of a line it keeps at least
pub record LineState : Type 0 where
  pub ahead : List ℕ
  pub lines : ℕ
  pub taken : ℕ
  pub limit : ℕ
  pub ended : Bool
  pub kept : ℕ

-- a reader with what its source has left, where that is told
pub record Place : Type 0 where
  pub reader : LineState
  pub left : Option (List ℕ)

abbrev pub at : LineState → Option (List ℕ) → Place
at reader left = record { reader = reader; left = left }

-- a reader that has read the end of the input has a source with nothing left
abbrev pub EndFits : Place → Type 0
EndFits place = place.reader.ended ≡ true → NoneLeft place.left

-- the lines to come, where these bytes follow those that are held; of a long line the first bytes
abbrev pub to_come : LineState → List ℕ → List (List ℕ)
to_come state rest = cut state.kept (lines_of (state.ahead ++ rest))

-- a reader took bytes and gave lines on. Whatever follows, these lines and those to come after them are
-- those that were to come
pub record Went (before after : Place) (passed : List (List ℕ)) : Type 0 where
  pub more : List ℕ
  pub gave : Gave before.left more after.left
  pub taken : after.reader.taken ≡ before.reader.taken + length more
  pub limit : after.reader.limit ≡ before.reader.limit
  pub kept : after.reader.kept ≡ before.reader.kept
  pub lines : after.reader.lines ≡ before.reader.lines + length passed
  pub same : (rest : List ℕ) → (after.reader.ended ≡ true → rest ≡ []) → to_come before.reader (more ++ rest) ≡ passed ++ to_come after.reader rest
  pub stays : before.reader.ended ≡ true → after.reader.ended ≡ true
  pub spent : before.reader.ended ≡ true → more ≡ []
  pub end : EndFits before → EndFits after
  -- each line has a byte at least
  pub bytes : length passed + length after.reader.ahead ≤ length before.reader.ahead + length more

-- the input has ended, with nothing ahead
abbrev pub IsSpent : LineState → Type 0
IsSpent state = (state.ended ≡ true) × (state.ahead ≡ [])

-- a line of so many bytes is at the front: an LF follows it, or it ends the input and is not empty
pub record IsFront (state : LineState) (len : ℕ) : Type 0 where
  pub line : has_lf (take len state.ahead) ≡ false
  pub ends : (slice_get state.ahead len ≡ Some 10) ⊎ ((state.ended ≡ true) × (length state.ahead ≡ len) × (0 < len))

-- a reader stands within its limit, and no whole line is ahead
pub record IsOut (state : LineState) : Type 0 where
  pub in_limit : state.taken ≤ state.limit
  pub unended : state.ended ≡ false
  pub none : has_lf state.ahead ≡ false

-- a reader that stood at its limit took one byte more
pub record IsPast (edge after : Place) (count : ℕ) : Type 0 where
  pub out : IsOut edge.reader
  pub last : ℕ
  pub gave : Gave edge.left (last ∷ []) after.left
  pub taken : after.reader.taken ≡ count
  pub past : count ≡ edge.reader.limit + 1
  pub full : edge.reader.taken ≡ edge.reader.limit
  pub limit : after.reader.limit ≡ edge.reader.limit
  pub kept : after.reader.kept ≡ edge.reader.kept
  pub lines : after.reader.lines ≡ edge.reader.lines

-- why a reader stops, and what it does then: it stays where a read failed or memory was wanting
abbrev pub StopsBy : ScriptRefusal → Place → Place → Type 0
StopsBy ReadFault edge after = (after ≡ edge) × IsOut edge.reader
StopsBy (TooLong count) edge after = IsPast edge after count
StopsBy Memory edge after = (after ≡ edge) × (edge.reader.taken ≤ edge.reader.limit)

-- a reader went past lines, up to a place where it stopped
pub record Stopped (before after : Place) (passed : List (List ℕ)) (refusal : ScriptRefusal) : Type 0 where
  pub edge : Place
  pub went : Went before edge passed
  pub stops : StopsBy refusal edge after

-- the count of faults rose where a read failed, and only there
abbrev pub FaultsFit : {A : Type 0} → Result A ScriptRefusal → ℕ → ℕ → Type 0
FaultsFit (Ok answer) before after = after ≡ before
FaultsFit (Err ReadFault) before after = Rose before after
FaultsFit (Err refusal) before after = after ≡ before

-- the fields of a reader: what it has searched holds no LF, and all sizes fit
pub record IsKept (buffer : List ℕ) (start searched : ℕ) (chunk : List ℕ) (lines taken limit kept : ℕ) : Type 0 where
  pub begun : start ≤ length buffer
  pub bounded : start ≤ 65536
  pub within : start + searched ≤ length buffer
  pub none : has_lf (take searched (drop start buffer)) ≡ false
  pub full : length chunk ≡ 65536
  pub counted : lines + length buffer ≤ taken + start
  pub standard : limit ≤ 2 ^ 36
  pub few : taken ≤ limit + 1
  pub some : 3 ≤ kept
  pub short : kept ≤ 65537

-- a read added n bytes to a buffer, at most so many, and 0 only at the end of the input
pub record ReadsOnce (before after : List ℕ) (left_before left_after : Option (List ℕ)) (most n : ℕ) : Type 0 where
  pub more : List ℕ
  pub gave : Gave left_before more left_after
  pub added : after ≡ before ++ more
  pub count : length more ≡ n
  pub within : n ≤ most
  pub last : n ≡ 0 → NoneLeft left_after
