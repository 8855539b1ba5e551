-- What sources and sinks over memory do at each call.
use Rattle.std.specs.Prelude.{ℕ, Bool, ◌||◌, ◌&&◌, not, ◌==◌, ◌+◌, ◌-◌, ◌^◌, min, List, [], ◌∷◌, length, drop}
use Rattle.std.specs.List.{list_any}

-- one more, but never above the last number of 64 bits
abbrev pub raised : ℕ → ℕ
raised n = min (n + 1) (2 ^ 64 - 1)

-- whether the call after so many calls is one of those that fail
abbrev pub next_fails : ℕ → List ℕ → Bool
next_fails calls fails = list_any (λ k. k == raised calls) fails

-- a source over pieces: what is left of each, how many calls were made, the numbers of the calls
-- that fail, and how many have
pub record PieceSource : Type 0 where
  pub pieces : List (List ℕ)
  pub calls : ℕ
  pub fails : List ℕ
  pub faults : ℕ

-- the pieces from the first one on that has a byte left
abbrev pub unread : List (List ℕ) → List (List ℕ)
unread [] = []
unread ([] ∷ rest) = unread rest
unread ((byte ∷ bytes) ∷ rest) = (byte ∷ bytes) ∷ rest

-- the first piece, if there is one
abbrev pub current : List (List ℕ) → List ℕ
current [] = []
current (piece ∷ rest) = piece

-- the pieces without the first n bytes of the first one
abbrev pub cut : ℕ → List (List ℕ) → List (List ℕ)
cut n [] = []
cut n (piece ∷ rest) = drop n piece ∷ rest

-- a sink in memory: what it holds, the most that it can hold, the most that one call takes, how
-- many calls were made, the numbers of the calls that fail, and how many have
pub record RoomSink : Type 0 where
  pub bytes : List ℕ
  pub room : ℕ
  pub most : ℕ
  pub calls : ℕ
  pub fails : List ℕ
  pub faults : ℕ

-- whether the next write of a piece fails: its number says so, or no room is left for its bytes
abbrev pub next_write_fails : RoomSink → List ℕ → Bool
next_write_fails sink piece =
    next_fails sink.calls sink.fails || ((length sink.bytes == sink.room) && not (length piece == 0))

-- how many bytes of a piece the sink takes at once
abbrev pub taken_of : RoomSink → List ℕ → ℕ
taken_of sink piece = min (length piece) (min sink.most (sink.room - length sink.bytes))
