-- What clauses say of seats, notes and turns.
use Rattle.std.specs.Prelude.{◌≡◌, ℕ, false, List}
use Rattle.atomic_table.specs.Seated.{TableId}
use Rattle.turn_lock.specs.declared.lock.TurnLock.{TurnLock}
use Rattle.turn_lock.specs.declared.recorded.Recorded.{Ghosts}
use Rattle.turn_lock.specs.declared.seats.Note.{Note}
use Rattle.turn_lock.specs.declared.seats.Seat.{Seat}
use Rattle.turn_lock.specs.declared.seats.Turn.{Turn}
use Rattle.turn_lock.specs.declared.seats.WriterSeat.{WriterSeat}
use Rattle.turn_lock.specs.Places.{IsOf, seen, Rests, IsInTurn, HoldsTurn, IsSamePlace}

module _ {S E : Type 0} {g : Ghosts S E} where
  -- which lock a seat, the writer's seat and a note are at
  abbrev pub seat_lock : Seat S E g → TableId
  seat_lock seat = seat.place.table_id

  abbrev pub writer_lock : WriterSeat S E g → TableId
  writer_lock writer = writer.place.table_id

  abbrev pub note_lock : Note S E g → TableId
  note_lock note = note.place.table_id

  -- they are at this lock
  abbrev pub IsSeatOf : TurnLock S E → Seat S E g → Type 0
  IsSeatOf lock seat = IsOf lock seat.place

  abbrev pub IsWriterOf : TurnLock S E → WriterSeat S E g → Type 0
  IsWriterOf lock writer = IsOf lock writer.place

  abbrev pub IsNoteOf : TurnLock S E → Note S E g → Type 0
  IsNoteOf lock note = IsOf lock note.place

  -- the list that each has seen
  abbrev pub seat_seen : Seat S E g → List E
  seat_seen seat = seen seat.place

  abbrev pub writer_seen : WriterSeat S E g → List E
  writer_seen writer = seen writer.place

  abbrev pub note_seen : Note S E g → List E
  note_seen note = seen note.place

  -- how many turns each has taken, and how many seats the writer has made
  abbrev pub seat_turns : Seat S E g → ℕ
  seat_turns seat = seat.turns

  abbrev pub writer_turns : WriterSeat S E g → ℕ
  writer_turns writer = writer.turns

  abbrev pub writer_made : WriterSeat S E g → ℕ
  writer_made writer = writer.made

  -- it holds no turn
  abbrev pub SeatRests : Seat S E g → Type 0
  SeatRests seat = Rests seat.place

  abbrev pub WriterRests : WriterSeat S E g → Type 0
  WriterRests writer = Rests writer.place

  -- it holds a turn
  abbrev pub IsSeatInTurn : Seat S E g → Type 0
  IsSeatInTurn seat = IsInTurn seat.place

  -- the turn is the one that it holds, and was entered with the list that it has seen
  abbrev pub IsTurnOfSeat : Turn S E → Seat S E g → Type 0
  IsTurnOfSeat turn seat = (turn.of.value.table_id ≡ seat.place.table_id) × (turn.of.value.id ≡ seat.place.id) × HoldsTurn seat.place (seen seat.place) false

  abbrev pub IsTurnOfWriter : Turn S E → WriterSeat S E g → Type 0
  IsTurnOfWriter turn writer = (turn.of.value.table_id ≡ writer.place.table_id) × (turn.of.value.id ≡ writer.place.id) × HoldsTurn writer.place (seen writer.place) false

  -- only what was seen may have changed: it is at its lock, and rests or holds its turn as before
  abbrev pub IsSameSeat : Seat S E g → Seat S E g → Type 0
  IsSameSeat old new = IsSamePlace old.place new.place

  abbrev pub IsSameWriter : WriterSeat S E g → WriterSeat S E g → Type 0
  IsSameWriter old new = IsSamePlace old.place new.place
