-- What is said of the place that a seat, the writer's seat or a note has at the lock's table.
use Rattle.std.specs.Prelude.{◌≡◌, ℕ, ◌^◌, ◌<◌, Bool, List, [], ◌∷◌, Option, None}
use Rattle.atomic_table.specs.Seated.{TableId}
use Rattle.atomic_table.specs.declared.shared.Seat.{Seat}
use Rattle.turn_lock.specs.declared.law.View.{View}
use Rattle.turn_lock.specs.declared.law.Stage.TheVariants.{Away, Turns}
use Rattle.turn_lock.specs.declared.lock.TurnLock.{TurnLock}
use Rattle.turn_lock.specs.Law.{allowance}

module _ {S E : Type 0} where
  -- which lock it is
  abbrev pub lock_id : TurnLock S E → TableId
  lock_id lock = lock.table.shared.table_id

  -- the place is at this lock
  abbrev pub IsOf : TurnLock S E → Seat (Option S) (View E) → Type 0
  IsOf lock p = p.table_id ≡ lock_id lock

  -- the list that was seen there
  abbrev pub seen : Seat (Option S) (View E) → List E
  seen p = p.me.0.seen

  -- it holds no turn
  abbrev pub Rests : Seat (Option S) (View E) → Type 0
  Rests p = (p.me.0.stage ≡ Away) × (p.me.1 ≡ [])

  -- it holds a turn, which was entered with this list. Its slot is empty, since the value is with the caller
  abbrev pub HoldsTurn : Seat (Option S) (View E) → List E → Bool → Type 0
  HoldsTurn p list added = (t : ℕ) × (p.me.0.stage ≡ Turns t list added) × (p.me.1 ≡ (0, None) ∷ [])

  -- it holds a turn
  abbrev pub IsInTurn : Seat (Option S) (View E) → Type 0
  IsInTurn p = (t : ℕ) × (list : List E) × (added : Bool) × (p.me.0.stage ≡ Turns t list added)

  -- it may take a turn
  abbrev pub MayTurn : Seat (Option S) (View E) → Type 0
  MayTurn p = (p.me.0.turns < 2 ^ 56) × (p.me.0.turns < allowance p.me.0.role p.me.0.made)

  -- only what was seen has changed
  abbrev pub IsSamePlace : Seat (Option S) (View E) → Seat (Option S) (View E) → Type 0
  IsSamePlace p q = (q.table_id ≡ p.table_id) × (q.id ≡ p.id) × (q.me.0.stage ≡ p.me.0.stage) × (q.me.1 ≡ p.me.1)
