-- What each step tells: `m` is the seat before it, `n` the number found, and `m'` the seat after it.
use Rattle.std.specs.Prelude.{◌≡◌, ◌≢◌, ℕ, ◌+◌, true, false, List, [], ◌∷◌, ◌++◌, length, nat_lt, if◌then◌else◌, Option, Some}
use mathlib.Core.List.{IsPrefix}
use Rattle.atomic_table.specs.Table.{Me, Step, rest}
use Rattle.turn_lock.specs.declared.law.View.{View}
use Rattle.turn_lock.specs.declared.law.Role.{Role}
use Rattle.turn_lock.specs.declared.law.Role.TheVariants.{Writes}
use Rattle.turn_lock.specs.declared.law.Stage.{Stage}
use Rattle.turn_lock.specs.declared.law.Stage.TheVariants.{Away, Waits, Turns}
use Rattle.turn_lock.specs.Law.{turning}

-- the view after the ticket n was drawn
abbrev pub waiting : {E : Type 0} → View E → ℕ → View E
waiting v n = record v { stage = Waits n; turns = v.turns + 1 }

-- the view in the turn of the ticket t, at this list
abbrev pub entered : {E : Type 0} → View E → ℕ → List E → View E
entered v t list = record v { stage = Turns t list false }

-- the view after its turn
abbrev pub ended : {E : Type 0} → View E → View E
ended v = record v { stage = Away }

-- what a view has seen once it has looked: in its turn the turn's list
abbrev pub reached : {E : Type 0} → Stage E → List E → List E
reached (Turns t list added) seen = list
reached _ seen = seen

-- the view once it has looked, by which what it met is settled
abbrev pub looked : {E : Type 0} → View E → View E
looked v = record v { seen = reached v.stage v.seen; own = []; other = [] }

-- the view after the writer added an entry
abbrev pub added_to : {E : Type 0} → View E → ℕ → List E → E → View E
added_to v t list e = record v { stage = Turns t (list ++ e ∷ []) true; seen = list ++ e ∷ [] }

-- of two beginnings of one list, the longer
abbrev pub longer : {E : Type 0} → List E → List E → List E
longer xs ys = if nat_lt (length xs) (length ys) then ys else xs

-- what a view has seen that has met a note: its own list where it is the writer's, else the longer
abbrev pub met : {E : Type 0} → Role → List E → List E → List E
met Writes own other = own
met _ own other = longer own other

-- the view after it has met another
abbrev pub meets : {E : Type 0} → View E → View E → View E
meets v w = record v { seen = met v.role v.seen w.seen; own = v.seen; other = w.seen }

-- the writer's view after it has made a seat
abbrev pub makes : {E : Type 0} → View E → View E
makes v = record v { made = v.made + 1 }

-- a view that has seen this list, has no ticket and has taken no turn
abbrev pub fresh : {E : Type 0} → Role → List E → View E
fresh role seen = record { role = role; stage = Away; turns = 0; made = 0; seen = seen; own = []; other = [] }

module _ {S E : Type 0} where
  -- a ticket was drawn
  abbrev pub Draws : Step (Option S) → Me (Option S) (View E) → ℕ → Me (Option S) (View E) → Type 0
  Draws st m n m' = m' ≡ (waiting m.0 n, m.1)

  -- the seat has the slot, whose value stands for a list that begins with all that was seen. For the writer it is what was seen
  abbrev pub Served : (S → List E → Type 0) → Me (Option S) (View E) → ℕ → Me (Option S) (View E) → Type 0
  Served stands_for m t m' = (x : S) × (list : List E) × stands_for x list × IsPrefix m.0.seen list × (m.0.role ≡ Writes → m.0.seen ≡ list) × (m' ≡ (entered m.0 t list, (0, Some x) ∷ m.1))

  -- where the ticket is served, the seat is in its turn
  abbrev pub Finds : (S → List E → Type 0) → Step (Option S) → Me (Option S) (View E) → ℕ → Me (Option S) (View E) → Type 0
  Finds stands_for st m n m' = (t : ℕ) → m.0.stage ≡ Waits t
      → (n ≢ t → m' ≡ m)
      × (n ≡ t → Served stands_for m t m')

  -- the seat has looked at the number of entries
  abbrev pub Looks : Step (Option S) → Me (Option S) (View E) → ℕ → Me (Option S) (View E) → Type 0
  Looks st m n m' = (m' ≡ (looked m.0, m.1)) × IsPrefix m.0.seen (looked m.0).seen × IsPrefix m.0.own (looked m.0).seen × IsPrefix m.0.other (looked m.0).seen
      × (turning m.0.stage ≡ 1 → length (looked m.0).seen ≡ n)

  -- the writer has added the entry that was said
  abbrev pub Adds : Option E → Step (Option S) → Me (Option S) (View E) → ℕ → Me (Option S) (View E) → Type 0
  Adds said st m n m' = (t : ℕ) (list : List E) (e : E) → m.0.stage ≡ Turns t list false → said ≡ Some e → m' ≡ (added_to m.0 t list e, m.1)

  -- the turn is over, and the slot is at home
  abbrev pub Ends : Step (Option S) → Me (Option S) (View E) → ℕ → Me (Option S) (View E) → Type 0
  Ends st m n m' = m' ≡ (ended m.0, rest m.1)
