-- The rule of the lock, over its three words, its slot and the views of all seats and notes.
use Rattle.std.specs.Prelude.{◌≡◌, ℕ, ◌+◌, ◌-◌, ◌*◌, ◌^◌, ◌<◌, ◌≤◌, true, false, List, [], length, slice_index, sum_by, Option, Some}
use mathlib.Core.Option.{some, none}
use mathlib.Core.List.{IsPrefix}
use lib.ListN.{get_elem?}
use Rattle.atomic_table.specs.Table.{State}
use Rattle.turn_lock.specs.declared.law.View.{View}
use Rattle.turn_lock.specs.declared.law.Role.{Role}
use Rattle.turn_lock.specs.declared.law.Role.TheVariants.{Spent, Carries, Sits, Writes}
use Rattle.turn_lock.specs.declared.law.Stage.{Stage}
use Rattle.turn_lock.specs.declared.law.Stage.TheVariants.{Away, Waits, Turns}

-- the turns that a seat may take in all, the writer's with those of each seat that it has not made
abbrev pub allowance : Role → ℕ → ℕ
allowance Spent made = 0
allowance Carries made = 0
allowance Sits made = 2 ^ 56
allowance Writes made = (128 - made) * 2 ^ 56

-- 1 for the writer
abbrev pub writing : Role → ℕ
writing Writes = 1
writing _ = 0

module _ {E : Type 0} where
  -- the stage has this ticket
  abbrev pub Holds : Stage E → ℕ → Type 0
  Holds Away t = ⊥
  Holds (Waits u) t = u ≡ t
  Holds (Turns u list added) t = u ≡ t

  -- 1 for a stage that has a ticket
  abbrev pub ticketed : Stage E → ℕ
  ticketed Away = 0
  ticketed _ = 1

  -- 1 for a stage in its turn
  abbrev pub turning : Stage E → ℕ
  turning (Turns u list added) = 1
  turning _ = 0

  -- 1 for a stage whose ticket has brought no entry yet
  abbrev pub due : Stage E → ℕ
  due Away = 0
  due (Waits u) = 1
  due (Turns u list true) = 0
  due (Turns u list false) = 1

  -- A ticket is no less than the one that is served, and was drawn. In its turn it is the one that is served, and the turn's list is the writer's list
  abbrev pub StageFits : ℕ → ℕ → List E → Stage E → Type 0
  StageFits serving ticket log Away = Unit {0}
  StageFits serving ticket log (Waits t) = (serving ≤ t) × (t < ticket)
  StageFits serving ticket log (Turns t list added) = (t ≡ serving) × (t < ticket) × (list ≡ log)

  -- 1 for a view that has a ticket
  abbrev pub has_ticket : View E → ℕ
  has_ticket v = ticketed v.stage

  -- 1 for a view in its turn
  abbrev pub in_turn : View E → ℕ
  in_turn v = turning v.stage

  -- 1 for the writer's view
  abbrev pub is_writer : View E → ℕ
  is_writer v = writing v.role

  -- the turns that a view has left
  abbrev pub left : View E → ℕ
  left v = allowance v.role v.made - v.turns

  -- what the rule says of each view, where `log` is the writer's list
  pub record Fits (serving ticket : ℕ) (log : List E) (v : View E) : Type 0 where
    pub stage : StageFits serving ticket log v.stage
    -- what was seen is a beginning of the writer's list
    pub seen : IsPrefix v.seen log
    -- what it had seen before it met a note, and what the note had, are beginnings of what it has seen
    pub olds : IsPrefix v.own v.seen × IsPrefix v.other v.seen
    -- a note has taken no turn, since it has none to take
    pub turns : (v.turns ≤ 2 ^ 56) × (v.turns ≤ allowance v.role v.made) × (v.made ≤ 127)
    -- the writer has seen the whole list, which has no more entries than the writer's turns have brought
    pub writer : v.role ≡ Writes → (v.seen ≡ log) × (length log + due v.stage ≤ v.turns)

  -- the rule but for the turns left, where `log` is the writer's list
  pub record Ordered {S : Type 0} (stands_for : S → List E → Type 0) (s : State (Option S) (View E)) : Type 0 where
    pub log : List E
    pub sized : (length s.words ≡ 3) × (length s.homes ≡ 1)
    -- the third word is the length of the writer's list
    pub count : slice_index s.words 2 ≡ length log
    -- the ticket that is served and the number of tickets that are out make the next ticket
    pub drawn : slice_index s.words 1 + sum_by has_ticket s.views ≡ slice_index s.words 0
    -- no two views have one ticket
    pub apart : (i j t : ℕ) (v w : View E) → get_elem? s.views i ≡ some v → get_elem? s.views j ≡ some w → Holds v.stage t → Holds w.stage t → i ≡ j
    -- the value is at home exactly where no view is in its turn, and it then stands for the writer's list
    pub home : sum_by in_turn s.views ≡ 0 → (x : S) × (get_elem? s.homes 0 ≡ some (some (Some x))) × stands_for x log
    pub away : 0 < sum_by in_turn s.views → get_elem? s.homes 0 ≡ some none
    -- exactly one view is the writer's
    pub one_writer : sum_by is_writer s.views ≡ 1
    pub each : (j : ℕ) (v : View E) → get_elem? s.views j ≡ some v → Fits (slice_index s.words 1) (slice_index s.words 0) log v

  -- the rule: the next ticket and the turns left of all views make 2^63 too, so that no ticket is drawn twice
  abbrev pub Kept : {S : Type 0} → (S → List E → Type 0) → State (Option S) (View E) → Type 0
  Kept stands_for s = Ordered stands_for s × (slice_index s.words 0 + sum_by left s.views ≡ 2 ^ 63)

  -- the writer's view at the start
  abbrev pub opening_view : View E
  opening_view = record { role = Writes; stage = Away; turns = 0; made = 0; seen = []; own = []; other = [] }
