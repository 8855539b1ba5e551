-- What stands at an edge, in less memory.
use Rattle.std.specs.Prelude.{ℕ}
use Rattle.uni_table.specs.declared.graph.numbers.Before.{Before}
use Rattle.uni_table.specs.declared.graph.numbers.Before.TheVariants as before
use Rattle.uni_table.specs.declared.graph.numbers.Slot.{Slot}
use Rattle.uni_table.specs.declared.graph.numbers.SlotState.{SlotState}
use Rattle.uni_table.specs.declared.graph.numbers.SlotState.TheVariants as state
use Rattle.uni_table.specs.declared.graph.short_slot.Kind.{Kind}
use Rattle.uni_table.specs.declared.graph.short_slot.Kind.TheVariants as kind
use Rattle.uni_table.specs.declared.graph.short_slot.Packed.{Packed}
use Rattle.uni_table.specs.declared.graph.short_slot.Packed.TheVariants.{Short, Long}
use Rattle.uni_table.specs.declared.graph.short_slot.Was.{Was}
use Rattle.uni_table.specs.declared.graph.short_slot.Was.TheVariants as was

-- the state of a kind, with the circle that it is if it is one
abbrev pub state_of : Kind → ℕ → SlotState
state_of kind.Gone circle = state.Gone
state_of kind.Public circle = state.Public
state_of kind.Only circle = state.Only
state_of kind.Circle circle = state.Circle circle

-- what stood there by its kind, without an end
abbrev pub before_of : Was → ℕ → Before
before_of was.Same circle = before.Same
before_of was.Gone circle = before.Gone
before_of was.Public circle = before.Public 0
before_of was.Only circle = before.Only 0
before_of was.Circle circle = before.Circle circle 0

-- what is kept
abbrev pub told : Packed → Slot
told (Short now then circle into from) = record { state = state_of now circle; end = 0; next_into = into; next_from = from; before = before_of then circle }
told (Long slot) = slot.value
