-- The lines that compact a stack.
use Rattle.std.specs.Prelude.{ℕ, ◌&&◌, nat_lt, if◌then◌else◌, List, [], ◌∷◌, Option, None}
use Rattle.std.specs.Option.{option_map, option_and_then, option_map_or}
use Rattle.uni_base.specs.Numbers.{number_of}
use Rattle.uni_schema.specs.Lines.{name_of}
use Rattle.uni_schema.specs.Schema.{Declarations, vertical_no, vertical_at}
use Rattle.uni_schema.specs.declared.schema.VerticalDef.{VerticalDef}
use Rattle.script_rounds.specs.declared.compact.WrittenStack.{WrittenStack}
use Rattle.script_rounds.specs.Entries.{Entry, compact, refused}

-- the stack that fields write, which are a name and two numbers
abbrev pub stack_of : List (List ℕ) → Option WrittenStack
stack_of (vertical ∷ shard ∷ replica ∷ []) =
    option_and_then (λ v. option_and_then (λ s. option_map (λ r. record { vertical = v; shard = s; replica = r })
    (number_of replica)) (number_of shard)) (name_of vertical)
stack_of fields = None

-- a stack of a vertical: 12 where it has no such shard or replica
abbrev pub stack_entry : ℕ → WrittenStack → ℕ → VerticalDef → Entry
stack_entry number stack vertical def =
    if nat_lt stack.shard def.shards && nat_lt stack.replica def.replicas then compact number vertical stack.shard stack.replica else refused number 12

-- a stack that is written: 12 where its vertical is not declared
abbrev pub named_stack : Declarations → ℕ → WrittenStack → Entry
named_stack schema number stack =
    option_map_or (λ vertical. option_map_or (stack_entry number stack vertical) (vertical_at schema vertical) (refused number 12))
    (vertical_no schema stack.vertical) (refused number 12)

-- `compact VERTICAL SHARD REPLICA`, by the fields after its first word: 11 where they write no stack
abbrev pub compact_entry : Declarations → ℕ → List (List ℕ) → Entry
compact_entry schema number fields = option_map_or (named_stack schema number) (stack_of fields) (refused number 11)
