-- The stacks of a schema, and how many publishes each covers.
use Rattle.std.specs.Prelude.{ℕ, Bool, ◌+◌, ◌-◌, ◌&&◌, ◌==◌, nat_lt, not, if◌then◌else◌, List, [], ◌∷◌, ◌++◌, map, filter}
use Rattle.std.specs.List.{flat_map, list_any, range_with_len}
use Rattle.uni_schema.specs.Schema.{Declarations}
use Rattle.uni_schema.specs.declared.schema.VerticalDef.{VerticalDef}
use Rattle.reply_text.specs.declared.answer.Answer.{Answer}
use Rattle.reply_text.specs.declared.answer.Answer.TheVariants.{Tidied, Untidied}
use Rattle.reply_text.specs.declared.answer.StackRow.{StackRow}
use Rattle.unicorn_round.specs.Marks.{StackName}
use Rattle.unicorn_round.specs.declared.stacks.StackCover.{StackCover}

-- a stack that covers nothing
abbrev pub bare : ℕ → ℕ → ℕ → StackCover
bare vertical shard replica = record { vertical = vertical; shard = shard; replica = replica; covers = 0 }

-- the stacks of a vertical's shards, one for each replica of each
abbrev pub stacks_in : ℕ → VerticalDef → List StackCover
stacks_in vertical def = flat_map (λ shard. map (bare vertical shard) (range_with_len 0 def.replicas)) (range_with_len 0 def.shards)

-- the stacks of verticals, the first of which has this number
abbrev pub stacks_from : ℕ → List VerticalDef → List StackCover
stacks_from vertical [] = []
stacks_from vertical (def ∷ defs) = stacks_in vertical def ++ stacks_from (vertical + 1) defs

-- all stacks, in the order of vertical, shard and replica, as they stand at first
abbrev pub opening_stacks : Declarations → List StackCover
opening_stacks schema = stacks_from 0 schema.verticals

-- whether a stack is the one of these numbers
abbrev pub is_stack : ℕ → ℕ → ℕ → StackCover → Bool
is_stack vertical shard replica cover = (cover.vertical == vertical) && (cover.shard == shard) && (cover.replica == replica)

-- a stack, which covers so many publishes where it is the one of these numbers
abbrev pub covered : ℕ → ℕ → ℕ → ℕ → StackCover → StackCover
covered vertical shard replica number cover = if is_stack vertical shard replica cover then record cover { covers = number } else cover

-- the stacks, of which the one of these numbers covers so many
abbrev pub covering : ℕ → ℕ → ℕ → ℕ → List StackCover → List StackCover
covering vertical shard replica number covers = map (covered vertical shard replica number) covers

-- how many layers a stack has, where so many publishes were made: its base, and one for each that it does
-- not cover
abbrev pub layers_of : ℕ → StackCover → ℕ
layers_of number cover = 1 + number - cover.covers

-- a stack is due where it has more layers than 8 and the number of its replica
abbrev pub is_due : ℕ → StackCover → Bool
is_due number cover = nat_lt (8 + cover.replica) (layers_of number cover)

abbrev pub name_of : StackCover → StackName
name_of cover = record { vertical = cover.vertical; shard = cover.shard; replica = cover.replica }

-- whether a stack is among those that were left untidied
abbrev pub is_untidied : List StackName → StackCover → Bool
is_untidied untidied cover = list_any (λ name. is_stack name.vertical name.shard name.replica cover) untidied

-- the due stacks that were left untidied, in their order
abbrev pub due_untidied : ℕ → List StackName → List StackCover → List StackName
due_untidied number untidied covers = map name_of (filter (λ cover. is_due number cover && is_untidied untidied cover) covers)

-- a stack at a round's end: where it is due and was not left untidied, it covers all publishes
abbrev pub tidy : ℕ → List StackName → StackCover → StackCover
tidy number untidied cover = if is_due number cover && not (is_untidied untidied cover) then record cover { covers = number } else cover

-- what a due stack answers at a round's end
abbrev pub tidy_answer : ℕ → List StackName → StackCover → Answer
tidy_answer number untidied cover =
    if is_untidied untidied cover then Untidied cover.vertical cover.shard cover.replica
    else Tidied cover.vertical cover.shard cover.replica number

abbrev pub tidy_answers : ℕ → List StackName → List StackCover → List Answer
tidy_answers number untidied covers = map (tidy_answer number untidied) (filter (is_due number) covers)

-- a stack with its layers
abbrev pub row_of : ℕ → StackCover → StackRow
row_of number cover = record { vertical = cover.vertical; shard = cover.shard; replica = cover.replica; layers = layers_of number cover }

abbrev pub rows_of : ℕ → List StackCover → List StackRow
rows_of number covers = map (row_of number) covers
