-- Tables after batches of commands.
use Rattle.std.specs.Prelude.{ℕ, Bool, true, ◌≡◌, ◌&&◌, ◌+◌, ◌++◌, not, List, [], ◌∷◌, is_some, take}
use Rattle.uni_base.specs.declared.limits.Limits.{Limits}
use Rattle.uni_schema.specs.Schema.{Declarations}
use Rattle.uni_table.specs.Contents.{Contents, empty, ended}
use Rattle.uni_table.specs.Commands.{next, refuses}
use Rattle.uni_table.specs.declared.command.Command.{Command}

-- the table after commands in order, from a table on
abbrev pub after_commands : Declarations → Contents → List Command → Contents
after_commands schema table [] = table
after_commands schema table (command ∷ commands) = after_commands schema (next schema table command) commands

-- the table after the batch that the publish of a number makes: its commands in order, and then the ends
-- at that number
abbrev pub after_batch : Declarations → Contents → ℕ → List Command → Contents
after_batch schema table publish batch = ended (after_commands schema table batch) publish

-- the table after batches in order, from a table on after so many publishes
abbrev pub after_batches : Declarations → Contents → ℕ → List (List Command) → Contents
after_batches schema table made [] = table
after_batches schema table made (batch ∷ batches) = after_batches schema (after_batch schema table (made + 1) batch) (made + 1) batches

-- the table after a journal: its batches in order, numbered from 1, from the empty table
abbrev pub fold_of : Declarations → List (List Command) → Contents
fold_of schema journal = after_batches schema empty 0 journal

-- the commands of all batches, in order
abbrev pub all_commands : List (List Command) → List Command
all_commands [] = []
all_commands (batch ∷ batches) = batch ++ all_commands batches

-- the first batches of a journal
abbrev pub first : List (List Command) → ℕ → List (List Command)
first journal n = take n journal

-- whether no command of a list is refused at its place, from a table on
abbrev pub accepts_commands : Declarations → Limits → Contents → List Command → Bool
accepts_commands schema limits table [] = true
accepts_commands schema limits table (command ∷ commands) =
    not (is_some (refuses schema limits table command)) && accepts_commands schema limits (next schema table command) commands

-- whether no command of all batches is refused at its place, from a table on after so many publishes
abbrev pub accepts_batches : Declarations → Limits → Contents → ℕ → List (List Command) → Bool
accepts_batches schema limits table made [] = true
accepts_batches schema limits table made (batch ∷ batches) =
    accepts_commands schema limits table batch && accepts_batches schema limits (after_batch schema table (made + 1) batch) (made + 1) batches

-- a journal: batches of commands, none of which is refused at its place
abbrev pub IsJournal : Declarations → Limits → List (List Command) → Type 0
IsJournal schema limits journal = accepts_batches schema limits empty 0 journal ≡ true
