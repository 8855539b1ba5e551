-- The command that each form stands for.
use Rattle.std.specs.Prelude.{ℕ, Bool, true, false, List}
use Rattle.uni_table.specs.declared.command.AudienceText.{AudienceText}
use Rattle.uni_table.specs.declared.command.AudienceText.TheVariants.{Public as everybody, Only as owners}
use Rattle.uni_table.specs.declared.command.Command.{Command}
use Rattle.uni_table.specs.declared.command.Command.TheVariants as command
use Rattle.packed_command.specs.declared.command.Form.{Form}
use Rattle.packed_command.specs.declared.command.Form.TheVariants.{Entity, Gone, Public, Only, Cut, Whole}

-- the edge of a key as text, a type's number and a target, which does not end
abbrev pub edge_of : List ℕ → ℕ → ℕ → AudienceText → Command
edge_of key number target audience = command.Edge number key target audience 0

-- the command of a form
abbrev pub command_of : Form → Command
command_of (Entity vertical rank id) = command.Entity vertical id rank
command_of (Gone id) = command.Gone id
command_of (Public key number target) = edge_of key number target everybody
command_of (Only key number target) = edge_of key number target owners
command_of (Cut key number target) = command.Cut number key target
command_of (Whole kept) = kept.value

-- whether a command puts an edge
abbrev pub puts_edge : Command → Bool
puts_edge (command.Entity vertical id rank) = false
puts_edge (command.Gone id) = false
puts_edge (command.Edge number key target audience until) = true
puts_edge (command.Cut number key target) = false
