-- What a compactor answers to the lines of a round.
use Rattle.std.specs.Prelude.{ℕ, ◌≡◌, ◌≤◌, List, [], ◌∷◌, ◌++◌, Option, None, Some, ⊤}
use Rattle.std.specs.List.{filter_map}
use Rattle.reply_text.specs.declared.answer.Answer.{Answer}
use Rattle.reply_text.specs.declared.answer.Answer.TheVariants.{Compacted, Memory}
use Rattle.script_rounds.specs.Entries.{Entry, compact, line_of}
use Rattle.script_rounds.specs.declared.item.Item.{Item}
use Rattle.script_rounds.specs.declared.item.Item.TheVariants.{Compact}
use Rattle.version_catalog.specs.Installs.{install_of}
use Rattle.version_catalog.specs.declared.install.Install.{Install}

-- the entry of a line that compacts
abbrev pub compact_entry : Item → Option Entry
compact_entry (Compact line vertical shard replica) = Some (compact line vertical shard replica)
compact_entry item = None

-- those among some lines, in order
abbrev pub compact_entries : List Item → List Entry
compact_entries items = filter_map compact_entry items

-- Each entry has one answer, in order: a number of publishes, or that memory was wanting. No number is below
-- one before it or below the low one, and none is above the high one.
abbrev pub AreCompacted : ℕ → ℕ → List Entry → List Answer → Type 0
AreCompacted low high [] [] = ⊤
AreCompacted low high (entry ∷ entries) (Compacted line number ∷ answers) = (line ≡ line_of entry) × (low ≤ number) × (number ≤ high) × AreCompacted number high entries answers
AreCompacted low high (entry ∷ entries) (Memory line ∷ answers) = (line ≡ line_of entry) × AreCompacted low high entries answers
AreCompacted low high entries answers = ⊥

-- the install of an entry that was answered by a number
abbrev pub install_at : Entry → ℕ → List Install
install_at (compact line vertical shard replica) number = install_of vertical shard replica number ∷ []
install_at entry number = []

-- those of entries, each with its answer
abbrev pub installs_by : List Entry → List Answer → List Install
installs_by (entry ∷ entries) (Compacted line number ∷ answers) = install_at entry number ++ installs_by entries answers
installs_by (entry ∷ entries) (answer ∷ answers) = installs_by entries answers
installs_by entries answers = []
