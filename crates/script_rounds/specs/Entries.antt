-- The entries of a script: what each of its lines is that counts.
use Rattle.std.specs.Prelude.{ℕ, Bool, true, false, ◌≡◌, List, [], ◌∷◌}
use Rattle.uni_table.specs.declared.command.Command.{Command}
use Rattle.query_check.specs.Plan.{Plan, stated_of}
use Rattle.script_rounds.specs.declared.item.Item.{Item}
use Rattle.script_rounds.specs.declared.item.Item.TheVariants.{Change, Publish, Ask, Compact, Stats, Refused, Fault, QueryFault, Memory}

-- An entry has the number of its line first: a change; a publish; an `ask` with its session, viewer, limit
-- and query; a `compact` with its vertical, shard and replica; a `stats`; a line that is refused, with its
-- code; an `ask` or a line at fault, with its code; a query at fault, with its code and column.
pub data Entry : Type 0 where
  change : (line : ℕ) (command : Command) → Entry
  publish : (line : ℕ) → Entry
  ask : (line session viewer limit : ℕ) (query : Plan) → Entry
  compact : (line vertical shard replica : ℕ) → Entry
  stats : (line : ℕ) → Entry
  refused : (line code : ℕ) → Entry
  fault : (line code : ℕ) → Entry
  query_fault : (line code column : ℕ) → Entry

-- the number of its line
abbrev pub line_of : Entry → ℕ
line_of (change line command) = line
line_of (publish line) = line
line_of (ask line session viewer limit query) = line
line_of (compact line vertical shard replica) = line
line_of (stats line) = line
line_of (refused line code) = line
line_of (fault line code) = line
line_of (query_fault line code column) = line

-- the lines that are read with memory, and so may want it: each `ask` whose query is read
abbrev pub reads_query : Entry → Bool
reads_query (ask line session viewer limit query) = true
reads_query (query_fault line code column) = true
reads_query entry = false

-- an item is an entry's: it is the same, or want of memory for the query of the line
abbrev pub IsItemOf : Entry → Item → Type 0
IsItemOf entry (Change line command) = entry ≡ change line command
IsItemOf entry (Publish line) = entry ≡ publish line
IsItemOf entry (Ask line viewer session limit query) = entry ≡ ask line session viewer limit (stated_of query.value).plan
IsItemOf entry (Compact line vertical shard replica) = entry ≡ compact line vertical shard replica
IsItemOf entry (Stats line) = entry ≡ stats line
IsItemOf entry (Refused line code) = entry ≡ refused line code
IsItemOf entry (Fault line code) = entry ≡ fault line code
IsItemOf entry (QueryFault line code column) = entry ≡ query_fault line code column
IsItemOf entry (Memory line) = (reads_query entry ≡ true) × (line_of entry ≡ line)

-- the same of lists, one by one
abbrev pub AreItemsOf : List Entry → List Item → Type 0
AreItemsOf [] [] = Unit {0}
AreItemsOf (entry ∷ entries) (item ∷ items) = IsItemOf entry item × AreItemsOf entries items
AreItemsOf entries items = ⊥
