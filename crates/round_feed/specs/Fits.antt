-- What the feeder and the compactor ask of the lines that they work on.
use Rattle.std.specs.Prelude.{⊤}
use Rattle.uni_table.specs.Commands.{IsDeclared}
use Rattle.script_rounds.specs.Fits.{IsStack}
use Rattle.script_rounds.specs.Terms.{Terms}
use Rattle.script_rounds.specs.declared.item.Item.{Item}
use Rattle.script_rounds.specs.declared.item.Item.TheVariants.{Change, Publish, Ask, Compact, Stats, Refused, Fault, QueryFault, Memory}

-- what a change names is declared; of any other line the feeder asks nothing
abbrev pub FeedFits : Terms → Item → Type 0
FeedFits terms (Change line command) = IsDeclared terms.schema command
FeedFits terms (Publish line) = ⊤
FeedFits terms (Ask line viewer session limit query) = ⊤
FeedFits terms (Compact line vertical shard replica) = ⊤
FeedFits terms (Stats line) = ⊤
FeedFits terms (Refused line code) = ⊤
FeedFits terms (Fault line code) = ⊤
FeedFits terms (QueryFault line code column) = ⊤
FeedFits terms (Memory line) = ⊤

-- the stack of a `compact` is there; of any other line the compactor asks nothing
abbrev pub CompactFits : Terms → Item → Type 0
CompactFits terms (Compact line vertical shard replica) = IsStack terms.schema vertical shard replica
CompactFits terms (Change line command) = ⊤
CompactFits terms (Publish line) = ⊤
CompactFits terms (Ask line viewer session limit query) = ⊤
CompactFits terms (Stats line) = ⊤
CompactFits terms (Refused line code) = ⊤
CompactFits terms (Fault line code) = ⊤
CompactFits terms (QueryFault line code column) = ⊤
CompactFits terms (Memory line) = ⊤
