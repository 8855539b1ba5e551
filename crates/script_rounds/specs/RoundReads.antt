-- What reading the rounds of a script gives.
use Rattle.std.specs.Prelude.{ℕ, true, false, ◌≡◌, ◌<◌, ◌≤◌, ◌+◌, List, [], ◌∷◌, ◌++◌, length, Option, None, Some, ⊤}
use Rattle.std.specs.List.{list_any}
use Rattle.uni_base.specs.declared.limits.Limits.{Limits}
use Rattle.script_rounds.specs.declared.item.Item.{Item}
use Rattle.script_rounds.specs.declared.item.Item.TheVariants.{Change, Publish, Ask, Compact, Stats, Refused, Fault, QueryFault, Memory}
use Rattle.script_rounds.specs.declared.item.RoundLine.{RoundLine}
use Rattle.script_rounds.specs.declared.lines.ScriptRefusal.{ScriptRefusal}
use Rattle.script_rounds.specs.Entries.{Entry, IsItemOf, AreItemsOf}
use Rattle.script_rounds.specs.Fits.{ItemsFit, LineFits}
use Rattle.script_rounds.specs.Reading.{LineState, Place, Went, IsSpent, Stopped}
use Rattle.script_rounds.specs.Roles.{counted, role_of, is_go, LineIs, IsLineOf}
use Rattle.script_rounds.specs.Rounds.{entries_from}
use Rattle.script_rounds.specs.Terms.{Terms}

-- the number of an item's line
abbrev pub item_line : Item → ℕ
item_line (Change line command) = line
item_line (Publish line) = line
item_line (Ask line viewer session limit query) = line
item_line (Compact line vertical shard replica) = line
item_line (Stats line) = line
item_line (Refused line code) = line
item_line (Fault line code) = line
item_line (QueryFault line code column) = line
item_line (Memory line) = line

-- numbers rise, each above the low one and none above the high one
abbrev pub Rise : ℕ → ℕ → List ℕ → Type 0
Rise low high [] = low ≤ high
Rise low high (n ∷ ns) = (low < n) × Rise n high ns

-- each item is what some line is, by its number and by how many lines of its round counted before it
abbrev pub IsOfLine : Terms → Item → Type 0
IsOfLine terms item =
    (number : ℕ) × ((before : ℕ) × ((line : List ℕ) × ((entry : Entry) × (LineIs terms number before line (counted entry) × IsItemOf entry item))))

abbrev pub AreOfLines : Terms → List Item → Type 0
AreOfLines terms [] = ⊤
AreOfLines terms (item ∷ items) = IsOfLine terms item × AreOfLines terms items

-- a reader keeps enough of a line to see that it is too long, and whether it is `go`
pub record Keeps (limits : Limits) (state : LineState) : Type 0 where
  pub line : limits.line < state.kept
  pub go : 3 ≤ state.kept

-- what was taken of a round is what its text is: nothing at the end of the input, or one line
abbrev pub TookLine : Terms → Place → Place → ℕ → Option RoundLine → Type 0
TookLine terms before after count None = Went before after [] × IsSpent after.reader
TookLine terms before after count (Some line) =
    (text : List ℕ) × (Went before after (text ∷ []) × IsLineOf (role_of terms (before.reader.lines + 1) count text) line × LineFits terms line)

-- lines of a round were taken, none of them its end
pub record SoFar (terms : Terms) (before now : Place) (items : List Item) : Type 0 where
  pub lines : List (List ℕ)
  pub went : Went before now lines
  pub clear : list_any is_go lines ≡ false
  pub gives : AreItemsOf (entries_from terms (before.reader.lines + 1) 0 lines) items
  pub fits : ItemsFit terms items

-- a round ends with `go`, or with the input after some line
abbrev pub Ends : List (List ℕ) → List (List ℕ) → LineState → Type 0
Ends lines [] after = IsSpent after × (0 < length lines)
Ends lines (last ∷ more) after = (is_go last ≡ true) × (more ≡ [])

-- a round was taken
pub record TookRound (terms : Terms) (before after : Place) (items : List Item) : Type 0 where
  pub lines : List (List ℕ)
  pub ending : List (List ℕ)
  pub went : Went before after (lines ++ ending)
  pub ends : Ends lines ending after.reader
  pub clear : list_any is_go lines ≡ false
  pub gives : AreItemsOf (entries_from terms (before.reader.lines + 1) 0 lines) items
  pub fits : ItemsFit terms items

-- a round was taken, or the input has ended with no line left
abbrev pub TookNext : Terms → Place → Place → Option (List Item) → Type 0
TookNext terms before after None = Went before after [] × IsSpent after.reader
TookNext terms before after (Some items) = TookRound terms before after items

-- reading stopped within a round
pub record BrokeOff (before after : Place) (refusal : ScriptRefusal) : Type 0 where
  pub lines : List (List ℕ)
  pub stopped : Stopped before after lines refusal
  pub clear : list_any is_go lines ≡ false
