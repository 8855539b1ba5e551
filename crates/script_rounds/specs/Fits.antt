-- What items are under the terms that they were read under.
use Rattle.std.specs.Prelude.{ℕ, ◌≡◌, ◌<◌, ◌≤◌, List, [], ◌∷◌, Ok, Some, ⊤}
use Rattle.uni_schema.specs.Schema.{Declarations, vertical_at}
use Rattle.uni_schema.specs.declared.schema.VerticalDef.{VerticalDef}
use Rattle.query_tree.specs.Dialects.{dialect_of}
use Rattle.query_tree.specs.Tree.{Tree}
use Rattle.query_tree.specs.Within.{IsWithin}
use Rattle.query_check.specs.Plan.{stated_of, inner_of}
use Rattle.query_check.specs.Typing.{typed}
use Rattle.query_check.specs.Verticals.{IsOf, AreStated}
use Rattle.query_check.specs.declared.checked.Checked.{Checked}
use Rattle.feed_reader.specs.declared.line.FeedLine.TheVariants as feed
use Rattle.feed_reader.specs.Printing.{LineIsDeclared, HasUntil}
use Rattle.script_rounds.specs.Asks.{most_hits}
use Rattle.script_rounds.specs.Terms.{Terms}
use Rattle.script_rounds.specs.declared.item.Item.{Item}
use Rattle.script_rounds.specs.declared.item.Item.TheVariants.{Change, Publish, Ask, Compact, Stats, Refused, Fault, QueryFault, Memory}
use Rattle.script_rounds.specs.declared.item.RoundLine.{RoundLine}
use Rattle.script_rounds.specs.declared.item.RoundLine.TheVariants as lines

-- a query is typed from one within the limits, and it and the inner query of each join in it are declared,
-- and of the verticals that they say
pub record IsQuery (terms : Terms) (query : Checked) : Type 0 where
  pub tree : Tree
  pub within : IsWithin (dialect_of terms.limits terms.schema.format) tree
  pub is : typed terms.schema terms.limits.joins 0 tree ≡ Ok (stated_of query)
  pub declared : IsOf terms.schema (stated_of query).plan (stated_of query).vertical
  pub inner : AreStated terms.schema (inner_of query)

-- an `ask` of a session, for a number of hits that it may want
pub record IsAsk (terms : Terms) (session limit : ℕ) (query : Checked) : Type 0 where
  pub session_from : 1 ≤ session
  pub session_to : session ≤ terms.limits.sessions
  pub limit_from : 1 ≤ limit
  pub limit_to : limit ≤ most_hits terms
  pub asks : IsQuery terms query

-- a stack that there is
pub record IsStack (schema : Declarations) (vertical shard replica : ℕ) : Type 0 where
  pub def : VerticalDef
  pub declared : vertical_at schema vertical ≡ Some def
  pub shards : shard < def.shards
  pub replicas : replica < def.replicas

-- what an item names is declared, and its numbers are in their ranges
abbrev pub ItemFits : Terms → Item → Type 0
ItemFits terms (Change line command) = LineIsDeclared terms.schema (feed.Change command) × HasUntil terms.schema (feed.Change command)
ItemFits terms (Ask line viewer session limit query) = IsAsk terms session limit query.value
ItemFits terms (Compact line vertical shard replica) = IsStack terms.schema vertical shard replica
ItemFits terms (Publish line) = ⊤
ItemFits terms (Stats line) = ⊤
ItemFits terms (Refused line code) = ⊤
ItemFits terms (Fault line code) = ⊤
ItemFits terms (QueryFault line code column) = ⊤
ItemFits terms (Memory line) = ⊤

-- the same of items, one by one, and of a line
abbrev pub ItemsFit : Terms → List Item → Type 0
ItemsFit terms [] = ⊤
ItemsFit terms (item ∷ items) = ItemFits terms item × ItemsFit terms items

abbrev pub LineFits : Terms → RoundLine → Type 0
LineFits terms lines.Go = ⊤
LineFits terms lines.Skipped = ⊤
LineFits terms (lines.Item item) = ItemFits terms item
