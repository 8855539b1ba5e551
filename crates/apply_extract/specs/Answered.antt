-- A query whose joins are answered, and what it is in each shard.
use Rattle.std.specs.Prelude.{ℕ, ◌≡◌, ◌<◌, All, List, [], map, get_or}
use Rattle.uni_base.specs.Cursors.{IsRanked}
use Rattle.uni_schema.specs.Schema.{Declarations}
use Rattle.uni_table.specs.Contents.{Contents}
use Rattle.query_tree.specs.declared.query.Mark.{Mark}
use Rattle.posting_lists.specs.Postings.{keys_of}
use Rattle.shard_eval.specs.declared.resolved.InnerHit.{InnerHit}
use Rattle.shard_eval.specs.Meant.{edges_into}
use Rattle.shard_eval.specs.Resolution.{Listing, Resolution, term_node, prefix_node, list_node, joined_node, listed_node, nodes_of, AreReady, IsReady}
use Rattle.apply_extract.specs.declared.answered.Answered.{Answered}
use Rattle.apply_extract.specs.declared.answered.AnsweredOperand.{AnsweredOperand}
use Rattle.apply_extract.specs.declared.answered.Led.{Led}
use Rattle.apply_extract.specs.declared.answered.Answered.TheOpen.{Answered-F, AnsweredOperand-F}
use Rattle.apply_extract.specs.declared.answered.Answered.TheFolds.{fold-Answered, fold-AnsweredOperand}

-- an inner hit with those of its edges that lead into a shard
abbrev pub listing_in : ℕ → Led → Listing
listing_in shard led = record { hit = led.hit; rows = get_or (map (λ rows. rows.items) led.rows.items) shard [] }

abbrev pub hits_led : List Led → List InnerHit
hits_led = map (λ led. led.hit)

-- its edges are in rank order in each shard
abbrev pub IsLedRanked : Led → Type 0
IsLedRanked led = All (λ rows. IsRanked (keys_of rows.items)) led.rows.items

-- in each of so many shards inner hits have the edges of a type that lead from them into it
abbrev pub AreListed : Declarations → ℕ → ℕ → List Led → Contents → Type 0
AreListed schema number shards led table = (shard : ℕ) → shard < shards → All (λ listing. listing.rows ≡ edges_into schema table number shard listing.hit.key) (map (listing_in shard) led)

-- an operand in a shard
abbrev pub in_place : ℕ → (ℕ → Resolution) × Mark → Resolution × Mark
in_place shard operand = (operand.0 shard, operand.1)

abbrev pub node_step : Answered-F (ℕ → Resolution) ((ℕ → Resolution) × Mark) → ℕ → Resolution
node_step (Answered-F.Term type_no key) shard = term_node type_no key
node_step (Answered-F.Prefix type_no from) shard = prefix_node type_no from
node_step (Answered-F.List kind operands) shard = list_node kind (nodes_of (map (in_place shard) operands.items))
node_step (Answered-F.Joined type_no inner) shard = joined_node type_no inner.items
node_step (Answered-F.Listed type_no inner) shard = listed_node type_no (map (listing_in shard) inner.items)

abbrev pub operand_step : AnsweredOperand-F (ℕ → Resolution) ((ℕ → Resolution) × Mark) → (ℕ → Resolution) × Mark
operand_step operand = (operand.node, operand.mark)

-- what a query is in a shard
abbrev pub answered_in : Answered → ℕ → Resolution
answered_in = fold-Answered (ℕ → Resolution) ((ℕ → Resolution) × Mark) node_step operand_step

abbrev pub operand_in : AnsweredOperand → (ℕ → Resolution) × Mark
operand_in = fold-AnsweredOperand (ℕ → Resolution) ((ℕ → Resolution) × Mark) node_step operand_step

-- it can be asked of each of so many shards
abbrev pub IsReadyIn : ℕ → (ℕ → Resolution) → Type 0
IsReadyIn shards query = (shard : ℕ) → shard < shards → IsReady (query shard)

abbrev pub AreReadyIn : ℕ → List ((ℕ → Resolution) × Mark) → Type 0
AreReadyIn shards operands = (shard : ℕ) → shard < shards → AreReady (nodes_of (map (in_place shard) operands))
