-- the shards so far have answered
use Rattle.std.proofs.Common.{◌≡◌, length}
use Rattle.apply_extract.specs.Answered.{answered_in}
use Rattle.apply_extract.specs.Parts.{AllFirst}
use Rattle.apply_extract.proofs.shards.ask_in_turn.Given as goal

abbrev pub invariant-loop-shard : goal.invariant-loop-shard
invariant-loop-shard g l = record {
  count : length l.parts.items ≡ l.shard;
  parts : AllFirst l.version l.vertical 0 l.limit (answered_in l.query) l.parts.items;
}
