use Rattle.std.proofs.Common.{◌≡◌, take}
use Rattle.apply_extract.specs.Split.{lists_of}
use Rattle.apply_extract.specs.Edges.{postings_by_shard}
use Rattle.apply_extract.proofs.edges.by_shard.Given as goal

abbrev pub invariant-loop-posting : goal.invariant-loop-posting
invariant-loop-posting l = lists_of l.lists.items ≡ postings_by_shard l.schema l.target (take l.posting-index l.postings)
