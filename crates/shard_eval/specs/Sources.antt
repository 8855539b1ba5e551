-- What the operands of a list find.
use Rattle.std.specs.Prelude.{List, All, map}
use Rattle.query_tree.specs.declared.query.Mark.{Mark}
use Rattle.uni_base.specs.Cursors.{IsRanked}
use Rattle.layer_stack.specs.Postings.{PostingTable}
use Rattle.shard_eval.specs.declared.source.Source.{Source}
use Rattle.shard_eval.specs.declared.source.Source.TheVariants.{Term, Prefix, Any, Hits}
use Rattle.shard_eval.specs.Found.{Found, found_all, found_keys, found_term}
use Rattle.shard_eval.specs.Grouped.{found_any}
use Rattle.shard_eval.specs.Resolution.{found_prefix}

abbrev pub found_by : PostingTable → Source → List Found
found_by table (Term leaf) = found_term table leaf
found_by table (Prefix number from) = found_any (found_prefix table number from)
found_by table (Any leaves) = found_any (map (found_term table) leaves.items)
found_by table (Hits hits) = found_all hits

abbrev pub found_lists : PostingTable → List (Source × Mark) → List (List Found)
found_lists table = map (λ s. found_by table s.0)

abbrev pub source_marks : List (Source × Mark) → List Mark
source_marks = map (λ s. s.1)

-- each in rank order
abbrev pub AreRanked : List (List Found) → Type 0
AreRanked = All (λ fs. IsRanked (found_keys fs))
