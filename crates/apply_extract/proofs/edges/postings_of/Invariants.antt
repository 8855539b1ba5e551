use Rattle.std.proofs.Common.{◌≡◌, take}
use Rattle.std.specs.List.{filter_map}
use Rattle.uni_base.specs.declared.limits.Limits.{Limits}
use Rattle.uni_table.specs.Contents.{Contents}
use Rattle.viewer_policy.specs.Judged.{StandsFor}
use Rattle.apply_extract.specs.Edges.{posting_in}
use Rattle.apply_extract.proofs.edges.postings_of.Given as goal

abbrev pub invariant-loop-item : goal.invariant-loop-item
invariant-loop-item l =
    (limits : Limits) (table : Contents) → StandsFor l.version limits table → l.postings.items ≡ filter_map (posting_in l.version.schema table l.target) (take l.item-index l.items)
