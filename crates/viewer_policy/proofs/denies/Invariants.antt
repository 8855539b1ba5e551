use Rattle.std.proofs.Common.{◌≡◌, drop}
use Rattle.std.specs.List.{list_any}
use Rattle.uni_base.specs.declared.limits.Limits.{Limits}
use Rattle.uni_table.specs.Contents.{Contents}
use Rattle.uni_meaning.specs.Policy.{denials_from, denies}
use Rattle.viewer_policy.specs.Judged.{StandsFor}
use Rattle.viewer_policy.proofs.Denials.{leads}
use Rattle.viewer_policy.proofs.denies.Given as goal

abbrev pub invariant-loop-type_no : goal.invariant-loop-type_no
invariant-loop-type_no l =
    (limits : Limits) (table : Contents) → StandsFor l.version limits table
    → denies l.version.schema table l.viewer l.fn.owner ≡ list_any (leads table l.viewer l.fn.owner) (denials_from l.type_no (drop l.type_no l.version.schema.types))
