use Rattle.std.proofs.Common.{ap, ◌∙◌}
use Rattle.viewer_policy.specs.Judged.{judged}
use Rattle.apply_extract.proofs.Asked.{if_ok}
use Rattle.apply_extract.proofs.shown.shown_hits.Goals as goal

pub returns : goal.returns
returns c =
    if_ok c.accepted_hits.result (λ shown told limits table stands.
    told (judged c.args.version.now.schema table c.args.viewer) (λ held answer says. says.says.met limits table stands ∙ ap (judged c.args.version.now.schema table c.args.viewer) says.shows)
    (c.in_ok-verdicts.ensures.verdicts (judged c.args.version.now.schema table c.args.viewer) (λ held answer says. says.says.met limits table stands ∙ ap (judged c.args.version.now.schema table c.args.viewer) says.shows)))
    c.accepted_hits.ensures
