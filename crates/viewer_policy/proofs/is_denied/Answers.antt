use Rattle.std.proofs.Common.{false, ap, sym, ◌∙◌}
use Rattle.std.specs.Option.{option_map_or}
use Rattle.uni_meaning.specs.Policy.{denies}
use Rattle.viewer_policy.proofs.is_denied.Goals as goal

pub returns-in-Some : goal.returns-in-Some
returns-in-Some c limits table stands =
    c.denies.ensures limits table stands ∙ sym (ap (λ owner. option_map_or (denies c.args.version.now.schema table c.args.viewer) owner false) c.in-Some.is)
