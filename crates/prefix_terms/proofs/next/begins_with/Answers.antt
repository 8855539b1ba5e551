use Rattle.std.proofs.Common.{eqb, List, ℕ, ap, ◌∙◌}
use Rattle.std.specs.List.{starts_with}
use Rattle.prefix_terms.proofs.Begins.{begins_is}
use Rattle.prefix_terms.proofs.next.begins_with.Goals as goal

pub returns : goal.returns
returns c =
    c.starts_with.ensures.value
    ∙ ap (λ (text : List ℕ). starts_with eqb text c.bytes-2.result.now) c.bytes.ensures.bytes
    ∙ ap (λ (from : List ℕ). starts_with eqb c.args.word.now from) c.bytes-2.ensures.bytes
    ∙ begins_is c.args.from.now c.args.word.now
