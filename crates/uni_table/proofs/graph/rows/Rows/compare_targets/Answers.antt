use Rattle.std.proofs.Common.{◌≡◌, ◌∙◌, rules, ap, sym}
use Rattle.std.specs.Map.{keys_of}
use Rattle.std.specs.Ordering.{nat_cmp, ordering_then}
use Rattle.uni_table.specs.GraphOrder.{type_told}
use Rattle.uni_table.proofs.SourceOrder.{targets_decide}
use Rattle.uni_table.proofs.graph.rows.Rows.compare_targets.Goals as goal

pub returns : goal.returns
returns c =
    let one = c.args.one.now in
    let other = c.args.other.now in
    let told : c.then.result ≡ ordering_then (nat_cmp (type_told one) (type_told other)) (nat_cmp one.target other.target) = search rules in
    told ∙ ap (ordering_then (nat_cmp (type_told one) (type_told other))) (sym (targets_decide (keys_of c.args.self.now.sources.entries) one other c.requires.one c.requires.other c.requires.source))
