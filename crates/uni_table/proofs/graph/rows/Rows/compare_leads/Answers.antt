use Rattle.std.proofs.Common.{◌≡◌, ◌∙◌, rules}
use Rattle.std.specs.Map.{keys_of}
use Rattle.std.specs.Ordering.{nat_cmp, ordering_then}
use Rattle.uni_table.proofs.SourceOrder.{leads_decide}
use Rattle.uni_table.proofs.graph.rows.Rows.compare_leads.Goals as goal

pub returns : goal.returns
returns c =
    let one = c.args.one.now in
    let other = c.args.other.now in
    let told : c.then.result ≡ ordering_then (nat_cmp one.lead other.lead) (nat_cmp one.target other.target) = search rules in
    told ∙ leads_decide (keys_of c.args.self.now.sources.entries) one other c.requires
