use Rattle.std.proofs.Common.{◌≡◌, ap, ◌∙◌}
use Rattle.std.specs.FinMap as finite
use Rattle.layer_base.specs.Layers.{from_log, put_all}
use Rattle.layer_base.proofs.Tables.{from_log-append}
use Rattle.forward_data.specs.Records.{record_cmp}
use Rattle.forward_data.proofs.Order.{record_apart, record_total}
use Rattle.forward_data.proofs.layer.ForwardDelta.append.Goals as goal

pub returns : goal.returns
returns c =
    ap (from_log {R = record_cmp}) (c.in_ok-append.ensures {u = tt}).items
    ∙ from_log-append record_total record_apart c.self.inside.log.items c.later.inside.log.items
    ∙ (λ i. put_all (finite.entries (c.later.view_is i)) (c.self.view_is i))
