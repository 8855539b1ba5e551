use Rattle.std.proofs.Common.{◌≡◌, ◌-◌, ◌∙◌, Some, sym, ap, suc, slice_get, arith}
use Rattle.uni_table.proofs.GraphEnds.{ended-row, marked-row, marked-same}
use Rattle.uni_table.proofs.graph.rows.Rows.mark_ended.Goals as goal

pub returns-then-has_ended-clause-marked : goal.returns-then-has_ended-clause-marked
returns-then-has_ended-clause-marked c =
    let es = c.args.self.now.edges.entries in
    let r = ended-row c.args.publish es c.args.number (sym c.if-has_ended.ensures) in
    let i : c.args.number - 1 ≡ r.0 = omega (arith, r.1) in
    let at : slice_get es (c.args.number - 1) ≡ Some r.2 = ap (slice_get es) i ∙ r.3 in
    let is : c.args.number ≡ suc (c.args.number - 1) = omega (arith, r.1) in
    marked-row c.args.publish es c.clear_slot.new.self.edges.entries c.args.number (c.args.number - 1) r.2.0 r.2.1 is at (c.clear_slot.ensures.edges r.2.0 r.2.1 at)

pub returns-then-has_ended-clause-same : goal.returns-then-has_ended-clause-same
returns-then-has_ended-clause-same c =
    let es = c.args.self.now.edges.entries in
    let r = ended-row c.args.publish es c.args.number (sym c.if-has_ended.ensures) in
    let i : c.args.number - 1 ≡ r.0 = omega (arith, r.1) in
    let at : slice_get es (c.args.number - 1) ≡ Some r.2 = ap (slice_get es) i ∙ r.3 in
    marked-same c.args.publish c.args.self.now c.clear_slot.new.self c.requires c.clear_slot.ensures.kept (c.args.number - 1) r.2.0 r.2.1 at r.4
    c.clear_slot.ensures.ids c.clear_slot.ensures.sources (c.clear_slot.ensures.edges r.2.0 r.2.1 at)
