use Rattle.std.proofs.Common.{rules, ◌≡◌, take, ◌∙◌, sym, subst}
use Rattle.forward_data.specs.Combined.{AreAlone, IsPatch}
use Rattle.forward_data.specs.Records.{Records, AreFull}
use Rattle.forward_data.proofs.Based.{patch_stands}
use Rattle.forward_data.proofs.patch.merged.Goals as goal

pub returns-then-may_share : goal.returns-then-may_share
returns-then-may_share c =
    let layers = take c.args.count c.args.stack.now.0 in let changed = c.args.changed.now in
    let rows : Records = c.in_ok-rows-2.rows.value in let base : Records = c.in_ok-clone.field-0.value in
    let built : rows ≡ c.in_ok-delta.delta = search rules in
    let same : base ≡ c.args.base.now.value = search rules in
    let full : AreFull c.args.base.now.value = search rules in
    let is : IsPatch changed layers rows = subst (IsPatch changed layers) (sym built) (c.in_ok-delta.ensures {u = tt}) in
    c.over.ensures
    ∙ patch_stands changed base layers rows (subst AreFull (sym same) full) (subst (λ (b : Records). AreAlone changed b layers) (sym same) c.requires.alone) is
