use Rattle.std.proofs.Common.{List, take, ap, ◌∙◌, sym, subst}
use Rattle.std.specs.FinMap as finite
use Rattle.forward_data.specs.declared.record.ForwardItem.{ForwardItem}
use Rattle.forward_data.specs.declared.record.RecordKey.{RecordKey}
use Rattle.forward_data.specs.Combined.{StandAlone}
use Rattle.forward_data.specs.Records.{record_cmp}
use Rattle.forward_data.proofs.Combined.{stand_alone}
use Rattle.forward_data.proofs.rows.RecordRows.combined.Goals as goal

pub combined-requires-clause-alone : goal.combined-requires-clause-alone
combined-requires-clause-alone c =
    let rows = c.self.inside.rows.items in let layers = take c.args.count c.args.stack.now.0 in
    subst (λ (rs : List (RecordKey × List ForwardItem)). StandAlone c.args.changed.now rs layers) (sym c.deref.ensures.value)
    (stand_alone layers c.args.self.now c.args.changed.now rows c.requires.alone c.self.invariant.0
    (λ k. ap (λ v. finite.get v k) (sym c.self.view_is) ∙ finite.get-from_sorted record_cmp rows k c.self.invariant.0))
