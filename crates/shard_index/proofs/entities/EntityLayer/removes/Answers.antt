use Rattle.std.proofs.Common.{rules, ◌≡◌, ap, ◌∙◌, sym, is_some}
use Rattle.std.specs.FinMap as finite
use Rattle.std.specs.FinMap.Entries.{find}
use Rattle.std.specs.Ordering.{nat_cmp}
use Rattle.shard_index.proofs.entities.EntityLayer.removes.Goals as goal

pub returns : goal.returns
returns c =
    let read : c.is_some.result ≡ is_some (find nat_cmp c.args.id c.deref.result.now) = search rules in
    read ∙ ap (λ rows. is_some (find nat_cmp c.args.id rows)) c.deref.ensures.value ∙ ap is_some (sym (finite.get-from_sorted nat_cmp c.self.inside.deletes.items c.args.id c.self.invariant.deletes)) ∙ ap (λ l. finite.contains_key l.deletes c.args.id) c.self.view_is
