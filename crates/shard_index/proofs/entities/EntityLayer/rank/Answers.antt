use Rattle.std.proofs.Common.{rules, ◌≡◌, ap, ◌∙◌, sym}
use Rattle.std.specs.FinMap as finite
use Rattle.std.specs.FinMap.Entries.{find}
use Rattle.std.specs.Ordering.{nat_cmp}
use Rattle.shard_index.proofs.entities.EntityLayer.rank.Goals as goal

pub returns : goal.returns
returns c =
    let read : c.copied.result ≡ find nat_cmp c.args.id c.deref.result.now = search rules in
    read ∙ ap (find nat_cmp c.args.id) c.deref.ensures.value ∙ sym (finite.get-from_sorted nat_cmp c.self.inside.puts.items c.args.id c.self.invariant.puts) ∙ ap (λ l. finite.get l.puts c.args.id) c.self.view_is
