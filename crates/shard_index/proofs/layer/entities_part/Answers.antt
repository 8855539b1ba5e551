use Rattle.std.proofs.Common.{rules, arith, ◌≡◌, sym, ◌∙◌}
use Rattle.std.specs.Arc.{arc_value}
use Rattle.shard_index.specs.Entities.{entity_entries}
use Rattle.shard_index.proofs.EmptyParts.{nothing_changed}
use Rattle.shard_index.proofs.layer.entities_part.Goals as goal

pub returns-then-entries-eq0 : goal.returns-then-entries-eq0
returns-then-entries-eq0 c =
    let none : entity_entries c.args.part ≡ 0 = search (rules, arith) in
    let same : arc_value c.in_ok-try_clone.field-0 ≡ arc_value c.args.empty.now = search rules in
    same ∙ c.requires ∙ sym (nothing_changed c.args.part none)
