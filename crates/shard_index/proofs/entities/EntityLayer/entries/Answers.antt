use Rattle.std.proofs.Common.{rules, arith, ◌≡◌, length, ap}
use Rattle.shard_index.specs.Entities.{entity_entries}
use Rattle.shard_index.proofs.EntityRows.{len-from_sorted}
use Rattle.shard_index.proofs.entities.EntityLayer.entries.Goals as goal

pub returns-clause-entries : goal.returns-clause-entries
returns-clause-entries c =
    let l = c.self.inside in
    let deletes = len-from_sorted l.deletes.items c.self.invariant.deletes in
    let puts = len-from_sorted l.puts.items c.self.invariant.puts in
    let first : c.len.result ≡ length l.deletes.items = search rules in
    let second : c.len-2.result ≡ length l.puts.items = search rules in
    omega (arith, deletes, puts, first, second, ap entity_entries c.self.view_is)

pub returns-clause-few : goal.returns-clause-few
returns-clause-few c =
    let first : c.len.result ≡ length c.self.inside.deletes.items = search rules in
    let second : c.len-2.result ≡ length c.self.inside.puts.items = search rules in
    omega (arith, first, second, c.self.invariant.few_deletes, c.self.invariant.few_puts)
