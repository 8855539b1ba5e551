use Rattle.std.proofs.Common.{◌≡◌, ◌+◌, length}
use Rattle.lineage_tree.proofs.tests.a_chain_of_entries_is_judged.Given as goal

abbrev pub invariant-loop : goal.invariant-loop
invariant-loop g l = (length l.book ≡ l.last + 1) × (l.last ≡ l.counter)
