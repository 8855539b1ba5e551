use Rattle.std.proofs.Common.{arith}
use Rattle.lineage_tree.proofs.EntryLemmas.{count_is}
use Rattle.lineage_tree.proofs.book.LineageBook.len.Goals as goal

pub returns : goal.returns
returns c = let count = count_is c.self.inside.entries.items c.args.self.now c.self.view_is in omega (arith, count, c.self.inside.entries.ok.0)
