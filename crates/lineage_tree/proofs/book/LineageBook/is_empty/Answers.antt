use Rattle.std.proofs.Common.{◌≡◌, ◌==◌, length, vec_len, ◌∙◌, ap, arith}
use Rattle.lineage_tree.proofs.EntryLemmas.{count_is}
use Rattle.lineage_tree.proofs.book.LineageBook.is_empty.Goals as goal

pub returns : goal.returns
returns c =
    let count = count_is c.self.inside.entries.items c.args.self.now c.self.view_is in
    let same : vec_len c.self.inside.entries ≡ length c.args.self.now = omega (arith, count, c.self.inside.entries.ok.0) in
    c.is_empty.ensures ∙ ap (λ n. n == 0) same
