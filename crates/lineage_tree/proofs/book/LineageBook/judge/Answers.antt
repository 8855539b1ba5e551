use Rattle.std.proofs.Common.{◌≡◌, ◌∙◌, sym, length}
use Rattle.std.proofs.lemmas.Result.{IfOk-weaker}
use Rattle.lineage_tree.proofs.EntryLemmas.{count_is}
use Rattle.lineage_tree.proofs.book.LineageBook.judge.Goals as goal

pub returns-clause-count : goal.returns-clause-count
returns-clause-count g c =
    IfOk-weaker c.judge_all.result (λ verdicts. length verdicts ≡ length c.entries.result.now) (λ verdicts. length verdicts ≡ length c.args.self.now)
    (λ verdicts count. count ∙ sym (count_is c.entries.result.now c.args.self.now c.entries.ensures.lists)) c.judge_all.ensures.count
