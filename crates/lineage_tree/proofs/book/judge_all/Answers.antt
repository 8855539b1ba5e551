use Rattle.std.proofs.Common.{◌∷◌, [], ◌∙◌, ap, sym, map, take, length, length-append, arith}
use Rattle.lineage_tree.specs.Accepted.{verdicts_of}
use Rattle.lineage_tree.specs.Entries.{entries_of}
use Rattle.lineage_tree.specs.Tree.{tree_of}
use Rattle.lineage_tree.proofs.EntryLemmas.{Book, taken_more, tree_at-names}
use Rattle.lineage_tree.proofs.AcceptedLemmas.{verdicts_more}
use Rattle.lineage_tree.proofs.book.judge_all.Goals as goal

pub holds-verdict-requires-clause-names : goal.holds-verdict-requires-clause-names
holds-verdict-requires-clause-names g c =
    tree_at-names c.args.entries.now (length c.loop-entry.verdicts) c.loop-entry.entry-index c.entry-item.result c.loop-entry.invariant.count c.loop-entry-test.true c.entry-item.is c.requires.names

pub loop-entry-preserved : goal.loop-entry-preserved
loop-entry-preserved g c = record {
  count = omega (arith, ap length c.in_ok-push.ensures, length-append c.loop-entry.verdicts (c.holds-verdict.result ∷ []), c.loop-entry.invariant.count);
  verdicts = λ accepts judges.
      let so_far = c.loop-entry.invariant.verdicts accepts judges in
      let before : Book = entries_of (map tree_of (take c.loop-entry.entry-index c.args.entries.now)) in
      c.in_ok-push.ensures
      ∙ verdicts_more accepts before c.loop-entry.verdicts c.holds-verdict.result (tree_of c.entry-item.result) so_far (c.holds-verdict.ensures accepts before judges so_far)
      ∙ ap (verdicts_of accepts) (sym (taken_more c.args.entries.now c.loop-entry.entry-index c.entry-item.result c.loop-entry-test.true c.entry-item.is));
}
