use Rattle.std.proofs.Common.{◌≡◌, ◌≤◌, ◌<◌, ◌++◌, ◌∷◌, [], List, ℕ, ap, sym, subst, ◌∙◌, arith, rules}
use Rattle.std.specs.List.{slice_range}
use Rattle.bench_script.specs.Pieces.{joined_back, ArePieces}
use Rattle.bench_script.proofs.Pieces.{cut-more, cut-some, pieces-push}
use Rattle.bench_script.proofs.source.pieces.Goals as goal

pub loop-end-preserved : goal.loop-end-preserved
loop-end-preserved c =
    let text = c.args.text.now in let from = c.saturating_sub-from.result in let end = c.loop-end.end in let old = c.loop-end.pieces.items in
    let before : from ≤ end = search rules in
    let less : from < end = search rules in
    let piece : List ℕ = slice_range text from end in
    let pushed : c.push.new.self.items ≡ old ++ piece ∷ [] = search rules in
    record {
      within = omega (arith, before, c.loop-end.invariant.within);
      joined = ap joined_back pushed ∙ cut-more text old from end before c.loop-end.invariant.joined;
      some = subst ArePieces (sym pushed) (pieces-push old piece c.loop-end.invariant.some (cut-some text from end less c.loop-end.invariant.within));
    }
