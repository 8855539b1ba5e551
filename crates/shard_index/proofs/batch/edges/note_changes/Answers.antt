use Rattle.std.proofs.Common.{rules, arith, ◌≡◌, ◌+◌, ◌-◌, ◌≤◌, List, ◌++◌, take, drop, refl, append-nil, sym, ◌∙◌, ap, subst}
use Rattle.std.proofs.lemmas.List.{append_assoc}
use Rattle.uni_table.specs.declared.change.EdgeChange.{EdgeChange}
use Rattle.shard_index.specs.Notes.{AreNoted, NotesEdges}
use Rattle.shard_index.proofs.BatchRuns.{run_after}
use Rattle.shard_index.proofs.batch.edges.note_changes.Goals as goal

pub loop-at-init : goal.loop-at-init
loop-at-init c =
    let changes = c.args.changes.now in let from = c.args.from in
    let none : from - from ≡ 0 = omega arith in
    record {
      fits = (omega arith, c.requires.within.0);
      count = refl;
      noted = λ removed placed edges so_far.
          subst (λ (cs : List EdgeChange). AreNoted c.args.table.now removed placed cs c.args.notes.now) (sym (ap (λ n. edges ++ take n (drop from changes)) none ∙ append-nil edges)) so_far;
    }

pub loop-at-preserved : goal.loop-at-preserved
loop-at-preserved c =
    let changes = c.args.changes.now in let from = c.args.from in let at = c.loop-at.at in let more = c.min.result in
    let low = c.loop-at.invariant.fits.0 in let high = c.loop-at.invariant.fits.1 in let least = c.min.ensures in
    let fits : at + more ≤ c.args.to = omega (arith, high, least) in
    let read : c.as_slice.result.now ≡ take (at + more - at) (drop at changes) = search rules in
    let noted_now = c.in_ok-note_part.ensures {u = tt} in
    record {
      fits = (omega (arith, low), fits);
      count = noted_now.count ∙ c.loop-at.invariant.count;
      noted = λ removed placed edges so_far.
          subst (λ (cs : List EdgeChange). AreNoted c.args.table.now removed placed cs c.note_part.new.notes)
          (append_assoc edges (take (at - from) (drop from changes)) c.as_slice.result.now ∙ ap (λ cs. edges ++ cs) (ap (λ cs. take (at - from) (drop from changes) ++ cs) read ∙ run_after changes from at (at + more) low (omega arith)))
          (noted_now.noted removed placed (edges ++ take (at - from) (drop from changes)) (c.loop-at.invariant.noted removed placed edges so_far));
    }

pub returns : goal.returns
returns c =
    let at : c.loop-at.at ≡ c.args.to = omega (arith, c.loop-at-test.false, c.loop-at.invariant.fits) in
    record {
      count = c.loop-at.invariant.count;
      noted = subst (λ n. NotesEdges c.args.table.now (take (n - c.args.from) (drop c.args.from c.args.changes.now)) c.args.notes.now c.loop-at.notes) at c.loop-at.invariant.noted;
    }
