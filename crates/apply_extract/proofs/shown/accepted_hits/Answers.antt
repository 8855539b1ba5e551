use Rattle.std.proofs.Common.{ap, sym, ◌∙◌}
use Rattle.std.specs.Option.{option_map}
use Rattle.apply_extract.specs.Shown.{accepted_hit}
use Rattle.apply_extract.proofs.ReadVersions.{none_given, one_given}
use Rattle.apply_extract.proofs.shown.accepted_hits.Goals.{in-Some+in_ok-push, in_default}
use Rattle.apply_extract.proofs.shown.accepted_hits.Goals as goal

pub loop-hit-preserved : goal.loop-hit-preserved
loop-hit-preserved g c accepts judge verdicts =
    let f = accepted_hit accepts c.args.book.now in
    let items = c.as_slice-hit-items.result.now in let i = c.loop-hit.hit-index in let item = c.hit-item.result in
    let so_far = c.loop-hit.invariant accepts judge verdicts in
    let told = c.in_ok-lineage.ensures accepts judge verdicts in
    elim c.match-branch-2.branch [
      | in-Some+in_ok-push w ↦
          w.shown-is ∙ w.in_ok-push.ensures.ok
          ∙ one_given f items i item c.loop-hit-test.true c.hit-item.is (record { key = item.key; lineage = w.in-Some.lineage }) c.loop-hit.shown so_far
          (ap (option_map (λ edges. record { key = item.key; lineage = edges })) (sym w.in-Some.is ∙ told))
      | in_default w ↦
          w.shown-is
          ∙ none_given f items i item c.loop-hit-test.true c.hit-item.is c.loop-hit.shown so_far
          (ap (option_map (λ edges. record { key = item.key; lineage = edges })) (sym w.in_default.is ∙ told))
    ]
