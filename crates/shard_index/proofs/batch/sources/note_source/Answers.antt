use Rattle.std.proofs.Common.{◌++◌, ◌∷◌, [], map, take, sym, ap, subst, ◌∙◌, append_assoc}
use Rattle.std.proofs.lemmas.List.{map-append, take_more}
use Rattle.shard_index.specs.FullEdges.{change_to}
use Rattle.shard_index.specs.Notes.{AreNoted}
use Rattle.shard_index.proofs.batch.sources.note_source.Goals as goal

pub loop-target-preserved : goal.loop-target-preserved
loop-target-preserved c =
    let table = c.args.table.now in let targets = c.args.targets.now in let i = c.loop-target.target-index in
    let f = change_to table.contents c.args.source.now in let target = c.target-item.result in
    let next = c.in_ok-note_target.ensures {u = tt} in (
      c.note_target.ensures.count ∙ c.loop-target.invariant.0,
      (λ removed placed edges so_far.
          subst (λ es. AreNoted table removed placed es c.note_target.new.notes)
          (append_assoc edges (map f (take i targets)) (f target ∷ [])
          ∙ ap (λ es. edges ++ es) (sym (ap (map f) (take_more targets i target c.loop-target-test.true ∙ ap (λ t. take i targets ++ t ∷ []) (sym c.target-item.is)) ∙ map-append f (take i targets) (target ∷ []))))
          (next.noted removed placed (edges ++ map f (take i targets)) (c.loop-target.invariant.1 removed placed edges so_far))),
    )
