use Rattle.std.proofs.Common.{arith, ◌≡◌, ◌<◌, length, refl, sym, subst, ◌∙◌}
use Rattle.std.proofs.lemmas.Option.{get_or_from_slice_get, slice_get_within}
use Rattle.std.specs.List.{All}
use Rattle.uni_table.specs.Contents.{Contents}
use Rattle.uni_table.specs.Sources.{AreTargets}
use Rattle.uni_table.specs.declared.graph.numbers.Source.{Source}
use Rattle.shard_index.specs.FullEdges.{IsTargetOf, NotesSources}
use Rattle.shard_index.proofs.FullEdges.{are_targets, none_read, one_read}
use Rattle.shard_index.proofs.batch.sources.note_sources.Goals as goal

pub loop-at-init : goal.loop-at-init
loop-at-init c = record { count = refl; read = none_read c.args.table.now c.args.sources.now.sources c.args.from c.args.notes.now }

pub note_source-requires-clause-declared : goal.note_source-requires-clause-declared
note_source-requires-clause-declared c =
    let sources = c.args.sources.now.sources in let source = c.source-source.result in let at = c.source-source.ensures in
    subst (λ (s : Source). s.type_no < length c.args.table.now.schema.types) (get_or_from_slice_get sources c.loop-at.at source source at)
    (c.requires.sources.declared c.loop-at.at source (slice_get_within sources c.loop-at.at source at))

pub note_source-requires-clause-targets : goal.note_source-requires-clause-targets
note_source-requires-clause-targets c =
    let table = c.args.table.now in let source = c.source-source.result in
    let are : AreTargets table.contents source c.read.new.list =
    subst (λ (t : Contents). AreTargets t source c.read.new.list) c.requires.sources.of (c.in_ok-read.ensures {u = tt} source c.source-source.ensures) in
    subst (All (IsTargetOf table.contents source)) (sym c.as_slice.ensures) (are_targets table.schema table.limits table.contents c.requires.kept source c.read.new.list are)

pub loop-at-preserved : goal.loop-at-preserved
loop-at-preserved c =
    let table = c.args.table.now in let sources = c.args.sources.now.sources in let source = c.source-source.result in let at = c.source-source.ensures in
    let are : AreTargets table.contents source c.as_slice.result.now =
    subst (AreTargets table.contents source) (sym c.as_slice.ensures) (subst (λ (t : Contents). AreTargets t source c.read.new.list) c.requires.sources.of (c.in_ok-read.ensures {u = tt} source at)) in
    let next = c.in_ok-note_source.ensures {u = tt} in
    record {
      count = c.note_source.ensures.count ∙ c.loop-at.invariant.count;
      read = one_read table c.requires.kept sources c.args.from c.loop-at.at c.args.notes.now c.loop-at.notes c.note_source.new.notes source c.as_slice.result.now
          (slice_get_within sources c.loop-at.at source at) (sym (get_or_from_slice_get sources c.loop-at.at source source at)) are c.loop-at.invariant.read next.noted;
    }

pub returns : goal.returns
returns c =
    let table = c.args.table.now in
    let all : c.loop-at.at ≡ c.args.to = omega (arith, c.loop-at-test.false, c.loop-at.auto.at, c.loop-at.auto.at-end, c.requires.within) in
    record {
      count = c.loop-at.invariant.count;
      noted = subst (λ n. NotesSources table c.args.sources.now.sources c.args.from n c.args.notes.now c.loop-at.notes) all c.loop-at.invariant.read;
    }
