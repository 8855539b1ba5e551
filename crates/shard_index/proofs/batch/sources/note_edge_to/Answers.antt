use Rattle.std.proofs.Common.{rules, ◌≡◌, None, Some, Option, ap, ◌∙◌, subst, sym, slice_get}
use Rattle.uni_schema.specs.declared.schema.Store.TheVariants.{Forward}
use Rattle.uni_schema.specs.Schema.{Declarations}
use Rattle.uni_table.specs.declared.change.EdgeChange.{EdgeChange}
use Rattle.forward_data.specs.declared.record.RecordKey.{RecordKey}
use Rattle.shard_index.specs.Batches.{all_shards}
use Rattle.shard_index.specs.ChangedRows.{latest, replacing_new}
use Rattle.shard_index.specs.FullEdges.{change_to}
use Rattle.shard_index.specs.Notes.{with_edge}
use Rattle.shard_index.specs.Numbers.{shard_keeping}
use Rattle.shard_index.specs.declared.batch.notes.ShardNotes.{ShardNotes}
use Rattle.shard_index.proofs.FullEdges.{key_changes}
use Rattle.shard_index.proofs.OneNoted.{nowhere, edge_noted, edge_ignored}
use Rattle.shard_index.proofs.batch.sources.note_edge_to.Goals as goal

pub returns-in_ok-note_kept-clause-noted : goal.returns-in_ok-note_kept-clause-noted
returns-in_ok-note_kept-clause-noted c =
    let table = c.args.table.now in let source = c.args.source.now in let target = c.args.target.now in let d = c.args.type_def.now in
    let change = change_to table.contents source target in
    let old : ShardNotes = c.index-notes-number.result in
    let same : c.deref.result.now ≡ table.schema = search rules in
    let at : slice_get (all_shards table.schema) c.in-Some.number ≡ shard_keeping table.schema d change.edge =
    subst (λ (s : Declarations). slice_get (all_shards s) c.in-Some.number ≡ shard_keeping s d change.edge) same c.in-Some.ensures.at in
    let without_end : EdgeChange = record { edge = change.edge; before = None; after = Some (record { audience = target.audience; end = 0 }); rank_before = None; rank_after = None } in
    let kept : c.note_kept.new.notes ≡ with_edge table.contents Forward without_end old = search rules in
    let noted : c.note_kept.new.notes ≡ with_edge table.contents d.store change old =
    kept
    ∙ ap (λ (key : Option RecordKey). record old { records = replacing_new table.contents old.records old.last key; last = latest old.last key }) (key_changes table.contents source target c.requires.target None 0)
    ∙ ap (λ store. with_edge table.contents store change old) (sym c.requires.store) in
    edge_noted table c.args.notes.now change d c.requires.declared c.in-Some.number old c.note_kept.new.notes at c.index-notes-number.is noted

pub returns-in_default-clause-noted : goal.returns-in_default-clause-noted
returns-in_default-clause-noted c =
    let table = c.args.table.now in let source = c.args.source.now in let target = c.args.target.now in let d = c.args.type_def.now in
    let change = change_to table.contents source target in
    let same : c.deref.result.now ≡ table.schema = search rules in
    let none : shard_keeping table.schema d change.edge ≡ None =
    ap (λ (s : Declarations). shard_keeping s d change.edge) (sym same)
    ∙ nowhere (slice_get (all_shards c.deref.result.now)) c.keeper_no.result (shard_keeping c.deref.result.now d change.edge) c.keeper_no.ensures.at c.in_default.not-Some in
    edge_ignored table c.args.notes.now change d c.requires.declared none
