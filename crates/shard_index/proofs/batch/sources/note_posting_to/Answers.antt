use Rattle.std.proofs.Common.{rules, ◌≡◌, None, if◌then◌else◌, ap, ◌∙◌, subst, sym, get_or, slice_get}
use Rattle.std.specs.Option.{option_and_then}
use Rattle.uni_schema.specs.Schema.{Declarations, is_index, source_of}
use Rattle.layer_stack.specs.Places.{term_of}
use Rattle.layer_stack.specs.Postings.{place_of, putting}
use Rattle.shard_index.specs.Batches.{all_shards}
use Rattle.shard_index.specs.FullEdges.{change_to}
use Rattle.shard_index.specs.Notes.{with_edge}
use Rattle.shard_index.specs.Numbers.{shard_at_origin, shard_for, shard_keeping}
use Rattle.shard_index.specs.declared.batch.notes.ShardNotes.{ShardNotes}
use Rattle.shard_index.proofs.FullEdges.{posting_put}
use Rattle.shard_index.proofs.OneNoted.{nowhere, edge_noted, edge_ignored}
use Rattle.shard_index.proofs.batch.sources.note_posting_to.Goals as goal

pub returns-in_ok-put-clause-noted : goal.returns-in_ok-put-clause-noted
returns-in_ok-put-clause-noted c =
    let table = c.args.table.now in let source = c.args.source.now in let target = c.args.target.now in let d = c.args.type_def.now in
    let change = change_to table.contents source target in
    let old : ShardNotes = c.index-notes-number.result in
    let same : c.deref.result.now ≡ table.schema = search rules in
    let keeps : shard_keeping table.schema d change.edge ≡ shard_for table.schema d.target target.doc.id =
    ap (λ b. if b then shard_for table.schema d.target target.doc.id else option_and_then (shard_at_origin table.schema d.origin) (source_of source.key)) (ap is_index c.requires.store) in
    let at : slice_get (all_shards table.schema) c.in-Some.number ≡ shard_keeping table.schema d change.edge =
    subst (λ (s : Declarations). slice_get (all_shards s) c.in-Some.number ≡ shard_for s d.target target.doc.id) same c.in-Some.ensures.at ∙ sym keeps in
    let put : c.put.new.self ≡ putting old.postings (place_of (term_of source.type_no source.key) target.doc) target.audience = search rules in
    let there : ShardNotes = get_or c.args.notes.now c.in-Some.number old in
    let is : old ≡ there = c.index-notes-number.is in
    let new : ShardNotes = record there { postings = c.put.new.self } in
    let noted : new ≡ with_edge table.contents d.store change old =
    (λ i. record (sym is i) { postings = (put ∙ sym (posting_put table.contents source target c.requires.target old.postings)) i }) ∙ ap (λ store. with_edge table.contents store change old) (sym c.requires.store) in
    edge_noted table c.args.notes.now change d c.requires.declared c.in-Some.number old new at is noted

pub returns-in_default-clause-noted : goal.returns-in_default-clause-noted
returns-in_default-clause-noted c =
    let table = c.args.table.now in let source = c.args.source.now in let target = c.args.target.now in let d = c.args.type_def.now in
    let change = change_to table.contents source target in
    let same : c.deref.result.now ≡ table.schema = search rules in
    let keeps : shard_keeping table.schema d change.edge ≡ shard_for table.schema d.target target.doc.id =
    ap (λ b. if b then shard_for table.schema d.target target.doc.id else option_and_then (shard_at_origin table.schema d.origin) (source_of source.key)) (ap is_index c.requires.store) in
    let none : shard_keeping table.schema d change.edge ≡ None =
    keeps ∙ ap (λ (s : Declarations). shard_for s d.target target.doc.id) (sym same)
    ∙ nowhere (slice_get (all_shards c.deref.result.now)) c.shard_no.result (shard_for c.deref.result.now d.target target.doc.id) c.shard_no.ensures.at c.in_default.not-Some in
    edge_ignored table c.args.notes.now change d c.requires.declared none
