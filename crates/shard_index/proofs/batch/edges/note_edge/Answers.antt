use Rattle.std.proofs.Common.{rules, ◌≡◌, Some, None, ap, ◌∙◌, subst, sym, slice_get}
use Rattle.uni_schema.specs.Schema.{Declarations, type_at}
use Rattle.shard_index.specs.Batches.{all_shards}
use Rattle.shard_index.specs.Notes.{with_edge}
use Rattle.shard_index.specs.Numbers.{shard_keeping}
use Rattle.shard_index.proofs.OneNoted.{nowhere, edge_noted, edge_ignored}
use Rattle.shard_index.proofs.batch.edges.note_edge.Goals as goal

pub returns-in_ok-note_kept-clause-noted : goal.returns-in_ok-note_kept-clause-noted
returns-in_ok-note_kept-clause-noted c =
    let table = c.args.table.now in let change = c.args.change.now in let d = c.type_def-type_def.result.now in
    let same : c.deref.result.now ≡ table.schema = search rules in
    let same_again : c.deref-2.result.now ≡ table.schema = search rules in
    let type_is : type_at table.schema change.edge.type_no ≡ Some d = ap (λ (s : Declarations). type_at s change.edge.type_no) (sym same) ∙ c.type_def-type_def.ensures.at in
    let at : slice_get (all_shards table.schema) c.in-Some.number ≡ shard_keeping table.schema d change.edge =
    subst (λ (s : Declarations). slice_get (all_shards s) c.in-Some.number ≡ shard_keeping s d change.edge) same_again c.in-Some.ensures.at in
    let noted : c.note_kept.new.notes ≡ with_edge table.contents d.store change c.index-notes-number.result = search rules in
    edge_noted table c.args.notes.now change d type_is c.in-Some.number c.index-notes-number.result c.note_kept.new.notes at c.index-notes-number.is noted

pub returns-in_default-clause-noted : goal.returns-in_default-clause-noted
returns-in_default-clause-noted c =
    let table = c.args.table.now in let change = c.args.change.now in let d = c.type_def-type_def.result.now in
    let same : c.deref.result.now ≡ table.schema = search rules in
    let same_again : c.deref-2.result.now ≡ table.schema = search rules in
    let type_is : type_at table.schema change.edge.type_no ≡ Some d = ap (λ (s : Declarations). type_at s change.edge.type_no) (sym same) ∙ c.type_def-type_def.ensures.at in
    let none : shard_keeping table.schema d change.edge ≡ None =
    ap (λ (s : Declarations). shard_keeping s d change.edge) (sym same_again)
    ∙ nowhere (slice_get (all_shards c.deref-2.result.now)) c.keeper_no.result (shard_keeping c.deref-2.result.now d change.edge) c.keeper_no.ensures.at c.in_default.not-Some in
    edge_ignored table c.args.notes.now change d type_is none
