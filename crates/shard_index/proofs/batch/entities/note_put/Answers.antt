use Rattle.std.proofs.Common.{rules, ◌≡◌, Some, None, ap, ◌∙◌, subst, sym, slice_get}
use Rattle.uni_schema.specs.Schema.{Declarations}
use Rattle.shard_index.specs.Batches.{all_shards}
use Rattle.shard_index.specs.Notes.{row_taken, with_put}
use Rattle.shard_index.specs.Numbers.{shard_for}
use Rattle.shard_index.proofs.OneNoted.{nothing, nowhere, none_put, put_noted, put_ignored}
use Rattle.shard_index.proofs.batch.entities.note_put.Goals as goal

pub returns-in_default-clause-noted : goal.returns-in_default-clause-noted
returns-in_default-clause-noted c =
    let change = c.args.change.now in
    let none : row_taken change.before change.after ≡ None = sym c.row_taken.ensures ∙ nothing c.row_taken.result c.in_default.not-Some in
    none_put c.args.table.now c.args.notes.now change none

pub returns-in_ok-put-clause-noted : goal.returns-in_ok-put-clause-noted
returns-in_ok-put-clause-noted c =
    let table = c.args.table.now in let change = c.args.change.now in let row = c.in-Some.row in
    let same : c.deref.result.now ≡ table.schema = search rules in
    let some : row_taken change.before change.after ≡ Some row = sym c.row_taken.ensures ∙ c.in-Some.is in
    let at : slice_get (all_shards table.schema) c.in-Some-shard_no.number ≡ shard_for table.schema row.vertical change.id =
    subst (λ (s : Declarations). slice_get (all_shards s) c.in-Some-shard_no.number ≡ shard_for s row.vertical change.id) same c.in-Some-shard_no.ensures.at in
    let noted : c.put.new.self ≡ with_put c.index-notes-number.result change.id row.rank = search rules in
    put_noted table c.args.notes.now change row some c.in-Some-shard_no.number c.index-notes-number.result c.put.new.self at c.index-notes-number.is noted

pub returns-in_default-shard_no-clause-noted : goal.returns-in_default-shard_no-clause-noted
returns-in_default-shard_no-clause-noted c =
    let table = c.args.table.now in let change = c.args.change.now in let row = c.in-Some.row in
    let same : c.deref.result.now ≡ table.schema = search rules in
    let some : row_taken change.before change.after ≡ Some row = sym c.row_taken.ensures ∙ c.in-Some.is in
    let none : shard_for table.schema row.vertical change.id ≡ None =
    ap (λ (s : Declarations). shard_for s row.vertical change.id) (sym same)
    ∙ nowhere (slice_get (all_shards c.deref.result.now)) c.shard_no.result (shard_for c.deref.result.now row.vertical change.id) c.shard_no.ensures.at c.in_default-shard_no.not-Some in
    put_ignored table c.args.notes.now change row some none
