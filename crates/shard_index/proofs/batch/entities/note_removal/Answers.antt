use Rattle.std.proofs.Common.{rules, ◌≡◌, Some, None, ap, ◌∙◌, subst, sym, slice_get}
use Rattle.uni_schema.specs.Schema.{Declarations}
use Rattle.shard_index.specs.Batches.{all_shards}
use Rattle.shard_index.specs.Notes.{row_left, with_removal}
use Rattle.shard_index.specs.Numbers.{shard_for}
use Rattle.shard_index.proofs.OneNoted.{nothing, nowhere, none_removed, removal_noted, removal_ignored}
use Rattle.shard_index.proofs.batch.entities.note_removal.Goals as goal

pub returns-in_default-clause-noted : goal.returns-in_default-clause-noted
returns-in_default-clause-noted c =
    let change = c.args.change.now in
    let none : row_left change.before change.after ≡ None = sym c.row_left.ensures ∙ nothing c.row_left.result c.in_default.not-Some in
    none_removed c.args.table.now c.args.notes.now change none

pub returns-in_ok-remove-clause-noted : goal.returns-in_ok-remove-clause-noted
returns-in_ok-remove-clause-noted c =
    let table = c.args.table.now in let change = c.args.change.now in let row = c.in-Some.row in
    let same : c.deref.result.now ≡ table.schema = search rules in
    let some : row_left change.before change.after ≡ Some row = sym c.row_left.ensures ∙ c.in-Some.is in
    let at : slice_get (all_shards table.schema) c.in-Some-shard_no.number ≡ shard_for table.schema row.vertical change.id =
    subst (λ (s : Declarations). slice_get (all_shards s) c.in-Some-shard_no.number ≡ shard_for s row.vertical change.id) same c.in-Some-shard_no.ensures.at in
    let noted : c.remove.new.self ≡ with_removal c.index-notes-number.result change.id = search rules in
    removal_noted table c.args.notes.now change row some c.in-Some-shard_no.number c.index-notes-number.result c.remove.new.self at c.index-notes-number.is noted

pub returns-in_default-shard_no-clause-noted : goal.returns-in_default-shard_no-clause-noted
returns-in_default-shard_no-clause-noted c =
    let table = c.args.table.now in let change = c.args.change.now in let row = c.in-Some.row in
    let same : c.deref.result.now ≡ table.schema = search rules in
    let some : row_left change.before change.after ≡ Some row = sym c.row_left.ensures ∙ c.in-Some.is in
    let none : shard_for table.schema row.vertical change.id ≡ None =
    ap (λ (s : Declarations). shard_for s row.vertical change.id) (sym same)
    ∙ nowhere (slice_get (all_shards c.deref.result.now)) c.shard_no.result (shard_for c.deref.result.now row.vertical change.id) c.shard_no.ensures.at c.in_default-shard_no.not-Some in
    removal_ignored table c.args.notes.now change row some none
