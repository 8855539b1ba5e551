use Rattle.std.proofs.Common.{rules, arith, ◌≡◌, [], length, replicate, sym, ◌∙◌, ap, subst}
use Rattle.std.proofs.lemmas.List.{length-replicate, with_items_is}
use Rattle.uni_schema.specs.Schema.{Declarations}
use Rattle.shard_index.specs.Batches.{all_shards}
use Rattle.shard_index.specs.Notes.{no_notes, AreNoted, NotesEntities}
use Rattle.shard_index.proofs.BatchShards.{none_noted}
use Rattle.shard_index.proofs.batch.entity_notes.Goals as goal

pub returns : goal.returns
returns c =
    let table = c.args.table.now in let entities = c.args.entities.now in
    let first = c.in_ok-notes.notes in let second = c.note_entities.new.notes in
    let same : c.deref.result.now ≡ table.schema = search rules in
    let none : first.items ≡ replicate (length (all_shards table.schema)) no_notes =
    c.in_ok-notes.ensures {u = tt} ∙ ap (λ (s : Declarations). replicate (length (all_shards s)) no_notes) same in
    let after_entities : NotesEntities table entities first.items second = search rules in
    let as_many : length second ≡ first.len = search (rules, arith) in
    let noted : AreNoted table entities entities [] second = after_entities [] [] [] (subst (AreNoted table [] [] []) (sym none) (none_noted table)) in
    record {
      noted = subst (AreNoted table entities entities []) (sym (with_items_is first second as_many)) noted;
      count = ap length (with_items_is first second as_many) ∙ as_many ∙ sym c.deref_mut.ensures.len ∙ ap length (c.deref_mut.ensures.value ∙ none) ∙ length-replicate (length (all_shards table.schema)) no_notes;
      kept = c.schema.ensures.kept;
    }
