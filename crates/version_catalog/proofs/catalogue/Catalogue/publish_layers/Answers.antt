use Rattle.std.proofs.Common.{arith, ◌≡◌, ◌+◌, ◌∷◌, [], length, sym, ap, ◌∙◌, length-append}
use Rattle.uni_table.specs.Contents.{ended}
use Rattle.uni_table.specs.Journals.{fold_of, after_commands}
use Rattle.uni_table.specs.TableState.{TableState}
use Rattle.turn_lock.specs.Seats.{writer_seen}
use Rattle.version_catalog.specs.Seats.{feeder_journal, feeder_batch, published_table}
use Rattle.version_catalog.proofs.Feeds.{value_after, seen_after, number_after, table_next}
use Rattle.version_catalog.proofs.catalogue.Catalogue.publish_layers.Goals as goal

pub leave_with_entry-requires-clause-value : goal.leave_with_entry-requires-clause-value
leave_with_entry-requires-clause-value g c =
    value_after c.args.self.now c.args.feeder.now c.requires.of (writer_seen c.enter_writer-turn.new.writer) c.enter_writer-turn.ensures.same c.enter_writer-turn.result.value c.publish_turn.new.state
    c.replace-batch.result c.args.layers.now.layers.items c.enter_writer-turn.ensures.value (c.in-Ok.ensures {u = tt}).published (c.in-Ok.ensures {u = tt}).gains c.requires.fit c.replace-batch.ensures.value

pub invariant_of-feeder-clause-counted : goal.invariant_of-feeder-clause-counted
invariant_of-feeder-clause-counted g c =
    let feeder = c.args.feeder.now in let entered = writer_seen c.enter_writer-turn.new.writer in let same = c.enter_writer-turn.ensures.same in
    let told = c.in-Ok.ensures {u = tt} in
    let number = number_after c.args.self.now feeder c.requires.of entered same c.enter_writer-turn.result.value c.publish_turn.new.state c.in-Ok.number c.args.layers.now.layers.items c.enter_writer-turn.ensures.value told.published told.number in
    let seen = seen_after c.args.self.now feeder c.requires.of entered same (writer_seen c.leave_with_entry.new.writer) c.replace-batch.result c.leave_with_entry.ensures.added c.replace-batch.ensures.value in
    omega (arith, number, ap length seen.1, length-append (feeder_journal feeder) (feeder_batch feeder ∷ []))

pub invariant_of-feeder-clause-published : goal.invariant_of-feeder-clause-published
invariant_of-feeder-clause-published g c =
    let feeder = c.args.feeder.now in let entered = writer_seen c.enter_writer-turn.new.writer in let same = c.enter_writer-turn.ensures.same in
    let told = c.in-Ok.ensures {u = tt} in
    let number = number_after c.args.self.now feeder c.requires.of entered same c.enter_writer-turn.result.value c.publish_turn.new.state c.in-Ok.number c.args.layers.now.layers.items c.enter_writer-turn.ensures.value told.published told.number in
    let seen = seen_after c.args.self.now feeder c.requires.of entered same (writer_seen c.leave_with_entry.new.writer) c.replace-batch.result c.leave_with_entry.ensures.added c.replace-batch.ensures.value in
    let table : c.begin_batch.new.self ≡ published_table feeder.table c.in-Ok.number = c.begin_batch.ensures ∙ ap (λ (t : TableState). record t { published = t.contents }) c.end.ensures in
    let next_one : c.in-Ok.number ≡ feeder.publishes + 1 = omega (arith, number, feeder.counted) in
    let schema = ap (λ (t : TableState). t.schema) table ∙ c.requires.of.schema in
    ap (λ (t : TableState). t.published) table ∙ ap (ended feeder.table.contents) next_one ∙ table_next c.args.self.now feeder c.requires.of ∙ sym (λ i. fold_of (schema i) (seen.1 i))

pub invariant_of-feeder-clause-contents : goal.invariant_of-feeder-clause-contents
invariant_of-feeder-clause-contents g c =
    let table : c.begin_batch.new.self ≡ published_table c.args.feeder.now.table c.in-Ok.number = c.begin_batch.ensures ∙ ap (λ (t : TableState). record t { published = t.contents }) c.end.ensures in
    let none : c.replace-batch.new.dest ≡ [] = c.replace-batch.ensures.after ∙ c.new.ensures in
    ap (λ (t : TableState). t.contents) table ∙ sym (ap (λ (t : TableState). t.published) table) ∙ sym (ap (after_commands c.begin_batch.new.self.schema c.begin_batch.new.self.published) none)

pub returns-in-Ok-clause-of : goal.returns-in-Ok-clause-of
returns-in-Ok-clause-of g c =
    let table : c.begin_batch.new.self ≡ published_table c.args.feeder.now.table c.in-Ok.number = c.begin_batch.ensures ∙ ap (λ (t : TableState). record t { published = t.contents }) c.end.ensures in
    let seen = seen_after c.args.self.now c.args.feeder.now c.requires.of (writer_seen c.enter_writer-turn.new.writer) c.enter_writer-turn.ensures.same (writer_seen c.leave_with_entry.new.writer) c.replace-batch.result c.leave_with_entry.ensures.added c.replace-batch.ensures.value in
    record {
      lock = c.leave_with_entry.ensures.of;
      history = seen.0;
      schema = ap (λ (t : TableState). t.schema) table ∙ c.requires.of.schema;
      limits = ap (λ (t : TableState). t.limits) table ∙ c.requires.of.limits;
    }

pub returns-in-Ok-clause-ok : goal.returns-in-Ok-clause-ok
returns-in-Ok-clause-ok g c =
    let feeder = c.args.feeder.now in let entered = writer_seen c.enter_writer-turn.new.writer in let same = c.enter_writer-turn.ensures.same in
    let told = c.in-Ok.ensures {u = tt} in
    let number = number_after c.args.self.now feeder c.requires.of entered same c.enter_writer-turn.result.value c.publish_turn.new.state c.in-Ok.number c.args.layers.now.layers.items c.enter_writer-turn.ensures.value told.published told.number in
    let seen = seen_after c.args.self.now feeder c.requires.of entered same (writer_seen c.leave_with_entry.new.writer) c.replace-batch.result c.leave_with_entry.ensures.added c.replace-batch.ensures.value in
    record {
      journal = seen.1;
      number_is = omega (arith, number, ap length seen.1, length-append (feeder_journal feeder) (feeder_batch feeder ∷ []));
      batch = c.replace-batch.ensures.after ∙ c.new.ensures;
      table = c.begin_batch.ensures ∙ ap (λ (t : TableState). record t { published = t.contents }) c.end.ensures;
    }
