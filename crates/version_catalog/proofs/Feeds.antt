-- The feeder's table, batch and history, over a put and a publish.
use Rattle.std.proofs.Common.{◌≡◌, ℕ, ◌+◌, true, List, [], ◌∷◌, ◌++◌, length, None, sym, ◌∙◌, ap, subst}
use Rattle.std.specs.Prelude.{OnOk, OnErr, Ok, Err}
use Rattle.std.specs.declared.result.Result.{Result}
use Rattle.std.specs.List.{AllZip}
use Rattle.uni_schema.specs.Schema.{Declarations}
use Rattle.uni_table.specs.Commands.{next, refuses}
use Rattle.uni_table.specs.Contents.{Contents, ended}
use Rattle.uni_table.specs.Journals.{fold_of, after_commands, accepts_commands}
use Rattle.uni_table.specs.TableState.{TableState}
use Rattle.uni_table.specs.declared.command.Command.{Command}
use Rattle.turn_lock.specs.Seats.{writer_seen}
use Rattle.turn_lock.proofs.Prefixes.{prefix_self}
use Rattle.shard_index.specs.Batches.{TakesOver, all_shards}
use Rattle.shard_index.specs.Rows.{ShardChanges}
use Rattle.version_catalog.specs.Journals.{batches, IsHistory}
use Rattle.version_catalog.specs.Seats.{settings_of, feeder_batch, feeder_journal, IsFeederOf}
use Rattle.version_catalog.specs.States.{version_in, StateStands, StandsFor}
use Rattle.version_catalog.specs.Turns.{Accepts, LayersFit, GainsBatch, HasPublished}
use Rattle.version_catalog.specs.declared.catalogue.Catalogue.{Catalogue}
use Rattle.version_catalog.specs.declared.entry.Entry.{Entry}
use Rattle.version_catalog.specs.declared.entry.Entry.TheVariants.{Published}
use Rattle.version_catalog.specs.declared.feeder.Feeder.{Feeder}
use Rattle.version_catalog.specs.declared.state.CatalogueState.{CatalogueState}
use Rattle.version_catalog.proofs.Folds.{after_commands-snoc, accepts_commands-snoc, fold_of-snoc}
use Rattle.version_catalog.proofs.Histories.{batches-snoc, history-snoc, stands_after, stands_for}
use Rattle.version_catalog.proofs.Told.{told_published}

-- ---- a publish

module _ (catalogue : Catalogue) (feeder : Feeder) (is : IsFeederOf catalogue feeder) where
  at_journal : feeder.table.published ≡ fold_of (settings_of catalogue).schema (feeder_journal feeder)
  at_journal = feeder.published ∙ ap (λ (schema : Declarations). fold_of schema (feeder_journal feeder)) is.schema

  pub accepts_batch : Accepts (settings_of catalogue) (feeder_journal feeder) (feeder_batch feeder)
  accepts_batch = sym (λ i. accepts_commands (is.schema i) (is.limits i) (at_journal i) (feeder_batch feeder)) ∙ feeder.accepted

  -- the table without what the next publish ends is that of the journal with the batch
  pub table_next : ended feeder.table.contents (feeder.publishes + 1) ≡ fold_of (settings_of catalogue).schema (feeder_journal feeder ++ feeder_batch feeder ∷ [])
  table_next =
      ap (λ (t : Contents). ended t (feeder.publishes + 1)) feeder.contents ∙ (λ i. ended (after_commands (is.schema i) (at_journal i) (feeder_batch feeder)) (feeder.counted i + 1))
      ∙ sym (fold_of-snoc (settings_of catalogue).schema (feeder_journal feeder) (feeder_batch feeder))

  pub layers_fit : (layers : List ShardChanges) → AllZip (TakesOver feeder.table.schema feeder.table.published (ended feeder.table.contents (feeder.publishes + 1))) (all_shards feeder.table.schema) layers
      → LayersFit (settings_of catalogue).schema (feeder_journal feeder) (feeder_batch feeder) layers
  layers_fit layers takes =
      let schema = (settings_of catalogue).schema in
      subst (λ (t : Contents). AllZip (TakesOver schema (fold_of schema (feeder_journal feeder)) t) (all_shards schema) layers) table_next
      (subst (λ (t : Contents). AllZip (TakesOver schema t (ended feeder.table.contents (feeder.publishes + 1))) (all_shards schema) layers) at_journal
      (subst (λ (s : Declarations). AllZip (TakesOver s feeder.table.published (ended feeder.table.contents (feeder.publishes + 1))) (all_shards s) layers) is.schema takes))

  module _ (entered : List Entry) (same : entered ≡ writer_seen feeder.seat) where
    history_there : IsHistory (settings_of catalogue) entered
    history_there = subst (λ es. IsHistory (settings_of catalogue) es) (sym same) is.history

    journal_there : batches entered ≡ feeder_journal feeder
    journal_there = ap batches same

    pub value_after : (state new : CatalogueState) (kept : List Command) (layers : List ShardChanges) → StandsFor state entered → HasPublished layers state new → GainsBatch state (feeder_batch feeder) layers new
        → LayersFit (settings_of catalogue).schema (feeder_journal feeder) (feeder_batch feeder) layers → kept ≡ feeder_batch feeder → StandsFor new (entered ++ Published kept ∷ [])
    value_after state new kept layers value published gains fit keeps =
        let settings = settings_of catalogue in let batch = feeder_batch feeder in
        let stands = stands_after state settings entered entered history_there (prefix_self entered) value in
        let grown : StateStands new settings (batches entered ++ batch ∷ []) =
        gains settings (batches entered) stands.1 (subst (λ js. Accepts settings js batch) (sym journal_there) accepts_batch) (subst (λ js. LayersFit settings.schema js batch layers) (sym journal_there) fit) in
        stands_for new settings (entered ++ Published kept ∷ []) (history-snoc settings entered kept history_there)
        (subst (λ js. StateStands new settings js) (sym (batches-snoc entered kept ∙ ap (λ b. batches entered ++ b ∷ []) keeps)) grown) (told_published layers state new settings published stands.2)

    pub seen_after : (seen : List Entry) (kept : List Command) → seen ≡ entered ++ Published kept ∷ [] → kept ≡ feeder_batch feeder
        → IsHistory (settings_of catalogue) seen × (batches seen ≡ feeder_journal feeder ++ feeder_batch feeder ∷ [])
    seen_after seen kept added keeps = (
      subst (λ es. IsHistory (settings_of catalogue) es) (sym added) (history-snoc (settings_of catalogue) entered kept history_there),
      ap batches added ∙ batches-snoc entered kept ∙ (λ i. journal_there i ++ keeps i ∷ []),
    )

    pub number_after : (state new : CatalogueState) (number : ℕ) (layers : List ShardChanges) → StandsFor state entered → HasPublished layers state new → number ≡ (version_in new).publishes → number ≡ length (feeder_journal feeder) + 1
    number_after state new number layers value has counted =
        let stands = stands_after state (settings_of catalogue) entered entered history_there (prefix_self entered) value in
        counted ∙ has.publishes ∙ ap (λ n. n + 1) (stands.1.publishes ∙ ap length journal_there)

-- ---- a put

module _ {E : Type 0} where
  pub same_terms : (r : Result (Unit {0}) E) (old new : TableState) (batch after : List Command) (command : Command) → OnOk r (new ≡ record old { contents = next old.schema old.contents command }) → OnErr r ((new ≡ old) × (after ≡ batch))
      → (new.schema ≡ old.schema) × (new.limits ≡ old.limits) × (new.published ≡ old.published)
  same_terms (Ok u) old new batch after command ok err = (ap (λ (t : TableState). t.schema) ok, ap (λ (t : TableState). t.limits) ok, ap (λ (t : TableState). t.published) ok)
  same_terms (Err e) old new batch after command ok err = (ap (λ (t : TableState). t.schema) err.0, ap (λ (t : TableState). t.limits) err.0, ap (λ (t : TableState). t.published) err.0)

  pub put_published : (r : Result (Unit {0}) E) (old new : TableState) (batch after : List Command) (command : Command) → OnOk r (new ≡ record old { contents = next old.schema old.contents command }) → OnErr r ((new ≡ old) × (after ≡ batch))
      → (journal : List (List Command)) → old.published ≡ fold_of old.schema journal → new.published ≡ fold_of new.schema journal
  put_published r old new batch after command ok err journal is =
      let same = same_terms r old new batch after command ok err in
      same.2 ∙ is ∙ sym (ap (λ (schema : Declarations). fold_of schema journal) same.0)

  pub put_contents : (r : Result (Unit {0}) E) (old new : TableState) (batch after : List Command) (command : Command) → OnOk r (new ≡ record old { contents = next old.schema old.contents command }) → OnOk r (after ≡ batch ++ command ∷ []) → OnErr r ((new ≡ old) × (after ≡ batch))
      → old.contents ≡ after_commands old.schema old.published batch → new.contents ≡ after_commands new.schema new.published after
  put_contents (Ok u) old new batch after command ok joins err is =
      ap (λ (t : TableState). t.contents) ok ∙ ap (λ (t : Contents). next old.schema t command) is ∙ sym (after_commands-snoc old.schema old.published batch command)
      ∙ sym (λ i. after_commands (ok i).schema (ok i).published (joins i))
  put_contents (Err e) old new batch after command ok joins err is = ap (λ (t : TableState). t.contents) err.0 ∙ is ∙ sym (λ i. after_commands (err.0 i).schema (err.0 i).published (err.1 i))

  pub put_accepted : (r : Result (Unit {0}) E) (old new : TableState) (batch after : List Command) (command : Command) → OnOk r (refuses old.schema old.limits old.contents command ≡ None) → OnOk r (new ≡ record old { contents = next old.schema old.contents command })
      → OnOk r (after ≡ batch ++ command ∷ []) → OnErr r ((new ≡ old) × (after ≡ batch)) → old.contents ≡ after_commands old.schema old.published batch → accepts_commands old.schema old.limits old.published batch ≡ true
      → accepts_commands new.schema new.limits new.published after ≡ true
  put_accepted (Ok u) old new batch after command taken ok joins err is accepted =
      (λ i. accepts_commands (ok i).schema (ok i).limits (ok i).published (joins i))
      ∙ accepts_commands-snoc old.schema old.limits old.published batch command accepted (sym (ap (λ (t : Contents). refuses old.schema old.limits t command) is) ∙ taken)
  put_accepted (Err e) old new batch after command taken ok joins err is accepted = (λ i. accepts_commands (err.0 i).schema (err.0 i).limits (err.0 i).published (err.1 i)) ∙ accepted
