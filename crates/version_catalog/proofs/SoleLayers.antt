-- Layers that by themselves stand for shards, at a pin and as the journal grows.
use Rattle.std.proofs.Common.{◌≡◌, ◌∙◌, ℕ, List, [], ◌∷◌, ◌++◌, Option, None, Some, ap, sym, subst, arith, length-append, All}
use Rattle.std.specs.Prelude.{IfSome}
use Rattle.std.proofs.lemmas.List.{take_all}
use Rattle.std.proofs.lemmas.List.Elements.{All-weaker}
use mathlib.Core.List.{IsPrefix}
use Rattle.uni_schema.specs.Schema.{Declarations}
use Rattle.uni_table.specs.Journals.{fold_of}
use Rattle.uni_table.specs.declared.command.Command.{Command}
use Rattle.shard_index.specs.Rows.{ShardChanges}
use Rattle.shard_index.specs.Shards.{shard_rows}
use Rattle.shard_index.specs.Versions.{VersionState, StandsAt}
use Rattle.version_catalog.specs.Bases.{IsWhole, StandsAfter, IsBaseAfter}
use Rattle.version_catalog.specs.Seats.{IsVersionOf}
use Rattle.version_catalog.specs.Settings.{SettingsState}
use Rattle.version_catalog.specs.Stacks.{table_at}
use Rattle.version_catalog.specs.declared.bases.ShardBase.{ShardBase}
use Rattle.version_catalog.proofs.Folds.{table_at-append}

some_weaker : {X : Type 0} (P Q : X → Type 0) → ((x : X) → P x → Q x) → (o : Option X) → IfSome o P → IfSome o Q
some_weaker P Q weaker None holds = tt
some_weaker P Q weaker (Some x) holds = weaker x holds

-- ---- as the journal grows

stands_later : (schema : Declarations) (before more : List (List Command)) (covers v s : ℕ) (layer : ShardChanges)
    → StandsAfter schema before covers v s layer → StandsAfter schema (before ++ more) covers v s layer
stands_later schema before more covers v s layer stands = record {
  within = omega (arith, stands.within, length-append before more);
  rows = stands.rows ∙ sym (ap (λ table. shard_rows schema table v s) (table_at-append schema before more covers stands.within));
}

pub bases_later : (schema : Declarations) (before after : List (List Command)) (covers : ℕ) (bases : List ShardBase) → IsPrefix before after
    → All (IsBaseAfter schema before covers) bases → All (IsBaseAfter schema after covers) bases
bases_later schema before after covers bases p all =
    subst (λ journal. All (IsBaseAfter schema journal covers) bases) p.1
    (All-weaker (IsBaseAfter schema before covers) (IsBaseAfter schema (before ++ p.0) covers)
    (λ (base : ShardBase). some_weaker (StandsAfter schema before covers base.vertical base.shard) (StandsAfter schema (before ++ p.0) covers base.vertical base.shard)
    (stands_later schema before p.0 covers base.vertical base.shard) base.layer) bases all)

-- ---- at a pin

module _ (settings : SettingsState) (journal : List (List Command)) (version : VersionState) (is : IsVersionOf settings journal version) where
  whole_table : table_at settings.schema journal version.publishes ≡ fold_of settings.schema journal
  whole_table = ap (fold_of settings.schema) (take_all version.publishes journal (omega (arith, is.publishes)))

  whole_stands : (v s : ℕ) (layer : ShardChanges) → StandsAt version (layer ∷ []) v s → StandsAfter settings.schema journal version.publishes v s layer
  whole_stands v s layer stands = record {
    within = omega (arith, is.publishes);
    rows = stands (fold_of settings.schema journal) is.table ∙ (λ i. shard_rows (is.schema i) (sym whole_table i) v s);
  }

  -- what stands for its shard of a version does so after all of its publishes
  pub wholes_after : (bases : List ShardBase) → All (IsWhole version) bases → All (IsBaseAfter settings.schema journal version.publishes) bases
  wholes_after = All-weaker (IsWhole version) (IsBaseAfter settings.schema journal version.publishes)
      (λ (base : ShardBase). some_weaker (λ layer. StandsAt version (layer ∷ []) base.vertical base.shard) (StandsAfter settings.schema journal version.publishes base.vertical base.shard)
      (whole_stands base.vertical base.shard) base.layer)
