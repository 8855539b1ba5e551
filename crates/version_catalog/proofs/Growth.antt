-- A value that stands for a journal, after one publish more.
use Rattle.std.proofs.Common.{◌≡◌, ◌⊎◌, inl, inr, ℕ, ◌+◌, ◌-◌, ◌*◌, ◌<◌, ◌≤◌, List, [], ◌∷◌, ◌++◌, map, length, take, get_or, slice_get, Some, sym, ◌∙◌, ap, subst, arith}
use Rattle.std.proofs.Math.ListN.{get_or-append}
use Rattle.std.proofs.Math.Seq.{get_or-append_seam}
use Rattle.std.proofs.lemmas.List.{length-append, length-map, take-append-le, take_all}
use Rattle.std.proofs.lemmas.Option.{slice_get_within}
use Rattle.uni_schema.specs.Schema.{Declarations}
use Rattle.uni_table.specs.Contents.{Contents}
use Rattle.uni_table.specs.Journals.{fold_of}
use Rattle.uni_table.specs.declared.command.Command.{Command}
use Rattle.shard_index.specs.Batches.{shard_place, TakesOver}
use Rattle.shard_index.specs.Places.{StackPlace, stack_places}
use Rattle.shard_index.specs.Rows.{ShardChanges, no_rows, empty_layer, layer_over, stack_rows, entries}
use Rattle.shard_index.specs.Touched.{touched}
use Rattle.shard_index.specs.Versions.{VersionState, Stands, rows_at}
use Rattle.shard_index.proofs.StackLaws.{stack_over-snoc}
use Rattle.version_catalog.specs.Settings.{SettingsState}
use Rattle.version_catalog.specs.Spread.{spread, with_layers}
use Rattle.version_catalog.specs.Stacks.{table_at, StackStands}
use Rattle.version_catalog.specs.States.{version_in, covered_in, StateStands}
use Rattle.version_catalog.specs.Turns.{Accepts, LayersFit, HasPublished}
use Rattle.version_catalog.specs.declared.state.CatalogueState.{CatalogueState}
use Rattle.version_catalog.proofs.Folds.{table_at_end, table_at-append, is_journal-snoc}
use Rattle.version_catalog.proofs.Paired.{AllZip-at, AllZip-length, maps_agree}
use Rattle.version_catalog.proofs.Shares.{spread_fits, length-with_layers, with_layers-at}

either : (a b : ℕ) → (a ≤ b) ⊎ (b < a)
either a b = grind arith

-- ---- one stack

module _ (schema : Declarations) (journal : List (List Command)) (place : StackPlace) (covered : ℕ) (layers : List ShardChanges) (stands : StackStands schema journal place covered layers) where
  -- it stands for the rows of its shard after the whole journal
  pub stack_now : stack_rows layers ≡ rows_at schema (fold_of schema journal) place
  stack_now =
      let k = length journal - covered in
      let last : covered + k ≡ length journal = omega (arith, stands.within) in
      let all : length layers ≤ k + 1 = omega (arith, stands.count, stands.within) in
      sym (ap stack_rows (take_all (k + 1) layers all)) ∙ stands.rows k (omega (arith, last))
      ∙ ap (λ n. rows_at schema (table_at schema journal n) place) last ∙ ap (λ table. rows_at schema table place) (table_at_end schema journal)

  module _ (batch : List Command) (layer : ShardChanges) (takes : TakesOver schema (fold_of schema journal) (fold_of schema (journal ++ batch ∷ [])) (shard_place place.vertical place.shard) layer) where
    longer_journal : length (journal ++ batch ∷ []) ≡ length journal + 1
    longer_journal = length-append journal (batch ∷ [])

    longer_stack : length (layers ++ layer ∷ []) ≡ length layers + 1
    longer_stack = length-append layers (layer ∷ [])

    at_end : (n : ℕ) → n ≡ length journal + 1 → table_at schema (journal ++ batch ∷ []) n ≡ fold_of schema (journal ++ batch ∷ [])
    at_end n is = ap (table_at schema (journal ++ batch ∷ [])) (let same : n ≡ length (journal ++ batch ∷ []) = omega (arith, is, longer_journal) in same) ∙ table_at_end schema (journal ++ batch ∷ [])

    as_before : (n : ℕ) → n ≤ length journal → table_at schema (journal ++ batch ∷ []) n ≡ table_at schema journal n
    as_before n within = table_at-append schema journal (batch ∷ []) n within

    at_last : (n : ℕ) → n ≡ length journal → table_at schema (journal ++ batch ∷ []) n ≡ fold_of schema journal
    at_last n is = as_before n (omega (arith, is)) ∙ ap (table_at schema journal) is ∙ table_at_end schema journal

    rows_then : (k : ℕ) → covered + k ≤ length (journal ++ batch ∷ []) → (covered + k ≤ length journal) ⊎ (length journal < covered + k)
        → stack_rows (take (k + 1) (layers ++ layer ∷ [])) ≡ rows_at schema (table_at schema (journal ++ batch ∷ []) (covered + k)) place
    rows_then k within (inl before) =
        ap stack_rows (take-append-le (k + 1) layers (layer ∷ []) (omega (arith, before, stands.count))) ∙ stands.rows k before
        ∙ sym (ap (λ table. rows_at schema table place) (as_before (covered + k) before))
    rows_then k within (inr behind) =
        ap stack_rows (take_all (k + 1) (layers ++ layer ∷ []) (omega (arith, within, behind, stands.count, longer_stack, longer_journal)))
        ∙ stack_over-snoc no_rows layers layer ∙ ap (λ rows. layer_over rows layer) stack_now ∙ takes.rows
        ∙ sym (ap (λ table. rows_at schema table place) (at_end (covered + k) (omega (arith, within, behind, longer_journal))))

    few_as : (x y : ShardChanges) (old new one other : Contents) → y ≡ x → one ≡ old → other ≡ new → entries x ≤ 2 * touched schema old new place.vertical place.shard
        → entries y ≤ 2 * touched schema one other place.vertical place.shard
    few_as x y old new one other same olds news few =
        subst (λ z. entries z ≤ 2 * touched schema one other place.vertical place.shard) (sym same)
        (subst (λ t. entries x ≤ 2 * touched schema t other place.vertical place.shard) (sym olds) (subst (λ t. entries x ≤ 2 * touched schema old t place.vertical place.shard) (sym news) few))

    few_then : (k : ℕ) → covered + k < length (journal ++ batch ∷ []) → (length journal ≤ covered + k) ⊎ (covered + k < length journal)
        → entries (get_or (layers ++ layer ∷ []) (k + 1) empty_layer) ≤ 2 * touched schema (table_at schema (journal ++ batch ∷ []) (covered + k)) (table_at schema (journal ++ batch ∷ []) (covered + k + 1)) place.vertical place.shard
    few_then k within (inr before) =
        few_as (get_or layers (k + 1) empty_layer) (get_or (layers ++ layer ∷ []) (k + 1) empty_layer) (table_at schema journal (covered + k)) (table_at schema journal (covered + k + 1))
        (table_at schema (journal ++ batch ∷ []) (covered + k)) (table_at schema (journal ++ batch ∷ []) (covered + k + 1))
        (get_or-append layers (layer ∷ []) empty_layer (k + 1) (omega (arith, before, stands.count)))
        (as_before (covered + k) (omega (arith, before))) (as_before (covered + k + 1) (omega (arith, before))) (stands.few k before)
    few_then k within (inl last) =
        let place_of : k + 1 ≡ length layers = omega (arith, within, last, stands.count, longer_journal) in
        few_as layer (get_or (layers ++ layer ∷ []) (k + 1) empty_layer) (fold_of schema journal) (fold_of schema (journal ++ batch ∷ []))
        (table_at schema (journal ++ batch ∷ []) (covered + k)) (table_at schema (journal ++ batch ∷ []) (covered + k + 1))
        (ap (λ n. get_or (layers ++ layer ∷ []) n empty_layer) place_of ∙ get_or-append_seam layers layer [] empty_layer)
        (at_last (covered + k) (omega (arith, within, last, longer_journal))) (at_end (covered + k + 1) (omega (arith, within, last, longer_journal))) takes.few

    pub stack_gains : StackStands schema (journal ++ batch ∷ []) place covered (layers ++ layer ∷ [])
    stack_gains = record {
      within = omega (arith, stands.within, longer_journal);
      count = omega (arith, stands.count, longer_stack, longer_journal);
      rows = λ k within. rows_then k within (either (covered + k) (length journal));
      few = λ k within. few_then k within (either (length journal) (covered + k));
    }

-- ---- all stacks

-- each stack stands for its shard, publish by publish
abbrev pub EachStands : Declarations → List (List Command) → List ℕ → List (List ShardChanges) → Type 0
EachStands schema journal covered stacks =
    (i : ℕ) (place : StackPlace) → slice_get (stack_places schema) i ≡ Some place → StackStands schema journal place (get_or covered i 0) (get_or stacks i [])

pub all_now : (schema : Declarations) (journal : List (List Command)) (covered : List ℕ) (stacks : List (List ShardChanges)) → length stacks ≡ length (stack_places schema) → EachStands schema journal covered stacks
    → map stack_rows stacks ≡ map (rows_at schema (fold_of schema journal)) (stack_places schema)
all_now schema journal covered stacks long each =
    maps_agree stack_rows (rows_at schema (fold_of schema journal)) stacks (stack_places schema) [] long (λ i place at. stack_now schema journal place (get_or covered i 0) (get_or stacks i []) (each i place at))

pub stacks_long : (version : VersionState) (table : Contents) → Stands version table → length version.stacks ≡ length (stack_places version.schema)
stacks_long version table stands = sym (length-map version.stacks stack_rows) ∙ ap length stands.rows ∙ length-map (stack_places version.schema) (rows_at version.schema table)

module _ (state : CatalogueState) (settings : SettingsState) (journal : List (List Command)) (st : StateStands state settings journal) where
  pub as_long : length (version_in state).stacks ≡ length (stack_places settings.schema)
  as_long = stacks_long (version_in state) (fold_of settings.schema journal) st.table ∙ ap (λ (schema : Declarations). length (stack_places schema)) st.schema

  -- ---- a publish

  module _ (batch : List Command) (layers : List ShardChanges) (fit : LayersFit settings.schema journal batch layers) where
    pub spread_long : length (spread settings.schema layers) ≡ length (version_in state).stacks
    spread_long = AllZip-length _ (stack_places settings.schema) (spread settings.schema layers) (spread_fits (TakesOver settings.schema (fold_of settings.schema journal) (fold_of settings.schema (journal ++ batch ∷ []))) settings.schema layers fit) ∙ sym as_long

    pub each_gains : EachStands settings.schema (journal ++ batch ∷ []) (covered_in state) (with_layers (version_in state).stacks (spread settings.schema layers))
    each_gains i place at =
        let fits = spread_fits (TakesOver settings.schema (fold_of settings.schema journal) (fold_of settings.schema (journal ++ batch ∷ []))) settings.schema layers fit in
        let takes = AllZip-at _ (stack_places settings.schema) (spread settings.schema layers) i place empty_layer fits at in
        let below : i < length (version_in state).stacks = omega (arith, slice_get_within (stack_places settings.schema) i place at, as_long) in
        subst (λ layers'. StackStands settings.schema (journal ++ batch ∷ []) place (get_or (covered_in state) i 0) layers')
        (sym (with_layers-at (version_in state).stacks (spread settings.schema layers) i spread_long below))
        (stack_gains settings.schema journal place (get_or (covered_in state) i 0) (get_or (version_in state).stacks i []) (st.stacks i place at) batch (get_or (spread settings.schema layers) i empty_layer) takes)

    pub gained_now : map stack_rows (with_layers (version_in state).stacks (spread settings.schema layers)) ≡ map (rows_at settings.schema (fold_of settings.schema (journal ++ batch ∷ []))) (stack_places settings.schema)
    gained_now =
        all_now settings.schema (journal ++ batch ∷ []) (covered_in state) (with_layers (version_in state).stacks (spread settings.schema layers))
        (length-with_layers (version_in state).stacks (spread settings.schema layers) spread_long ∙ as_long) each_gains

    module _ (new : CatalogueState) (has : HasPublished layers state new) (accepts : Accepts settings journal batch) (below : length journal < settings.limits.publishes) where
      same_stacks : (version_in new).stacks ≡ with_layers (version_in state).stacks (spread settings.schema layers)
      same_stacks = has.stacks ∙ ap (λ (schema : Declarations). with_layers (version_in state).stacks (spread schema layers)) st.schema

      same_schema : (version_in new).schema ≡ settings.schema
      same_schema = has.schema ∙ st.schema

      longer : length (journal ++ batch ∷ []) ≡ length journal + 1
      longer = length-append journal (batch ∷ [])

      pub state_gains : StateStands new settings (journal ++ batch ∷ [])
      state_gains = record {
        schema = same_schema;
        publishes = has.publishes ∙ ap (λ n. n + 1) st.publishes ∙ sym longer;
        table = record { rows = ap (map stack_rows) same_stacks ∙ gained_now ∙ sym (ap (λ (schema : Declarations). map (rows_at schema (fold_of settings.schema (journal ++ batch ∷ []))) (stack_places schema)) same_schema) };
        limits = has.limits ∙ st.limits;
        within = omega (arith, below, longer);
        accepted = is_journal-snoc settings journal batch st.accepted accepts;
        covered = ap length has.covered ∙ st.covered;
        stacks = λ i place at.
            subst (λ covered. StackStands settings.schema (journal ++ batch ∷ []) place (get_or covered i 0) (get_or (version_in new).stacks i [])) (sym has.covered)
            (subst (λ stacks. StackStands settings.schema (journal ++ batch ∷ []) place (get_or (covered_in state) i 0) (get_or stacks i [])) (sym same_stacks) (each_gains i place at));
      }
