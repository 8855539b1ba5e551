-- A value that stands for a journal, after an install.
use Rattle.std.proofs.Common.{◌≡◌, ◌≢◌, ◌⊎◌, inl, inr, ℕ, suc, ◌+◌, ◌-◌, ◌*◌, ◌<◌, ◌≤◌, Bool, true, false, List, [], ◌∷◌, ◌++◌, map, length, take, drop, get_or, set, slice_get, Some, sym, ◌∙◌, ap, subst, arith, eqb}
use Rattle.std.proofs.Math.Seq.{take-add}
use Rattle.std.proofs.lemmas.Bool.Decides.{eqb_tells}
use Rattle.std.proofs.lemmas.List.{length-drop, length-set, get_or-drop, get_or-set_same, get_or-set_other}
use mathlib.Core.List.{IsPrefix}
use Rattle.uni_schema.specs.Schema.{Declarations}
use Rattle.uni_table.specs.Journals.{fold_of}
use Rattle.uni_table.specs.declared.command.Command.{Command}
use Rattle.shard_index.specs.Places.{StackPlace, stack_place, stack_places, stack_no, IsStack}
use Rattle.shard_index.specs.Rows.{ShardChanges, no_rows, empty_layer, layer_over, stack_over, stack_rows, entries}
use Rattle.shard_index.specs.Shards.{shard_rows}
use Rattle.shard_index.specs.Touched.{touched}
use Rattle.shard_index.specs.Versions.{rows_at}
use Rattle.shard_index.proofs.StackLaws.{stack_over-append}
use Rattle.shard_index.proofs.StackPlaces.{stack_is_at, stack_below, count_is}
use Rattle.version_catalog.specs.Settings.{SettingsState}
use Rattle.version_catalog.specs.Stacks.{table_at, StackStands}
use Rattle.version_catalog.specs.States.{version_in, covered_in, StateStands}
use Rattle.version_catalog.specs.Turns.{IsBase, KeepsJournal, HasInstalled, stack_in}
use Rattle.version_catalog.specs.declared.state.CatalogueState.{CatalogueState}
use Rattle.version_catalog.proofs.Folds.{table_at-append}
use Rattle.version_catalog.proofs.Growth.{EachStands, all_now, as_long}

either : (a b : ℕ) → (a ≤ b) ⊎ (b < a)
either a b = grind arith

-- ---- one stack

module _ (schema : Declarations) (journal : List (List Command)) (place : StackPlace) (covered covers : ℕ) (layers : List ShardChanges) (layer : ShardChanges)
    (stands : StackStands schema journal place covered layers) (more : covered ≤ covers) (within : covers ≤ length journal)
    (base : layer_over no_rows layer ≡ rows_at schema (table_at schema journal covers) place) where
  -- so many of its layers the new one stands for
  gone : ℕ
  gone = 1 + (covers - covered)

  rows_then : (k : ℕ) → covers + k ≤ length journal → stack_rows (take (k + 1) (layer ∷ drop (1 + (covers - covered)) layers)) ≡ rows_at schema (table_at schema journal (covers + k)) place
  rows_then k later =
      let n = 1 + (covers - covered) in
      let one : k + 1 ≡ suc k = omega arith in
      let to_here : covered + (covers - covered) ≡ covers = omega (arith, more) in
      let first : covers - covered + 1 ≡ n = omega arith in
      let so_far : stack_rows (take n layers) ≡ rows_at schema (table_at schema journal covers) place =
      ap (λ m. stack_rows (take m layers)) (sym first) ∙ stands.rows (covers - covered) (omega (arith, to_here, within)) ∙ ap (λ m. rows_at schema (table_at schema journal m) place) to_here in
      let all : n + k ≡ covers - covered + k + 1 = omega arith in
      let to_there : covered + (covers - covered + k) ≡ covers + k = omega (arith, more) in
      ap (λ m. stack_rows (take m (layer ∷ drop n layers))) one
      ∙ ap (λ rows. stack_over rows (take k (drop n layers))) (base ∙ sym so_far)
      ∙ sym (stack_over-append no_rows (take n layers) (take k (drop n layers)))
      ∙ ap stack_rows (sym (take-add n k layers)) ∙ ap (λ m. stack_rows (take m layers)) all
      ∙ stands.rows (covers - covered + k) (omega (arith, to_there, later)) ∙ ap (λ m. rows_at schema (table_at schema journal m) place) to_there

  few_then : (k : ℕ) → covers + k < length journal
      → entries (get_or (layer ∷ drop (1 + (covers - covered)) layers) (k + 1) empty_layer) ≤ 2 * touched schema (table_at schema journal (covers + k)) (table_at schema journal (covers + k + 1)) place.vertical place.shard
  few_then k later =
      let n = 1 + (covers - covered) in
      let one : k + 1 ≡ suc k = omega arith in
      let there : covered + (covers - covered + k) ≡ covers + k = omega (arith, more) in
      let index : n + k ≡ covers - covered + k + 1 = omega arith in
      let same : get_or (layer ∷ drop n layers) (k + 1) empty_layer ≡ get_or layers (covers - covered + k + 1) empty_layer =
      ap (λ m. get_or (layer ∷ drop n layers) m empty_layer) one ∙ get_or-drop n layers k empty_layer ∙ ap (λ m. get_or layers m empty_layer) index in
      subst (λ z. entries z ≤ 2 * touched schema (table_at schema journal (covers + k)) (table_at schema journal (covers + k + 1)) place.vertical place.shard) (sym same)
      (subst (λ m. entries (get_or layers (covers - covered + k + 1) empty_layer) ≤ 2 * touched schema (table_at schema journal m) (table_at schema journal (m + 1)) place.vertical place.shard) there
      (stands.few (covers - covered + k) (omega (arith, there, later))))

  pub stack_installs : StackStands schema journal place covers (layer ∷ drop (1 + (covers - covered)) layers)
  stack_installs = record {
    within = within;
    count = omega (arith, length-drop (1 + (covers - covered)) layers, stands.count, stands.within, more, within);
    rows = rows_then;
    few = few_then;
  }

-- ---- all stacks

module _ (state : CatalogueState) (settings : SettingsState) (journal : List (List Command)) (st : StateStands state settings journal) (v s r : ℕ) (stack : IsStack settings.schema v s r) where
  -- the number of the stack is one of the value's
  pub is_below : (stack_no settings.schema v s r < length (version_in state).stacks) × (stack_no settings.schema v s r < length (covered_in state))
  is_below =
      (omega (arith, stack_below settings.schema v s r stack, count_is settings.schema, as_long state settings journal st), omega (arith, stack_below settings.schema v s r stack, st.covered))

  -- and the stack stands for its shard
  pub own_stands : StackStands settings.schema journal (stack_place v s r) (get_or (covered_in state) (stack_no settings.schema v s r) 0) (get_or (version_in state).stacks (stack_no settings.schema v s r) [])
  own_stands = st.stacks (stack_no settings.schema v s r) (stack_place v s r) (stack_is_at settings.schema v s r stack)

module _ (state : CatalogueState) (settings : SettingsState) (journal : List (List Command)) (st : StateStands state settings journal) (v s r covers : ℕ) (layer : ShardChanges)
    (base : IsBase settings.schema journal v s r covers layer) (more : get_or (covered_in state) (stack_no settings.schema v s r) 0 ≤ covers) where
  -- what stands in its place
  abbrev front : List ShardChanges
  front = layer ∷ drop (1 + (covers - get_or (covered_in state) (stack_no settings.schema v s r) 0)) (get_or (version_in state).stacks (stack_no settings.schema v s r) [])

  number_below : stack_no settings.schema v s r < length (version_in state).stacks
  number_below = (is_below state settings journal st v s r base.stack).0

  covered_below : stack_no settings.schema v s r < length (covered_in state)
  covered_below = (is_below state settings journal st v s r base.stack).1

  by_place : (i : ℕ) (place : StackPlace) → slice_get (stack_places settings.schema) i ≡ Some place → (b : Bool) → ((b ≡ true) × (i ≡ stack_no settings.schema v s r)) ⊎ ((b ≡ false) × (i ≢ stack_no settings.schema v s r))
      → StackStands settings.schema journal place (get_or (set (covered_in state) (stack_no settings.schema v s r) covers) i 0) (get_or (set (version_in state).stacks (stack_no settings.schema v s r) front) i [])
  by_place i place at b (inl is) =
      let no = stack_no settings.schema v s r in
      let here : slice_get (stack_places settings.schema) i ≡ Some (stack_place v s r) = ap (slice_get (stack_places settings.schema)) is.1 ∙ stack_is_at settings.schema v s r base.stack in
      let own : stack_place v s r ≡ place = cc (at, here) in
      let installed = stack_installs settings.schema journal (stack_place v s r) (get_or (covered_in state) no 0) covers (get_or (version_in state).stacks no []) layer
      (own_stands state settings journal st v s r base.stack) more base.within base.rows in
      let number : get_or (set (covered_in state) no covers) i 0 ≡ covers = ap (λ k. get_or (set (covered_in state) no covers) k 0) is.1 ∙ get_or-set_same (covered_in state) no covers 0 covered_below in
      let stack : get_or (set (version_in state).stacks no front) i [] ≡ front = ap (λ k. get_or (set (version_in state).stacks no front) k []) is.1 ∙ get_or-set_same (version_in state).stacks no front [] number_below in
      subst (λ (p : StackPlace). StackStands settings.schema journal p (get_or (set (covered_in state) no covers) i 0) (get_or (set (version_in state).stacks no front) i [])) own
      (subst (λ c. StackStands settings.schema journal (stack_place v s r) c (get_or (set (version_in state).stacks no front) i [])) (sym number)
      (subst (λ ls. StackStands settings.schema journal (stack_place v s r) covers ls) (sym stack) installed))
  by_place i place at b (inr other) =
      let no = stack_no settings.schema v s r in
      subst (λ c. StackStands settings.schema journal place c (get_or (set (version_in state).stacks no front) i [])) (sym (get_or-set_other (covered_in state) no i covers 0 other.1))
      (subst (λ ls. StackStands settings.schema journal place (get_or (covered_in state) i 0) ls) (sym (get_or-set_other (version_in state).stacks no i front [] other.1)) (st.stacks i place at))

  pub each_installs : EachStands settings.schema journal (set (covered_in state) (stack_no settings.schema v s r) covers)
      (set (version_in state).stacks (stack_no settings.schema v s r) (layer ∷ drop (1 + (covers - get_or (covered_in state) (stack_no settings.schema v s r) 0)) (get_or (version_in state).stacks (stack_no settings.schema v s r) [])))
  each_installs i place at = by_place i place at (eqb i (stack_no settings.schema v s r)) (eqb_tells i (stack_no settings.schema v s r))

  pub installed_now : map stack_rows (set (version_in state).stacks (stack_no settings.schema v s r) (layer ∷ drop (1 + (covers - get_or (covered_in state) (stack_no settings.schema v s r) 0)) (get_or (version_in state).stacks (stack_no settings.schema v s r) [])))
      ≡ map (rows_at settings.schema (fold_of settings.schema journal)) (stack_places settings.schema)
  installed_now =
      let no = stack_no settings.schema v s r in
      all_now settings.schema journal (set (covered_in state) no covers) (set (version_in state).stacks no front) (length-set (version_in state).stacks no front ∙ as_long state settings journal st) each_installs

  pub state_changed : (new : CatalogueState) → HasInstalled v s r covers layer state new → StateStands new settings journal
  state_changed new has =
      let no = stack_no settings.schema v s r in
      let number : stack_in state v s r ≡ no = ap (λ (schema : Declarations). stack_no schema v s r) st.schema in
      let covered_more : get_or (covered_in state) (stack_in state v s r) 0 ≤ covers = subst (λ k. get_or (covered_in state) k 0 ≤ covers) (sym number) more in
      let same_covered : covered_in new ≡ set (covered_in state) no covers = has.covered covered_more ∙ ap (λ k. set (covered_in state) k covers) number in
      let same_stacks : (version_in new).stacks ≡ set (version_in state).stacks no front =
      has.stacks covered_more ∙ ap (λ k. set (version_in state).stacks k (layer ∷ drop (1 + (covers - get_or (covered_in state) k 0)) (get_or (version_in state).stacks k []))) number in
      let same_schema : (version_in new).schema ≡ settings.schema = has.schema ∙ st.schema in
      record {
        schema = same_schema;
        publishes = has.publishes ∙ st.publishes;
        table = record { rows = ap (map stack_rows) same_stacks ∙ installed_now ∙ sym (ap (λ (schema : Declarations). map (rows_at schema (fold_of settings.schema journal)) (stack_places schema)) same_schema) };
        limits = has.limits ∙ st.limits;
        within = st.within;
        accepted = st.accepted;
        covered = ap length same_covered ∙ length-set (covered_in state) no covers ∙ st.covered;
        stacks = λ i place at.
            subst (λ covered. StackStands settings.schema journal place (get_or covered i 0) (get_or (version_in new).stacks i [])) (sym same_covered)
            (subst (λ stacks. StackStands settings.schema journal place (get_or (set (covered_in state) no covers) i 0) (get_or stacks i [])) (sym same_stacks) (each_installs i place at));
      }

-- what was installed leaves what the value stands for
pub state_installs : (old new : CatalogueState) (v s r covers : ℕ) (layer : ShardChanges) → HasInstalled v s r covers layer old new → KeepsJournal old v s r covers layer new
state_installs old new v s r covers layer has settings journal st base =
    let number : stack_in old v s r ≡ stack_no settings.schema v s r = ap (λ (schema : Declarations). stack_no schema v s r) st.schema in
    by number (either (get_or (covered_in old) (stack_no settings.schema v s r) 0) covers)
  where
    by : stack_in old v s r ≡ stack_no settings.schema v s r → (get_or (covered_in old) (stack_no settings.schema v s r) 0 ≤ covers) ⊎ (covers < get_or (covered_in old) (stack_no settings.schema v s r) 0) → StateStands new settings journal
    by number (inl more) = state_changed old settings journal st v s r covers layer base more new has
    by number (inr less) =
        let less_there : covers < get_or (covered_in old) (stack_in old v s r) 0 = subst (λ k. covers < get_or (covered_in old) k 0) (sym number) less in
        subst (λ state. StateStands state settings journal) (sym (has.kept less_there)) st

-- a base stays one as the journal grows
pub base_later : (schema : Declarations) (before after : List (List Command)) (v s r covers : ℕ) (layer : ShardChanges) → IsPrefix before after → IsBase schema before v s r covers layer → IsBase schema after v s r covers layer
base_later schema before after v s r covers layer p base =
    subst (λ journal. IsBase schema journal v s r covers layer) p.1
    (record {
      stack = base.stack;
      within = grind (arith, base.within, length_more before p.0);
      rows = base.rows ∙ sym (ap (λ table. shard_rows schema table v s) (table_at-append schema before p.0 covers base.within));
    })
  where
    length_more : (xs ys : List (List Command)) → length xs ≤ length (xs ++ ys)
    length_more [] ys = omega arith
    length_more (x ∷ xs) ys = let rest = length_more xs ys in omega (arith, rest)
