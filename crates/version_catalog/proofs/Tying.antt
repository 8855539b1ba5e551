-- Turns as steps of the core of versions.
use Rattle.std.proofs.Common.{◌≡◌, ◌≢◌, ◌⊎◌, inl, inr, ℕ, zero, suc, ◌+◌, ◌<◌, ◌≤◌, Bool, true, false, cond, List, [], ◌∷◌, ◌++◌, length, get_or, set, max, Some, ◌==◌, slice_get, refl, sym, ◌∙◌, ap, subst, arith, eqb, length-append}
use mathlib.Core.List.{IsPrefix}
use Rattle.std.proofs.lemmas.Bool.Decides.{eqb_tells, nat_tests}
use Rattle.std.proofs.lemmas.List.{get_or-set_same, get_or-set_other}
use Rattle.uni_schema.specs.Schema.{Declarations}
use Rattle.uni_table.specs.declared.command.Command.{Command}
use Rattle.shard_index.specs.Places.{stack_no, stack_places}
use Rattle.shard_index.specs.Rows.{ShardChanges}
use Rattle.shard_index.proofs.StackPlaces.{count_is}
use Rattle.version_catalog.specs.Core.{State, feeder, opening, with_number}
use Rattle.version_catalog.specs.Settings.{SettingsState}
use Rattle.version_catalog.specs.States.{covered_in, StateStands}
use Rattle.version_catalog.specs.Tied.{IsLonger, IsTied, TurnsAreSteps}
use Rattle.version_catalog.specs.Turns.{IsBase, HasInstalled, stack_in}
use Rattle.version_catalog.specs.declared.state.CatalogueState.{CatalogueState}
use Rattle.version_catalog.proofs.Growth.{state_gains}
use Rattle.version_catalog.proofs.Installs.{is_below, state_installs}

either : (a b : ℕ) → (a ≤ b) ⊎ (b < a)
either a b = grind arith

get_or_past : {X : Type 0} (xs : List X) (i : ℕ) (d : X) → length xs ≤ i → get_or xs i d ≡ d
get_or_past [] i d past = refl
get_or_past (x ∷ xs) zero d past = absurd (omega (arith, past))
get_or_past (x ∷ xs) (suc i) d past = get_or_past xs i d (omega (arith, past))

slice_get-there : {X : Type 0} (xs : List X) (i : ℕ) → i < length xs → (x : X) × (slice_get xs i ≡ Some x)
slice_get-there [] i below = absurd (omega (arith, below))
slice_get-there (x ∷ xs) zero below = (x, refl)
slice_get-there (x ∷ xs) (suc i) below = slice_get-there xs i (omega (arith, below))

-- a journal is as long at least as one that it begins with
length_prefix : (xs ys : List (List Command)) → IsPrefix xs ys → length xs ≤ length ys
length_prefix xs ys begins = omega (arith, ap length begins.1, length-append xs begins.0)

greater : (a b : ℕ) → a ≤ b → max a b ≡ b
greater a b le = omega (arith, le)

kept : (a b : ℕ) → b < a → max a b ≡ a
kept a b lt = omega (arith, lt)

module _ (old new : CatalogueState) (settings : SettingsState) (core : State (List Command)) (v s r covers : ℕ) (layer : ShardChanges)
    (tied : IsTied old settings core) (base : IsBase settings.schema core.journal v s r covers layer) (has : HasInstalled v s r covers layer old new) where
  number : stack_in old v s r ≡ stack_no settings.schema v s r
  number = ap (λ (schema : Declarations). stack_no schema v s r) tied.journal.schema

  below : stack_in old v s r < length (covered_in old)
  below = omega (arith, number, (is_below old settings core.journal tied.journal v s r base.stack).1)

  covers_then : (stack : ℕ) → (get_or (covered_in old) (stack_in old v s r) 0 ≤ covers) ⊎ (covers < get_or (covered_in old) (stack_in old v s r) 0) → (b : Bool) → ((b ≡ true) × (stack ≡ stack_in old v s r)) ⊎ ((b ≡ false) × (stack ≢ stack_in old v s r))
      → get_or (covered_in new) stack 0 ≡ cond b (max (core.covered (stack_in old v s r)) covers) (core.covered stack)
  covers_then stack (inl more) b (inl is) =
      let no = stack_in old v s r in
      ap (λ cs. get_or cs stack 0) (has.covered more) ∙ ap (λ k. get_or (set (covered_in old) no covers) k 0) is.1 ∙ get_or-set_same (covered_in old) no covers 0 below
      ∙ sym (greater (core.covered no) covers (subst (λ n. n ≤ covers) (tied.covered no) more)) ∙ sym (ap (λ t. cond t (max (core.covered no) covers) (core.covered stack)) is.0)
  covers_then stack (inl more) b (inr other) =
      let no = stack_in old v s r in
      ap (λ cs. get_or cs stack 0) (has.covered more) ∙ get_or-set_other (covered_in old) no stack covers 0 other.1 ∙ tied.covered stack
      ∙ sym (ap (λ t. cond t (max (core.covered no) covers) (core.covered stack)) other.0)
  covers_then stack (inr less) b (inl is) =
      let no = stack_in old v s r in
      ap (λ (state : CatalogueState). get_or (covered_in state) stack 0) (has.kept less) ∙ ap (λ k. get_or (covered_in old) k 0) is.1 ∙ tied.covered no
      ∙ sym (kept (core.covered no) covers (subst (λ n. covers < n) (tied.covered no) less)) ∙ sym (ap (λ t. cond t (max (core.covered no) covers) (core.covered stack)) is.0)
  covers_then stack (inr less) b (inr other) =
      let no = stack_in old v s r in
      ap (λ (state : CatalogueState). get_or (covered_in state) stack 0) (has.kept less) ∙ tied.covered stack
      ∙ sym (ap (λ t. cond t (max (core.covered no) covers) (core.covered stack)) other.0)

  install_ties : IsTied new settings (record core { covered = with_number core.covered (stack_in old v s r) (max (core.covered (stack_in old v s r)) covers) })
  install_ties = record {
    journal = state_installs old new v s r covers layer has settings core.journal tied.journal base;
    covered = λ stack. covers_then stack (either (get_or (covered_in old) (stack_in old v s r) 0) covers) (eqb stack (stack_in old v s r)) (eqb_tells stack (stack_in old v s r));
  }

-- nothing is covered while nothing is published
module _ (state : CatalogueState) (settings : SettingsState) (st : StateStands state settings []) where
  covers_none : (stack : ℕ) → (length (covered_in state) ≤ stack) ⊎ (stack < length (covered_in state)) → get_or (covered_in state) stack 0 ≡ 0
  covers_none stack (inl past) = get_or_past (covered_in state) stack 0 past
  covers_none stack (inr below) =
      let there = slice_get-there (stack_places settings.schema) stack (omega (arith, below, st.covered, count_is settings.schema)) in
      let within = (st.stacks stack there.0 there.1).within in
      omega (arith, within)

  opening_ties : IsTied state settings opening
  opening_ties = record { journal = st; covered = λ stack. covers_none stack (either (length (covered_in state)) stack) }

-- what a seat has seen once its number is written
seen_now : (numbers : ℕ → ℕ) (seat n : ℕ) → with_number numbers seat n seat ≡ n
seen_now numbers seat n = ap (λ b. cond b n (numbers seat)) same
  where
    same : (seat == seat) ≡ true
    same = grind (arith, nat_tests)

longer_is : (mine theirs longer : List (List Command)) → IsLonger mine theirs longer → length longer ≡ max (length mine) (length theirs)
longer_is mine theirs longer (inl begins) = ap length begins.1 ∙ sym (greater (length mine) (length theirs) (length_prefix mine theirs begins.0))
longer_is mine theirs longer (inr begins) = ap length begins.1 ∙ sym (smaller (length mine) (length theirs) (length_prefix theirs mine begins.0))
  where
    smaller : (a b : ℕ) → b ≤ a → max a b ≡ a
    smaller a b le = omega (arith, le)

pub turns_are_steps : TurnsAreSteps
turns_are_steps = record {
  opens = opening_ties;
  publishes = λ old new settings core batch layers tied accepts fit below has. (
    record core { journal = core.journal ++ batch ∷ []; seen = with_number core.seen feeder (length core.journal + 1) },
    (ap Some (has.publishes ∙ ap (λ n. n + 1) tied.journal.publishes), refl),
    record {
      journal = state_gains old settings core.journal tied.journal batch layers fit new has accepts below;
      covered = λ stack. ap (λ cs. get_or cs stack 0) has.covered ∙ tied.covered stack;
    },
    sym (length-append core.journal (batch ∷ [])),
  );
  installs = λ old new settings core v s r covers layer tied base has. (
    record core { covered = with_number core.covered (stack_in old v s r) (max (core.covered (stack_in old v s r)) covers) },
    (base.within, refl, refl),
    install_ties old new settings core v s r covers layer tied base has,
  );
  pins = λ state settings core seat tied.
      (record core { seen = with_number core.seen seat (length core.journal) }, (ap Some tied.journal.publishes, refl), record { journal = tied.journal; covered = tied.covered }, seen_now core.seen seat (length core.journal));
  meets = λ state settings core seat other mine theirs longer tied seen known is.
      let n = max (core.seen seat) (core.seen other) in (
        record core { seen = with_number core.seen seat n },
        (refl, refl),
        record { journal = tied.journal; covered = tied.covered },
        seen_now core.seen seat n ∙ (λ i. max (seen i) (known i)) ∙ sym (longer_is mine theirs longer is),
      );
}
