-- What the list of installs tells of a value, over publishes and installs.
use Rattle.std.proofs.Common.{◌≡◌, ◌≢◌, ◌⊎◌, inl, inr, ℕ, zero, suc, ◌<◌, ◌≤◌, ◌==◌, ◌&&◌, ◌||◌, Bool, true, false, List, [], ◌∷◌, ◌++◌, length, get_or, set, max, Option, Some, slice_get, refl, sym, ◌∙◌, ap, subst, arith, eqb, if◌then◌else◌}
use Rattle.std.specs.Prelude.{OnOk, OnErr, Ok, Err}
use Rattle.std.specs.declared.result.Result.{Result}
use Rattle.std.proofs.lemmas.Bool.Decides.{eqb_tells}
use Rattle.std.proofs.lemmas.List.{get_or-set_same, get_or-set_other}
use Rattle.uni_schema.specs.Schema.{Declarations}
use Rattle.uni_table.specs.declared.command.Command.{Command}
use Rattle.twin_list.specs.Halves.{half_id, half_list}
use Rattle.twin_list.specs.declared.half.Half.{Half}
use Rattle.shard_index.specs.Places.{StackPlace, stack_place, stack_places, stack_no, IsStack}
use Rattle.shard_index.specs.Rows.{ShardChanges}
use Rattle.shard_index.specs.Versions.{VersionState}
use Rattle.shard_index.proofs.StackPlaces.{stack_is_at}
use Rattle.version_catalog.specs.Installs.{install_of, is_in, is_stack, has_stack, covers_of, Raises, IsLayered}
use Rattle.version_catalog.specs.Settings.{SettingsState}
use Rattle.version_catalog.specs.States.{version_in, covered_in, half_in, CoversNone, StateStands, IsTold}
use Rattle.version_catalog.specs.Turns.{HasPublished, HasInstalled, stack_in}
use Rattle.version_catalog.specs.declared.install.Install.{Install}
use Rattle.version_catalog.specs.declared.stack_id.StackId.{StackId}
use Rattle.version_catalog.specs.declared.state.CatalogueState.{CatalogueState}
use Rattle.version_catalog.proofs.Installs.{is_below}

-- ---- how many publishes installs cover

-- one install more
abbrev pub raised : Bool → ℕ → ℕ → ℕ
raised true n covers = max n covers
raised false n covers = n

pub covers-more : (xs : List Install) (x : Install) (v s r : ℕ) → covers_of (xs ++ x ∷ []) v s r ≡ raised (is_in v s r x) (covers_of xs v s r) x.covers
covers-more [] x v s r = first (is_in v s r x)
  where
    first : (b : Bool) → (if b then max x.covers 0 else 0) ≡ raised b 0 x.covers
    first true = omega arith
    first false = refl
covers-more (y ∷ ys) x v s r =
    ap (λ n. if is_in v s r y then max y.covers n else n) (covers-more ys x v s r) ∙ turned (is_in v s r y) (is_in v s r x) (covers_of ys v s r)
  where
    turned : (a b : Bool) (n : ℕ) → (if a then max y.covers (raised b n x.covers) else raised b n x.covers) ≡ raised b (if a then max y.covers n else n) x.covers
    turned true true n = omega arith
    turned true false n = refl
    turned false true n = refl
    turned false false n = refl

-- ---- the opening

pub told_opening : (state : CatalogueState) (settings : SettingsState) (half : Half Install) → half_in state ≡ Some half → half_id half ≡ settings.installs → half_list half ≡ [] → CoversNone state → IsTold state settings
told_opening state settings half there of none zeroes = record {
  half = half;
  there = there;
  of = of;
  covered = λ v s r stack. zeroes (stack_no settings.schema v s r) ∙ sym (ap (λ l. covers_of l v s r) none);
}

-- ---- a publish

pub told_published : (layers : List ShardChanges) (old new : CatalogueState) (settings : SettingsState) → HasPublished layers old new → IsTold old settings → IsTold new settings
told_published layers old new settings has told = record {
  half = told.half;
  there = has.half ∙ told.there;
  of = told.of;
  covered = λ v s r stack. ap (λ cs. get_or cs (stack_no settings.schema v s r) 0) has.covered ∙ told.covered v s r stack;
}

-- what a value stands for does not go by its half
pub stands_with : (state : CatalogueState) (half : Option (Half Install)) (settings : SettingsState) (journal : List (List Command)) → StateStands state settings journal → StateStands (record state { half = half }) settings journal
stands_with state half settings journal st = record {
  schema = st.schema;
  publishes = st.publishes;
  table = st.table;
  limits = st.limits;
  within = st.within;
  accepted = st.accepted;
  covered = st.covered;
  stacks = st.stacks;
}

-- ---- an install

same_place : (schema : Declarations) (v s r v' s' r' : ℕ) → IsStack schema v s r → IsStack schema v' s' r' → stack_no schema v s r ≡ stack_no schema v' s' r' → Some (stack_place v s r) ≡ Some (stack_place v' s' r')
same_place schema v s r v' s' r' stack other same = sym (stack_is_at schema v s r stack) ∙ ap (slice_get (stack_places schema)) same ∙ stack_is_at schema v' s' r' other

abbrev place_in : Option StackPlace → StackPlace → StackPlace
place_in (Some place) d = place
place_in _ d = d

-- the test of the numbers of a stack
tells_place : (v s r v' s' r' covers : ℕ) → ((is_in v' s' r' (install_of v s r covers) ≡ true) × (v ≡ v') × (s ≡ s') × (r ≡ r')) ⊎ ((is_in v' s' r' (install_of v s r covers) ≡ false) × (Some (stack_place v s r) ≡ Some (stack_place v' s' r') → ⊥))
tells_place v s r v' s' r' covers = by (eqb_tells v v') (eqb_tells s s') (eqb_tells r r')
  where
    place : Some (stack_place v s r) ≡ Some (stack_place v' s' r') → stack_place v s r ≡ stack_place v' s' r'
    place e = ap (λ o. place_in o (stack_place v s r)) e

    by : ((eqb v v' ≡ true) × (v ≡ v')) ⊎ ((eqb v v' ≡ false) × (v ≢ v')) → ((eqb s s' ≡ true) × (s ≡ s')) ⊎ ((eqb s s' ≡ false) × (s ≢ s')) → ((eqb r r' ≡ true) × (r ≡ r')) ⊎ ((eqb r r' ≡ false) × (r ≢ r'))
        → ((is_in v' s' r' (install_of v s r covers) ≡ true) × (v ≡ v') × (s ≡ s') × (r ≡ r')) ⊎ ((is_in v' s' r' (install_of v s r covers) ≡ false) × (Some (stack_place v s r) ≡ Some (stack_place v' s' r') → ⊥))
    by (inl a) (inl b) (inl c) = inl ((λ i. a.0 i && b.0 i && c.0 i), a.1, b.1, c.1)
    by (inr a) b c = inr (ap (λ t. t && (s == s') && (r == r')) a.0, λ e. a.1 (ap (λ (p : StackPlace). p.vertical) (place e)))
    by (inl a) (inr b) c = inr ((λ i. a.0 i && b.0 i && (r == r')), λ e. b.1 (ap (λ (p : StackPlace). p.shard) (place e)))
    by (inl a) (inl b) (inr c) = inr ((λ i. a.0 i && b.0 i && c.0 i), λ e. c.1 (ap (λ (p : StackPlace). p.replica) (place e)))

either : (a b : ℕ) → (a ≤ b) ⊎ (b < a)
either a b = grind arith

module _ (old new : CatalogueState) (settings : SettingsState) (journal : List (List Command)) (st : StateStands old settings journal) (told : IsTold old settings) (v s r covers : ℕ) (layer : ShardChanges)
    (stack : IsStack settings.schema v s r) (has : HasInstalled v s r covers layer old new) where
  abbrev no : ℕ
  no = stack_no settings.schema v s r

  number : stack_in old v s r ≡ no
  number = ap (λ (schema : Declarations). stack_no schema v s r) st.schema

  -- what the stack covers then
  own_then : get_or (covered_in new) no 0 ≡ max (get_or (covered_in old) no 0) covers
  own_then = by (either (get_or (covered_in old) no 0) covers)
    where
      by : (get_or (covered_in old) no 0 ≤ covers) ⊎ (covers < get_or (covered_in old) no 0) → get_or (covered_in new) no 0 ≡ max (get_or (covered_in old) no 0) covers
      by (inl more) =
          let there : covered_in new ≡ set (covered_in old) no covers = has.covered (subst (λ k. get_or (covered_in old) k 0 ≤ covers) (sym number) more) ∙ ap (λ k. set (covered_in old) k covers) number in
          let set_there : get_or (set (covered_in old) no covers) no 0 ≡ covers = get_or-set_same (covered_in old) no covers 0 (is_below old settings journal st v s r stack).1 in
          omega (arith, ap (λ cs. get_or cs no 0) there, set_there, more)
      by (inr less) =
          let same : new ≡ old = has.kept (subst (λ k. covers < get_or (covered_in old) k 0) (sym number) less) in
          omega (arith, ap (λ x. get_or (covered_in x) no 0) same, less)

  other_then : (k : ℕ) → k ≢ no → get_or (covered_in new) k 0 ≡ get_or (covered_in old) k 0
  other_then k far = by (either (get_or (covered_in old) no 0) covers)
    where
      by : (get_or (covered_in old) no 0 ≤ covers) ⊎ (covers < get_or (covered_in old) no 0) → get_or (covered_in new) k 0 ≡ get_or (covered_in old) k 0
      by (inl more) =
          ap (λ cs. get_or cs k 0) (has.covered (subst (λ j. get_or (covered_in old) j 0 ≤ covers) (sym number) more) ∙ ap (λ j. set (covered_in old) j covers) number)
          ∙ get_or-set_other (covered_in old) no k covers 0 far
      by (inr less) = ap (λ x. get_or (covered_in x) k 0) (has.kept (subst (λ j. covers < get_or (covered_in old) j 0) (sym number) less))

  -- the value with a half that tells the install too
  pub told_installed : (half : Half Install) → half_id half ≡ settings.installs → half_list half ≡ half_list told.half ++ install_of v s r covers ∷ [] → IsTold (record new { half = Some half }) settings
  told_installed half of longer = record {
    half = half;
    there = refl;
    of = of;
    covered = λ v' s' r' other.
        let list = half_list told.half in
        let now : covers_of (half_list half) v' s' r' ≡ raised (is_in v' s' r' (install_of v s r covers)) (covers_of list v' s' r') covers =
        ap (λ l. covers_of l v' s' r') longer ∙ covers-more list (install_of v s r covers) v' s' r' in
        by v' s' r' other now (tells_place v s r v' s' r' covers);
  }
    where
      by : (v' s' r' : ℕ) (other : IsStack settings.schema v' s' r') → covers_of (half_list half) v' s' r' ≡ raised (is_in v' s' r' (install_of v s r covers)) (covers_of (half_list told.half) v' s' r') covers
          → ((is_in v' s' r' (install_of v s r covers) ≡ true) × (v ≡ v') × (s ≡ s') × (r ≡ r')) ⊎ ((is_in v' s' r' (install_of v s r covers) ≡ false) × (Some (stack_place v s r) ≡ Some (stack_place v' s' r') → ⊥))
          → get_or (covered_in new) (stack_no settings.schema v' s' r') 0 ≡ covers_of (half_list half) v' s' r'
      by v' s' r' other now (inl same) =
          let here : stack_no settings.schema v' s' r' ≡ no = λ i. stack_no settings.schema (sym same.1 i) (sym same.2 i) (sym same.3 i) in
          ap (λ k. get_or (covered_in new) k 0) here ∙ own_then ∙ ap (λ n. max n covers) (sym (ap (λ k. get_or (covered_in old) k 0) here) ∙ told.covered v' s' r' other)
          ∙ sym (ap (λ b. raised b (covers_of (half_list told.half) v' s' r') covers) same.0) ∙ sym now
      by v' s' r' other now (inr apart) =
          other_then (stack_no settings.schema v' s' r') (λ e. apart.1 (same_place settings.schema v s r v' s' r' stack other (sym e))) ∙ told.covered v' s' r' other
          ∙ sym (ap (λ b. raised b (covers_of (half_list told.half) v' s' r') covers) apart.0) ∙ sym now

-- with another half that tells the same
pub told_with : (state : CatalogueState) (settings : SettingsState) (told : IsTold state settings) (half : Half Install) → half_id half ≡ settings.installs → half_list half ≡ half_list told.half → IsTold (record state { half = Some half }) settings
told_with state settings told half of alike = record {
  half = half;
  there = refl;
  of = of;
  covered = λ v s r stack. told.covered v s r stack ∙ sym (ap (λ l. covers_of l v s r) alike);
}

-- ---- what installs raise

-- one install raises its own stack alone
pub raises_one : (xs : List Install) (stack : StackId) (covers : ℕ) → Raises (stack ∷ []) covers xs (xs ++ record { stack = stack; covers = covers } ∷ [])
raises_one xs stack covers v s r = by (is_stack v s r stack) refl
  where
    more : covers_of (xs ++ record { stack = stack; covers = covers } ∷ []) v s r ≡ raised (is_stack v s r stack) (covers_of xs v s r) covers
    more = covers-more xs record { stack = stack; covers = covers } v s r

    by : (b : Bool) → is_stack v s r stack ≡ b → (covers_of (xs ++ record { stack = stack; covers = covers } ∷ []) v s r ≡ covers_of xs v s r) ⊎ ((has_stack v s r (stack ∷ []) ≡ true) × (covers ≤ covers_of (xs ++ record { stack = stack; covers = covers } ∷ []) v s r))
    by true e = inr (ap (λ b. b || false) e, omega (arith, more, ap (λ b. raised b (covers_of xs v s r) covers) e))
    by false e = inl (more ∙ ap (λ b. raised b (covers_of xs v s r) covers) e)

pub raises_none : (stacks : List StackId) (least : ℕ) (old new : List Install) → new ≡ old → Raises stacks least old new
raises_none stacks least old new same v s r = inl (ap (λ l. covers_of l v s r) same)

module _ {E : Type 0} where
  pub raises_by : (r : Result (Unit {0}) E) (stack : StackId) (covers : ℕ) (old new : List Install) → OnOk r (new ≡ old ++ record { stack = stack; covers = covers } ∷ []) → OnErr r (new ≡ old) → Raises (stack ∷ []) covers old new
  raises_by (Ok u) stack covers old new ok err = subst (Raises (stack ∷ []) covers old) (sym ok) (raises_one old stack covers)
  raises_by (Err e) stack covers old new ok err = raises_none (stack ∷ []) covers old new err

pub read_at : (stacks : List StackId) (i : ℕ) (d : StackId) → i < length stacks → slice_get stacks i ≡ Some (get_or stacks i d)
read_at [] i d below = absurd (omega (arith, below))
read_at (x ∷ xs) zero d below = refl
read_at (x ∷ xs) (suc i) d below = read_at xs i d (omega (arith, below))

-- of some stacks one is
pub one_among : (stacks : List StackId) (i : ℕ) (stack : StackId) → slice_get stacks i ≡ Some stack → (v s r : ℕ) → has_stack v s r (stack ∷ []) ≡ true → has_stack v s r stacks ≡ true
one_among [] i stack at v s r is = cc
one_among (x ∷ xs) zero stack at v s r is = first (is_stack v s r x) (is_stack v s r stack) (has_stack v s r xs) (ap (is_stack v s r) (cc)) is
  where
    first : (a b c : Bool) → a ≡ b → (b || false) ≡ true → (a || c) ≡ true
    first true b c same e = refl
    first false true c same e = cc
    first false false c same e = cc
one_among (x ∷ xs) (suc i) stack at v s r is = later (is_stack v s r x) (has_stack v s r xs) (one_among xs i stack at v s r is)
  where
    later : (a c : Bool) → c ≡ true → (a || c) ≡ true
    later true c e = refl
    later false c e = e

-- first some are raised, and then one of them
pub raises_also : (stacks : List StackId) (least covers : ℕ) (stack : StackId) (a b c : List Install) → ((v s r : ℕ) → has_stack v s r (stack ∷ []) ≡ true → has_stack v s r stacks ≡ true) → least ≤ covers
    → Raises stacks least a b → Raises (stack ∷ []) covers b c → Raises stacks least a c
raises_also stacks least covers stack a b c among low first next v s r = by (first v s r) (next v s r)
  where
    by : (covers_of b v s r ≡ covers_of a v s r) ⊎ ((has_stack v s r stacks ≡ true) × (least ≤ covers_of b v s r)) → (covers_of c v s r ≡ covers_of b v s r) ⊎ ((has_stack v s r (stack ∷ []) ≡ true) × (covers ≤ covers_of c v s r))
        → (covers_of c v s r ≡ covers_of a v s r) ⊎ ((has_stack v s r stacks ≡ true) × (least ≤ covers_of c v s r))
    by (inl e) (inl f) = inl (f ∙ e)
    by (inr p) (inl f) = inr (p.0, omega (arith, p.1, f))
    by e (inr q) = inr (among v s r q.0, omega (arith, low, q.1))

-- and with more raised after that
pub raises_on : (stacks : List StackId) (least later : ℕ) (a b c : List Install) → least ≤ later → Raises stacks least a b → Raises stacks later b c → Raises stacks least a c
raises_on stacks least later a b c low first next v s r = by (first v s r) (next v s r)
  where
    by : (covers_of b v s r ≡ covers_of a v s r) ⊎ ((has_stack v s r stacks ≡ true) × (least ≤ covers_of b v s r)) → (covers_of c v s r ≡ covers_of b v s r) ⊎ ((has_stack v s r stacks ≡ true) × (later ≤ covers_of c v s r))
        → (covers_of c v s r ≡ covers_of a v s r) ⊎ ((has_stack v s r stacks ≡ true) × (least ≤ covers_of c v s r))
    by (inl e) (inl f) = inl (f ∙ e)
    by (inr p) (inl f) = inr (p.0, omega (arith, p.1, f))
    by e (inr q) = inr (q.0, omega (arith, low, q.1))

-- ---- the layers of stacks

pub layered : (state : CatalogueState) (settings : SettingsState) (journal : List (List Command)) → StateStands state settings journal → (told : IsTold state settings) → IsLayered settings.schema (half_list told.half) (length journal) (version_in state)
layered state settings journal st told v s r stack =
    let no = stack_no settings.schema v s r in
    let stands = st.stacks no (stack_place v s r) (stack_is_at settings.schema v s r stack) in
    (omega (arith, stands.within, told.covered v s r stack), omega (arith, stands.count, told.covered v s r stack))

pub layered_as : (schema : Declarations) (xs ys : List Install) (m n : ℕ) (version other : VersionState) → xs ≡ ys → m ≡ n → version ≡ other → IsLayered schema xs m version → IsLayered schema ys n other
layered_as schema xs ys m n version other same_list same_number same_version is = subst (IsLayered schema ys n) same_version (subst (λ k. IsLayered schema ys k version) same_number (subst (λ l. IsLayered schema l m version) same_list is))
