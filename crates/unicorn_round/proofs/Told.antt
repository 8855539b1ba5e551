-- What installs tell of the stacks' counters, as stacks are compacted.
use Rattle.std.proofs.Common.{◌≡◌, ◌≢◌, ◌⊎◌, inl, inr, ℕ, zero, suc, ◌+◌, ◌-◌, ◌≤◌, ◌==◌, ◌&&◌, ◌||◌, Bool, true, false, List, [], ◌∷◌, ◌++◌, length, map, take, drop, filter, get_or, slice_get, nat_lt, not, if◌then◌else◌, refl, sym, ap, ◌∙◌, subst, arith, eqb, append-nil}
use Rattle.std.proofs.lemmas.Bool.Decides.{eqb_tells, nat_tests}
use Rattle.std.proofs.lemmas.List.{append_assoc, length-map}
use Rattle.std.specs.List.{AllByRecursion, range_with_len}
use Rattle.std.specs.Prelude.{⊤}
use Rattle.uni_schema.specs.declared.schema.VerticalDef.{VerticalDef}
use Rattle.std.specs.Option.{option_map_or}
use Rattle.uni_schema.specs.Schema.{Declarations}
use Rattle.reply_text.specs.declared.answer.Answer.{Answer}
use Rattle.reply_text.specs.declared.answer.Answer.TheVariants.{Compacted, Memory}
use Rattle.script_rounds.specs.declared.item.Item.{Item}
use Rattle.script_rounds.specs.declared.item.Item.TheVariants.{Compact}
use Rattle.shard_index.specs.Places.{IsStack, stack_no}
use Rattle.shard_index.specs.Rows.{ShardChanges}
use Rattle.shard_index.specs.Versions.{VersionState}
use Rattle.version_catalog.specs.Installs.{covers_of, has_stack, install_of, is_in, IsLayered, Raises}
use Rattle.version_catalog.specs.declared.install.Install.{Install}
use Rattle.version_catalog.proofs.Told.{covers-more, raised}
use Rattle.round_feed.specs.Compacted.{AreCompacted, compact_entries, installs_by}
use Rattle.unicorn_round.specs.declared.stacks.StackCover.{StackCover}
use Rattle.unicorn_round.specs.Marks.{StackName}
use Rattle.unicorn_round.specs.SchemaStacks.{AreStacks, IsStackOf, is_layered}
use Rattle.unicorn_round.specs.Stacks.{bare, covered, covering, due_untidied, is_due, is_stack, is_untidied, name_of, opening_stacks, stacks_from, stacks_in, tidy, tidy_answer, tidy_answers}
use Rattle.unicorn_round.specs.Told.{IsTold, AreTold, AreWithin, HasTidied, id_of, read_in, stacks_of, stacks_told, told_by}
use Rattle.unicorn_round.specs.Weaving.{compacted_covers, covered_by, is_compaction}
use Rattle.unicorn_round.proofs.StackLists.{due_again}
use Rattle.unicorn_round.proofs.Elements.{all-append, all-both, all-flat_map, all-map, all-wider}

turned : (a b : ℕ) → eqb a b ≡ eqb b a
turned a b = grind (arith, nat_tests)

-- ---- one install

module _ (installs : List Install) (v s r number : ℕ) where
  more : List Install
  more = installs ++ install_of v s r number ∷ []

  same_test : (cover : StackCover) → is_in cover.vertical cover.shard cover.replica (install_of v s r number) ≡ is_stack v s r cover
  same_test cover = λ i. turned v cover.vertical i && turned s cover.shard i && turned r cover.replica i

  pub told_covered : (most : ℕ) → AreWithin most installs → most ≤ number → (cover : StackCover) → IsTold installs cover → IsTold (installs ++ install_of v s r number ∷ []) (covered v s r number cover)
  told_covered most within low cover told = by (is_stack v s r cover) refl
    where
      now : covers_of (installs ++ install_of v s r number ∷ []) cover.vertical cover.shard cover.replica ≡ raised (is_stack v s r cover) (covers_of installs cover.vertical cover.shard cover.replica) number
      now = covers-more installs (install_of v s r number) cover.vertical cover.shard cover.replica ∙ ap (λ b. raised b (covers_of installs cover.vertical cover.shard cover.replica) number) (same_test cover)

      by : (b : Bool) → is_stack v s r cover ≡ b → IsTold (installs ++ install_of v s r number ∷ []) (if b then record cover { covers = number } else cover)
      by true e = omega (arith, now, ap (λ b. raised b (covers_of installs cover.vertical cover.shard cover.replica) number) e, within cover.vertical cover.shard cover.replica, low)
      by false e = told ∙ sym (now ∙ ap (λ b. raised b (covers_of installs cover.vertical cover.shard cover.replica) number) e)

  pub told_covering : (most : ℕ) (covers : List StackCover) → AreWithin most installs → most ≤ number → AreTold installs covers → AreTold (installs ++ install_of v s r number ∷ []) (covering v s r number covers)
  told_covering most covers within low told = all-map (IsTold installs) (IsTold (installs ++ install_of v s r number ∷ [])) (covered v s r number) (told_covered most within low) covers told

  pub within_more : (most : ℕ) → AreWithin most installs → most ≤ number → AreWithin number (installs ++ install_of v s r number ∷ [])
  within_more most within low v' s' r' = by (is_in v' s' r' (install_of v s r number)) (covers-more installs (install_of v s r number) v' s' r')
    where
      by : (b : Bool) → covers_of (installs ++ install_of v s r number ∷ []) v' s' r' ≡ raised b (covers_of installs v' s' r') number → covers_of (installs ++ install_of v s r number ∷ []) v' s' r' ≤ number
      by true e = omega (arith, e, within v' s' r', low)
      by false e = omega (arith, e, within v' s' r', low)

-- ---- those of a round's lines

pub told_compacted : (low high : ℕ) (installs : List Install) (covers : List StackCover) (items : List Item) (answers : List Answer) → AllByRecursion (λ item. is_compaction item ≡ true) items → low ≤ high
    → AreWithin low installs → AreTold installs covers → AreCompacted low high (compact_entries items) answers
    → AreTold (installs ++ installs_by (compact_entries items) answers) (compacted_covers covers items answers) × AreWithin high (installs ++ installs_by (compact_entries items) answers)
told_compacted low high installs covers [] [] all up within told are = (
  subst (λ is. AreTold is covers) (sym (append-nil installs)) told,
  subst (AreWithin high) (sym (append-nil installs)) (λ v s r. omega (arith, within v s r, up)),
)
told_compacted low high installs covers [] (answer ∷ answers) all up within told are = absurd are
told_compacted low high installs covers (Compact line v s r ∷ items) [] all up within told are = absurd are
told_compacted low high installs covers (Compact line v s r ∷ items) (Compacted n number ∷ answers) all up within told are =
    let first = told_covering installs v s r number low covers within are.1 told in
    let rest = told_compacted number high (installs ++ install_of v s r number ∷ []) (covering v s r number covers) items answers all.1 are.2 (within_more installs v s r number low within are.1) first are.3 in
    let same = append_assoc installs (install_of v s r number ∷ []) (installs_by (compact_entries items) answers) in
    (subst (λ is. AreTold is (compacted_covers (covering v s r number covers) items answers)) same rest.0, subst (AreWithin high) same rest.1)
told_compacted low high installs covers (Compact line v s r ∷ items) (Memory n ∷ answers) all up within told are =
    told_compacted low high installs covers items answers all.1 up within told are.1
told_compacted low high installs covers (Compact line v s r ∷ items) (answer ∷ answers) all up within told are = absurd are
told_compacted low high installs covers (item ∷ items) answers all up within told are = absurd (cc (all.0))

-- ---- those of a round's end

module _ {Q : StackCover → Type 0} (v s r : ℕ) where
  -- a stack with one of these numbers is among some that were chosen
  named_among : (p : StackCover → Bool) (covers : List StackCover) → AllByRecursion Q covers → has_stack v s r (map id_of (filter p covers)) ≡ true → (c : StackCover) × Q c × (p c ≡ true) × (is_stack v s r c ≡ true)
  named_among p [] all is = absurd (cc is)
  named_among p (x ∷ xs) all is = by (p x) refl (λ any. named_among p xs all.1 any) is
    where
      here : (b : Bool) → is_stack v s r x ≡ b → p x ≡ true → (has_stack v s r (map id_of (filter p xs)) ≡ true → (c : StackCover) × Q c × (p c ≡ true) × (is_stack v s r c ≡ true)) → (b || has_stack v s r (map id_of (filter p xs))) ≡ true → (c : StackCover) × Q c × (p c ≡ true) × (is_stack v s r c ≡ true)
      here true e chosen rest any = (x, all.0, chosen, e)
      here false e chosen rest any = rest any

      by : (b : Bool) → p x ≡ b → (has_stack v s r (map id_of (filter p xs)) ≡ true → (c : StackCover) × Q c × (p c ≡ true) × (is_stack v s r c ≡ true)) → has_stack v s r (map id_of (if b then x ∷ filter p xs else filter p xs)) ≡ true → (c : StackCover) × Q c × (p c ≡ true) × (is_stack v s r c ≡ true)
      by true e rest any = here (is_stack v s r x) refl e rest any
      by false e rest any = rest any

numbers_of : (v s r : ℕ) (c : StackCover) → is_stack v s r c ≡ true → (c.vertical ≡ v) × (c.shard ≡ s) × (c.replica ≡ r)
numbers_of v s r c is = by (eqb_tells c.vertical v) (eqb_tells c.shard s) (eqb_tells c.replica r)
  where
    no : {A : Type 0} (a b d : Bool) → (a ≡ false) ⊎ ((b ≡ false) ⊎ (d ≡ false)) → (a && b && d) ≡ true → A
    no true true true (inl e) t = absurd (cc e)
    no true true true (inr (inl e)) t = absurd (cc e)
    no true true true (inr (inr e)) t = absurd (cc e)
    no true true false e t = absurd (cc t)
    no true false d e t = absurd (cc t)
    no false b d e t = absurd (cc t)

    by : ((eqb c.vertical v ≡ true) × (c.vertical ≡ v)) ⊎ ((eqb c.vertical v ≡ false) × (c.vertical ≢ v)) → ((eqb c.shard s ≡ true) × (c.shard ≡ s)) ⊎ ((eqb c.shard s ≡ false) × (c.shard ≢ s))
        → ((eqb c.replica r ≡ true) × (c.replica ≡ r)) ⊎ ((eqb c.replica r ≡ false) × (c.replica ≢ r)) → (c.vertical ≡ v) × (c.shard ≡ s) × (c.replica ≡ r)
    by (inl a) (inl b) (inl d) = (a.1, b.1, d.1)
    by (inr a) b d = no (eqb c.vertical v) (eqb c.shard s) (eqb c.replica r) (inl a.0) is
    by (inl a) (inr b) d = no (eqb c.vertical v) (eqb c.shard s) (eqb c.replica r) (inr (inl b.0)) is
    by (inl a) (inl b) (inr d) = no (eqb c.vertical v) (eqb c.shard s) (eqb c.replica r) (inr (inr d.0)) is

-- one of some that were chosen twice has the name of a stack that is left untidied
module _ {Q : StackCover → Type 0} (cover : StackCover) where
  untidied_among : (p q : StackCover → Bool) (covers : List StackCover) → AllByRecursion Q covers → is_untidied (map name_of (filter q (filter p covers))) cover ≡ true
      → (c : StackCover) × Q c × (q c ≡ true) × (is_stack c.vertical c.shard c.replica cover ≡ true)
  untidied_among p q [] all is = absurd (cc is)
  untidied_among p q (x ∷ xs) all is = by (p x) (λ any. untidied_among p q xs all.1 any) is
    where
      here : (b : Bool) → is_stack x.vertical x.shard x.replica cover ≡ b → q x ≡ true → (is_untidied (map name_of (filter q (filter p xs))) cover ≡ true → (c : StackCover) × Q c × (q c ≡ true) × (is_stack c.vertical c.shard c.replica cover ≡ true)) → (b || is_untidied (map name_of (filter q (filter p xs))) cover) ≡ true → (c : StackCover) × Q c × (q c ≡ true) × (is_stack c.vertical c.shard c.replica cover ≡ true)
      here true e chosen rest any = (x, all.0, chosen, e)
      here false e chosen rest any = rest any

      next : (b : Bool) → q x ≡ b → (is_untidied (map name_of (filter q (filter p xs))) cover ≡ true → (c : StackCover) × Q c × (q c ≡ true) × (is_stack c.vertical c.shard c.replica cover ≡ true)) → is_untidied (map name_of (if b then x ∷ filter q (filter p xs) else filter q (filter p xs))) cover ≡ true → (c : StackCover) × Q c × (q c ≡ true) × (is_stack c.vertical c.shard c.replica cover ≡ true)
      next true e rest any = here (is_stack x.vertical x.shard x.replica cover) refl e rest any
      next false e rest any = rest any

      by : (b : Bool) → (is_untidied (map name_of (filter q (filter p xs))) cover ≡ true → (c : StackCover) × Q c × (q c ≡ true) × (is_stack c.vertical c.shard c.replica cover ≡ true)) → is_untidied (map name_of (filter q (if b then x ∷ filter p xs else filter p xs))) cover ≡ true → (c : StackCover) × Q c × (q c ≡ true) × (is_stack c.vertical c.shard c.replica cover ≡ true)
      by true rest any = next (q x) refl rest any
      by false rest any = rest any

-- of lists the one at a place has more than one element exactly where a number is below another, where it has so many
counted_tells : (stacks : List (List ShardChanges)) (k n made : ℕ) → n ≤ made → length (get_or stacks k []) + n ≡ 1 + made → option_map_or (λ ls. nat_lt 1 (length ls)) (slice_get stacks k) false ≡ nat_lt n made
counted_tells [] k n made low counted = absurd (omega (arith, counted, low))
counted_tells (x ∷ xs) zero n made low counted = grind (arith, counted, low, nat_tests)
counted_tells (x ∷ xs) (suc k) n made low counted = counted_tells xs k n made low counted

-- a stack has more than one layer exactly where it covers fewer publishes than were made
layered_tells : (schema : Declarations) (installs : List Install) (made : ℕ) (version : VersionState) → version.schema ≡ schema → IsLayered schema installs made version
    → (cover : StackCover) → IsStackOf schema cover → is_layered version cover ≡ nat_lt (covers_of installs cover.vertical cover.shard cover.replica) made
layered_tells schema installs made version same layers cover is =
    ap (λ d. option_map_or (λ ls. nat_lt 1 (length ls)) (slice_get version.stacks (stack_no d cover.vertical cover.shard cover.replica)) false) same
    ∙ counted_tells version.stacks (stack_no schema cover.vertical cover.shard cover.replica) (covers_of installs cover.vertical cover.shard cover.replica) made
    (layers cover.vertical cover.shard cover.replica is).0 (layers cover.vertical cover.shard cover.replica is).1

-- each of some that is chosen twice has its name among theirs
module _ (names : List StackName) (p q : StackCover → Bool) where
  self : (x : StackCover) → is_stack x.vertical x.shard x.replica x ≡ true
  self x = λ i. same x.vertical i && same x.shard i && same x.replica i
    where
      same : (n : ℕ) → eqb n n ≡ true
      same n = grind (arith, nat_tests)

  named_first : (x : StackCover) (xs : List StackCover) → p x ≡ true → q x ≡ true → is_untidied (map name_of (filter q (filter p (x ∷ xs)))) x ≡ true
  named_first x xs e f =
      ap (λ b. is_untidied (map name_of (filter q (if b then x ∷ filter p xs else filter p xs))) x) e
      ∙ ap (λ b. is_untidied (map name_of (if b then x ∷ filter q (filter p xs) else filter q (filter p xs))) x) f
      ∙ ap (λ b. b || is_untidied (map name_of (filter q (filter p xs))) x) (self x)

  named_later : (x : StackCover) (xs : List StackCover) (c : StackCover) → is_untidied (map name_of (filter q (filter p xs))) c ≡ true → is_untidied (map name_of (filter q (filter p (x ∷ xs)))) c ≡ true
  named_later x xs c is = by (p x)
    where
      or_true : (a b : Bool) → b ≡ true → (a || b) ≡ true
      or_true true b e = refl
      or_true false b e = e

      next : (b : Bool) → is_untidied (map name_of (if b then x ∷ filter q (filter p xs) else filter q (filter p xs))) c ≡ true
      next true = or_true (is_stack x.vertical x.shard x.replica c) (is_untidied (map name_of (filter q (filter p xs))) c) is
      next false = is

      by : (b : Bool) → is_untidied (map name_of (filter q (if b then x ∷ filter p xs else filter p xs))) c ≡ true
      by true = next (q x)
      by false = is

  all_named : (xs : List StackCover) → ((c : StackCover) → is_untidied (map name_of (filter q (filter p xs))) c ≡ true → is_untidied names c ≡ true) → AllByRecursion (λ c. p c ≡ true → q c ≡ true → is_untidied names c ≡ true) xs
  all_named [] sub = tt
  all_named (x ∷ xs) sub = ((λ e f. sub x (named_first x xs e f)), all_named xs (λ c is. sub c (named_later x xs c is)))

-- The stacks that are due were compacted, but for those that have more than one layer: their counters are then told by
-- the installs after that.
module _ (schema : Declarations) (before after : List Install) (made : ℕ) (version : VersionState) (same : version.schema ≡ schema) (layers : IsLayered schema after made version)
    (mid : List StackCover) (told : AreTold before mid) (are : AllByRecursion (IsStackOf schema) mid) (raises : Raises (map id_of (filter (is_due made) mid)) made before after)
    (names : List StackName) (only : (cover : StackCover) → is_untidied names cover ≡ true → (c : StackCover) × IsStackOf schema c × (is_layered version c ≡ true) × (is_stack c.vertical c.shard c.replica cover ≡ true))
    (all_due : AllByRecursion (λ c. is_due made c ≡ true → is_layered version c ≡ true → is_untidied names c ≡ true) mid) where
  told_one : (cover : StackCover) → IsTold before cover → IsStackOf schema cover → (is_due made cover ≡ true → is_layered version cover ≡ true → is_untidied names cover ≡ true) → IsTold after (tidy made names cover)
  told_one cover t is named = by (is_due made cover) refl (is_untidied names cover) refl (raises cover.vertical cover.shard cover.replica)
    where
      untold : (b : Bool) → is_layered version cover ≡ b → is_due made cover ≡ true → is_untidied names cover ≡ false → made ≡ covers_of after cover.vertical cover.shard cover.replica
      untold true l e f = absurd (cc (named e l, f))
      untold false l e f = grind (arith, sym (layered_tells schema after made version same layers cover is) ∙ l, (layers cover.vertical cover.shard cover.replica is).0, nat_tests)

      by : (d : Bool) → is_due made cover ≡ d → (u : Bool) → is_untidied names cover ≡ u
          → (covers_of after cover.vertical cover.shard cover.replica ≡ covers_of before cover.vertical cover.shard cover.replica) ⊎ ((has_stack cover.vertical cover.shard cover.replica (map id_of (filter (is_due made) mid)) ≡ true) × (made ≤ covers_of after cover.vertical cover.shard cover.replica))
          → IsTold after (if d && not u then record cover { covers = made } else cover)
      by true e false f raise = untold (is_layered version cover) refl e f
      by true e true f (inl kept) = t ∙ sym kept
      by true e true f (inr moved) =
          let c = only cover f in
          let at = numbers_of c.0.vertical c.0.shard c.0.replica cover c.3 in
          let less : nat_lt (covers_of after cover.vertical cover.shard cover.replica) made ≡ true =
          (λ i. nat_lt (covers_of after (at.0 i) (at.1 i) (at.2 i)) made) ∙ sym (layered_tells schema after made version same layers c.0 c.1) ∙ c.2 in
          absurd (grind (arith, less, moved.1, nat_tests))
      by false e u f (inl kept) = t ∙ sym kept
      by false e u f (inr moved) =
          let c = named_among {Q = IsTold before} cover.vertical cover.shard cover.replica (is_due made) mid told moved.0 in
          let at = numbers_of cover.vertical cover.shard cover.replica c.0 c.3 in
          let number : c.0.covers ≡ cover.covers = c.1 ∙ (λ i. covers_of before (at.0 i) (at.1 i) (at.2 i)) ∙ sym t in
          let due : is_due made c.0 ≡ is_due made cover = λ i. nat_lt (8 + at.2 i) (1 + made - number i) in
          absurd (cc (sym due ∙ c.2, e))

  told_each : (xs : List StackCover) → AllByRecursion (IsTold before) xs → AllByRecursion (IsStackOf schema) xs → AllByRecursion (λ c. is_due made c ≡ true → is_layered version c ≡ true → is_untidied names c ≡ true) xs
      → AllByRecursion (IsTold after) (map (tidy made names) xs)
  told_each [] t is named = tt
  told_each (x ∷ xs) t is named = (told_one x t.0 is.0 named.0, told_each xs t.1 is.1 named.1)

  pub told_by_names : AreTold after (map (tidy made names) mid)
  told_by_names = told_each mid told are all_due

-- ---- and with the names that are told

module _ {Q : StackCover → Type 0} (r : StackCover → Bool) (cover : StackCover) where
  chosen_named : (xs : List StackCover) → AllByRecursion Q xs → is_untidied (map name_of (filter r xs)) cover ≡ true → (c : StackCover) × Q c × (r c ≡ true) × (is_stack c.vertical c.shard c.replica cover ≡ true)
  chosen_named [] all is = absurd (cc is)
  chosen_named (x ∷ xs) all is = by (r x) refl (λ any. chosen_named xs all.1 any) is
    where
      here : (b : Bool) → is_stack x.vertical x.shard x.replica cover ≡ b → r x ≡ true → (is_untidied (map name_of (filter r xs)) cover ≡ true → (c : StackCover) × Q c × (r c ≡ true) × (is_stack c.vertical c.shard c.replica cover ≡ true))
          → (b || is_untidied (map name_of (filter r xs)) cover) ≡ true → (c : StackCover) × Q c × (r c ≡ true) × (is_stack c.vertical c.shard c.replica cover ≡ true)
      here true e chosen rest any = (x, all.0, chosen, e)
      here false e chosen rest any = rest any

      by : (b : Bool) → r x ≡ b → (is_untidied (map name_of (filter r xs)) cover ≡ true → (c : StackCover) × Q c × (r c ≡ true) × (is_stack c.vertical c.shard c.replica cover ≡ true))
          → is_untidied (map name_of (if b then x ∷ filter r xs else filter r xs)) cover ≡ true → (c : StackCover) × Q c × (r c ≡ true) × (is_stack c.vertical c.shard c.replica cover ≡ true)
      by true e rest any = here (is_stack x.vertical x.shard x.replica cover) refl e rest any
      by false e rest any = rest any

same_name : (c d cover : StackCover) → is_stack c.vertical c.shard c.replica cover ≡ true → is_stack d.vertical d.shard d.replica c ≡ true → is_stack d.vertical d.shard d.replica cover ≡ true
same_name c d cover here there =
    let at = numbers_of c.vertical c.shard c.replica cover here in
    (λ i. (at.0 i == d.vertical) && (at.1 i == d.shard) && (at.2 i == d.replica)) ∙ there

both_true : (a b : Bool) → (a && b) ≡ true → b ≡ true
both_true true b e = e
both_true false b e = absurd (cc e)

and_true : (a b : Bool) → a ≡ true → b ≡ true → (a && b) ≡ true
and_true true true e f = refl
and_true true false e f = absurd (cc f)
and_true false b e f = absurd (cc e)

module _ (names : List StackName) (r : StackCover → Bool) where
  all_chosen : (xs : List StackCover) → ((c : StackCover) → is_untidied (map name_of (filter r xs)) c ≡ true → is_untidied names c ≡ true) → AllByRecursion (λ c. r c ≡ true → is_untidied names c ≡ true) xs
  all_chosen [] sub = tt
  all_chosen (x ∷ xs) sub = ((λ e. sub x (first e)), all_chosen xs (λ c is. sub c (later (r x) c is)))
    where
      first : r x ≡ true → is_untidied (map name_of (filter r (x ∷ xs))) x ≡ true
      first e = ap (λ b. is_untidied (map name_of (if b then x ∷ filter r xs else filter r xs)) x) e ∙ ap (λ b. b || is_untidied (map name_of (filter r xs)) x) (self names r r x)

      or_true : (a b : Bool) → b ≡ true → (a || b) ≡ true
      or_true true b e = refl
      or_true false b e = e

      later : (b : Bool) (c : StackCover) → is_untidied (map name_of (filter r xs)) c ≡ true → is_untidied (map name_of (if b then x ∷ filter r xs else filter r xs)) c ≡ true
      later true c is = or_true (is_stack x.vertical x.shard x.replica c) (is_untidied (map name_of (filter r xs)) c) is
      later false c is = is

module _ (schema : Declarations) (before after : List Install) (made : ℕ) (version : VersionState) (same : version.schema ≡ schema) (layers : IsLayered schema after made version)
    (mid : List StackCover) (told : AreTold before mid) (are : AllByRecursion (IsStackOf schema) mid) (raises : Raises (map id_of (filter (is_due made) mid)) made before after) where
  abbrev missed : List StackName
  missed = map name_of (filter (is_layered version) (filter (is_due made) mid))

  only : (cover : StackCover) → is_untidied (due_untidied made missed mid) cover ≡ true → (c : StackCover) × IsStackOf schema c × (is_layered version c ≡ true) × (is_stack c.vertical c.shard c.replica cover ≡ true)
  only cover is =
      let c = chosen_named {Q = IsStackOf schema} (λ x. is_due made x && is_untidied missed x) cover mid are is in
      let d = untidied_among {Q = IsStackOf schema} c.0 (is_due made) (is_layered version) mid are (both_true (is_due made c.0) (is_untidied missed c.0) c.2) in
      (d.0, d.1, d.2, same_name c.0 d.0 cover c.3 d.3)

  all_due : AllByRecursion (λ c. is_due made c ≡ true → is_layered version c ≡ true → is_untidied (due_untidied made missed mid) c ≡ true) mid
  all_due =
      all-wider (λ c. (is_due made c ≡ true → is_layered version c ≡ true → is_untidied missed c ≡ true) × ((is_due made c && is_untidied missed c) ≡ true → is_untidied (due_untidied made missed mid) c ≡ true))
      (λ c. is_due made c ≡ true → is_layered version c ≡ true → is_untidied (due_untidied made missed mid) c ≡ true)
      (λ c h e l. h.1 (and_true (is_due made c) (is_untidied missed c) e (h.0 e l))) mid
      (all-both (λ c. is_due made c ≡ true → is_layered version c ≡ true → is_untidied missed c ≡ true) (λ c. (is_due made c && is_untidied missed c) ≡ true → is_untidied (due_untidied made missed mid) c ≡ true) mid
      (all_named missed (is_due made) (is_layered version) mid (λ c h. h)) (all_chosen (due_untidied made missed mid) (λ c. is_due made c && is_untidied missed c) mid (λ c h. h)))

  -- where the due stacks that have more than one layer were left as they were, the counters are told by the installs
  pub told_tidied : AreTold after (map (tidy made (due_untidied made missed mid)) mid)
  told_tidied = told_by_names schema before after made version same layers mid told are raises (due_untidied made missed mid) only all_due

  -- and no install covers more than was made
  pub within_after : AreWithin made before → AreWithin made after
  within_after within v s r = by (raises v s r)
    where
      by : (covers_of after v s r ≡ covers_of before v s r) ⊎ ((has_stack v s r (map id_of (filter (is_due made) mid)) ≡ true) × (made ≤ covers_of after v s r)) → covers_of after v s r ≤ made
      by (inl kept) = omega (arith, kept, within v s r)
      by (inr moved) =
          let c = named_among {Q = IsStackOf schema} v s r (is_due made) mid are moved.0 in
          let at = numbers_of v s r c.0 c.3 in
          let stack : IsStack schema v s r = subst (IsStack schema v s) at.2 (subst (λ k. IsStack schema v k c.0.replica) at.1 (subst (λ k. IsStack schema k c.0.shard c.0.replica) at.0 c.1)) in
          (layers v s r stack).0

-- ---- the opening

in_told : (vertical : ℕ) (def : VerticalDef) → AreTold [] (stacks_in vertical def)
in_told vertical def = all-flat_map (λ n. ⊤) (IsTold []) (λ shard. map (bare vertical shard) (range_with_len 0 def.replicas)) (λ shard any. all-map (λ n. ⊤) (IsTold []) (bare vertical shard) (λ replica any. refl) (range_with_len 0 def.replicas) (any_all (range_with_len 0 def.replicas))) (range_with_len 0 def.shards) (any_all (range_with_len 0 def.shards))
  where
    any_all : (xs : List ℕ) → AllByRecursion (λ n. ⊤) xs
    any_all [] = tt
    any_all (x ∷ xs) = (tt, any_all xs)

from_told : (vertical : ℕ) (defs : List VerticalDef) → AreTold [] (stacks_from vertical defs)
from_told vertical [] = tt
from_told vertical (def ∷ defs) = all-append (IsTold []) (stacks_in vertical def) (stacks_from (vertical + 1) defs) (in_told vertical def) (from_told (vertical + 1) defs)

pub opening_told : (schema : Declarations) → AreTold [] (opening_stacks schema)
opening_told schema = from_told 0 schema.verticals

-- ---- all stacks of a schema, as installs tell them

-- stacks that installs tell are as they tell them
pub are_told : (installs : List Install) (covers : List StackCover) → AreTold installs covers → map (told_by installs) covers ≡ covers
are_told installs [] told = refl
are_told installs (cover ∷ covers) told = let same = sym told.0 in λ i. record cover { covers = same i } ∷ are_told installs covers told.1 i

pub told_are : (installs : List Install) (covers : List StackCover) → AreTold installs (map (told_by installs) covers)
told_are installs [] = tt
told_are installs (cover ∷ covers) = (refl, told_are installs covers)

pub none_told : (schema : Declarations) → stacks_told schema [] ≡ opening_stacks schema
none_told schema = are_told [] (opening_stacks schema) (opening_told schema)

module _ (installs : List Install) where
  -- whatever they covered before
  told_again : (f : StackCover → StackCover) → ((cover : StackCover) → told_by installs (f cover) ≡ told_by installs cover) → (covers : List StackCover) → map (told_by installs) (map f covers) ≡ map (told_by installs) covers
  told_again f same [] = refl
  told_again f same (cover ∷ covers) = λ i. same cover i ∷ told_again f same covers i

  covered_again : (v s r number : ℕ) (cover : StackCover) → told_by installs (covered v s r number cover) ≡ told_by installs cover
  covered_again v s r number cover = by (is_stack v s r cover)
    where
      by : (b : Bool) → told_by installs (if b then record cover { covers = number } else cover) ≡ told_by installs cover
      by true = refl
      by false = refl

  compacted_again : (covers : List StackCover) (items : List Item) (answers : List Answer) → map (told_by installs) (compacted_covers covers items answers) ≡ map (told_by installs) covers
  compacted_again covers [] answers = refl
  compacted_again covers (item ∷ items) [] = refl
  compacted_again covers (item ∷ items) (told ∷ answers) = compacted_again (covered_by covers item told) items answers ∙ one covers item told
    where
      one : (covers : List StackCover) (item : Item) (told : Answer) → map (told_by installs) (covered_by covers item told) ≡ map (told_by installs) covers
      one covers (Compact line v s r) (Compacted n number) = told_again (covered v s r number) (covered_again v s r number) covers
      one covers item told = refl

  tidied_again : (made : ℕ) (names : List StackName) (cover : StackCover) → told_by installs (tidy made names cover) ≡ told_by installs cover
  tidied_again made names cover = by (is_due made cover && not (is_untidied names cover))
    where
      by : (b : Bool) → told_by installs (if b then record cover { covers = made } else cover) ≡ told_by installs cover
      by true = refl
      by false = refl

-- after a round's compactions, whose installs come after those before
pub compacted_told : (schema : Declarations) (low high : ℕ) (installs : List Install) (items : List Item) (answers : List Answer) → AllByRecursion (λ item. is_compaction item ≡ true) items → low ≤ high
    → AreWithin low installs → AreCompacted low high (compact_entries items) answers
    → (compacted_covers (stacks_told schema installs) items answers ≡ stacks_told schema (installs ++ installs_by (compact_entries items) answers)) × AreWithin high (installs ++ installs_by (compact_entries items) answers)
compacted_told schema low high installs items answers all up within are =
    let old = stacks_told schema installs in
    let more = installs ++ installs_by (compact_entries items) answers in
    let both = told_compacted low high installs old items answers all up within (told_are installs (opening_stacks schema)) are in
    (sym (are_told more (compacted_covers old items answers) both.0) ∙ compacted_again more old items answers ∙ told_again more (told_by installs) (λ cover. refl) (opening_stacks schema), both.1)

-- ---- and as they stand in a version

module _ (schema : Declarations) (installs : List Install) (made : ℕ) (version : VersionState) (same : version.schema ≡ schema) (count : version.publishes ≡ made) (layers : IsLayered schema installs made version) where
  read_told : (covers : List StackCover) → AllByRecursion (IsStackOf schema) (map (read_in version) covers) → map (read_in version) covers ≡ map (told_by installs) covers
  read_told [] are = refl
  read_told (cover ∷ covers) are = λ i. record cover { covers = number i } ∷ read_told covers are.1 i
    where
      number : version.publishes - (length (get_or version.stacks (stack_no version.schema cover.vertical cover.shard cover.replica) []) - 1) ≡ covers_of installs cover.vertical cover.shard cover.replica
      number = ap (λ d. version.publishes - (length (get_or version.stacks (stack_no d cover.vertical cover.shard cover.replica) []) - 1)) same ∙ omega (arith, count, (layers cover.vertical cover.shard cover.replica are.0).0, (layers cover.vertical cover.shard cover.replica are.0).1)

  pub stacks_are_told : AreStacks version.schema (stacks_of version) → stacks_of version ≡ stacks_told schema installs
  stacks_are_told are = read_told (opening_stacks version.schema) (subst (λ d. AllByRecursion (IsStackOf d) (stacks_of version)) same are.each) ∙ ap (λ d. map (told_by installs) (opening_stacks d)) same

-- stacks that are read are the schema's as before, also where only the first of some are
pub read_are : (schema : Declarations) (version : VersionState) (covers : List StackCover) → AreStacks schema covers → AreStacks schema (map (read_in version) covers)
read_are schema version covers are = record {
  each = all-map (IsStackOf schema) (IsStackOf schema) (read_in version) (λ cover is. is) covers are.each;
  few = omega (arith, are.few, length-map covers (read_in version));
}

pub read_so_far : (schema : Declarations) (version : VersionState) (n : ℕ) (covers : List StackCover) → AllByRecursion (IsStackOf schema) covers → AllByRecursion (IsStackOf schema) (map (read_in version) (take n covers) ++ drop n covers)
read_so_far schema version zero [] all = tt
read_so_far schema version zero (cover ∷ covers) all = all
read_so_far schema version (suc n) [] all = tt
read_so_far schema version (suc n) (cover ∷ covers) all = (all.0, read_so_far schema version n covers all.1)

-- ---- the stacks that were due were tidied

pub length_nothing : {X : Type 0} (xs : List X) → length xs ≡ 0 → xs ≡ []
length_nothing [] none = refl
length_nothing (x ∷ xs) none = absurd (omega (arith, none))

-- where none is due
none_due : (made : ℕ) (names : List StackName) (covers : List StackCover) → [] ≡ filter (is_due made) covers → (map (tidy made names) covers ≡ covers) × (due_untidied made names covers ≡ [])
none_due made names [] none = (refl, refl)
none_due made names (cover ∷ covers) none = by (is_due made cover) refl none (none_due made names covers)
  where
    by : (b : Bool) → is_due made cover ≡ b → [] ≡ (if b then cover ∷ filter (is_due made) covers else filter (is_due made) covers)
        → ([] ≡ filter (is_due made) covers → (map (tidy made names) covers ≡ covers) × (due_untidied made names covers ≡ []))
        → (map (tidy made names) (cover ∷ covers) ≡ cover ∷ covers) × (due_untidied made names (cover ∷ covers) ≡ [])
    by true e none rest = absurd (cc none)
    by false e none rest =
        let both = rest none in (
          (λ i. (if e i && not (is_untidied names cover) then record cover { covers = made } else cover) ∷ both.0 i),
          ap (λ b. map name_of (if b && is_untidied names cover then cover ∷ filter (λ c. is_due made c && is_untidied names c) covers else filter (λ c. is_due made c && is_untidied names c) covers)) e ∙ both.1,
        )

pub nothing_tidied : (schema : Declarations) (before after : List Install) (made : ℕ) (now : List StackCover) → now ≡ stacks_told schema before → before ≡ after → [] ≡ filter (is_due made) now → HasTidied schema made before after now []
nothing_tidied schema before after made now told same none =
    let each : [] ≡ filter (is_due made) (stacks_told schema before) = none ∙ ap (filter (is_due made)) told in
    let both = none_due made [] (stacks_told schema before) each in
    record {
      tidied = record {
        untidied = [];
        due = sym both.1;
        covers = told ∙ sym both.0;
        answers = ap (map (tidy_answer made [])) each;
      };
      stacks = told ∙ ap (stacks_told schema) same;
      within = subst (AreWithin made) same;
    }

module _ (schema : Declarations) (before after : List Install) (made : ℕ) (version : VersionState) where
  abbrev old_stacks : List StackCover
  old_stacks = stacks_told schema before

  abbrev left_untidied : List StackName
  left_untidied = due_untidied made (map name_of (filter (is_layered version) (filter (is_due made) old_stacks))) old_stacks

  pub has_tidied : (due now : List StackCover) (told : List Answer) → version.schema ≡ schema → version.publishes ≡ made
      → IsLayered schema after made version → AreStacks schema old_stacks → due ≡ filter (is_due made) old_stacks → Raises (map id_of due) made before after
      → now ≡ stacks_of version → AreStacks version.schema now
      → told ≡ tidy_answers made (due_untidied made (map name_of (filter (is_layered version) due)) old_stacks) old_stacks
      → HasTidied schema made before after now told
  has_tidied due now told same count layers are chosen raised is now_are says = record {
    tidied = record {
      untidied = left_untidied;
      due = sym (due_again made (map name_of (filter (is_layered version) (filter (is_due made) old_stacks))) old_stacks);
      covers = told_now ∙ sym all_tidied;
      answers = says ∙ ap (λ ds. tidy_answers made (due_untidied made (map name_of (filter (is_layered version) ds)) old_stacks) old_stacks) chosen;
    };
    stacks = told_now;
    within = within_after schema before after made version same layers old_stacks old_told are.each raises;
  }
    where
      old_told : AreTold before old_stacks
      old_told = told_are before (opening_stacks schema)

      raises : Raises (map id_of (filter (is_due made) old_stacks)) made before after
      raises = subst (λ ds. Raises (map id_of ds) made before after) chosen raised

      told_now : now ≡ stacks_told schema after
      told_now = is ∙ stacks_are_told schema after made version same count layers (subst (AreStacks version.schema) is now_are)

      all_tidied : map (tidy made left_untidied) old_stacks ≡ stacks_told schema after
      all_tidied =
          sym (are_told after (map (tidy made left_untidied) old_stacks) (told_tidied schema before after made version same layers old_stacks old_told are.each raises))
          ∙ told_again after (tidy made left_untidied) (tidied_again after made left_untidied) old_stacks
          ∙ told_again after (told_by before) (λ cover. refl) (opening_stacks schema)

-- what was chosen passes the test
pub all_chosen_pass : {X : Type 0} (p : X → Bool) (xs : List X) → AllByRecursion (λ x. p x ≡ true) (filter p xs)
all_chosen_pass p [] = tt
all_chosen_pass p (x ∷ xs) = by (p x) refl (all_chosen_pass p xs)
  where
    by : (b : Bool) → p x ≡ b → AllByRecursion (λ y. p y ≡ true) (filter p xs) → AllByRecursion (λ y. p y ≡ true) (if b then x ∷ filter p xs else filter p xs)
    by true e rest = (e, rest)
    by false e rest = rest
