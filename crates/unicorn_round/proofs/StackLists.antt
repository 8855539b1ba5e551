-- Stacks of a schema, as they are compacted and tidied.
use Rattle.std.proofs.Common.{◌≡◌, ◌≤◌, ◌<◌, ◌+◌, ◌&&◌, ◌||◌, ◌==◌, ℕ, zero, suc, Bool, true, false, List, [], ◌∷◌, ◌++◌, length, map, filter, if◌then◌else◌, Some, refl, sym, ap, ◌∙◌, subst, arith, length-append, append_assoc, slice_get}
use Rattle.std.proofs.lemmas.Bool.Decides.{nat_tests}
use Rattle.std.proofs.lemmas.List.Elements.{filter-append}
use Rattle.std.proofs.lemmas.Option.{slice_get_within}
use Rattle.std.specs.List.{AllByRecursion, list_any, range_with_len}
use Rattle.std.specs.Option.{option_map_or}
use Rattle.uni_schema.specs.Schema.{Declarations, IsSchema}
use Rattle.uni_schema.specs.declared.schema.VerticalDef.{VerticalDef}
use Rattle.shard_index.specs.Places.{IsStack}
use Rattle.unicorn_round.specs.declared.stacks.StackCover.{StackCover}
use Rattle.unicorn_round.specs.Marks.{StackName}
use Rattle.unicorn_round.specs.SchemaStacks.{AreStacks, IsStackOf}
use Rattle.unicorn_round.specs.Stacks.{bare, stacks_in, stacks_from, opening_stacks, is_stack, is_due, is_untidied, due_untidied, name_of}
use Rattle.unicorn_round.proofs.Bounded.{from-few}
use Rattle.unicorn_round.proofs.Elements.{all-append, all-map, all-flat_map, filter_fewer}

-- ---- each stack is one of the schema

range-under : (a n high : ℕ) → a + n ≤ high → AllByRecursion (λ k. k < high) (range_with_len a n)
range-under a zero high below = tt
range-under a (suc n) high below = (omega (arith, below), range-under (a + 1) n high (omega (arith, below)))

module _ (schema : Declarations) where
  in-are : (vertical : ℕ) (def : VerticalDef) → slice_get schema.verticals vertical ≡ Some def → AllByRecursion (IsStackOf schema) (stacks_in vertical def)
  in-are vertical def at =
      all-flat_map (λ k. k < def.shards) (IsStackOf schema) (λ shard. map (bare vertical shard) (range_with_len 0 def.replicas)) (λ shard under.
      all-map (λ k. k < def.replicas) (IsStackOf schema) (bare vertical shard) (λ replica little. one shard replica under little)
      (range_with_len 0 def.replicas) (range-under 0 def.replicas def.replicas (omega arith))) (range_with_len 0 def.shards) (range-under 0 def.shards def.shards (omega arith))
    where
      one : (shard replica : ℕ) → shard < def.shards → replica < def.replicas → IsStack schema vertical shard replica
      one shard replica under little = record {
        vertical = slice_get_within schema.verticals vertical def at;
        shard = subst (λ o. shard < option_map_or (λ declared. declared.shards) o 0) (sym at) under;
        replica = subst (λ o. replica < option_map_or (λ declared. declared.replicas) o 0) (sym at) little;
      }

  from-are : (before defs : List VerticalDef) → schema.verticals ≡ before ++ defs → AllByRecursion (IsStackOf schema) (stacks_from (length before) defs)
  from-are before [] is = tt
  from-are before (def ∷ defs) is =
      all-append (IsStackOf schema) (stacks_in (length before) def) (stacks_from (length before + 1) defs)
      (in-are (length before) def (ap (λ vs. slice_get vs (length before)) is ∙ middle before def defs))
      (later (length (before ++ def ∷ [])) (omega (arith, length-append before (def ∷ []))) (from-are (before ++ def ∷ []) defs (is ∙ sym (append_assoc before (def ∷ []) defs))))
    where
      middle : (xs : List VerticalDef) (x : VerticalDef) (ys : List VerticalDef) → slice_get (xs ++ x ∷ ys) (length xs) ≡ Some x
      middle [] x ys = refl
      middle (z ∷ xs) x ys = middle xs x ys

      later : (n : ℕ) → n ≡ length before + 1 → AllByRecursion (IsStackOf schema) (stacks_from n defs) → AllByRecursion (IsStackOf schema) (stacks_from (length before + 1) defs)
      later n same all = rw (sym same) all

  pub opening_are : IsSchema schema → AreStacks schema (opening_stacks schema)
  opening_are is = record {
    each = from-are [] schema.verticals refl;
    few = omega (arith, from-few (length schema.verticals) 0 schema.verticals is.verticals, is.few_verticals);
  }

  chosen_each : (p : StackCover → Bool) (covers : List StackCover) → AllByRecursion (IsStackOf schema) covers → AllByRecursion (IsStackOf schema) (filter p covers)
  chosen_each p [] all = tt
  chosen_each p (cover ∷ covers) all = by (p cover) (chosen_each p covers all.1)
    where
      by : (b : Bool) → AllByRecursion (IsStackOf schema) (filter p covers) → AllByRecursion (IsStackOf schema) (if b then cover ∷ filter p covers else filter p covers)
      by true rest = (all.0, rest)
      by false rest = rest

  pub chosen_are : (p : StackCover → Bool) (covers : List StackCover) → AreStacks schema covers → AreStacks schema (filter p covers)
  chosen_are p covers are = record { each = chosen_each p covers are.each; few = omega (arith, are.few, filter_fewer p covers) }

-- ---- those that are due and were left as they were

-- whether a stack of these numbers is among some
abbrev by_numbers : List StackName → ℕ → ℕ → ℕ → Bool
by_numbers untidied vertical shard replica = list_any (λ name. (vertical == name.vertical) && (shard == name.shard) && (replica == name.replica)) untidied

module _ (number : ℕ) (untidied : List StackName) where
  abbrev chosen : StackCover → Bool
  chosen cover = is_due number cover && is_untidied untidied cover

  -- a stack of the name of a chosen one is among those
  named : (cover : StackCover) (covers : List StackCover) → is_untidied (map name_of (filter chosen covers)) cover ≡ true → is_untidied untidied cover ≡ true
  named cover [] is = absurd (cc (is))
  named cover (c ∷ covers) is = by (chosen c) refl is (named cover covers)
    where
      same : (v s r w t q : ℕ) → ((v == w) && (s == t) && (r == q)) ≡ true → (v ≡ w) × (s ≡ t) × (r ≡ q)
      same v s r w t q e = grind (arith, nat_tests)

      both : (a b : Bool) → (a && b) ≡ true → b ≡ true
      both a true e = refl
      both true false e = absurd (cc (e))
      both false false e = absurd (cc (e))

      one : (b : Bool) → is_stack c.vertical c.shard c.replica cover ≡ b → chosen c ≡ true → (b || is_untidied (map name_of (filter chosen covers)) cover) ≡ true
          → (is_untidied (map name_of (filter chosen covers)) cover ≡ true → is_untidied untidied cover ≡ true) → is_untidied untidied cover ≡ true
      one true match told is rest =
          let fields = same cover.vertical cover.shard cover.replica c.vertical c.shard c.replica match in
          (λ i. by_numbers untidied (fields.0 i) (fields.1 i) (fields.2 i)) ∙ both (is_due number c) (is_untidied untidied c) told
      one false match told is rest = rest is

      by : (b : Bool) → chosen c ≡ b → is_untidied (map name_of (if b then c ∷ filter chosen covers else filter chosen covers)) cover ≡ true
          → (is_untidied (map name_of (filter chosen covers)) cover ≡ true → is_untidied untidied cover ≡ true) → is_untidied untidied cover ≡ true
      by true told is rest = one (is_stack c.vertical c.shard c.replica cover) refl told is rest
      by false told is rest = rest is

  -- and each chosen one is
  names : (cover : StackCover) (covers : List StackCover) (before : List StackCover) → is_untidied (map name_of (before ++ cover ∷ filter chosen covers)) cover ≡ true
  names cover covers [] = itself cover.vertical cover.shard cover.replica (is_untidied (map name_of (filter chosen covers)) cover)
    where
      itself : (v s r : ℕ) (b : Bool) → (((v == v) && (s == s) && (r == r)) || b) ≡ true
      itself v s r b = grind (arith, nat_tests)
  names cover covers (c ∷ before) = by (is_stack c.vertical c.shard c.replica cover) (names cover covers before)
    where
      by : (b : Bool) → is_untidied (map name_of (before ++ cover ∷ filter chosen covers)) cover ≡ true → (b || is_untidied (map name_of (before ++ cover ∷ filter chosen covers)) cover) ≡ true
      by true is = refl
      by false is = is

  names_it : (before : List StackCover) (cover : StackCover) (covers : List StackCover) → chosen cover ≡ true → is_untidied (map name_of (filter chosen (before ++ cover ∷ covers))) cover ≡ true
  names_it before cover covers told =
      ap (λ cs. is_untidied (map name_of cs) cover) (filter-append chosen before (cover ∷ covers) ∙ ap (λ (b : Bool). filter chosen before ++ (if b then cover ∷ filter chosen covers else filter chosen covers)) told)
      ∙ names cover covers (filter chosen before)

  -- of each stack both say the same
  agrees : (before : List StackCover) (cover : StackCover) (covers : List StackCover) → (is_due number cover && is_untidied (map name_of (filter chosen (before ++ cover ∷ covers))) cover) ≡ chosen cover
  agrees before cover covers = by (is_due number cover) refl (is_untidied untidied cover) refl (is_untidied (map name_of (filter chosen (before ++ cover ∷ covers))) cover) refl
    where
      by : (d : Bool) → is_due number cover ≡ d → (u : Bool) → is_untidied untidied cover ≡ u → (w : Bool) → is_untidied (map name_of (filter chosen (before ++ cover ∷ covers))) cover ≡ w → (d && w) ≡ (d && u)
      by false due u left w told = refl
      by true due true left true told = refl
      by true due false left false told = refl
      by true due true left false told = let both : chosen cover ≡ true = (λ i. due i && left i) in absurd (cc (told, names_it before cover covers both))
      by true due false left true told = absurd (cc (left, named cover (before ++ cover ∷ covers) told))

  again : (before covers : List StackCover) → filter (λ cover. is_due number cover && is_untidied (map name_of (filter chosen (before ++ covers))) cover) covers ≡ filter chosen covers
  again before [] = refl
  again before (cover ∷ covers) =
      let rest : filter (λ c. is_due number c && is_untidied (map name_of (filter chosen (before ++ cover ∷ covers))) c) covers ≡ filter chosen covers =
      ap (λ cs. filter (λ c. is_due number c && is_untidied (map name_of (filter chosen cs)) c) covers) (sym (append_assoc before (cover ∷ []) covers)) ∙ again (before ++ cover ∷ []) covers in
      (λ i. if agrees before cover covers i then cover ∷ rest i else rest i)

  -- the due stacks among those that are due and among some are the same again
  pub due_again : (covers : List StackCover) → due_untidied number (due_untidied number untidied covers) covers ≡ due_untidied number untidied covers
  due_again covers = ap (map name_of) (again [] covers)
