-- The walk along a chain, from the last edge with a number at an end back to the first.
use Rattle.std.proofs.Common.{◌≡◌, ◌≤◌, ◌<◌, ◌+◌, ◌++◌, ℕ, zero, suc, Bool, true, false, List, [], ◌∷◌, Option, None, Some, refl, sym, ◌∙◌, ap, subst, length, map, take, drop, reverse, slice_get, nat_eq, if◌then◌else◌, arith, append_assoc, length-take, length-drop, ◌^◌}
use Rattle.std.specs.List.{filter_map, cons_option}
use Rattle.std.specs.Map.{keys_of}
use Rattle.std.specs.Option.{option_to_list}
use Rattle.std.proofs.lemmas.List.{take_all, drop_all}
use Rattle.std.proofs.lemmas.Map.Entries.{length-keys_of}
use Rattle.indexmap.specs.Layout.{set_value_at}
use Rattle.chained_rows.specs.Chains.{or_first, last_no, changed_from}
use Rattle.chained_rows.proofs.Chains.{last_no-le, last_no-passes, picked-along, picked-step, changed-along, changed-step, changed-none, changed-at}
use Rattle.uni_base.specs.declared.edge.Held.{Held}
use Rattle.uni_table.specs.GraphRows.{IsRows, has_at, no_at, next_at, last_at, held_at, held_by, slot_named, edge_named, row_of, is_live, gone, gone_at}
use Rattle.uni_table.specs.declared.graph.numbers.Source.{Source}
use Rattle.uni_table.specs.declared.graph.numbers.SlotState.{SlotState}
use Rattle.uni_table.specs.declared.graph.numbers.SlotState.TheVariants.{Gone, Public, Only, Circle}
use Rattle.uni_table.specs.declared.graph.numbers.EdgeNo.{EdgeNo}
use Rattle.uni_table.specs.declared.graph.numbers.Slot.{Slot}
use Rattle.uni_table.specs.declared.graph.numbers.Side.{Side}
use Rattle.uni_table.specs.declared.graph.rows.Rows.{Rows}
use Rattle.uni_table.proofs.GraphPlaces.{key-at, same-number}

-- the number is that of the last edge with a number at an end among the first m, or 0
pub record IsAlong (rows : Rows) (side : Side) (q number : ℕ) : Type 0 where
  pub m : ℕ
  pub is : number ≡ last_no (has_at side q) (take m (keys_of rows.edges.entries))

none-at : (rows : Rows) (side : Side) (q : ℕ) (e : EdgeNo × Slot) → has_at side q e.0 ≡ false → held_at rows side q e ≡ None
none-at rows side q e fails = ap (λ b. if b then held_by (slot_named (keys_of rows.sources.entries) (keys_of rows.ids.entries) e) else None) fails

module _ (rows : Rows) (kept : IsRows rows) (side : Side) (q : ℕ) where
  -- it starts at the last of all
  pub along-start : IsAlong rows side q (last_at side rows q)
  along-start = record {
    m = length rows.edges.entries;
    is = kept.lasts side q ∙ ap (last_no (has_at side q)) (sym (take_all (length rows.edges.entries) (keys_of rows.edges.entries) (omega (arith, length-keys_of rows.edges.entries))));
  }

  pub start : last_at side rows q ≡ last_no (has_at side q) (take (length rows.edges.entries) (keys_of rows.edges.entries))
  start = kept.lasts side q ∙ ap (last_no (has_at side q)) (sym (take_all (length rows.edges.entries) (keys_of rows.edges.entries) (omega (arith, length-keys_of rows.edges.entries))))

  module _ {X : Type 0} (pick : EdgeNo × Slot → Option X) (none : (e : EdgeNo × Slot) → has_at side q e.0 ≡ false → pick e ≡ None) where
    -- nothing is picked behind it
    pub picks-start : filter_map pick (drop (last_at side rows q) rows.edges.entries) ≡ []
    picks-start =
        ap (λ n. filter_map pick (drop n rows.edges.entries)) start
        ∙ picked-along (has_at side q) pick none rows.edges.entries (length rows.edges.entries)
        ∙ ap (filter_map pick) (drop_all (length rows.edges.entries) rows.edges.entries (omega arith))

  pub picked-start : filter_map (held_at rows side q) (drop (last_at side rows q) rows.edges.entries) ≡ []
  picked-start = picks-start (held_at rows side q) (none-at rows side q)

  module _ (number i : ℕ) (here : number ≡ suc i) (along : IsAlong rows side q number) where
    last-is : last_no (has_at side q) (take along.m (keys_of rows.edges.entries)) ≡ suc i
    last-is = sym along.is ∙ here

    -- the number is that of an edge
    pub along-within : i < length rows.edges.entries
    along-within =
        omega (arith, last-is, last_no-le (has_at side q) (take along.m (keys_of rows.edges.entries)), length-take along.m (keys_of rows.edges.entries), length-keys_of rows.edges.entries)

    module _ (e : EdgeNo × Slot) (at : slice_get rows.edges.entries i ≡ Some e) where
      -- which has the number at the end
      pub along-passes : has_at side q e.0 ≡ true
      along-passes = last_no-passes (has_at side q) (keys_of rows.edges.entries) along.m i e.0 last-is (key-at rows.edges.entries i e at)

      pub next-is : next_at side e.1 ≡ last_no (has_at side q) (take i (keys_of rows.edges.entries))
      next-is = kept.chains side i e at ∙ ap (λ n. last_no (has_at side n) (take i (keys_of rows.edges.entries))) (sym (same-number q (no_at side e.0) along-passes))

      -- the next goes on
      pub along-next : IsAlong rows side q (next_at side e.1)
      along-next = record { m = i; is = next-is }

      pub next-le : next_at side e.1 ≤ i
      next-le = omega (arith, next-is, last_no-le (has_at side q) (take i (keys_of rows.edges.entries)), length-take i (keys_of rows.edges.entries))

      module _ {X : Type 0} (pick : EdgeNo × Slot → Option X) (none : (x : EdgeNo × Slot) → has_at side q x.0 ≡ false → pick x ≡ None) where
        -- what is picked from there on: this edge and those behind it
        pub picks-next : filter_map pick (drop (next_at side e.1) rows.edges.entries) ≡ cons_option (pick e) (filter_map pick (drop number rows.edges.entries))
        picks-next =
            ap (λ n. filter_map pick (drop n rows.edges.entries)) next-is
            ∙ picked-along (has_at side q) pick none rows.edges.entries i
            ∙ picked-step (has_at side q) pick none rows.edges.entries i e at
            ∙ ap (λ n. cons_option (pick e) (filter_map pick (drop n rows.edges.entries))) (sym here)

      pub picked-next : filter_map (held_at rows side q) (drop (next_at side e.1) rows.edges.entries)
          ≡ cons_option (held_by (slot_named (keys_of rows.sources.entries) (keys_of rows.ids.entries) e)) (filter_map (held_at rows side q) (drop number rows.edges.entries))
      picked-next =
          picks-next (held_at rows side q) (none-at rows side q)
          ∙ ap (λ b. cons_option (if b then held_by (slot_named (keys_of rows.sources.entries) (keys_of rows.ids.entries) e) else None) (filter_map (held_at rows side q) (drop number rows.edges.entries))) along-passes

-- past the last that passes none does
pub last_no-past : {K : Type 0} (test : K → Bool) (ks : List K) (m j : ℕ) (k : K) → slice_get ks j ≡ Some k → j < m → last_no test (take m ks) ≤ j → test k ≡ false
last_no-past test [] m j k at below le = cc
last_no-past test (x ∷ xs) zero j k at below le = absurd (omega (arith, below))
last_no-past test (x ∷ xs) (suc m) zero k at below le = by (test x) refl (last_no test (take m xs)) refl
  where
    by : (b : Bool) → test x ≡ b → (n : ℕ) → last_no test (take m xs) ≡ n → test k ≡ false
    by false is n last = ap test (let same : k ≡ x = cc in same) ∙ is
    by true is zero last =
        let one : or_first (test x) (last_no test (take m xs)) ≡ 1 = λ j. or_first (is j) (last j) in
        absurd (omega (arith, le, one))
    by true is (suc n) last =
        let more : or_first (test x) (last_no test (take m xs)) ≡ suc (suc n) = λ j. or_first (is j) (last j) in
        absurd (omega (arith, le, more))
last_no-past test (x ∷ xs) (suc m) (suc j) k at below le = last_no-past test xs m j k at (omega (arith, below)) (by (test x) refl (last_no test (take m xs)) refl)
  where
    by : (b : Bool) → test x ≡ b → (n : ℕ) → last_no test (take m xs) ≡ n → last_no test (take m xs) ≤ j
    by b is zero last = omega (arith, last)
    by b is (suc n) last =
        let more : or_first (test x) (last_no test (take m xs)) ≡ suc (suc n) = λ j. or_first (is j) (last j) in
        omega (arith, le, last, more)

-- an item more of a list that is read from its end
pub reverse-cons : {X : Type 0} (old now : List X) (o : Option X) (done more : List X) → now ≡ old ++ reverse done → more ≡ cons_option o done → now ++ option_to_list o ≡ old ++ reverse more
reverse-cons {X} old now o done more is next = by o next
  where
    by : (r : Option X) → more ≡ cons_option r done → now ++ option_to_list r ≡ old ++ reverse more
    by None e = Rattle.std.proofs.lemmas.List.append-nil now ∙ is ∙ ap (λ xs. old ++ reverse xs) (sym e)
    by (Some x) e = ap (λ xs. xs ++ x ∷ []) is ∙ append_assoc old (reverse done) (x ∷ []) ∙ ap (λ xs. old ++ xs) (sym (Rattle.std.proofs.lemmas.List.reverse-append (x ∷ []) done)) ∙ ap (λ xs. old ++ reverse xs) (sym e)

-- and of its length
pub length-cons : {X : Type 0} (o : Option X) (done more : List X) (n : ℕ) → n ≡ length done → more ≡ cons_option o done → n + (if Rattle.std.proofs.Common.is_some o then 1 else 0) ≡ length more
length-cons {X} o done more n is next = by o next
  where
    by : (r : Option X) → more ≡ cons_option r done → n + (if Rattle.std.proofs.Common.is_some r then 1 else 0) ≡ length more
    by None e = omega (arith, is, ap length e)
    by (Some x) e = omega (arith, is, ap length e)

-- an edge that is not gone is one that is held
pub held-live : (sources : List Source) (ids : List ℕ) (e : EdgeNo × Slot) → Rattle.std.proofs.Common.is_some (held_by (slot_named sources ids e)) ≡ is_live e.1.state
held-live sources ids e = by e.1.state
  where
    by : (state : SlotState) → Rattle.std.proofs.Common.is_some (held_by (edge_named sources ids e.0, row_of sources state e.1.end)) ≡ is_live state
    by Gone = refl
    by Public = refl
    by Only = refl
    by (Circle n) = refl

-- an edge that is not gone while the walk marks those behind it
module _ (rows now : Rows) (kept : IsRows now) (side : Side) (q number i : ℕ) (here : number ≡ suc i) (along : IsAlong now side q number)
    (done : now.edges.entries ≡ changed_from (gone_at side q) number rows.edges.entries) (e : EdgeNo × Slot) (at : slice_get now.edges.entries i ≡ Some e) where
  same-at : (x : EdgeNo × Slot) → has_at side q x.0 ≡ false → gone_at side q x ≡ x
  same-at x fails = ap (λ b. if b then gone x else x) fails

  before : slice_get rows.edges.entries i ≡ Some e
  before =
      sym (changed-at (has_at side q) (gone_at side q) same-at rows.edges.entries number i (omega arith))
      ∙ ap (λ es. slice_get es i) (sym done) ∙ at

  keys-same : keys_of now.edges.entries ≡ keys_of rows.edges.entries
  keys-same = ap keys_of done ∙ by number rows.edges.entries
    where
      one : (x : EdgeNo × Slot) → (gone_at side q x).0 ≡ x.0
      one x = pick (has_at side q x.0)
        where
          pick : (b : Bool) → (if b then gone x else x).0 ≡ x.0
          pick true = refl
          pick false = refl

      all : (es : List (EdgeNo × Slot)) → keys_of (map (gone_at side q) es) ≡ keys_of es
      all [] = refl
      all (x ∷ xs) = λ j. one x j ∷ all xs j

      by : (n : ℕ) (es : List (EdgeNo × Slot)) → keys_of (changed_from (gone_at side q) n es) ≡ keys_of es
      by n [] = refl
      by zero (x ∷ xs) = all (x ∷ xs)
      by (suc n) (x ∷ xs) = ap (λ ks. x.0 ∷ ks) (by n xs)

  -- the edges after this one is marked too
  pub gone-next : set_value_at now.edges.entries i (gone e).1 ≡ changed_from (gone_at side q) (next_at side e.1) rows.edges.entries
  gone-next =
      ap (λ es. set_value_at es i (gone e).1) (done ∙ ap (λ n. changed_from (gone_at side q) n rows.edges.entries) here)
      ∙ changed-step (has_at side q) (gone_at side q) same-at rows.edges.entries i e (gone e).1 before (ap (λ b. if b then gone e else e) (along-passes now kept side q number i here along e at))
      ∙ sym (changed-along (has_at side q) (gone_at side q) same-at rows.edges.entries i)
      ∙ ap (λ n. changed_from (gone_at side q) n rows.edges.entries)
      (ap (λ ks. last_no (has_at side q) (take i ks)) (sym keys-same) ∙ sym (next-is now kept side q number i here along e at))

-- the walk goes on over the rows with other values
pub along-moved : (old new : Rows) (side : Side) (q number : ℕ) → keys_of new.edges.entries ≡ keys_of old.edges.entries → IsAlong old side q number → IsAlong new side q number
along-moved old new side q number same along = record { m = along.m; is = along.is ∙ ap (λ ks. last_no (has_at side q) (take along.m ks)) (sym same) }

-- it starts with no edge marked, and ends with all of them
pub gone-start : (rows : Rows) → IsRows rows → (side : Side) (q : ℕ) → rows.edges.entries ≡ changed_from (gone_at side q) (last_at side rows q) rows.edges.entries
gone-start rows kept side q =
    sym (ap (λ n. changed_from (gone_at side q) n rows.edges.entries) (start rows kept side q)
    ∙ changed-along (has_at side q) (gone_at side q) same rows.edges.entries (length rows.edges.entries)
    ∙ changed-none (has_at side q) (gone_at side q) same rows.edges.entries (length rows.edges.entries) (omega arith))
  where
    same : (x : EdgeNo × Slot) → has_at side q x.0 ≡ false → gone_at side q x ≡ x
    same x fails = ap (λ b. if b then gone x else x) fails

pub gone-all : (side : Side) (q : ℕ) (es : List (EdgeNo × Slot)) → changed_from (gone_at side q) 0 es ≡ map (gone_at side q) es
gone-all side q [] = refl
gone-all side q (e ∷ es) = refl

-- no more are picked than there are edges
pub picked-few : (rows : Rows) → IsRows rows → (side : Side) (q n : ℕ) → length (filter_map (held_at rows side q) (drop n rows.edges.entries)) < 2 ^ 32
picked-few rows kept side q n =
    omega (arith, kept.few_edges, few (drop n rows.edges.entries), length-drop n rows.edges.entries)
  where
    few : (es : List (EdgeNo × Slot)) → length (filter_map (held_at rows side q) es) ≤ length es
    few [] = omega arith
    few (e ∷ es) = by (held_at rows side q e) (few es)
      where
        by : (o : Option Held) → length (filter_map (held_at rows side q) es) ≤ length es → length (cons_option o (filter_map (held_at rows side q) es)) ≤ suc (length es)
        by None h = omega arith
        by (Some x) h = omega arith

pub one_if-le : (b : Bool) → Rattle.chained_rows.specs.Counts.one_if b ≤ 1
one_if-le true = omega arith
one_if-le false = omega arith
