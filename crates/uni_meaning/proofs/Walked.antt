-- Operands of a walk by their counters, and a walk that is under way.
use Rattle.std.proofs.Common.{◌≡◌, ◌⊎◌, inl, inr, ℕ, zero, suc, ◌+◌, ◌<◌, ◌≤◌, Bool, true, false, ◌&&◌, ◌||◌, if◌then◌else◌, ◌==◌, List, [], ◌∷◌, ◌++◌, Option, None, Some, refl, sym, ◌∙◌, ap, arith, length, get_or, set, drop, take, drop-cons, take-suc, take-suc-set, drop-set-lt, drop-drop, get_or-drop, length-take-le, All}
use Rattle.std.proofs.lemmas.List.{length-map, length-set}
use Rattle.std.proofs.lemmas.List.Elements.{All-head, All-tail, All-cons}
use Rattle.std.specs.List.{list_any}
use Rattle.std.specs.Option.{option_map_or}
use Rattle.query_tree.specs.declared.kind.ListKind.{ListKind}
use Rattle.query_tree.specs.declared.kind.ListKind.TheVariants.{And, Or, Difference, WeakAnd, StrongOr}
use Rattle.uni_meaning.specs.Standings.{hit_by, is_found, row_at}
use Rattle.uni_meaning.specs.Walking.{Paces, IsPace, advanced, all_allow, counted, counted_from, entered, fresh_counters, has_at, pace_keeps, walk_keeps, walk_standings, walkers_from}
use Rattle.uni_meaning.specs.declared.column.Column.{Column}
use Rattle.uni_meaning.specs.declared.pace.Counter.{Counter}
use Rattle.uni_meaning.specs.declared.place.Place.{Place}
use Rattle.uni_meaning.specs.declared.standing.Standing.{Standing}
use Rattle.uni_meaning.specs.declared.standing.Standing.TheVariants.{Missed}

module _ (row : List Standing) where
  -- some operand has the entity exactly if it stands so under one
  some_found : (j : ℕ) (counters : List Counter) → length counters + j ≡ length row → list_any (λ o. o.has row) (walkers_from j counters) ≡ list_any is_found (drop j row)
  some_found j [] e = ap (list_any is_found) (sym (past row j (omega (arith, e))))
    where
      past : (xs : List Standing) (n : ℕ) → length xs ≤ n → drop n xs ≡ []
      past [] zero l = refl
      past [] (suc n) l = refl
      past (x ∷ xs) zero l = absurd (omega (arith, l))
      past (x ∷ xs) (suc n) l = past xs n (omega (arith, l))
  some_found j (c ∷ counters) e =
      let next : suc j ≡ j + 1 = omega arith in
      ap (λ b. has_at j row || b) (some_found (j + 1) counters (omega (arith, e)) ∙ ap (λ n. list_any is_found (drop n row)) (sym next))
      ∙ sym (ap (list_any is_found) (drop-cons row j Missed (omega (arith, e))))

  by_kind : (kind : ListKind) (kept : ℕ) (counters : List Counter) → walk_keeps kind kept (walkers_from 0 counters) row ≡ (list_any (λ o. o.has row) (walkers_from 0 counters) && all_allow kind kept (walkers_from 0 counters) row)
  by_kind And kept counters = refl
  by_kind Or kept counters = refl
  by_kind Difference kept counters = refl
  by_kind WeakAnd kept counters = refl
  by_kind StrongOr kept counters = refl

  -- a walk keeps an entity exactly if some operand has it and all let it
  pub keeps_is : (kind : ListKind) (kept : ℕ) (counters : List Counter) → length counters ≡ length row → walk_keeps kind kept (walkers_from 0 counters) row ≡ (list_any is_found row && all_allow kind kept (walkers_from 0 counters) row)
  keeps_is kind kept counters e = by_kind kind kept counters ∙ ap (λ b. b && all_allow kind kept (walkers_from 0 counters) row) (some_found 0 counters (omega (arith, e)))

  counted-push : (j : ℕ) (cs : List Counter) (c : Counter) → counted_from j row (cs ++ c ∷ []) ≡ counted_from j row cs ++ counted (has_at (length cs + j) row) c ∷ []
  counted-push j [] c = let e : j ≡ 0 + j = omega arith in ap (λ n. counted (has_at n row) c ∷ []) e
  counted-push j (x ∷ cs) c =
      let e : length cs + (j + 1) ≡ suc (length cs) + j = omega arith in
      ap (λ (ys : List Counter). counted (has_at j row) x ∷ ys) (counted-push (j + 1) cs c ∙ ap (λ n. counted_from (j + 1) row cs ++ counted (has_at n row) c ∷ []) e)

  -- counters of which the first ones are counted
  pub record Counting (olds news : List Counter) (j : ℕ) : Type 0 where
    pub count : length news ≡ length olds
    pub done : take j news ≡ counted_from 0 row (take j olds)
    pub left : drop j news ≡ drop j olds

  pub at_left : (olds news : List Counter) (j : ℕ) (d : Counter) → drop j news ≡ drop j olds → get_or news j d ≡ get_or olds j d
  at_left olds news j d left =
      let e : j + 0 ≡ j = omega arith in
      ap (λ n. get_or news n d) (sym e) ∙ sym (get_or-drop j news 0 d) ∙ ap (λ (cs : List Counter). get_or cs 0 d) left ∙ get_or-drop j olds 0 d ∙ ap (λ n. get_or olds n d) e

  pub counted_more : (olds news : List Counter) (j : ℕ) (x c : Counter) → Counting olds news j → j < length olds → get_or news j x ≡ x → c ≡ counted (has_at j row) x → Counting olds (set news j c) (j + 1)
  counted_more olds news j x c so within here is =
      let next : suc j ≡ j + 1 = omega arith in
      let inside : j < length news = omega (arith, so.count, within) in
      record {
        count = length-set news j c ∙ so.count;
        done =
            ap (λ n. take n (set news j c)) (sym next) ∙ take-suc-set news j c inside
            ∙ ap (λ (cs : List Counter). cs ++ c ∷ []) so.done
            ∙ ap (λ (y : Counter). counted_from 0 row (take j olds) ++ y ∷ []) (is ∙ ap (counted (has_at j row)) (sym (sym (at_left olds news j x so.left) ∙ here)))
            ∙ ap (λ n. counted_from 0 row (take j olds) ++ counted (has_at n row) (get_or olds j x) ∷ []) (let e : j ≡ length (take j olds) + 0 = omega (arith, length-take-le j olds (omega (arith, within))) in e)
            ∙ sym (counted-push 0 (take j olds) (get_or olds j x)) ∙ ap (counted_from 0 row) (sym (take-suc olds j x within)) ∙ ap (λ n. counted_from 0 row (take n olds)) next;
        left =
            drop-set-lt (j + 1) news j c (omega arith) ∙ sym (drop-drop 1 j news) ∙ ap (drop 1) so.left ∙ drop-drop 1 j olds;
      }

  length-counted : (j : ℕ) (cs : List Counter) → length (counted_from j row cs) ≡ length cs
  length-counted j [] = refl
  length-counted j (c ∷ cs) = ap suc (length-counted (j + 1) cs)

  own-counted : (b : Bool) (c : Counter) (kept : ℕ) → c.own ≤ kept → (counted b c).own ≤ kept + 1
  own-counted true c kept l = omega (arith, l)
  own-counted false c kept l = omega (arith, l)

  owns-counted : (j : ℕ) (cs : List Counter) (kept : ℕ) → All (λ c. c.own ≤ kept) cs → All (λ c. c.own ≤ kept + 1) (counted_from j row cs)
  owns-counted j [] kept all = λ k d within. absurd (omega (arith, within))
  owns-counted j (c ∷ cs) kept all =
      All-cons (λ (x : Counter). x.own ≤ kept + 1) (counted (has_at j row) c) (counted_from (j + 1) row cs) (own-counted (has_at j row) c kept (All-head (λ (x : Counter). x.own ≤ kept) c cs all))
      (owns-counted (j + 1) cs kept (All-tail (λ (x : Counter). x.own ≤ kept) c cs all))

  -- a walk goes on once an entity is kept
  pub going_on : (operands seen : ℕ) (pace : Paces) → IsPace operands seen pace → IsPace operands (seen + 1) (advanced row pace)
  going_on operands seen pace is = record {
    count = by is.count;
    owns = owns-counted 0 pace.counters pace.kept is.owns;
    kept = omega (arith, is.kept);
  }
    where
      by : (pace.here ≡ None) ⊎ (length pace.counters ≡ operands) → (pace.here ≡ None) ⊎ (length (counted_from 0 row pace.counters) ≡ operands)
      by (inl none) = inl none
      by (inr same) = inr (length-counted 0 pace.counters ∙ same)

-- and where none is
pub going_past : (operands seen : ℕ) (pace : Paces) → IsPace operands seen pace → IsPace operands (seen + 1) pace
going_past operands seen pace is = record { count = is.count; owns = is.owns; kept = omega (arith, is.kept) }

owns-fresh : (columns : List Column) → All (λ c. c.own ≤ 0) (fresh_counters columns)
owns-fresh [] = λ k d within. absurd (omega (arith, within))
owns-fresh (c ∷ columns) = All-cons (λ (x : Counter). x.own ≤ 0) (record { mark = c.mark; own = 0 }) (fresh_counters columns) (omega arith) (owns-fresh columns)

-- a walk that is in a shard has a counter for each operand
pub entering : (columns : List Column) (seen shard : ℕ) (pace : Paces) → IsPace (length columns) seen pace
    → IsPace (length columns) seen (entered (fresh_counters columns) shard pace) × (length (entered (fresh_counters columns) shard pace).counters ≡ length columns)
entering columns seen shard pace is = by (option_map_or (λ here. here == shard) pace.here false) refl
  where
    fresh : Paces
    fresh = record { here = Some shard; kept = 0; counters = fresh_counters columns }

    anew : length (fresh_counters columns) ≡ length columns
    anew = length-map columns (λ c. record { mark = c.mark; own = 0 })

    count : (here : Option ℕ) → option_map_or (λ h. h == shard) here false ≡ true → (here ≡ None) ⊎ (length pace.counters ≡ length columns) → length pace.counters ≡ length columns
    count None e h = cc
    count (Some h) e (inl none) = cc
    count (Some h) e (inr same) = same

    by : (b : Bool) → option_map_or (λ here. here == shard) pace.here false ≡ b
        → IsPace (length columns) seen (if b then pace else fresh) × (length (if b then pace else fresh).counters ≡ length columns)
    by true e = (is, count pace.here e is.count)
    by false e = (record { count = inr anew; owns = owns-fresh columns; kept = omega arith }, anew)

module _ (kind : ListKind) (columns : List Column) (pace : Paces) (i : ℕ) (place : Place) (places : List Place) where
  -- the walk in the place's shard, and how the place's entity stands under the operands
  abbrev pub in_shard : Paces
  in_shard = entered (fresh_counters columns) place.shard pace

  abbrev pub row : List Standing
  row = row_at columns i

  -- a walk over one entity more
  pub walk_more : (b : Bool) (s : Standing) (next : Paces) → pace_keeps kind in_shard row ≡ b → s ≡ (if b then hit_by kind row else Missed) → next ≡ (if b then advanced row in_shard else in_shard)
      → walk_standings kind columns pace i (place ∷ places) ≡ s ∷ walk_standings kind columns next (i + 1) places
  walk_more b s next e standing on =
      ap (λ c. elim c as (λ d. List Standing) [ true ↦ hit_by kind row ∷ walk_standings kind columns (advanced row in_shard) (i + 1) places | false ↦ Missed ∷ walk_standings kind columns in_shard (i + 1) places ]) e
      ∙ by b ∙ ap (λ (t : Standing). t ∷ walk_standings kind columns (if b then advanced row in_shard else in_shard) (i + 1) places) (sym standing)
      ∙ ap (λ (p : Paces). s ∷ walk_standings kind columns p (i + 1) places) (sym on)
    where
      by : (c : Bool) → (elim c as (λ d. List Standing) [ true ↦ hit_by kind row ∷ walk_standings kind columns (advanced row in_shard) (i + 1) places | false ↦ Missed ∷ walk_standings kind columns in_shard (i + 1) places ])
          ≡ (if c then hit_by kind row else Missed) ∷ walk_standings kind columns (if c then advanced row in_shard else in_shard) (i + 1) places
      by true = refl
      by false = refl

-- a walk that goes on or stays
pub going_by : (row : List Standing) (operands seen : ℕ) (pace : Paces) (b : Bool) → IsPace operands seen pace → IsPace operands (seen + 1) (if b then advanced row pace else pace)
going_by row operands seen pace true is = going_on row operands seen pace is
going_by row operands seen pace false is = going_past operands seen pace is
