-- Rounds and whole lines, by what reading goes past.
use Rattle.std.proofs.Common.{◌≡◌, ℕ, ◌+◌, ◌<◌, ◌≤◌, ◌==◌, Bool, true, false, List, [], ◌∷◌, ◌++◌, length, take, suc, sym, ◌∙◌, ap, refl, arith}
use Rattle.std.specs.Prelude.{if◌then◌else◌, count_by}
use Rattle.std.specs.List.{list_any}
use Rattle.std.proofs.lemmas.Bool.{or_parts}
use Rattle.std.proofs.lemmas.List.{append_assoc, map-append}
use Rattle.script_rounds.specs.Lines.{whole_lines, onto_whole, cut}
use Rattle.script_rounds.specs.Reading.{Place, Went}
use Rattle.script_rounds.specs.Roles.{is_go}
use Rattle.script_rounds.specs.Rounds.{rounds_from, closed_from, entries_from}
use Rattle.script_rounds.specs.Terms.{Terms}
use Rattle.uni_base.specs.Lines.{lines_of, onto_first, has_lf}
use Rattle.script_rounds.proofs.RoundSteps.{rounds_from-go, rounds_from-last, rounds_from-cut, closed_from-cut, count_by-clear, count_by-go}

-- bytes without LF have no whole line
pub whole_lines-unbroken : (bytes : List ℕ) → has_lf bytes ≡ false → whole_lines bytes ≡ []
whole_lines-unbroken [] unbroken = refl
whole_lines-unbroken (b ∷ bytes) unbroken =
    let parts = or_parts (b == 10) (has_lf bytes) unbroken in
    rw (parts.0, whole_lines-unbroken bytes parts.1) refl

-- with an LF at the end, the lines are the whole ones and one more
lines_of-closed : (bytes : List ℕ) → (last : List ℕ) × (lines_of (bytes ++ 10 ∷ []) ≡ whole_lines bytes ++ last ∷ [])
lines_of-closed [] = ([], refl)
lines_of-closed (b ∷ bytes) = by (b == 10) (lines_of-closed bytes)
  where
    front : (whole : List (List ℕ)) (last : List ℕ) → (more : List ℕ) × (onto_first b (whole ++ last ∷ []) ≡ onto_whole b whole ++ more ∷ [])
    front [] last = (b ∷ last, refl)
    front (line ∷ whole) last = (last, refl)

    by : (test : Bool) → (last : List ℕ) × (lines_of (bytes ++ 10 ∷ []) ≡ whole_lines bytes ++ last ∷ [])
        → (last : List ℕ) × ((if test then [] ∷ lines_of (bytes ++ 10 ∷ []) else onto_first b (lines_of (bytes ++ 10 ∷ []))) ≡ (if test then [] ∷ whole_lines bytes else onto_whole b (whole_lines bytes)) ++ last ∷ [])
    by true closed = (closed.0, ap (λ ls. [] ∷ ls) closed.1)
    by false closed =
        let more = front (whole_lines bytes) closed.0 in
        (more.0, ap (onto_first b) closed.1 ∙ more.1)

-- what stands before a last item
last_apart : {A : Type 0} → (xs ys : List A) (x y : A) → xs ++ x ∷ [] ≡ ys ++ y ∷ [] → xs ≡ ys
last_apart [] [] x y e = refl
last_apart [] (z ∷ ys) x y e = absurd (none ys y cc)
  where
    none : {A : Type 0} (zs : List A) (z : A) → [] ≡ zs ++ z ∷ [] → ⊥
    none [] z e = cc
    none (w ∷ zs) z e = cc
last_apart (z ∷ xs) [] x y e = absurd (none xs x cc)
  where
    none : {A : Type 0} (zs : List A) (z : A) → zs ++ z ∷ [] ≡ [] → ⊥
    none [] z e = cc
    none (w ∷ zs) z e = cc
last_apart (w ∷ xs) (z ∷ ys) x y e =
    let first : w ≡ z = cc in
    let rest : xs ++ x ∷ [] ≡ ys ++ y ∷ [] = cc in
    cc (first, last_apart xs ys x y rest)

-- the lines with an LF after them, cut
cut-closed : (kept : ℕ) (bytes : List ℕ) → (last : List ℕ) × (cut kept (lines_of (bytes ++ 10 ∷ [])) ≡ cut kept (whole_lines bytes) ++ last ∷ [])
cut-closed kept bytes =
    let closed = lines_of-closed bytes in
    (take kept closed.0, ap (cut kept) closed.1 ∙ map-append (take kept) (whole_lines bytes) (closed.0 ∷ []))

-- the whole lines to come, by what reading goes past
pub whole_come : (before after : Place) (passed : List (List ℕ)) (w : Went before after passed) → after.reader.ended ≡ false → (rest : List ℕ)
    → cut before.reader.kept (whole_lines (before.reader.ahead ++ (w.more ++ rest))) ≡ passed ++ cut after.reader.kept (whole_lines (after.reader.ahead ++ rest))
whole_come before after passed w unended rest =
    let all = cut-closed before.reader.kept (before.reader.ahead ++ (w.more ++ rest)) in
    let later = cut-closed after.reader.kept (after.reader.ahead ++ rest) in
    let end : List ℕ = 10 ∷ [] in
    last_apart (cut before.reader.kept (whole_lines (before.reader.ahead ++ (w.more ++ rest)))) (passed ++ cut after.reader.kept (whole_lines (after.reader.ahead ++ rest))) all.0 later.0
    (sym all.1
    ∙ ap (λ bytes. cut before.reader.kept (lines_of bytes))
    (append_assoc before.reader.ahead (w.more ++ rest) end ∙ ap (λ bytes. before.reader.ahead ++ bytes) (append_assoc w.more rest end))
    ∙ w.same (rest ++ end) (λ ended. cc)
    ∙ ap (λ bytes. passed ++ cut after.reader.kept (lines_of bytes)) (sym (append_assoc after.reader.ahead rest end))
    ∙ ap (λ lines. passed ++ lines) later.1
    ∙ sym (append_assoc passed (cut after.reader.kept (whole_lines (after.reader.ahead ++ rest))) (later.0 ∷ [])))

module _ (terms : Terms) where
  -- closed rounds, one with its `go` in front
  closed_from-go : (number : ℕ) (seen rest : List (List ℕ)) (line : List ℕ) → list_any is_go seen ≡ false → is_go line ≡ true
      → closed_from terms number 0 (seen ++ line ∷ rest) ≡ entries_from terms number 0 seen ∷ closed_from terms (number + length seen + 1) 0 rest
  closed_from-go number seen rest line clear goes =
      ap (λ n. take n (rounds_from terms number 0 (seen ++ line ∷ rest))) (count_by-go seen rest line clear goes ∙ one_more (count_by is_go rest))
      ∙ ap (take (suc (count_by is_go rest))) (rounds_from-go terms number 0 seen rest line clear goes)
    where
      one_more : (n : ℕ) → 1 + n ≡ suc n
      one_more n = omega arith

  closed_from-clear : (number : ℕ) (seen : List (List ℕ)) → list_any is_go seen ≡ false → closed_from terms number 0 seen ≡ []
  closed_from-clear number seen clear = ap (λ n. take n (rounds_from terms number 0 seen)) (count_by-clear seen clear)

  module _ (kept : ℕ) (long : terms.limits.line < kept) (enough : 3 ≤ kept) where
    -- what is to come goes by the lines that are to come, cut
    pub rounds_by : (number : ℕ) (bytes : List ℕ) → rounds_from terms number 0 (lines_of bytes) ≡ rounds_from terms number 0 (cut kept (lines_of bytes))
    rounds_by number bytes = sym (rounds_from-cut terms kept long enough number 0 (lines_of bytes))

    pub closed_by : (number : ℕ) (bytes : List ℕ) → closed_from terms number 0 (whole_lines bytes) ≡ closed_from terms number 0 (cut kept (whole_lines bytes))
    closed_by number bytes = sym (closed_from-cut terms kept long enough number 0 (whole_lines bytes))

    -- a round with its `go`, and those after it
    pub rounds_go : (number later : ℕ) (bytes after : List ℕ) (seen : List (List ℕ)) (line : List ℕ)
        → cut kept (lines_of bytes) ≡ (seen ++ line ∷ []) ++ cut kept (lines_of after) → list_any is_go seen ≡ false → is_go line ≡ true → later ≡ number + length seen + 1
        → rounds_from terms number 0 (lines_of bytes) ≡ entries_from terms number 0 seen ∷ rounds_from terms later 0 (lines_of after)
    rounds_go number later bytes after seen line same clear goes count =
        rounds_by number bytes
        ∙ ap (rounds_from terms number 0) (same ∙ append_assoc seen (line ∷ []) (cut kept (lines_of after)))
        ∙ rounds_from-go terms number 0 seen (cut kept (lines_of after)) line clear goes
        ∙ ap (λ n. entries_from terms number 0 seen ∷ rounds_from terms n 0 (cut kept (lines_of after))) (sym count)
        ∙ ap (λ rounds. entries_from terms number 0 seen ∷ rounds) (sym (rounds_by later after))

    pub closed_go : (number later : ℕ) (bytes after : List ℕ) (seen : List (List ℕ)) (line : List ℕ)
        → cut kept (whole_lines bytes) ≡ (seen ++ line ∷ []) ++ cut kept (whole_lines after) → list_any is_go seen ≡ false → is_go line ≡ true → later ≡ number + length seen + 1
        → closed_from terms number 0 (whole_lines bytes) ≡ entries_from terms number 0 seen ∷ closed_from terms later 0 (whole_lines after)
    closed_go number later bytes after seen line same clear goes count =
        closed_by number bytes
        ∙ ap (closed_from terms number 0) (same ∙ append_assoc seen (line ∷ []) (cut kept (whole_lines after)))
        ∙ closed_from-go number seen (cut kept (whole_lines after)) line clear goes
        ∙ ap (λ n. entries_from terms number 0 seen ∷ closed_from terms n 0 (cut kept (whole_lines after))) (sym count)
        ∙ ap (λ rounds. entries_from terms number 0 seen ∷ rounds) (sym (closed_by later after))

    -- a last round
    pub rounds_last : (number : ℕ) (bytes : List ℕ) (seen : List (List ℕ)) → cut kept (lines_of bytes) ≡ seen → list_any is_go seen ≡ false → 0 < length seen
        → rounds_from terms number 0 (lines_of bytes) ≡ entries_from terms number 0 seen ∷ []
    rounds_last number bytes [] same clear some = absurd (omega (arith, some))
    rounds_last number bytes (first ∷ seen) same clear some =
        rounds_by number bytes ∙ ap (rounds_from terms number 0) same ∙ rounds_from-last terms number 0 first seen clear

    -- none
    pub rounds_none : (number : ℕ) (bytes : List ℕ) → cut kept (lines_of bytes) ≡ [] → rounds_from terms number 0 (lines_of bytes) ≡ []
    rounds_none number bytes same = rounds_by number bytes ∙ ap (rounds_from terms number 0) same

    pub closed_none : (number : ℕ) (bytes : List ℕ) (seen : List (List ℕ)) → cut kept (whole_lines bytes) ≡ seen → list_any is_go seen ≡ false
        → closed_from terms number 0 (whole_lines bytes) ≡ []
    closed_none number bytes seen same clear = closed_by number bytes ∙ ap (closed_from terms number 0) same ∙ closed_from-clear number seen clear
