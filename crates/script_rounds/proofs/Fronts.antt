-- Lines, one at a time.
use Rattle.std.proofs.lemmas.Bool.{or_parts}
use Rattle.std.proofs.Common.{◌≡◌, ℕ, ◌+◌, ◌<◌, ◌≤◌, ◌==◌, Bool, true, false, List, [], ◌∷◌, ◌++◌, length, take, drop, map, Some, zero, suc, sym, ◌∙◌, ap, subst, refl, arith, append-nil, ◌⊎◌, inl, inr}
use Rattle.std.specs.Prelude.{slice_get}
use Rattle.std.proofs.lemmas.Option.{slice_get_within}
use Rattle.std.proofs.lemmas.List.{append_assoc, take_all, drop_all, length-drop, take-append-drop}
use Rattle.script_rounds.specs.Lines.{whole_lines, lines_so_far, cut}
use Rattle.uni_base.specs.Lines.{lines_of, onto_first, has_lf}
use Rattle.uni_base.proofs.LineLaws.{lines_of-line}
use Rattle.script_rounds.specs.Reading.{LineState, IsFront}

-- a last line without LF
pub lines_of-last : (bytes : List ℕ) → has_lf bytes ≡ false → 0 < length bytes → lines_of bytes ≡ bytes ∷ []
lines_of-last [] line some = absurd (omega arith)
lines_of-last (b ∷ []) line some =
    let parts = or_parts (b == 10) false line in
    rw parts.0 refl
lines_of-last (b ∷ c ∷ bytes) line some =
    let parts = or_parts (b == 10) (has_lf (c ∷ bytes)) line in
    rw (parts.0, lines_of-last (c ∷ bytes) parts.1 (omega arith)) refl

-- a line and its LF
take-line : (bytes : List ℕ) (len : ℕ) → slice_get bytes len ≡ Some 10 → take (suc len) bytes ≡ take len bytes ++ 10 ∷ []
take-line [] zero ends = cc
take-line [] (suc len) ends = cc
take-line (b ∷ bytes) zero ends =
    let here : b ≡ 10 = cc in
    ap (λ c. c ∷ []) here
take-line (b ∷ bytes) (suc len) ends = ap (λ bs. b ∷ bs) (take-line bytes len ends)

-- the line at the front, and what follows it
pub lines_of-front : (state : LineState) (len : ℕ) → IsFront state len → (rest : List ℕ) → (state.ended ≡ true → rest ≡ [])
    → lines_of (state.ahead ++ rest) ≡ take len state.ahead ∷ lines_of (drop (suc len) state.ahead ++ rest)
lines_of-front state len front rest stops = by front.ends
  where
    by : (slice_get state.ahead len ≡ Some 10) ⊎ ((state.ended ≡ true) × (length state.ahead ≡ len) × (0 < len))
        → lines_of (state.ahead ++ rest) ≡ take len state.ahead ∷ lines_of (drop (suc len) state.ahead ++ rest)
    by (inl ends) =
        ap (λ bs. lines_of (bs ++ rest)) (sym (take-append-drop (suc len) state.ahead))
        ∙ ap lines_of (append_assoc (take (suc len) state.ahead) (drop (suc len) state.ahead) rest)
        ∙ ap (λ bs. lines_of (bs ++ (drop (suc len) state.ahead ++ rest))) (take-line state.ahead len ends)
        ∙ ap lines_of (append_assoc (take len state.ahead) (10 ∷ []) (drop (suc len) state.ahead ++ rest))
        ∙ lines_of-line (take len state.ahead) (drop (suc len) state.ahead ++ rest) front.line
    by (inr last) =
        let whole : take len state.ahead ≡ state.ahead = take_all len state.ahead (omega (arith, last.1)) in
        let spent : drop (suc len) state.ahead ≡ [] = drop_all (suc len) state.ahead (omega (arith, last.1)) in
        let line : has_lf state.ahead ≡ false = subst (λ xs. has_lf xs ≡ false) whole front.line in
        rw (stops last.0, spent, append-nil state.ahead, whole) (lines_of-last state.ahead line (omega (arith, last.1, last.2)))

whole_lines-line : (line rest : List ℕ) → has_lf line ≡ false → whole_lines (line ++ 10 ∷ rest) ≡ line ∷ whole_lines rest
whole_lines-line [] rest unbroken = refl
whole_lines-line (b ∷ line) rest unbroken =
    let parts = or_parts (b == 10) (has_lf line) unbroken in
    rw (parts.0, whole_lines-line line rest parts.1) refl

-- the same of the lines so far
pub so_far-front : (state : LineState) (len : ℕ) → IsFront state len
    → lines_so_far state.ended state.ahead ≡ take len state.ahead ∷ lines_so_far state.ended (drop (suc len) state.ahead)
so_far-front state len front = by state.ended refl
  where
    ends : state.ended ≡ false → (slice_get state.ahead len ≡ Some 10) ⊎ ((state.ended ≡ true) × (length state.ahead ≡ len) × (0 < len)) → slice_get state.ahead len ≡ Some 10
    ends unended (inl lf) = lf
    ends unended (inr last) = let ended : state.ended ≡ true = last.0 in cc

    by : (b : Bool) → state.ended ≡ b → lines_so_far b state.ahead ≡ take len state.ahead ∷ lines_so_far b (drop (suc len) state.ahead)
    by true ended =
        ap lines_of (sym (append-nil state.ahead))
        ∙ lines_of-front state len front [] (λ e. refl)
        ∙ ap (λ bytes. take len state.ahead ∷ lines_of bytes) (append-nil (drop (suc len) state.ahead))
    by false unended =
        ap whole_lines (sym (take-append-drop (suc len) state.ahead))
        ∙ ap (λ bs. whole_lines (bs ++ drop (suc len) state.ahead)) (take-line state.ahead len (ends unended front.ends))
        ∙ ap whole_lines (append_assoc (take len state.ahead) (10 ∷ []) (drop (suc len) state.ahead))
        ∙ whole_lines-line (take len state.ahead) (drop (suc len) state.ahead) front.line

-- it stands within what is ahead
pub front_within : (state : LineState) (len : ℕ) → IsFront state len → len ≤ length state.ahead
front_within state len front = by front.ends
  where
    by : (slice_get state.ahead len ≡ Some 10) ⊎ ((state.ended ≡ true) × (length state.ahead ≡ len) × (0 < len)) → len ≤ length state.ahead
    by (inl ends) = omega (arith, slice_get_within state.ahead len 10 ends)
    by (inr last) = omega (arith, last.1)

-- it has a byte, or its LF
pub length-front : (state : LineState) (len : ℕ) → IsFront state len → 1 + length (drop (suc len) state.ahead) ≤ length state.ahead
length-front state len front = by front.ends
  where
    by : (slice_get state.ahead len ≡ Some 10) ⊎ ((state.ended ≡ true) × (length state.ahead ≡ len) × (0 < len))
        → 1 + length (drop (suc len) state.ahead) ≤ length state.ahead
    by (inl ends) = omega (arith, length-drop (suc len) state.ahead, slice_get_within state.ahead len 10 ends)
    by (inr last) = omega (arith, length-drop (suc len) state.ahead, last.1, last.2)

-- the first of some lines, and the others
first_line : List (List ℕ) → List ℕ
first_line [] = []
first_line (line ∷ lines) = line

other_lines : List (List ℕ) → List (List ℕ)
other_lines [] = []
other_lines (line ∷ lines) = lines

onto_first-is : (b : ℕ) (lines : List (List ℕ)) → onto_first b lines ≡ (b ∷ first_line lines) ∷ other_lines lines
unfolding first_line other_lines
onto_first-is b [] = refl
onto_first-is b (line ∷ lines) = refl

-- bytes without LF begin the first line of what follows them
lines_of-begun : (b : ℕ) (bytes rest : List ℕ) → has_lf (b ∷ bytes) ≡ false
    → lines_of (b ∷ bytes ++ rest) ≡ (b ∷ bytes ++ first_line (lines_of rest)) ∷ other_lines (lines_of rest)
lines_of-begun b [] rest line =
    let parts = or_parts (b == 10) false line in
    rw parts.0 (onto_first-is b (lines_of rest))
lines_of-begun b (c ∷ bytes) rest line =
    let parts = or_parts (b == 10) (has_lf (c ∷ bytes)) line in
    rw (parts.0, lines_of-begun c bytes rest parts.1) refl

pub no_lf-take : (n : ℕ) (bytes : List ℕ) → has_lf bytes ≡ false → has_lf (take n bytes) ≡ false
no_lf-take zero bytes line = refl
no_lf-take (suc n) [] line = refl
no_lf-take (suc n) (b ∷ bytes) line =
    let parts = or_parts (b == 10) (has_lf bytes) line in
    rw parts.0 (no_lf-take n bytes parts.1)

take_front : (n : ℕ) (xs ys : List ℕ) → take n (take n xs ++ ys) ≡ take n (xs ++ ys)
take_front zero xs ys = refl
take_front (suc n) [] ys = refl
take_front (suc n) (x ∷ xs) ys = ap (λ zs. x ∷ zs) (take_front n xs ys)

-- what is kept of a line is enough to see it cut
pub cut-shortened : (kept : ℕ) (bytes rest : List ℕ) → 0 < kept → has_lf bytes ≡ false
    → cut kept (lines_of (bytes ++ rest)) ≡ cut kept (lines_of (take kept bytes ++ rest))
cut-shortened zero bytes rest some line = absurd (omega arith)
cut-shortened (suc kept) [] rest some line = refl
cut-shortened (suc kept) (b ∷ bytes) rest some line =
    ap (cut (suc kept)) (lines_of-begun b bytes rest line)
    ∙ ap (λ front. (b ∷ front) ∷ map (take (suc kept)) (other_lines (lines_of rest))) (sym (take_front kept bytes (first_line (lines_of rest))))
    ∙ ap (cut (suc kept)) (sym (lines_of-begun b (take kept bytes) rest (no_lf-take (suc kept) (b ∷ bytes) line)))
