-- Lines that hold no LF are told by their text.
use Rattle.std.proofs.Common.{◌≡◌, ℕ, ◌==◌, true, false, List, [], ◌∷◌, ◌++◌, refl, sym, ◌∙◌, append_assoc}
use Rattle.std.proofs.lemmas.Bool.{or_parts, eq-eqb}
use Rattle.std.specs.List.{list_any}
use Rattle.uni_base.specs.Lines.{has_lf, AreUnbroken}
use Rattle.reply_text.specs.Lines.{text_of}

-- equal lists have equal parts
pub cons_parts : {X : Type 0} (x y : X) (xs ys : List X) → x ∷ xs ≡ y ∷ ys → (x ≡ y) × (xs ≡ ys)
cons_parts x y xs ys e = (cc, cc)

-- a byte of a line is no LF
not_lf : (b : ℕ) (line : List ℕ) → has_lf (b ∷ line) ≡ false → 10 ≡ b → ⊥
not_lf b line unbroken e =
    let none = (or_parts (b == 10) (has_lf line) unbroken).0 in
    let some : (b == 10) ≡ true = eq-eqb b 10 (sym e) in
    cc

-- the first line ends at the first LF
first_line : (line other rest others : List ℕ) → has_lf line ≡ false → has_lf other ≡ false → line ++ 10 ∷ rest ≡ other ++ 10 ∷ others → (line ≡ other) × (rest ≡ others)
first_line [] [] rest others a b e = (refl, (cons_parts 10 10 rest others e).1)
first_line [] (c ∷ other) rest others a b e = absurd (not_lf c other b (cons_parts 10 c rest (other ++ 10 ∷ others) e).0)
first_line (c ∷ line) [] rest others a b e = absurd (not_lf c line a (sym (cons_parts c 10 (line ++ 10 ∷ rest) others e).0))
first_line (c ∷ line) (d ∷ other) rest others a b e =
    let parts = cons_parts c d (line ++ 10 ∷ rest) (other ++ 10 ∷ others) e in
    let after = first_line line other rest others (or_parts (c == 10) (has_lf line) a).1 (or_parts (d == 10) (has_lf other) b).1 parts.1 in
    (cc (parts.0, after.0), after.1)

-- a text with a line has a byte
some_text : (line rest : List ℕ) → [] ≡ line ++ 10 ∷ rest → ⊥
some_text [] rest e = cc
some_text (c ∷ line) rest e = cc

-- so lines of one text are the same
pub same_lines : (lines others : List (List ℕ)) → AreUnbroken lines → AreUnbroken others → text_of lines ≡ text_of others → lines ≡ others
same_lines [] [] a b e = refl
same_lines [] (other ∷ others) a b e = absurd (some_text other (text_of others) (e ∙ append_assoc other (10 ∷ []) (text_of others)))
same_lines (line ∷ lines) [] a b e = absurd (some_text line (text_of lines) (sym e ∙ append_assoc line (10 ∷ []) (text_of lines)))
same_lines (line ∷ lines) (other ∷ others) a b e =
    let one = or_parts (has_lf line) (list_any has_lf lines) a in
    let two = or_parts (has_lf other) (list_any has_lf others) b in
    let parts = first_line line other (text_of lines) (text_of others) one.0 two.0
    (sym (append_assoc line (10 ∷ []) (text_of lines)) ∙ e ∙ append_assoc other (10 ∷ []) (text_of others)) in
    let after = same_lines lines others one.1 two.1 parts.1 in
    cc (parts.0, after)
