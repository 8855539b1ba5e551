-- The fields of a line, and the line of some fields.
use Rattle.std.proofs.Common.{◌≡◌, ℕ, ◌==◌, Bool, true, false, not, cond, if◌then◌else◌, List, [], ◌∷◌, ◌++◌, Option, None, Some, refl, ap, ◌∙◌}
use Rattle.std.specs.Option.{option_map}
use Rattle.std.proofs.lemmas.Option.{some_pair_parts}
use Rattle.std.specs.List.{list_all, onto_first}
use Rattle.std.proofs.lemmas.Bool.{and_parts}
use Rattle.std.proofs.lemmas.List.Splits.{join_with_byte-slice_split}
use Rattle.uni_base.specs.Fields.{cut_at, fields_of, spaced}

not_true : (b : Bool) → not b ≡ true → b ≡ false
not_true true e = cc
not_true false e = refl

-- one byte more in front, whether it is a space or not
cut_more : (space : Bool) (c : ℕ) (cs : List ℕ) (rest : Option (List ℕ × List ℕ)) → ((x y : List ℕ) → rest ≡ Some (x, y) → fields_of cs ≡ x ∷ fields_of y)
    → (a b : List ℕ) → if◌then◌else◌ {A = Option (List ℕ × List ℕ)} space (Some ([], cs)) (option_map (λ p. (c ∷ p.0, p.1)) rest) ≡ Some (a, b)
    → cond space ([] ∷ fields_of cs) (onto_first c (fields_of cs)) ≡ a ∷ fields_of b
cut_more true c cs rest ih a b e = let parts = some_pair_parts [] a cs b e in cc (parts.0, ap fields_of parts.1)
cut_more false c cs None ih a b e = cc
cut_more false c cs (Some p) ih a b e =
    let h : fields_of cs ≡ p.0 ∷ fields_of p.1 = ih p.0 p.1 refl in
    let parts = some_pair_parts (c ∷ p.0) a p.1 b e in
    rw h (cc (parts.0, ap fields_of parts.1))

-- the first field ends at the first space
pub fields_of-cut : (text a b : List ℕ) → cut_at 32 text ≡ Some (a, b) → fields_of text ≡ a ∷ fields_of b
fields_of-cut [] a b e = cc
fields_of-cut (c ∷ cs) a b e = cut_more (c == 32) c cs (cut_at 32 cs) (fields_of-cut cs) a b e

uncut_more : (space : Bool) (c : ℕ) (cs : List ℕ) (rest : Option (List ℕ × List ℕ)) → (rest ≡ None → fields_of cs ≡ cs ∷ [])
    → if◌then◌else◌ {A = Option (List ℕ × List ℕ)} space (Some ([], cs)) (option_map (λ p. (c ∷ p.0, p.1)) rest) ≡ None
    → cond space ([] ∷ fields_of cs) (onto_first c (fields_of cs)) ≡ (c ∷ cs) ∷ []
uncut_more true c cs rest ih e = cc
uncut_more false c cs None ih e = rw (ih refl) refl
uncut_more false c cs (Some p) ih e = cc

-- a text without a space is one field
pub fields_of-uncut : (text : List ℕ) → cut_at 32 text ≡ None → fields_of text ≡ text ∷ []
fields_of-uncut [] e = refl
fields_of-uncut (c ∷ cs) e = uncut_more (c == 32) c cs (cut_at 32 cs) (fields_of-uncut cs) e

-- the fields of a line make that line again
pub spaced-fields_of : (line : List ℕ) → spaced (fields_of line) ≡ line
spaced-fields_of line = join_with_byte-slice_split 32 line

-- a text without a space in it, and a space after it
solid_front : (field rest : List ℕ) → list_all (λ c. not (c == 32)) field ≡ true → fields_of (field ++ 32 ∷ rest) ≡ field ∷ fields_of rest
solid_front [] rest clear = refl
solid_front (c ∷ field) rest clear =
    let parts = and_parts (not (c == 32)) (list_all (λ x. not (x == 32)) field) clear in
    rw (not_true (c == 32) parts.0, solid_front field rest parts.1) refl

solid_end : (field : List ℕ) → list_all (λ c. not (c == 32)) field ≡ true → fields_of field ≡ field ∷ []
solid_end [] clear = refl
solid_end (c ∷ field) clear =
    let parts = and_parts (not (c == 32)) (list_all (λ x. not (x == 32)) field) clear in
    rw (not_true (c == 32) parts.0, solid_end field parts.1) refl

-- and fields that hold no space are the fields of their line
pub fields_of-spaced : (field : List ℕ) (fields : List (List ℕ)) → list_all (list_all (λ c. not (c == 32))) (field ∷ fields) ≡ true
    → fields_of (spaced (field ∷ fields)) ≡ field ∷ fields
fields_of-spaced field [] clear = solid_end field (and_parts (list_all (λ c. not (c == 32)) field) true clear).0
fields_of-spaced field (more ∷ fields) clear =
    let parts = and_parts (list_all (λ c. not (c == 32)) field) (list_all (list_all (λ c. not (c == 32))) (more ∷ fields)) clear in
    solid_front field (spaced (more ∷ fields)) parts.0
    ∙ ap (λ fs. field ∷ fs) (fields_of-spaced more fields parts.1)
