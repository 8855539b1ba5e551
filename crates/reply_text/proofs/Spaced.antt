-- A word and numbers with spaces between them.
use Rattle.std.proofs.Common.{◌≡◌, ◌≤◌, ℕ, List, [], ◌∷◌, ◌++◌, length, drop, map, ap, sym, ◌∙◌, append-nil}
use Rattle.std.proofs.lemmas.List.{drop_all}
use Rattle.std.specs.Fmt.{decimal}
use Rattle.std.specs.List.{flat_map}
use Rattle.uni_base.specs.Fields.{spaced}

-- a word and numbers, each with a space before it
numbers_spaced : (word numbers : List ℕ) → word ++ flat_map (λ n. 32 ∷ decimal n) numbers ≡ spaced (word ∷ map decimal numbers)
numbers_spaced word [] = append-nil word
numbers_spaced word (n ∷ numbers) = ap (λ rest. word ++ 32 ∷ rest) (numbers_spaced (decimal n) numbers)

-- where no number is left
pub numbers_end : (old text word numbers : List ℕ) (i : ℕ) → length numbers ≤ i
    → text ++ flat_map (λ n. 32 ∷ decimal n) (drop i numbers) ≡ old ++ (word ++ flat_map (λ n. 32 ∷ decimal n) numbers) → text ≡ old ++ spaced (word ∷ map decimal numbers)
numbers_end old text word numbers i all e =
    let none : drop i numbers ≡ [] = drop_all i numbers all in
    sym (append-nil text)
    ∙ ap (λ rest. text ++ flat_map (λ n. 32 ∷ decimal n) rest) (sym none)
    ∙ e
    ∙ ap (λ line. old ++ line) (numbers_spaced word numbers)
