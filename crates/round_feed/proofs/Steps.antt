-- Things in order, and one more.
use Rattle.std.proofs.Common.{◌≡◌, List, [], ◌∷◌, ◌++◌, length, refl, ap, sym, ◌∙◌, arith, append-nil}
use Rattle.std.proofs.lemmas.List.{append_assoc}
use Rattle.round_feed.specs.Steps.{after, given, Each, marked_by}

module _ {S X M : Type 0} (step : S → X → M → S) where
  pub after-snoc : (s : S) (xs : List X) (marks : List M) (x : X) (m : M) → length marks ≡ length xs
      → after step s (xs ++ x ∷ []) (marks ++ m ∷ []) ≡ step (after step s xs marks) x m
  after-snoc s [] [] x m same = refl
  after-snoc s [] (mark ∷ marks) x m same = absurd (omega (arith, same))
  after-snoc s (y ∷ xs) [] x m same = absurd (omega (arith, same))
  after-snoc s (y ∷ xs) (mark ∷ marks) x m same = after-snoc (step s y mark) xs marks x m (omega (arith, same))

  pub given-snoc : {B : Type 0} (gives : S → X → M → List B) (s : S) (xs : List X) (marks : List M) (x : X) (m : M) → length marks ≡ length xs
      → given step gives s (xs ++ x ∷ []) (marks ++ m ∷ []) ≡ given step gives s xs marks ++ gives (after step s xs marks) x m
  given-snoc gives s [] [] x m same = append-nil (gives s x m)
  given-snoc gives s [] (mark ∷ marks) x m same = absurd (omega (arith, same))
  given-snoc gives s (y ∷ xs) [] x m same = absurd (omega (arith, same))
  given-snoc gives s (y ∷ xs) (mark ∷ marks) x m same =
      ap (λ rest. gives s y mark ++ rest) (given-snoc gives (step s y mark) xs marks x m (omega (arith, same)))
      ∙ sym (append_assoc (gives s y mark) (given step gives (step s y mark) xs marks) (gives (after step (step s y mark) xs marks) x m))

  pub each-length : (holds : S → X → M → Type 0) (s : S) (xs : List X) (marks : List M) → Each step holds s xs marks → length marks ≡ length xs
  each-length holds s [] [] all = refl
  each-length holds s [] (mark ∷ marks) all = absurd all
  each-length holds s (x ∷ xs) [] all = absurd all
  each-length holds s (x ∷ xs) (mark ∷ marks) all = omega (arith, each-length holds (step s x mark) xs marks all.1)

  pub each-snoc : (holds : S → X → M → Type 0) (s : S) (xs : List X) (marks : List M) (x : X) (m : M) → Each step holds s xs marks
      → holds (after step s xs marks) x m → Each step holds s (xs ++ x ∷ []) (marks ++ m ∷ [])
  each-snoc holds s [] [] x m all one = (one, tt)
  each-snoc holds s [] (mark ∷ marks) x m all one = absurd all
  each-snoc holds s (y ∷ xs) [] x m all one = absurd all
  each-snoc holds s (y ∷ xs) (mark ∷ marks) x m all one = (all.0, each-snoc holds (step s y mark) xs marks x m all.1 one)

  pub marked_by-length : {L : Type 0} (mark : S → X → L → M) (s : S) (xs : List X) (known : List L) → length known ≡ length xs
      → length (marked_by step mark s xs known) ≡ length xs
  marked_by-length mark s [] known same = refl
  marked_by-length mark s (x ∷ xs) [] same = absurd (omega (arith, same))
  marked_by-length mark s (x ∷ xs) (k ∷ known) same = omega (arith, marked_by-length mark (step s x (mark s x k)) xs known (omega (arith, same)))

  pub marked_by-snoc : {L : Type 0} (mark : S → X → L → M) (s : S) (xs : List X) (known : List L) (x : X) (k : L) → length known ≡ length xs
      → marked_by step mark s (xs ++ x ∷ []) (known ++ k ∷ []) ≡ marked_by step mark s xs known ++ mark (after step s xs (marked_by step mark s xs known)) x k ∷ []
  marked_by-snoc mark s [] [] x k same = refl
  marked_by-snoc mark s [] (one ∷ known) x k same = absurd (omega (arith, same))
  marked_by-snoc mark s (y ∷ xs) [] x k same = absurd (omega (arith, same))
  marked_by-snoc mark s (y ∷ xs) (one ∷ known) x k same =
      ap (λ rest. mark s y one ∷ rest) (marked_by-snoc mark (step s y (mark s y one)) xs known x k (omega (arith, same)))
