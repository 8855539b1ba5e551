-- Things in order, each with a mark, and a state that each of them takes on.
use Rattle.std.specs.Prelude.{List, [], ◌∷◌, ◌++◌, ⊤}

-- the state after things with their marks
abbrev pub after : {S X M : Type 0} → (S → X → M → S) → S → List X → List M → S
after step s [] marks = s
after step s (x ∷ xs) [] = s
after step s (x ∷ xs) (mark ∷ marks) = after step (step s x mark) xs marks

-- what things give, each where the state stands so before it
abbrev pub given : {S X M B : Type 0} → (S → X → M → S) → (S → X → M → List B) → S → List X → List M → List B
given step gives s [] marks = []
given step gives s (x ∷ xs) [] = []
given step gives s (x ∷ xs) (mark ∷ marks) = gives s x mark ++ given step gives (step s x mark) xs marks

-- what holds of each thing with its mark, where each has one
abbrev pub Each : {S X M : Type 0} → (S → X → M → S) → (S → X → M → Type 0) → S → List X → List M → Type 0
Each step holds s [] [] = ⊤
Each step holds s [] (mark ∷ marks) = ⊥
Each step holds s (x ∷ xs) [] = ⊥
Each step holds s (x ∷ xs) (mark ∷ marks) = holds s x mark × Each step holds (step s x mark) xs marks

-- the marks that things are given by what is known of each
abbrev pub marked_by : {S X L M : Type 0} → (S → X → M → S) → (S → X → L → M) → S → List X → List L → List M
marked_by step mark s [] known = []
marked_by step mark s (x ∷ xs) [] = []
marked_by step mark s (x ∷ xs) (k ∷ known) = mark s x k ∷ marked_by step mark (step s x (mark s x k)) xs known
