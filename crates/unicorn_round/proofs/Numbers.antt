-- The numbers of a round, entry by entry.
use Rattle.std.proofs.Common.{◌≡◌, ℕ, Bool, true, false, List, ◌∷◌, if◌then◌else◌, refl, ap, sym, ◌∙◌, subst}
use Rattle.script_rounds.specs.Entries.{Entry}
use Rattle.unicorn_round.specs.Legal.{AreWithin, Between, numbers_in}
use Rattle.unicorn_round.specs.Marks.{Mark, plain, lacking, at}
use Rattle.unicorn_round.specs.Records.{IsPlainOrLacking}

-- a mark's number, if it has one, and others
abbrev pub counted : Mark → List ℕ → List ℕ
counted (at number) numbers = number ∷ numbers
counted mark numbers = numbers

pub either_way : (b : Bool) (numbers : List ℕ) → numbers ≡ (if b then numbers else numbers)
either_way true numbers = refl
either_way false numbers = refl

module _ (test : Entry → Bool) (entry : Entry) (entries : List Entry) (marks : List Mark) where
  -- the numbers with one entry more
  pub numbers_more : (mark : Mark)
      → numbers_in test (entry ∷ entries) (mark ∷ marks) ≡ (if test entry then counted mark (numbers_in test entries marks) else numbers_in test entries marks)
  numbers_more plain = either_way (test entry) (numbers_in test entries marks)
  numbers_more lacking = either_way (test entry) (numbers_in test entries marks)
  numbers_more (at number) = refl

  pub numbers_passing : (mark : Mark) → test entry ≡ true → numbers_in test (entry ∷ entries) (mark ∷ marks) ≡ counted mark (numbers_in test entries marks)
  numbers_passing mark passes = numbers_more mark ∙ ap (λ b. if b then counted mark (numbers_in test entries marks) else numbers_in test entries marks) passes

  pub numbers_failing : (mark : Mark) → test entry ≡ false → numbers_in test (entry ∷ entries) (mark ∷ marks) ≡ numbers_in test entries marks
  numbers_failing mark fails = numbers_more mark ∙ ap (λ b. if b then counted mark (numbers_in test entries marks) else numbers_in test entries marks) fails

  -- an entry that has no number
  pub numbers_without : (mark : Mark) → IsPlainOrLacking mark → numbers_in test (entry ∷ entries) (mark ∷ marks) ≡ numbers_in test entries marks
  numbers_without plain none = refl
  numbers_without lacking none = refl
  numbers_without (at number) none = absurd none

  -- numbers that do not fall, with an entry more that is not among them
  pub between_without : (low high : ℕ) (mark : Mark) → IsPlainOrLacking mark → Between low high (numbers_in test entries marks)
      → Between low high (numbers_in test (entry ∷ entries) (mark ∷ marks))
  between_without low high mark none between = subst (Between low high) (sym (numbers_without mark none)) between

  pub between_failing : (low high : ℕ) (mark : Mark) → test entry ≡ false → Between low high (numbers_in test entries marks)
      → Between low high (numbers_in test (entry ∷ entries) (mark ∷ marks))
  between_failing low high mark fails between = subst (Between low high) (sym (numbers_failing mark fails)) between

pub within_without : (low high : ℕ) (mark : Mark) (marks : List Mark) → IsPlainOrLacking mark → AreWithin low high marks → AreWithin low high (mark ∷ marks)
within_without low high plain marks none within = within
within_without low high lacking marks none within = within
within_without low high (at number) marks none within = absurd none
