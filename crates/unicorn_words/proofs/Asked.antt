-- What words ask for is one: a mode's name tells the mode, and a number its value.
use Rattle.std.proofs.Common.{◌≡◌, ◌∙◌, refl, sym, ap, arith, slice_index, ℕ, [], Option, Some}
use Rattle.std.specs.Prelude.{unwrap_or}
use Rattle.clap.specs.Walk.{Text}
use Rattle.unicorn_words.specs.Asked.{AskForOne, mode_text}
use Rattle.unicorn_words.specs.declared.words.Mode.{Mode}
use Rattle.unicorn_words.specs.declared.words.Mode.TheVariants.{Serve, Plain, Check, Bench}

other_start : (s t : Text) (m n : ℕ) → slice_index s 0 ≡ m → slice_index t 0 ≡ n → (m ≡ n → ⊥) → s ≡ t → ⊥
other_start s t m n first second other e = other (sym first ∙ ap (λ (l : Text). slice_index l 0) e ∙ second)

same_mode : (x y : Mode) → mode_text x ≡ mode_text y → x ≡ y
same_mode Serve Serve e = refl
same_mode Serve Plain e = absurd (other_start _ _ 115 112 refl refl (λ same. absurd (omega arith)) e)
same_mode Serve Check e = absurd (other_start _ _ 115 99 refl refl (λ same. absurd (omega arith)) e)
same_mode Serve Bench e = absurd (other_start _ _ 115 98 refl refl (λ same. absurd (omega arith)) e)
same_mode Plain Serve e = absurd (other_start _ _ 112 115 refl refl (λ same. absurd (omega arith)) e)
same_mode Plain Plain e = refl
same_mode Plain Check e = absurd (other_start _ _ 112 99 refl refl (λ same. absurd (omega arith)) e)
same_mode Plain Bench e = absurd (other_start _ _ 112 98 refl refl (λ same. absurd (omega arith)) e)
same_mode Check Serve e = absurd (other_start _ _ 99 115 refl refl (λ same. absurd (omega arith)) e)
same_mode Check Plain e = absurd (other_start _ _ 99 112 refl refl (λ same. absurd (omega arith)) e)
same_mode Check Check e = refl
same_mode Check Bench e = absurd (other_start _ _ 99 98 refl refl (λ same. absurd (omega arith)) e)
same_mode Bench Serve e = absurd (other_start _ _ 98 115 refl refl (λ same. absurd (omega arith)) e)
same_mode Bench Plain e = absurd (other_start _ _ 98 112 refl refl (λ same. absurd (omega arith)) e)
same_mode Bench Check e = absurd (other_start _ _ 98 99 refl refl (λ same. absurd (omega arith)) e)
same_mode Bench Bench e = refl

same_number : (o : Option ℕ) (m n : ℕ) → o ≡ Some m → o ≡ Some n → m ≡ n
same_number o m n e f = ap (λ (x : Option ℕ). unwrap_or x 0) (sym e ∙ f)

pub ask_for_one : AskForOne
ask_for_one words s t h g =
    let mode = same_mode s.mode t.mode (ap (λ (x : Option Text). unwrap_or x []) (sym h.mode ∙ g.mode)) in
    λ i. record {
      mode = mode i;
      workers = same_number _ s.workers t.workers h.workers g.workers i;
      seed = same_number _ s.seed t.seed h.seed g.seed i;
      people = same_number _ s.people t.people h.people g.people i;
    }
