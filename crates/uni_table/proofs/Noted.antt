-- What is noted of sources at their ids.
use Rattle.std.proofs.Common.{◌≡◌, ℕ, ◌+◌, ◌-◌, ◌<◌, ◌==◌, ◌&&◌, not, nat_lt, Bool, true, false, List, get_or, set, length, if◌then◌else◌, refl, sym, ap, ◌∙◌, arith}
use Rattle.std.proofs.lemmas.Bool.Decides.{nat_tests}
use Rattle.std.proofs.lemmas.List.{get_or-set_same, get_or-set_other}
use Rattle.uni_base.specs.declared.edge.Key.TheVariants.{Id}
use Rattle.uni_table.specs.GraphKeys.{is_noted_at}

-- a number that is written at the place of an id is noted there
pub noted : (old new : List ℕ) (ids id at number : ℕ) → at ≡ id - 1 → at < ids → (number ≡ 4294967295 → ⊥) → at < length new
    → ((place : ℕ) → get_or new place 0 ≡ get_or old place 0)
    → (place : ℕ) → get_or (set new at (number + 1)) place 0 ≡ (if is_noted_at ids (Id id) number place then number + 1 else get_or old place 0)
noted old new ids id at number that few small inside same place = by (place == id - 1) refl
  where
    apart : (n : ℕ) → (n ≡ 4294967295 → ⊥) → (n == 4294967295) ≡ false
    apart n h = grind (arith, nat_tests)

    by : (here : Bool) → (place == id - 1) ≡ here → get_or (set new at (number + 1)) place 0 ≡ (if is_noted_at ids (Id id) number place then number + 1 else get_or old place 0)
    by true is =
        let there : place ≡ at = grind (arith, nat_tests) in
        let within : nat_lt place ids ≡ true = grind (arith, nat_tests) in
        let yes : is_noted_at ids (Id id) number place ≡ true = λ i. is i && (within i && not (apart number small i)) in
        ap (λ p. get_or (set new at (number + 1)) p 0) there ∙ get_or-set_same new at (number + 1) 0 inside
        ∙ sym (ap (λ b. if b then number + 1 else get_or old place 0) yes)
    by false is =
        let other : place ≡ at → ⊥ = λ there. grind (arith, nat_tests) in
        let no : is_noted_at ids (Id id) number place ≡ false = λ i. is i && (nat_lt place ids && not (number == 4294967295)) in
        get_or-set_other new at place (number + 1) 0 other ∙ same place ∙ sym (ap (λ b. if b then number + 1 else get_or old place 0) no)
