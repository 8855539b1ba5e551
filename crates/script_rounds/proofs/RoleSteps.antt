-- What lines are, case by case.
use Rattle.std.proofs.lemmas.Bool.Decides.{nat_tests}
use Rattle.std.proofs.lemmas.List.{take_all, length-take}
use Rattle.std.proofs.lemmas.List.Sums.{sum_by-cons}
use Rattle.std.proofs.Common.{◌≡◌, ◌<◌, ◌≤◌, ℕ, zero, suc, Bool, true, false, ◌==◌, ◌&&◌, nat_lt, nat_le, List, [], ◌∷◌, length, take, cond, ◌+◌, refl, sym, ◌∙◌, ap, arith, ◌⊎◌, inl, inr}
use Rattle.std.specs.Prelude.{if◌then◌else◌, count_by}
use Rattle.uni_base.specs.Fields.{is_skipped}
use Rattle.script_rounds.specs.Entries.{Entry, fault}
use Rattle.script_rounds.specs.Lines.{cut}
use Rattle.script_rounds.specs.Roles.{Role, go, skipped, counted, counted_entry, role_of, is_go}
use Rattle.script_rounds.specs.Terms.{Terms}

-- whether a role ends its round
abbrev pub is_end : Role → Bool
is_end go = true
is_end skipped = false
is_end (counted entry) = false

-- a line ends its round exactly where it is `go`
pub is_end-role_of : (terms : Terms) (number before : ℕ) (line : List ℕ) → is_end (role_of terms number before line) ≡ is_go line
unfolding role_of
is_end-role_of terms number before line = by (is_go line) (is_skipped line) (nat_lt terms.limits.round before)
  where
    by : (a b c : Bool) → is_end (if a then go else (if b then skipped else (if c then skipped else counted (counted_entry terms number before line)))) ≡ a
    by true b c = refl
    by false true c = refl
    by false false true = refl
    by false false false = refl

-- a line that is neither `go` nor skipped, and not past the first one too many
pub role_of-counted : (terms : Terms) (number before : ℕ) (line : List ℕ) → is_go line ≡ false → is_skipped line ≡ false → nat_lt terms.limits.round before ≡ false
    → role_of terms number before line ≡ counted (counted_entry terms number before line)
unfolding role_of
role_of-counted terms number before line here kept few = rw (here, kept, few) refl

-- a line of three bytes and more is no `go`
is_go-long : (line : List ℕ) → 3 ≤ length line → is_go line ≡ false
is_go-long [] long = absurd (omega arith)
is_go-long (a ∷ []) long = absurd (omega arith)
is_go-long (a ∷ b ∷ []) long = absurd (omega arith)
is_go-long (a ∷ b ∷ c ∷ line) long = by (a == 103) (b == 111)
  where
    by : (x y : Bool) → (x && (y && false)) ≡ false
    by true true = refl
    by true false = refl
    by false y = refl

pub is_skipped-take : (kept : ℕ) (line : List ℕ) → 0 < kept → is_skipped (take kept line) ≡ is_skipped line
is_skipped-take zero line some = absurd (omega arith)
is_skipped-take (suc kept) [] some = refl
is_skipped-take (suc kept) (c ∷ line) some = refl

pub cases_short : (kept : ℕ) (line : List ℕ) → (length line ≤ kept) ⊎ (kept < length line)
cases_short kept line = by (nat_le (length line) kept) refl
  where
    by : (b : Bool) → nat_le (length line) kept ≡ b → (length line ≤ kept) ⊎ (kept < length line)
    by true e = let h : length line ≤ kept = grind (arith, nat_tests) in inl h
    by false e = let h : kept < length line = grind (arith, nat_tests) in inr h

-- of a line it is enough to see that it is too long
pub is_go-cut : (kept : ℕ) (line : List ℕ) → 3 ≤ kept → is_go (take kept line) ≡ is_go line
is_go-cut kept line enough = by (cases_short kept line)
  where
    by : (length line ≤ kept) ⊎ (kept < length line) → is_go (take kept line) ≡ is_go line
    by (inl short) = ap is_go (take_all kept line short)
    by (inr long) =
        is_go-long (take kept line) (omega (arith, length-take kept line))
        ∙ sym (is_go-long line (omega arith))

counted_entry-long : (terms : Terms) (number before : ℕ) (line : List ℕ) → terms.limits.line < length line → counted_entry terms number before line ≡ fault number 64
counted_entry-long terms number before line long =
    let test : nat_lt terms.limits.line (length line) ≡ true = grind (arith, nat_tests) in
    rw test refl

pub role_of-cut : (terms : Terms) (number before kept : ℕ) (line : List ℕ) → terms.limits.line < kept → 3 ≤ kept
    → role_of terms number before (take kept line) ≡ role_of terms number before line
unfolding role_of
role_of-cut terms number before kept line long enough = by (cases_short kept line)
  where
    by : (length line ≤ kept) ⊎ (kept < length line) → role_of terms number before (take kept line) ≡ role_of terms number before line
    by (inl short) = ap (role_of terms number before) (take_all kept line short)
    by (inr cut) =
        let within : terms.limits.line < length (take kept line) = omega (arith, length-take kept line) in
        let entry : Entry = fault number 64 in
        ap (λ b. if b then go else (if is_skipped (take kept line) then skipped else (if nat_lt terms.limits.round before then skipped else counted (counted_entry terms number before (take kept line)))))
        (is_go-cut kept line enough)
        ∙ ap (λ b. if is_go line then go else (if b then skipped else (if nat_lt terms.limits.round before then skipped else counted (counted_entry terms number before (take kept line)))))
        (is_skipped-take kept line (omega arith))
        ∙ ap (λ e. if is_go line then go else (if is_skipped line then skipped else (if nat_lt terms.limits.round before then skipped else counted e)))
        (counted_entry-long terms number before (take kept line) within ∙ sym (counted_entry-long terms number before line (omega arith)))

-- one line more counts where it is `go`
pub count_by-cons : (line : List ℕ) (lines : List (List ℕ)) → count_by is_go (line ∷ lines) ≡ cond (is_go line) 1 0 + count_by is_go lines
count_by-cons line lines = sum_by-cons (λ l. cond (is_go l) 1 0) line lines

pub count_by-cut : (kept : ℕ) (lines : List (List ℕ)) → 3 ≤ kept → count_by is_go (cut kept lines) ≡ count_by is_go lines
count_by-cut kept [] enough = refl
count_by-cut kept (line ∷ lines) enough =
    count_by-cons (take kept line) (cut kept lines)
    ∙ ap (λ b. cond b 1 0 + count_by is_go (cut kept lines)) (is_go-cut kept line enough)
    ∙ ap (λ n. cond (is_go line) 1 0 + n) (count_by-cut kept lines enough)
    ∙ sym (count_by-cons line lines)
