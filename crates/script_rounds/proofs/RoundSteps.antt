-- Rounds, line by line.
use Rattle.std.proofs.lemmas.Bool.{or_parts}
use Rattle.std.proofs.Common.{◌≡◌, ℕ, ◌+◌, ◌<◌, ◌≤◌, true, false, List, [], ◌∷◌, ◌++◌, length, take, cond, sym, ◌∙◌, ap, refl, arith, append-nil, zero-add, length-append}
use Rattle.std.specs.Prelude.{count_by}
use Rattle.std.specs.List.{list_any}
use Rattle.std.proofs.lemmas.List.{append_assoc}
use Rattle.script_rounds.specs.Entries.{Entry}
use Rattle.script_rounds.specs.Lines.{cut}
use Rattle.script_rounds.specs.Roles.{Role, go, skipped, counted, role_of, is_go}
use Rattle.script_rounds.specs.Rounds.{counted_after, in_front, rounds_from, closed_from, entry_in, entries_from}
use Rattle.script_rounds.specs.Terms.{Terms}
use Rattle.script_rounds.proofs.RoleSteps.{is_end, is_end-role_of, role_of-cut, count_by-cut, count_by-cons}

-- the end of a round is all that is in front of the others
in_front-end : (role : Role) (rounds : List (List Entry)) → is_end role ≡ true → in_front role rounds ≡ [] ∷ rounds
in_front-end go rounds e = refl
in_front-end skipped rounds e = cc
in_front-end (counted entry) rounds e = cc

-- another line stands in the first of them
in_front-first : (role : Role) (round : List Entry) (rounds : List (List Entry)) → is_end role ≡ false → in_front role (round ∷ rounds) ≡ (entry_in role ++ round) ∷ rounds
in_front-first go round rounds e = cc
in_front-first skipped round rounds e = refl
in_front-first (counted entry) round rounds e = refl

-- or begins one
in_front-none : (role : Role) → is_end role ≡ false → in_front role [] ≡ (entry_in role ++ []) ∷ []
in_front-none go e = cc
in_front-none skipped e = refl
in_front-none (counted entry) e = refl

-- `go` begins the count anew
counted_after-end : (before : ℕ) (role : Role) → is_end role ≡ true → counted_after before role ≡ 0
counted_after-end before go e = refl
counted_after-end before skipped e = cc
counted_after-end before (counted entry) e = cc

-- and else each entry counts
pub counted_after-within : (before : ℕ) (role : Role) → is_end role ≡ false → counted_after before role ≡ before + length (entry_in role)
counted_after-within before go e = cc
counted_after-within before skipped e = omega arith
counted_after-within before (counted entry) e = refl

pub length-entry_in : (role : Role) → length (entry_in role) ≤ 1
length-entry_in go = omega arith
length-entry_in skipped = omega arith
length-entry_in (counted entry) = omega arith

module _ (terms : Terms) where
  -- a round that `go` ends
  pub rounds_from-go : (number before : ℕ) (seen rest : List (List ℕ)) (line : List ℕ) → list_any is_go seen ≡ false → is_go line ≡ true
      → rounds_from terms number before (seen ++ line ∷ rest) ≡ entries_from terms number before seen ∷ rounds_from terms (number + length seen + 1) 0 rest
  rounds_from-go number before [] rest line clear goes =
      let ends : is_end (role_of terms number before line) ≡ true = is_end-role_of terms number before line ∙ goes in
      let same : number + 1 ≡ number + 0 + 1 = omega arith in
      in_front-end (role_of terms number before line) _ ends
      ∙ ap (λ n. [] ∷ rounds_from terms (number + 1) n rest) (counted_after-end before (role_of terms number before line) ends)
      ∙ ap (λ n. [] ∷ rounds_from terms n 0 rest) same
  rounds_from-go number before (first ∷ seen) rest line clear goes =
      let parts = or_parts (is_go first) (list_any is_go seen) clear in
      let role : Role = role_of terms number before first in
      let same : number + 1 + length seen + 1 ≡ number + length (first ∷ seen) + 1 = omega arith in
      ap (in_front role) (rounds_from-go (number + 1) (counted_after before role) seen rest line parts.1 goes)
      ∙ in_front-first role _ _ (is_end-role_of terms number before first ∙ parts.0)
      ∙ ap (λ n. entries_from terms number before (first ∷ seen) ∷ rounds_from terms n 0 rest) same

  -- a last round that the lines end
  pub rounds_from-last : (number before : ℕ) (first : List ℕ) (seen : List (List ℕ)) → list_any is_go (first ∷ seen) ≡ false
      → rounds_from terms number before (first ∷ seen) ≡ entries_from terms number before (first ∷ seen) ∷ []
  rounds_from-last number before first [] clear =
      let parts = or_parts (is_go first) false clear in
      in_front-none (role_of terms number before first) (is_end-role_of terms number before first ∙ parts.0)
  rounds_from-last number before first (second ∷ seen) clear =
      let parts = or_parts (is_go first) (list_any is_go (second ∷ seen)) clear in
      let role : Role = role_of terms number before first in
      ap (in_front role) (rounds_from-last (number + 1) (counted_after before role) second seen parts.1)
      ∙ in_front-first role _ _ (is_end-role_of terms number before first ∙ parts.0)

  -- one line more
  pub entries_from-append : (number before : ℕ) (seen : List (List ℕ)) (line : List ℕ) → list_any is_go seen ≡ false
      → entries_from terms number before (seen ++ line ∷ [])
      ≡ entries_from terms number before seen ++ entry_in (role_of terms (number + length seen) (before + length (entries_from terms number before seen)) line)
  entries_from-append number before [] line clear =
      let number_is : number ≡ number + 0 = omega arith in
      let before_is : before ≡ before + 0 = omega arith in
      append-nil (entry_in (role_of terms number before line))
      ∙ ap (λ n. entry_in (role_of terms n before line)) number_is
      ∙ ap (λ n. entry_in (role_of terms (number + 0) n line)) before_is
  entries_from-append number before (first ∷ seen) line clear =
      let parts = or_parts (is_go first) (list_any is_go seen) clear in
      let role : Role = role_of terms number before first in
      let later : ℕ = counted_after before role in
      let entries : List Entry = entries_from terms (number + 1) later seen in
      let counts : later ≡ before + length (entry_in role) = counted_after-within before role (is_end-role_of terms number before first ∙ parts.0) in
      let number_is : number + 1 + length seen ≡ number + length (first ∷ seen) = omega arith in
      let before_is : later + length entries ≡ before + length (entry_in role ++ entries) = omega (arith, counts, length-append (entry_in role) entries) in
      ap (λ es. entry_in role ++ es) (entries_from-append (number + 1) later seen line parts.1)
      ∙ sym (append_assoc (entry_in role) entries (entry_in (role_of terms (number + 1 + length seen) (later + length entries) line)))
      ∙ ap (λ n. entry_in role ++ entries ++ entry_in (role_of terms n (later + length entries) line)) number_is
      ∙ ap (λ n. entry_in role ++ entries ++ entry_in (role_of terms (number + length (first ∷ seen)) n line)) before_is

  -- lines of which enough is kept have the same rounds
  pub rounds_from-cut : (kept : ℕ) → terms.limits.line < kept → 3 ≤ kept → (number before : ℕ) (lines : List (List ℕ))
      → rounds_from terms number before (cut kept lines) ≡ rounds_from terms number before lines
  rounds_from-cut kept long enough number before [] = refl
  rounds_from-cut kept long enough number before (line ∷ lines) =
      let role : Role = role_of terms number before line in
      ap (λ (r : Role). in_front r (rounds_from terms (number + 1) (counted_after before r) (cut kept lines))) (role_of-cut terms number before kept line long enough)
      ∙ ap (in_front role) (rounds_from-cut kept long enough (number + 1) (counted_after before role) lines)

  pub closed_from-cut : (kept : ℕ) → terms.limits.line < kept → 3 ≤ kept → (number before : ℕ) (lines : List (List ℕ))
      → closed_from terms number before (cut kept lines) ≡ closed_from terms number before lines
  closed_from-cut kept long enough number before lines =
      ap (λ n. take n (rounds_from terms number before (cut kept lines))) (count_by-cut kept lines enough)
      ∙ ap (take (count_by is_go lines)) (rounds_from-cut kept long enough number before lines)

-- no `go` is counted where there is none
pub count_by-clear : (seen : List (List ℕ)) → list_any is_go seen ≡ false → count_by is_go seen ≡ 0
count_by-clear [] clear = refl
count_by-clear (line ∷ seen) clear =
    let parts = or_parts (is_go line) (list_any is_go seen) clear in
    count_by-cons line seen ∙ ap (λ b. cond b 1 0 + count_by is_go seen) parts.0 ∙ zero-add (count_by is_go seen) ∙ count_by-clear seen parts.1

-- and one at the end of some lines
pub count_by-go : (seen rest : List (List ℕ)) (line : List ℕ) → list_any is_go seen ≡ false → is_go line ≡ true → count_by is_go (seen ++ line ∷ rest) ≡ 1 + count_by is_go rest
count_by-go [] rest line clear goes = count_by-cons line rest ∙ ap (λ b. cond b 1 0 + count_by is_go rest) goes
count_by-go (first ∷ seen) rest line clear goes =
    let parts = or_parts (is_go first) (list_any is_go seen) clear in
    count_by-cons first (seen ++ line ∷ rest)
    ∙ ap (λ b. cond b 1 0 + count_by is_go (seen ++ line ∷ rest)) parts.0
    ∙ zero-add (count_by is_go (seen ++ line ∷ rest))
    ∙ count_by-go seen rest line parts.1 goes

pub clear_more : (lines : List (List ℕ)) (line : List ℕ) → list_any is_go lines ≡ false → is_go line ≡ false → list_any is_go (lines ++ line ∷ []) ≡ false
clear_more [] line so here = rw here refl
clear_more (first ∷ lines) line so here =
    let parts = or_parts (is_go first) (list_any is_go lines) so in
    rw (parts.0, clear_more lines line parts.1 here) refl
