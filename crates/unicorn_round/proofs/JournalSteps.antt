-- Journals and batches, and one more command or batch.
use Rattle.std.proofs.Common.{◌≡◌, ◌+◌, ◌&&◌, ℕ, Bool, true, false, not, List, [], ◌∷◌, ◌++◌, length, None, is_some, refl, ap, sym, ◌∙◌, arith, append-nil}
use Rattle.std.proofs.Math.Seq.{take-append_seam}
use Rattle.std.proofs.lemmas.List.{append_assoc}
use Rattle.uni_base.specs.declared.limits.Limits.{Limits}
use Rattle.uni_schema.specs.Schema.{Declarations}
use Rattle.uni_table.specs.declared.command.Command.{Command}
use Rattle.uni_table.specs.Commands.{next, refuses}
use Rattle.uni_table.specs.Contents.{Contents, empty}
use Rattle.uni_table.specs.Journals.{after_commands, after_batch, after_batches, fold_of, first, accepts_commands, accepts_batches}
use Rattle.unicorn_round.specs.SerialState.{IsLater}

pub after_commands-snoc : (schema : Declarations) (table : Contents) (commands : List Command) (command : Command)
    → after_commands schema table (commands ++ command ∷ []) ≡ next schema (after_commands schema table commands) command
after_commands-snoc schema table [] command = refl
after_commands-snoc schema table (c ∷ commands) command = after_commands-snoc schema (next schema table c) commands command

both : (a b : Bool) → (a && b) ≡ true → (a ≡ true) × (b ≡ true)
both true b is = (refl, is)
both false b is = absurd cc

pub accepts_commands-snoc : (schema : Declarations) (limits : Limits) (table : Contents) (commands : List Command) (command : Command)
    → accepts_commands schema limits table commands ≡ true → refuses schema limits (after_commands schema table commands) command ≡ None
    → accepts_commands schema limits table (commands ++ command ∷ []) ≡ true
accepts_commands-snoc schema limits table [] command all one = ap (λ r. not (is_some r) && true) one
accepts_commands-snoc schema limits table (c ∷ commands) command all one =
    let parts = both (not (is_some (refuses schema limits table c))) (accepts_commands schema limits (next schema table c) commands) all in
    ap (λ b. b && accepts_commands schema limits (next schema table c) (commands ++ command ∷ [])) parts.0
    ∙ accepts_commands-snoc schema limits (next schema table c) commands command parts.1 one

pub accepts_batches-snoc : (schema : Declarations) (limits : Limits) (table : Contents) (made : ℕ) (journal : List (List Command)) (batch : List Command)
    → accepts_batches schema limits table made journal ≡ true → accepts_commands schema limits (after_batches schema table made journal) batch ≡ true
    → accepts_batches schema limits table made (journal ++ batch ∷ []) ≡ true
accepts_batches-snoc schema limits table made [] batch all one = ap (λ b. b && true) one
accepts_batches-snoc schema limits table made (b ∷ journal) batch all one =
    let parts = both (accepts_commands schema limits table b) (accepts_batches schema limits (after_batch schema table (made + 1) b) (made + 1) journal) all in
    ap (λ c. c && accepts_batches schema limits (after_batch schema table (made + 1) b) (made + 1) (journal ++ batch ∷ [])) parts.0
    ∙ accepts_batches-snoc schema limits (after_batch schema table (made + 1) b) (made + 1) journal batch parts.1 one

after_batches-snoc : (schema : Declarations) (table : Contents) (made : ℕ) (journal : List (List Command)) (batch : List Command)
    → after_batches schema table made (journal ++ batch ∷ []) ≡ after_batch schema (after_batches schema table made journal) (made + length journal + 1) batch
after_batches-snoc schema table made [] batch = ap (λ n. after_batch schema table n batch) (let same : made + 1 ≡ made + 0 + 1 = omega arith in same)
after_batches-snoc schema table made (b ∷ journal) batch =
    after_batches-snoc schema (after_batch schema table (made + 1) b) (made + 1) journal batch
    ∙ ap (λ n. after_batch schema (after_batches schema (after_batch schema table (made + 1) b) (made + 1) journal) n batch)
    (let same : made + 1 + length journal + 1 ≡ made + length (b ∷ journal) + 1 = omega arith in same)

pub fold_of-snoc : (schema : Declarations) (journal : List (List Command)) (batch : List Command)
    → fold_of schema (journal ++ batch ∷ []) ≡ after_batch schema (fold_of schema journal) (length journal + 1) batch
fold_of-snoc schema journal batch =
    after_batches-snoc schema empty 0 journal batch
    ∙ ap (λ n. after_batch schema (fold_of schema journal) n batch) (let same : 0 + length journal + 1 ≡ length journal + 1 = omega arith in same)

-- the first batches of a later journal are those of the journal
pub first-later : (before after : List (List Command)) → IsLater before after → first after (length before) ≡ before
first-later before after later = ap (λ j. first j (length before)) later.1 ∙ take-append_seam before later.0

pub later-refl : (journal : List (List Command)) → IsLater journal journal
later-refl journal = ([], sym (append-nil journal))

pub later-trans : (one two three : List (List Command)) → IsLater one two → IsLater two three → IsLater one three
later-trans one two three p q = (p.0 ++ q.0, q.1 ∙ ap (λ j. j ++ q.0) p.1 ∙ append_assoc one p.0 q.0)
