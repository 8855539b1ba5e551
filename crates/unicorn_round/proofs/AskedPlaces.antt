-- The asks of a round by the places of their sessions.
use Rattle.std.proofs.Common.{Box, Global, ◌≡◌, ◌+◌, ◌==◌, ℕ, Bool, true, false, List, ◌∷◌, drop, Some, None, if◌then◌else◌, refl, ap, sym, subst, arith}
use Rattle.std.specs.List.{cons_option}
use Rattle.std.proofs.lemmas.Bool.Decides.{nat_tests}
use Rattle.query_check.specs.declared.checked.Checked.{Checked}
use Rattle.uni_schema.specs.Schema.{Declarations}
use Rattle.uni_table.specs.declared.command.Command.{Command}
use Rattle.reply_text.specs.declared.answer.Answer.{Answer}
use Rattle.script_rounds.specs.declared.item.Item.{Item}
use Rattle.script_rounds.specs.declared.item.Item.TheVariants.{Ask}
use Rattle.session_asks.specs.declared.asks.AskLine.{AskLine}
use Rattle.session_asks.specs.Replies.{AreReplied}
use Rattle.unicorn_round.specs.Weaving.{asks_at, popped}
use Rattle.unicorn_round.proofs.MarkReading.{replied_rest}

pub same_number : (a b : ℕ) → (a == b) ≡ true → a ≡ b
same_number a b same = grind (arith, nat_tests)

pub same_number-true : (a b : ℕ) → a ≡ b → (a == b) ≡ true
same_number-true a b same = grind (arith, nat_tests)

-- the answers by place without the first one at a place
pub popped-same : (place : ℕ) (asked : ℕ → List Answer) → popped place asked place ≡ drop 1 (asked place)
popped-same place asked = ap (λ b. if b then drop 1 (asked place) else asked place) (same_number-true place place refl)

pub popped-other : (place other : ℕ) (asked : ℕ → List Answer) → (other == place) ≡ false → popped place asked other ≡ asked other
popped-other place other asked apart = ap (λ b. if b then drop 1 (asked other) else asked other) apart

module _ (place line session viewer limit : ℕ) (query : Box Checked Global) (at_place : session ≡ place + 1) where
  abbrev pub ask_line : AskLine
  ask_line = record { line = line; viewer = viewer; limit = limit; query = query.value }

  -- what holds of the session's place and of each other holds of all
  pub by_place : (P : ℕ → Type 0) → P place → ((other : ℕ) → (other == place) ≡ false → (session == other + 1) ≡ false → P other) → (other : ℕ) → P other
  by_place P here there other = by (other == place) refl
    where
      by : (b : Bool) → (other == place) ≡ b → P other
      by true is = subst P (sym (same_number other place is)) here
      by false is = there other is (grind (arith, nat_tests, at_place, is))

  -- an `ask` is of its place alone
  pub asks_at-same : (items : List Item) → asks_at place (Ask line viewer session limit query ∷ items) ≡ ask_line ∷ asks_at place items
  asks_at-same items = ap (λ b. cons_option (if b then Some ask_line else None) (asks_at place items)) (same_number-true session (place + 1) at_place)

  pub asks_at-other : (items : List Item) (other : ℕ) → (session == other + 1) ≡ false → asks_at other (Ask line viewer session limit query ∷ items) ≡ asks_at other items
  asks_at-other items other apart = ap (λ b. cons_option (if b then Some ask_line else None) (asks_at other items)) apart

  module _ (schema : Declarations) (journal : List (List Command)) (low : ℕ) (items : List Item) (asked : ℕ → List Answer) where
    -- the answers of asks, without the first `ask` and its answer
    pub replied_same : AreReplied schema journal low (asks_at place (Ask line viewer session limit query ∷ items)) (asked place)
        → AreReplied schema journal low (ask_line ∷ asks_at place items) (asked place)
    replied_same all = subst (λ asks. AreReplied schema journal low asks (asked place)) (asks_at-same items) all

    pub replied_other : (other : ℕ) → (other == place) ≡ false → (session == other + 1) ≡ false
        → AreReplied schema journal low (asks_at other (Ask line viewer session limit query ∷ items)) (asked other)
        → AreReplied schema journal low (asks_at other items) (popped place asked other)
    replied_other other apart is all =
        subst (AreReplied schema journal low (asks_at other items)) (sym (popped-other place other asked apart))
        (subst (λ asks. AreReplied schema journal low asks (asked other)) (asks_at-other items other is) all)

    pub replied_others : ((other : ℕ) → AreReplied schema journal low (asks_at other (Ask line viewer session limit query ∷ items)) (asked other))
        → (other : ℕ) → AreReplied schema journal low (asks_at other items) (popped place asked other)
    replied_others all =
        by_place (λ other. AreReplied schema journal low (asks_at other items) (popped place asked other))
        (subst (AreReplied schema journal low (asks_at place items)) (sym (popped-same place asked))
        (replied_rest schema journal low ask_line (asks_at place items) (asked place) (replied_same (all place))))
        (λ other apart is. replied_other other apart is (all other))
