-- What asks are answered.
use Rattle.std.specs.Prelude.{ℕ, ◌≡◌, ◌≤◌, List, [], ◌∷◌, length, ⊤}
use Rattle.uni_schema.specs.Schema.{Declarations}
use Rattle.uni_table.specs.declared.command.Command.{Command}
use Rattle.uni_table.specs.Journals.{fold_of, first}
use Rattle.query_check.specs.Plan.{seen, stated_of}
use Rattle.uni_meaning.specs.Replies.{reply_of}
use Rattle.apply_extract.specs.Conditions.{IsAsked}
use Rattle.reply_text.specs.declared.answer.Answer.{Answer}
use Rattle.reply_text.specs.declared.answer.Answer.TheVariants.{Reply, Memory}
use Rattle.session_asks.specs.declared.asks.AskLine.{AskLine}

-- the query of an ask is typed under a schema
abbrev pub IsAsk : Declarations → AskLine → Type 0
IsAsk schema ask = IsAsked schema (seen ask.query)

-- the reply to an ask over the table after the first batches of a journal, as many as the number says
abbrev pub reply_at : Declarations → List (List Command) → AskLine → ℕ → Answer
reply_at schema journal ask number =
    Reply ask.line (reply_of schema (fold_of schema (first journal number)) number (stated_of ask.query).plan ask.viewer ask.limit)

-- Each ask has one answer, in order: a reply at a number of publishes of the journal, or that memory was
-- wanting. No number is below one before it or below the low one, and none is above the journal's length.
abbrev pub AreReplied : Declarations → List (List Command) → ℕ → List AskLine → List Answer → Type 0
AreReplied schema journal low [] [] = ⊤
AreReplied schema journal low (ask ∷ asks) (Reply line reply ∷ answers) =
    (low ≤ reply.publishes) × (reply.publishes ≤ length journal) × (Reply line reply ≡ reply_at schema journal ask reply.publishes)
    × AreReplied schema journal reply.publishes asks answers
AreReplied schema journal low (ask ∷ asks) (Memory line ∷ answers) = (line ≡ ask.line) × AreReplied schema journal low asks answers
AreReplied schema journal low asks answers = ⊥
