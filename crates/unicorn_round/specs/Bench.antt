-- What `bench` keeps from round to round, and how it ends.
use Rattle.std.specs.Prelude.{ℕ, Bool, true, false, ◌≡◌, ◌&&◌, List, [], Option}
use Rattle.std.specs.List.{AllByRecursion, list_any}
use Rattle.reply_text.specs.declared.answer.Answer.{Answer}
use Rattle.reply_text.specs.declared.answer.Answer.TheVariants as answer
use Rattle.script_rounds.specs.Entries.{Entry}
use Rattle.script_rounds.specs.Terms.{Terms}
use Rattle.script_rounds.specs.declared.item.Item.{Item}
use Rattle.script_rounds.specs.declared.item.Item.TheVariants as item
use Rattle.unicorn_round.specs.Counts.{IsApart, counts_of, summary}
use Rattle.unicorn_round.specs.Service.{HasServed, IsReady, service_terms}
use Rattle.unicorn_round.specs.Writing.{Took, TookPart}
use Rattle.unicorn_round.specs.declared.counter.Counter.{Counter}
use Rattle.unicorn_round.specs.declared.status.Status.{Status}
use Rattle.unicorn_round.specs.declared.status.Status.TheVariants as ends

-- whether an item publishes, and whether it asks or may: an `ask` whose query found no memory is no longer known as one
abbrev pub publishes : Item → Bool
publishes (item.Publish line) = true
publishes other = false

abbrev pub may_ask : Item → Bool
may_ask (item.Ask line viewer session limit query) = true
may_ask (item.Memory line) = true
may_ask other = false

-- whether the items of a round may both publish and ask
abbrev pub is_mixed : List Item → Bool
is_mixed items = list_any publishes items && list_any may_ask items

-- whether an answer says that memory was wanting
abbrev pub is_lacking : Answer → Bool
is_lacking (answer.Memory line) = true
is_lacking other = false

-- the limits and the schema of its script
abbrev pub counter_terms : Counter → Terms
counter_terms counter = service_terms counter.service

-- it may go on
abbrev pub IsCounting : Counter → ℕ → Type 0
IsCounting counter lines = IsReady counter.service lines

-- It stands behind rounds that do not both publish and ask: it has counted all their answers, none of which lacks
-- memory, and writes nothing of them.
pub record CounterStands (counter : Counter) (rounds : List (List Entry)) (text : List ℕ) : Type 0 where
  pub silent : text ≡ []
  pub said : List Answer
  pub served : HasServed counter.service rounds said
  pub counted : counter.counts ≡ counts_of said
  pub whole : list_any is_lacking said ≡ false
  pub apart : AllByRecursion IsApart rounds

-- what is said of the text of rounds: there is none
abbrev pub SaysNothing : Terms → List (List Entry) → List ℕ → Type 0
SaysNothing terms rounds text = text ≡ []

-- How `bench` ends: it wrote the summary, or a part of it where a write failed, or nothing for want of memory.
abbrev pub BenchEnds : ℕ → ℕ → Option (List ℕ) → Option (List ℕ) → Status → Type 0
BenchEnds seed people before after ends.Done = Took before (summary seed people) after
BenchEnds seed people before after ends.WriteFault = TookPart before (summary seed people) after
BenchEnds seed people before after ends.Memory = after ≡ before
BenchEnds seed people before after status = ⊥
