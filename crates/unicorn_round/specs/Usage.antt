-- The modes of the program, and what is written for words that it does not take.
use Rattle.std.specs.Prelude.{ℕ, ◌≡◌, List, Option, codes}
use Rattle.uni_base.specs.StandardLimits.{standard_limits}
use Rattle.unicorn_words.specs.declared.words.Mode.{Mode}
use Rattle.unicorn_words.specs.declared.words.Mode.TheVariants.{Serve, Plain, Check, Bench}
use Rattle.unicorn_round.specs.declared.status.Status.{Status}
use Rattle.unicorn_round.specs.declared.status.Status.TheVariants as ends
use Rattle.unicorn_round.specs.Bench.{BenchEnds}
use Rattle.unicorn_round.specs.Checking.{checked_line}
use Rattle.unicorn_round.specs.Modes.{AnswersPlainly, Checks, Serves, nothing_more}
use Rattle.unicorn_round.specs.Outcome.{Ran}
use Rattle.unicorn_round.specs.Writing.{Took, TookPart}

-- How a run in a mode ends, by what its source has left and its sink has taken. `serve`, `plain` and `check` answer
-- the script that the source gives, each as its claim says. `bench` answers one of its own.
abbrev pub RanAs : Mode → ℕ → ℕ → Option (List ℕ) → Option (List ℕ) → Option (List ℕ) → Option (List ℕ) → Status → Type 0
RanAs Serve seed people left left_after taken taken_after status = Ran standard_limits Serves nothing_more left left_after taken taken_after status
RanAs Plain seed people left left_after taken taken_after status = Ran standard_limits AnswersPlainly nothing_more left left_after taken taken_after status
RanAs Check seed people left left_after taken taken_after status = Ran standard_limits Checks checked_line left left_after taken taken_after status
RanAs Bench seed people left left_after taken taken_after status = (left_after ≡ left) × BenchEnds seed people taken taken_after status

-- the usage line, with its LF
abbrev pub usage_line : List ℕ
usage_line = codes "usage: unicorn MODE [--workers N] [--seed N] [--people N]\n"

-- how a run with other words ends, and what it then wrote: the line, a part of it, or nothing for want of
-- memory
abbrev pub EndsForWords : Option (List ℕ) → Option (List ℕ) → Status → Type 0
EndsForWords before after ends.Usage = Took before usage_line after
EndsForWords before after ends.WriteFault = TookPart before usage_line after
EndsForWords before after ends.Memory = after ≡ before
EndsForWords before after status = ⊥
