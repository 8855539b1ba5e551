-- Runs that end before anything is read.
use Rattle.std.proofs.Common.{ℕ, List, [], false, Option, None, Some, refl, arith}
use Rattle.uni_base.specs.StandardLimits.{standard_limits}
use Rattle.uni_base.specs.declared.limits.Limits.{Limits}
use Rattle.script_rounds.specs.Reading.{Gave}
use Rattle.script_rounds.specs.Terms.{Terms}
use Rattle.unicorn_round.specs.declared.status.Status.TheVariants as ends
use Rattle.unicorn_round.specs.Outcome.{Claim, Ran, script_so_far}
use Rattle.unicorn_round.specs.CheckLaws.{check_nothing}
use Rattle.unicorn_round.specs.SerialLaws.{plain_nothing}
use Rattle.unicorn_round.specs.Checking.{checked_line}
use Rattle.unicorn_round.specs.Modes.{AnswersPlainly, Checks, Serves, nothing_more}
use Rattle.unicorn_round.specs.Usage.{RanAs}
use Rattle.unicorn_round.proofs.RanSteps.{none_answered, took_none}
use Rattle.unicorn_round.proofs.PlainMayServe.{plain_serves}
use Rattle.unicorn_words.specs.declared.words.Mode.{Mode}
use Rattle.unicorn_words.specs.declared.words.Mode.TheVariants.{Serve, Plain, Check, Bench}

gave_none : (left : Option (List ℕ)) → Gave left [] left
gave_none None = refl
gave_none (Some bytes) = (bytes, refl, refl)

-- no round was answered, for want of memory
ran_none : (limits : Limits) (says : Claim) (closing : ℕ → List ℕ) → ((of : Terms) → says of [] []) → (left taken : Option (List ℕ)) → Ran limits says closing left left taken taken ends.Memory
ran_none limits says closing nothing left taken = record {
  bytes = [];
  gave = gave_none left;
  ended = false;
  none_left = λ e. absurd cc;
  ends = ([], none_answered limits says nothing (script_so_far limits false []), took_none taken);
  too_long = λ e. absurd cc;
  in_limit = λ past. absurd (omega (arith, past));
}

-- memory was wanting at once, in any mode
pub ran_at_once : (mode : Mode) (seed people : ℕ) (left taken : Option (List ℕ)) → RanAs mode seed people left left taken taken ends.Memory
ran_at_once Serve seed people left taken = ran_none standard_limits Serves nothing_more (λ of. plain_serves of [] [] (plain_nothing of)) left taken
ran_at_once Plain seed people left taken = ran_none standard_limits AnswersPlainly nothing_more plain_nothing left taken
ran_at_once Check seed people left taken = ran_none standard_limits Checks checked_line check_nothing left taken
ran_at_once Bench seed people left taken = (refl, refl)
