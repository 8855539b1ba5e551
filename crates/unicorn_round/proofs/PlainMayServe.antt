-- What is answered line by line is answered as a service may.
use Rattle.std.proofs.Common.{ℕ, List, sym, subst}
use Rattle.script_rounds.specs.Entries.{Entry}
use Rattle.script_rounds.specs.Terms.{Terms}
use Rattle.unicorn_round.specs.Laws.{PlainMayServe}
use Rattle.unicorn_round.specs.Legal.{Legal}
use Rattle.unicorn_round.specs.Modes.{Serves, AnswersPlainly}
use Rattle.unicorn_round.specs.Records.{IsRecord}
use Rattle.unicorn_round.proofs.PlainLegal.{plain_is_legal}

pub plain_serves : (of : Terms) (rounds : List (List Entry)) (text : List ℕ) → AnswersPlainly of rounds text → Serves of rounds text
plain_serves of rounds text a = record {
  told = a.told;
  is_record = a.is_record;
  legal = subst (Legal of rounds) (sym a.is) (plain_is_legal of rounds a.lacks (subst (IsRecord of rounds) a.is a.is_record));
  writes = a.writes;
}

pub plain_may_serve : PlainMayServe
plain_may_serve = record { serves = plain_serves }
