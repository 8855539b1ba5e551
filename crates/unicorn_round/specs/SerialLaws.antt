-- What answering line by line says of its text.
use Rattle.std.specs.Prelude.{ℕ, List, []}
use Rattle.std.proofs.Common.{refl}
use Rattle.script_rounds.specs.Entries.{Entry}
use Rattle.script_rounds.specs.Terms.{Terms}
use Rattle.unicorn_round.specs.Modes.{AnswersPlainly}
use Rattle.unicorn_round.specs.SerialState.{SerialState, RoundsAnswered}

pub plain_claimed : (serving : SerialState) (rounds : List (List Entry)) (text : List ℕ) → RoundsAnswered serving.terms rounds serving text → AnswersPlainly serving.terms rounds text
plain_claimed serving rounds text a = record { lacks = a.lacks; told = a.told; is = a.is; is_record = a.is_record; writes = a.writes }

pub plain_nothing : (of : Terms) → AnswersPlainly of [] []
plain_nothing of = record { lacks = []; told = []; is = refl; is_record = tt; writes = refl }
