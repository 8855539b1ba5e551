-- What checking line by line says of its text.
use Rattle.std.specs.Prelude.{ℕ, List, []}
use Rattle.std.proofs.Common.{refl}
use Rattle.script_rounds.specs.Entries.{Entry}
use Rattle.script_rounds.specs.Terms.{Terms}
use Rattle.unicorn_round.specs.CheckState.{CheckState, RoundsChecked}
use Rattle.unicorn_round.specs.Modes.{Checks}

pub check_claimed : (state : CheckState) (rounds : List (List Entry)) (text : List ℕ) → RoundsChecked state.terms rounds state text → Checks state.terms rounds text
check_claimed state rounds text a = record { lacks = a.lacks; told = a.told; is = a.is; is_record = a.is_record; writes = a.writes }

pub check_nothing : (of : Terms) → Checks of [] []
check_nothing of = record { lacks = []; told = []; is = refl; is_record = tt; writes = refl }
