-- How a run ends.
use Rattle.std.specs.Prelude.{ℕ, ◌≡◌}
use Rattle.uni_base.specs.Streams.{Rose}
use Rattle.script_rounds.specs.declared.lines.ScriptRefusal.{ScriptRefusal}
use Rattle.script_rounds.specs.declared.lines.ScriptRefusal.TheVariants.{ReadFault, TooLong, Memory}
use Rattle.unicorn_round.specs.declared.status.Status.{Status}
use Rattle.unicorn_round.specs.declared.status.Status.TheVariants as ends

-- the number that the program ends with
abbrev pub number_of_status : Status → ℕ
number_of_status ends.Done = 0
number_of_status ends.Usage = 2
number_of_status ends.Schema = 3
number_of_status ends.ReadFault = 4
number_of_status ends.WriteFault = 5
number_of_status ends.TooLong = 6
number_of_status ends.Memory = 7

-- the status of a run whose script could not be read to its end
abbrev pub status_of : ScriptRefusal → Status
status_of ReadFault = ends.ReadFault
status_of (TooLong count) = ends.TooLong
status_of Memory = ends.Memory

-- the source's count of faults rose where a read failed, and is as it was under every other status
abbrev pub ReadFaultsFit : Status → ℕ → ℕ → Type 0
ReadFaultsFit ends.ReadFault before after = Rose before after
ReadFaultsFit status before after = after ≡ before

-- the sink's count of faults rose where a write failed, and is as it was under every other status
abbrev pub WriteFaultsFit : Status → ℕ → ℕ → Type 0
WriteFaultsFit ends.WriteFault before after = Rose before after
WriteFaultsFit status before after = after ≡ before
