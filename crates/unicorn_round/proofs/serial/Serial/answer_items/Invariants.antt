-- the items so far were answered
use Rattle.std.proofs.Common.{◌≡◌, List, take}
use Rattle.script_rounds.specs.Entries.{Entry, AreItemsOf}
use Rattle.unicorn_round.specs.Answers.{Standing}
use Rattle.unicorn_round.specs.SerialState.{AllAnswered, StandsFor}
use Rattle.unicorn_round.proofs.serial.Serial.answer_items.Given as goal

abbrev pub invariant-loop-item : goal.invariant-loop-item
invariant-loop-item l = record {
  terms : l.self.terms ≡ l.fn.self.terms;
  answered : (entries : List Entry) (s : Standing) → AreItemsOf entries (take l.item-index l.items) → StandsFor l.fn.self s
      → AllAnswered l.fn.self.terms s entries l.self l.answers.items;
}
