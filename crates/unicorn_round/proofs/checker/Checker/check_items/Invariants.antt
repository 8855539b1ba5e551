-- the items so far were checked
use Rattle.std.proofs.Common.{◌≡◌, List, take}
use Rattle.script_rounds.specs.Entries.{Entry, AreItemsOf}
use Rattle.unicorn_round.specs.Answers.{Standing}
use Rattle.unicorn_round.specs.CheckState.{ChecksFor, EntriesChecked}
use Rattle.unicorn_round.proofs.checker.Checker.check_items.Given as goal

abbrev pub invariant-loop-item : goal.invariant-loop-item
invariant-loop-item l = record {
  terms : l.self.terms ≡ l.fn.self.terms;
  checked : (entries : List Entry) (s : Standing) → AreItemsOf entries (take l.item-index l.items) → ChecksFor l.fn.self s
      → EntriesChecked l.fn.self.terms s entries l.self l.text;
}
