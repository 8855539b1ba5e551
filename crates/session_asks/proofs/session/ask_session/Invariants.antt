use Rattle.std.proofs.Common.{take}
use Rattle.session_asks.specs.Seats.{HasTaken, IsReplied}
use Rattle.version_catalog.specs.Seats.{settings_of}
use Rattle.session_asks.proofs.session.ask_session.Given as goal

abbrev pub invariant-loop-ask : goal.invariant-loop-ask
invariant-loop-ask g l = record {
  taken : HasTaken l.catalogue l.ask-index l.fn.session l.session;
  replied : IsReplied (settings_of l.catalogue).schema l.fn.session l.session (take l.ask-index l.ask-items) l.answers;
}
