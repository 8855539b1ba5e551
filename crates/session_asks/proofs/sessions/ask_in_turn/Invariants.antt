use Rattle.std.proofs.Common.{◌≡◌, take, drop}
use Rattle.session_asks.specs.Seats.{AllHaveTaken, AllReplied}
use Rattle.version_catalog.specs.Seats.{settings_of}
use Rattle.session_asks.proofs.sessions.ask_in_turn.Given as goal

abbrev pub invariant-loop-place : goal.invariant-loop-place
invariant-loop-place g l = record {
  taken : AllHaveTaken l.catalogue l.fn.sessions l.sessions l.asks;
  rest : drop l.place l.sessions ≡ drop l.place l.fn.sessions;
  replied : AllReplied (settings_of l.catalogue).schema (take l.place l.fn.sessions) (take l.place l.sessions) (take l.place l.asks) l.all.items;
}
