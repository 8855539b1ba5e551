use Rattle.std.proofs.Common.{◌≡◌, ◌+◌, List, [], ◌∷◌, ◌++◌, ap, arith, length, sym, take, ◌∙◌}
use Rattle.std.proofs.lemmas.List.{take_more}
use Rattle.turn_lock.specs.declared.seats.Seat.{Seat}
use Rattle.version_catalog.specs.declared.catalogue.Catalogue.{Catalogue}
use Rattle.version_catalog.specs.declared.entry.Entry.{Entry}
use Rattle.version_catalog.specs.declared.state.CatalogueState.{CatalogueState}
use Rattle.session_asks.specs.Seats.{AllMayTake, MayTake}
use Rattle.session_asks.specs.declared.asks.AskLine.{AskLine}
use Rattle.session_asks.proofs.tests.sessions_for.Goals as goal

may_push : {g : _} (catalogue : Catalogue) (sessions : List (Seat CatalogueState Entry g)) (lists : List (List AskLine)) (session : Seat CatalogueState Entry g) (list : List AskLine) → AllMayTake catalogue sessions lists → MayTake catalogue (length list) session
    → AllMayTake catalogue (sessions ++ session ∷ []) (lists ++ list ∷ [])
may_push catalogue [] [] session list may one = (one, tt)
may_push catalogue (s ∷ sessions) (l ∷ lists) session list may one = (may.0, may_push catalogue sessions lists session list may.1 one)
may_push catalogue sessions lists session list may one = absurd may

pub loop-list-preserved : goal.loop-list-preserved
loop-list-preserved c =
    let lists = c.args.lists.now in let i = c.loop-list.list-index in let list = c.list-item.result in let session = c.session.result in
    let longer : take (i + 1) lists ≡ take i lists ++ list ∷ [] = take_more lists i list (omega arith) ∙ ap (λ l. take i lists ++ l ∷ []) (sym c.list-item.is) in
    let one : MayTake c.args.catalogue.now (length list) session = record { of = c.session.ensures.of; rests = c.session.ensures.rests; few = omega arith } in
    record {
      feeder = c.session.ensures.feeder;
      may = rw ((c.in-Ok.ensures {u = tt}).items, longer) (may_push _ _ _ session list c.loop-list.invariant.may one);
    }
