-- Turns that sessions take, and what they have seen then.
use Rattle.std.proofs.Common.{ℕ, ◌≤◌, ◌+◌, List, [], ◌++◌, sym, ap, ◌∙◌, arith, append-nil, append_assoc}
use mathlib.Core.List.{IsPrefix}
use Rattle.turn_lock.specs.declared.seats.Seat.{Seat}
use Rattle.version_catalog.specs.declared.catalogue.Catalogue.{Catalogue}
use Rattle.version_catalog.specs.declared.entry.Entry.{Entry}
use Rattle.version_catalog.specs.declared.state.CatalogueState.{CatalogueState}
use Rattle.session_asks.specs.Seats.{MayTake, HasTaken}

pub prefix_self : {A : Type 0} (xs : List A) → IsPrefix xs xs
prefix_self xs = ([], append-nil xs)

pub prefix_trans : {A : Type 0} (xs ys zs : List A) → IsPrefix xs ys → IsPrefix ys zs → IsPrefix xs zs
prefix_trans xs ys zs p q = (p.0 ++ q.0, sym (append_assoc xs p.0 q.0) ∙ ap (λ l. l ++ q.0) p.1 ∙ q.1)

module _ {g : _} where
  -- none
  pub taken_none : (catalogue : Catalogue) (turns : ℕ) (session : Seat CatalogueState Entry g) → MayTake catalogue turns session → HasTaken catalogue turns session session
  taken_none catalogue turns session may = record { of = may.of; rests = may.rests; few = omega arith; later = prefix_self _ }

  -- so many, and then more
  pub taken_more : (catalogue : Catalogue) (turns more all : ℕ) (old between new : Seat CatalogueState Entry g) → turns + more ≤ all → HasTaken catalogue turns old between → HasTaken catalogue more between new → HasTaken catalogue all old new
  taken_more catalogue turns more all old between new le taken next = record {
    of = next.of;
    rests = next.rests;
    few = omega (arith, taken.few, next.few);
    later = prefix_trans _ _ _ taken.later next.later;
  }
