-- The lines of a round, parted by who answers them.
use Rattle.std.proofs.Common.{◌≡◌, ◌≤◌, ◌<◌, ◌+◌, ◌==◌, ℕ, suc, Bool, true, false, List, [], ◌∷◌, length, filter, get_or, if◌then◌else◌, Option, None, Some, refl, ap, ◌∙◌, arith}
use Rattle.std.proofs.lemmas.Bool.Decides.{nat_tests}
use Rattle.std.proofs.lemmas.List.Elements.{All-cons, All-nil}
use Rattle.std.specs.List.{All, AllByRecursion, cons_option, filter_map}
use Rattle.query_tree.specs.Dialects.{dialect_of}
use Rattle.apply_extract.specs.Laws.{WithinHasShares}
use Rattle.script_rounds.specs.Fits.{ItemsFit, IsQuery}
use Rattle.script_rounds.specs.Terms.{Terms}
use Rattle.script_rounds.specs.declared.item.Item.{Item}
use Rattle.script_rounds.specs.declared.item.Item.TheVariants.{Change, Publish, Ask, Compact, Stats, Refused, Fault, QueryFault, Memory}
use Rattle.query_check.specs.declared.checked.Checked.{Checked}
use Rattle.query_check.specs.Plan.{seen, stated_of}
use Rattle.apply_extract.specs.Conditions.{IsAsked}
use Rattle.session_asks.specs.Replies.{IsAsk}
use Rattle.session_asks.specs.declared.asks.AskLine.{AskLine}
use Rattle.unicorn_round.specs.Parted.{IsFor}
use Rattle.unicorn_round.specs.Weaving.{ask_at, asks_at, compactions, feed_items, is_compaction, is_feed}
use Rattle.unicorn_round.proofs.Elements.{filter_fewer}

-- what holds of each item
pub all_of : {X : Type 0} (P : X → Type 0) (xs : List X) → AllByRecursion P xs → All P xs
all_of P [] all = All-nil P
all_of P (x ∷ xs) all = All-cons P x xs all.0 (all_of P xs all.1)

-- what holds at each place of a list
pub each_place : {X : Type 0} (P : X → Type 0) (xs : List X) (d : X) → ((place : ℕ) → place < length xs → P (get_or xs place d)) → AllByRecursion P xs
each_place P [] d each = tt
each_place P (x ∷ xs) d each = (each 0 (omega arith), each_place P xs d (λ place below. each (suc place) (omega (arith, below))))

filter_map_fewer : {X Y : Type 0} (f : X → Option Y) (xs : List X) → length (filter_map f xs) ≤ length xs
filter_map_fewer f [] = omega arith
filter_map_fewer {Y = Y} f (x ∷ xs) = by (f x) (filter_map_fewer f xs)
  where
    by : (o : Option Y) → length (filter_map f xs) ≤ length xs → length (cons_option o (filter_map f xs)) ≤ length (x ∷ xs)
    by None rest = omega (arith, rest)
    by (Some y) rest = omega (arith, rest)

pub few_fed : (items : List Item) → length (feed_items items) ≤ length items
few_fed items = filter_fewer is_feed items

pub few_compactions : (items : List Item) → length (compactions items) ≤ length items
few_compactions items = filter_fewer is_compaction items

pub few_asks : (place : ℕ) (items : List Item) → length (asks_at place items) ≤ length items
few_asks place items = filter_map_fewer (ask_at place) items

module _ (terms : Terms) where
  fit_filter : (p : Item → Bool) (items : List Item) → ItemsFit terms items → ItemsFit terms (filter p items)
  fit_filter p [] fit = tt
  fit_filter p (item ∷ items) fit = by (p item) (fit_filter p items fit.1)
    where
      by : (b : Bool) → ItemsFit terms (filter p items) → ItemsFit terms (if b then item ∷ filter p items else filter p items)
      by true rest = (fit.0, rest)
      by false rest = rest

  pub feed_fit : (items : List Item) → ItemsFit terms items → ItemsFit terms (feed_items items)
  feed_fit items fit = fit_filter is_feed items fit

  pub compactions_fit : (items : List Item) → ItemsFit terms items → ItemsFit terms (compactions items)
  compactions_fit items fit = fit_filter is_compaction items fit

  -- each `ask` is one of the sessions that there may be
  pub each_for : (items : List Item) → ItemsFit terms items → AllByRecursion (IsFor terms.limits.sessions) items
  each_for [] fit = tt
  each_for (Ask line viewer session limit query ∷ items) fit = ((fit.0.session_from, fit.0.session_to), each_for items fit.1)
  each_for (Change line command ∷ items) fit = (tt, each_for items fit.1)
  each_for (Publish line ∷ items) fit = (tt, each_for items fit.1)
  each_for (Compact line vertical shard replica ∷ items) fit = (tt, each_for items fit.1)
  each_for (Stats line ∷ items) fit = (tt, each_for items fit.1)
  each_for (Refused line code ∷ items) fit = (tt, each_for items fit.1)
  each_for (Fault line code ∷ items) fit = (tt, each_for items fit.1)
  each_for (QueryFault line code column ∷ items) fit = (tt, each_for items fit.1)
  each_for (Memory line ∷ items) fit = (tt, each_for items fit.1)

  -- so none is of a session past them
  pub none_past : (place : ℕ) (items : List Item) → ItemsFit terms items → terms.limits.sessions ≤ place → asks_at place items ≡ []
  none_past place [] fit past = refl
  none_past place (Ask line viewer session limit query ∷ items) fit past = ap (λ rest. cons_option {X = AskLine} (ask_at place (Ask line viewer session limit query)) rest) (none_past place items fit.1 past) ∙ by (session == place + 1) refl
    where
      other : (b : Bool) → (session == place + 1) ≡ b → b ≡ true → session ≡ place + 1
      other b is told = grind (arith, nat_tests)

      by : (b : Bool) → (session == place + 1) ≡ b → cons_option {X = AskLine} (if b then Some (record { line = line; viewer = viewer; limit = limit; query = query.value }) else None) [] ≡ []
      by true is = absurd (omega (arith, other true is refl, fit.0.session_to, past))
      by false is = refl
  none_past place (Change line command ∷ items) fit past = none_past place items fit.1 past
  none_past place (Publish line ∷ items) fit past = none_past place items fit.1 past
  none_past place (Compact line vertical shard replica ∷ items) fit past = none_past place items fit.1 past
  none_past place (Stats line ∷ items) fit past = none_past place items fit.1 past
  none_past place (Refused line code ∷ items) fit past = none_past place items fit.1 past
  none_past place (Fault line code ∷ items) fit past = none_past place items fit.1 past
  none_past place (QueryFault line code column ∷ items) fit past = none_past place items fit.1 past
  none_past place (Memory line ∷ items) fit past = none_past place items fit.1 past

  asked : WithinHasShares → (query : Checked) → IsQuery terms query → IsAsked terms.schema (seen query)
  asked laws query is = record {
    of = is.declared;
    inner = is.inner;
    shares = laws.shares (dialect_of terms.limits terms.schema.format) terms.schema terms.limits.joins 0 is.tree (stated_of query) is.is is.within.allowed;
  }

  -- the queries of all asks are typed
  pub asks_typed : WithinHasShares → (place : ℕ) (items : List Item) → ItemsFit terms items → AllByRecursion (IsAsk terms.schema) (asks_at place items)
  asks_typed laws place [] fit = tt
  asks_typed laws place (Ask line viewer session limit query ∷ items) fit = by (session == place + 1) (asks_typed laws place items fit.1)
    where
      by : (b : Bool) → AllByRecursion (IsAsk terms.schema) (asks_at place items) → AllByRecursion (IsAsk terms.schema) (cons_option (if b then Some (record { line = line; viewer = viewer; limit = limit; query = query.value }) else None) (asks_at place items))
      by true rest = (asked laws query.value fit.0.asks, rest)
      by false rest = rest
  asks_typed laws place (Change line command ∷ items) fit = asks_typed laws place items fit.1
  asks_typed laws place (Publish line ∷ items) fit = asks_typed laws place items fit.1
  asks_typed laws place (Compact line vertical shard replica ∷ items) fit = asks_typed laws place items fit.1
  asks_typed laws place (Stats line ∷ items) fit = asks_typed laws place items fit.1
  asks_typed laws place (Refused line code ∷ items) fit = asks_typed laws place items fit.1
  asks_typed laws place (Fault line code ∷ items) fit = asks_typed laws place items fit.1
  asks_typed laws place (QueryFault line code column ∷ items) fit = asks_typed laws place items fit.1
  asks_typed laws place (Memory line ∷ items) fit = asks_typed laws place items fit.1
