-- What a service needs before a round, and keeps after it.
use Rattle.std.proofs.Common.{◌≡◌, ◌≤◌, ◌<◌, ◌+◌, ◌*◌, ◌^◌, ℕ, Bool, true, false, List, [], ◌∷◌, ◌++◌, length, get_or, if◌then◌else◌, is_some, nat_lt, refl, ap, sym, subst, ◌∙◌, arith, length-append}
use Rattle.std.proofs.lemmas.Bool.Decides.{nat_tests}
use Rattle.std.specs.List.{All, AllByRecursion}
use Rattle.uni_base.specs.StandardLimits.{IsWithinStandard}
use Rattle.uni_base.specs.declared.limits.Limits.{Limits}
use Rattle.uni_schema.specs.Schema.{Declarations}
use Rattle.uni_table.specs.Commands.{next, refuses}
use Rattle.uni_table.specs.Contents.{empty, ended}
use Rattle.uni_table.specs.declared.command.Command.{Command}
use Rattle.apply_extract.specs.Laws.{WithinHasShares}
use Rattle.reply_text.specs.declared.answer.Answer.{Answer}
use Rattle.script_rounds.specs.Entries.{Entry, change, publish, ask, compact, stats, refused, fault, query_fault}
use Rattle.script_rounds.specs.Fits.{ItemsFit}
use Rattle.script_rounds.specs.Terms.{Terms, under}
use Rattle.script_rounds.specs.declared.item.Item.{Item}
use Rattle.turn_lock.specs.declared.seats.Seat.{Seat}
use Rattle.version_catalog.specs.Seats.{IsCompactorOf, IsFeederOf, compactor_installs, compactor_turns, feeder_batch, feeder_journal, feeder_table, feeder_turns, settings_of}
use Rattle.version_catalog.specs.declared.catalogue.Catalogue.{Catalogue}
use Rattle.version_catalog.specs.declared.compactor.Compactor.{Compactor}
use Rattle.version_catalog.specs.declared.entry.Entry.{Entry as Recorded}
use Rattle.version_catalog.specs.declared.feeder.Feeder.{Feeder}
use Rattle.version_catalog.specs.declared.state.CatalogueState.{CatalogueState}
use Rattle.session_asks.specs.Replies.{IsAsk}
use Rattle.session_asks.specs.Seats.{AllHaveTaken}
use Rattle.session_asks.specs.declared.asks.AskLine.{AskLine}
use Rattle.round_feed.specs.Fed.{IsFed, feed_entries}
use Rattle.round_feed.specs.Feeds.{Feed, fed_one, made, opening_feed}
use Rattle.round_feed.specs.Fits.{CompactFits, FeedFits}
use Rattle.round_feed.proofs.Items.{fit_for_compactions, fit_for_feed}
use Rattle.round_feed.specs.Seats.{HasCompacted, MayCompact, feed_of, terms_of}
use Rattle.round_feed.specs.Steps.{after}
use Rattle.unicorn_round.specs.Answerer.{IsOpened}
use Rattle.unicorn_round.specs.Parted.{IsParted}
use Rattle.unicorn_round.specs.Served.{IsServed}
use Rattle.unicorn_round.specs.Told.{AreWithin, stacks_told}
use Rattle.unicorn_round.proofs.Told.{none_told}
use Rattle.unicorn_round.specs.Service.{AreNew, IsIdle, IsReady, ServiceStands, service_stacks, service_terms}
use Rattle.unicorn_round.specs.Stacks.{opening_stacks}
use Rattle.unicorn_round.specs.Weaving.{compactions, feed_items}
use Rattle.unicorn_round.specs.Work.{MayAsk, MayTakeCompactions, MayTakeFeed}
use Rattle.unicorn_round.specs.declared.parts.Parts.{Parts}
use Rattle.unicorn_round.specs.declared.service.Service.{Service}
use Rattle.unicorn_round.proofs.PartedLines.{all_of, asks_typed, compactions_fit, each_place, feed_fit, few_asks, few_compactions, few_fed}
use Rattle.unicorn_round.proofs.RoundSeats.{idle_may, taken_idle}
use Rattle.unicorn_round.proofs.ServedSteps.{served_nothing}

-- no feed makes more publishes than there may be
module _ (terms : Terms) where
  fed_few : (feed : Feed) (entry : Entry) (lacks : Bool) → made feed ≤ terms.limits.publishes → made (fed_one terms feed entry lacks) ≤ terms.limits.publishes
  fed_few feed (change line command) true few = few
  fed_few feed (change line command) false few = by (is_some (refuses terms.schema terms.limits feed.table command))
    where
      by : (b : Bool) → made (if b then feed else record { journal = feed.journal; batch = feed.batch ++ command ∷ []; table = next terms.schema feed.table command }) ≤ terms.limits.publishes
      by true = few
      by false = few
  fed_few feed (publish line) true few = few
  fed_few feed (publish line) false few = by (nat_lt (made feed) terms.limits.publishes) refl
    where
      by : (b : Bool) → nat_lt (made feed) terms.limits.publishes ≡ b
          → made (if b then record { journal = feed.journal ++ feed.batch ∷ []; batch = []; table = ended feed.table (made feed + 1) } else feed) ≤ terms.limits.publishes
      by true e =
          let below : made feed < terms.limits.publishes = grind (arith, nat_tests) in
          omega (arith, length-append feed.journal (feed.batch ∷ []), below)
      by false e = few
  fed_few feed (ask line session viewer limit query) lacks few = few
  fed_few feed (compact line vertical shard replica) lacks few = few
  fed_few feed (stats line) lacks few = few
  fed_few feed (refused line code) lacks few = few
  fed_few feed (fault line code) lacks few = few
  fed_few feed (query_fault line code column) lacks few = few

  all_fed_few : (feed : Feed) (entries : List Entry) (lacks : List Bool) → made feed ≤ terms.limits.publishes → made (after (fed_one terms) feed entries lacks) ≤ terms.limits.publishes
  all_fed_few feed [] lacks few = few
  all_fed_few feed (entry ∷ entries) [] few = few
  all_fed_few feed (entry ∷ entries) (one ∷ lacks) few = all_fed_few (fed_one terms feed entry one) entries lacks (fed_few feed entry one few)

module _ (catalogue : Catalogue) (items : List Item) (parts : Parts) (n : ℕ) where
  pub may_feed : (feeder : Feeder) → IsFeederOf catalogue feeder → feeder_turns feeder ≤ n + 1 → n + length items + 1 ≤ 2 ^ 37 → ItemsFit (terms_of catalogue) items → IsParted (terms_of catalogue).limits.sessions items parts
      → MayTakeFeed catalogue parts.feed feeder
  may_feed feeder of turns few fit parted = record {
    may = record { of = of; few = omega (arith, turns, few, ap (length {A = Item}) parted.feed, few_fed items) };
    fit = subst (AllByRecursion (FeedFits (terms_of catalogue))) (sym parted.feed) (fit_for_feed (terms_of catalogue) (feed_items items) (feed_fit (terms_of catalogue) items fit));
  }

  pub may_compact : (compactor : Compactor) → IsCompactorOf catalogue compactor → compactor_turns compactor ≤ 8195 * n → n + length items + 1 ≤ 2 ^ 37 → ItemsFit (terms_of catalogue) items → IsParted (terms_of catalogue).limits.sessions items parts
      → MayTakeCompactions catalogue parts.compactions compactor
  may_compact compactor of turns few fit parted = record {
    may = record { of = of; few = omega (arith, turns, few, ap (length {A = Item}) parted.compactions, few_compactions items) };
    fit = subst (AllByRecursion (CompactFits (terms_of catalogue))) (sym parted.compactions) (fit_for_compactions (terms_of catalogue) (compactions items) (compactions_fit (terms_of catalogue) items fit));
  }

  -- and the stacks that are due at the round's end
  pub may_tidy : (old new : Compactor) → compactor_turns old ≤ 8195 * n → n + length items + 1 ≤ 2 ^ 37 → IsParted (terms_of catalogue).limits.sessions items parts → HasCompacted catalogue (2 * length parts.compactions) old new
      → MayCompact catalogue 8194 new
  may_tidy old new turns few parted has = record { of = has.of; few = omega (arith, turns, has.few, few, ap (length {A = Item}) parted.compactions, few_compactions items) }

  each_few : IsParted (terms_of catalogue).limits.sessions items parts → AllByRecursion (λ asks. length asks ≤ length items) parts.asks.items
  each_few parted = each_place (λ asks. length asks ≤ length items) parts.asks.items [] (λ place below.
      omega (arith, ap (length {A = AskLine}) (parted.asks place (omega (arith, below, parted.count))), few_asks place items))

  module _ {g : _} where
    pub may_ask : (sessions : List (Seat CatalogueState Recorded g)) → WithinHasShares → AllByRecursion (IsIdle catalogue n) sessions → length sessions ≡ (terms_of catalogue).limits.sessions → n + length items + 1 ≤ 2 ^ 37
        → ItemsFit (terms_of catalogue) items → IsParted (terms_of catalogue).limits.sessions items parts → MayAsk catalogue parts.asks.items sessions
    may_ask sessions laws idle count few fit parted = record {
      may = idle_may catalogue n sessions parts.asks.items idle (parted.count ∙ sym count) (each_place (λ asks. n + length asks ≤ 2 ^ 56) parts.asks.items [] (λ place below.
          omega (arith, ap (length {A = AskLine}) (parted.asks place (omega (arith, below, parted.count))), few_asks place items, few)));
      typed = all_of (All (IsAsk (settings_of catalogue).schema)) parts.asks.items (each_place (All (IsAsk (settings_of catalogue).schema)) parts.asks.items [] (λ place below.
          all_of (IsAsk (settings_of catalogue).schema) (get_or parts.asks.items place [])
          (subst (AllByRecursion (IsAsk (settings_of catalogue).schema)) (sym (parted.asks place (omega (arith, below, parted.count)))) (asks_typed (terms_of catalogue) laws place items fit))));
    }

    pub asked_idle : (olds news : List (Seat CatalogueState Recorded g)) → AllByRecursion (IsIdle catalogue n) olds → length olds ≡ (terms_of catalogue).limits.sessions → IsParted (terms_of catalogue).limits.sessions items parts
        → AllHaveTaken catalogue olds news parts.asks.items → AllByRecursion (IsIdle catalogue (n + length items + 1)) news × (length news ≡ (terms_of catalogue).limits.sessions)
    asked_idle olds news idle count parted taken =
        let after = taken_idle catalogue n (length items) olds news parts.asks.items idle taken (each_few parted) in (after.0, after.1 ∙ count)

  pub few_publishes : (old new : Feeder) (answers : List Answer) → length (feeder_journal old) ≤ (terms_of catalogue).limits.publishes → IsFed (terms_of catalogue) (feed_of old) parts.feed answers (feed_of new)
      → length (feeder_journal new) ≤ (terms_of catalogue).limits.publishes
  few_publishes old new answers few fed =
      let same : length (feeder_journal new) ≡ made (after (fed_one (terms_of catalogue)) (feed_of old) (feed_entries parts.feed) fed.lacks) = ap (λ (f : Feed). length f.journal) fed.after in
      omega (arith, same, all_fed_few (terms_of catalogue) (feed_of old) (feed_entries parts.feed) fed.lacks few)

  pub few_parts : IsParted (terms_of catalogue).limits.sessions items parts → (length parts.feed ≤ length items) × (length parts.compactions ≤ length items)
  few_parts parted = (omega (arith, ap (length {A = Item}) parted.feed, few_fed items), omega (arith, ap (length {A = Item}) parted.compactions, few_compactions items))

-- a service that was opened
pub opened : (service : Service) (limits : Limits) (schema : Declarations) → ((settings_of service.catalogue).schema ≡ schema) × ((settings_of service.catalogue).limits ≡ limits) → IsWithinStandard limits
    → IsFeederOf service.catalogue service.feeder → feeder_journal service.feeder ≡ [] → feeder_batch service.feeder ≡ [] → (feeder_table service.feeder).contents ≡ empty → feeder_turns service.feeder ≡ 1
    → IsCompactorOf service.catalogue service.compactor → compactor_turns service.compactor ≡ 0 → AreNew service.catalogue limits.sessions service.sessions.items
    → compactor_installs service.compactor ≡ []
    → IsOpened service_terms IsReady ServiceStands (under limits schema) service
opened service limits schema settings standard feeder journal batch table turns compactor none sessions new =
    let terms : terms_of service.catalogue ≡ under limits schema = (λ i. under (settings.1 i) (settings.0 i)) in
    let opening : service_stacks service ≡ opening_stacks schema = (λ i. stacks_told (settings.0 i) (new i)) ∙ none_told schema in
    let feed : feed_of service.feeder ≡ opening_feed = (λ i. record { journal = journal i; batch = batch i; table = table i }) in
    record {
      is_under = terms;
      ready = record {
        standard = subst (λ (t : Terms). IsWithinStandard t.limits) (sym terms) standard;
        feeder = feeder;
        fed = omega (arith, turns);
        publishes = omega (arith, ap (length {A = List Command}) journal);
        compactor = compactor;
        compacted = omega (arith, none);
        sessions = sessions.each;
        count = sessions.long ∙ sym (ap (λ (t : Terms). t.limits.sessions) terms);
        within = subst (AreWithin (length (feeder_journal service.feeder))) (sym new) (λ v s r. omega arith);
      };
      stands = record {
        said = [];
        served = subst (λ (t : Terms). IsServed t [] (feed_of service.feeder) (service_stacks service) []) (sym terms)
            (subst (λ f. IsServed (under limits schema) [] f (service_stacks service) []) (sym feed) (subst (λ covers. IsServed (under limits schema) [] opening_feed covers []) (sym opening) (served_nothing (under limits schema))));
        writes = refl;
      };
    }
