-- The seats of a round, from before it to after it.
use Rattle.std.proofs.Common.{◌≡◌, ◌≤◌, ◌<◌, ◌+◌, ◌^◌, ℕ, zero, suc, List, [], ◌∷◌, length, get_or, refl, ap, ◌∙◌, sym, subst, arith}
use Rattle.std.specs.List.{AllByRecursion, AllZip}
use mathlib.Core.List.{IsPrefix}
use Rattle.uni_schema.specs.Schema.{Declarations}
use Rattle.uni_table.specs.declared.command.Command.{Command}
use Rattle.reply_text.specs.declared.answer.Answer.{Answer}
use Rattle.reply_text.specs.declared.answer.Answer.TheVariants.{Compacted, Reply, Memory}
use Rattle.script_rounds.specs.Entries.{Entry as ScriptEntry}
use Rattle.turn_lock.specs.declared.seats.Seat.{Seat}
use Rattle.version_catalog.specs.Seats.{IsFeederOf, compactor_journal, feeder_journal, feeder_sessions, feeder_turns, session_journal, settings_of}
use Rattle.version_catalog.specs.declared.catalogue.Catalogue.{Catalogue}
use Rattle.version_catalog.specs.declared.compactor.Compactor.{Compactor}
use Rattle.version_catalog.specs.declared.entry.Entry.{Entry}
use Rattle.version_catalog.specs.declared.feeder.Feeder.{Feeder}
use Rattle.version_catalog.specs.declared.state.CatalogueState.{CatalogueState}
use Rattle.session_asks.specs.Replies.{AreReplied}
use Rattle.session_asks.specs.Seats.{AllHaveTaken, AllMayTake, AllReplied, HasTaken}
use Rattle.session_asks.specs.declared.asks.AskLine.{AskLine}
use Rattle.session_asks.proofs.Replied.{length_prefix, replied_lower, replied_more}
use Rattle.session_asks.proofs.Takes.{prefix_trans}
use Rattle.round_feed.specs.Compacted.{AreCompacted, compact_entries}
use Rattle.round_feed.specs.Fed.{IsFed}
use Rattle.round_feed.specs.Feeds.{Feed}
use Rattle.round_feed.specs.Seats.{HasCompacted, HasFed, feed_of, terms_of}
use Rattle.unicorn_round.specs.Seats.{IsResting}
use Rattle.unicorn_round.specs.Service.{IsIdle}
use Rattle.unicorn_round.specs.Work.{AreAnswered}
use Rattle.unicorn_round.specs.declared.parts.Parts.{Parts}
use Rattle.unicorn_round.specs.declared.round.RoundAnswers.{RoundAnswers}

-- answers under a journal are answers under a longer one
pub replied_later : (schema : Declarations) (journal later : List (List Command)) (low : ℕ) (asks : List AskLine) (answers : List Answer) → IsPrefix journal later → low ≤ length journal
    → AreReplied schema journal low asks answers → AreReplied schema later low asks answers
replied_later schema journal later low [] [] p le are = tt
replied_later schema journal later low (ask ∷ asks) (Reply line reply ∷ answers) p le are =
    let one = replied_more schema journal later low (ask ∷ []) [] (Reply line reply ∷ []) [] p le (are.0, are.1, are.2, tt) tt in
    (one.0, one.1, one.2, replied_later schema journal later reply.publishes asks answers p are.1 are.3)
replied_later schema journal later low (ask ∷ asks) (Memory line ∷ answers) p le are = (are.0, replied_later schema journal later low asks answers p le are.1)
replied_later schema journal later low asks answers p le are = absurd are

module _ {g : _} (catalogue : Catalogue) where
  -- sessions that may ask, or have asked, hold no turn
  pub may_rest : (sessions : List (Seat CatalogueState Entry g)) (asks : List (List AskLine)) → AllMayTake catalogue sessions asks → AllByRecursion (IsResting catalogue) sessions
  may_rest [] [] may = tt
  may_rest (s ∷ sessions) (one ∷ asks) may = (record { of = may.0.of; rests = may.0.rests }, may_rest sessions asks may.1)
  may_rest sessions asks may = absurd may

  pub taken_rest : (olds news : List (Seat CatalogueState Entry g)) (asks : List (List AskLine)) → AllHaveTaken catalogue olds news asks → AllByRecursion (IsResting catalogue) news
  taken_rest [] [] [] taken = tt
  taken_rest (old ∷ olds) (new ∷ news) (one ∷ asks) taken = (record { of = taken.0.of; rests = taken.0.rests }, taken_rest olds news asks taken.1)
  taken_rest olds news asks taken = absurd taken

  -- they may still ask once they have listened
  pub may_still : (olds news : List (Seat CatalogueState Entry g)) (asks : List (List AskLine)) → AllMayTake catalogue olds asks → AllZip (HasTaken catalogue 0) olds news → AllMayTake catalogue news asks
  may_still [] [] [] may told = tt
  may_still (old ∷ olds) (new ∷ news) (one ∷ asks) may told =
      (record { of = told.0.of; rests = told.0.rests; few = omega (arith, may.0.few, told.0.few) }, may_still olds news asks may.1 told.1)
  may_still [] (new ∷ news) asks may told = absurd told
  may_still (old ∷ olds) [] asks may told = absurd told
  may_still [] [] (one ∷ asks) may told = absurd may
  may_still (old ∷ olds) (new ∷ news) [] may told = absurd may

  through : (n : ℕ) (a b c d : Seat CatalogueState Entry g) → HasTaken catalogue 0 a b → HasTaken catalogue n b c → HasTaken catalogue 0 c d → HasTaken catalogue n a d
  through n a b c d first middle last = record {
    of = last.of;
    rests = last.rests;
    few = omega (arith, first.few, middle.few, last.few);
    later = prefix_trans (session_journal a) (session_journal b) (session_journal d) first.later (prefix_trans (session_journal b) (session_journal c) (session_journal d) middle.later last.later);
  }

  -- what they took, where they listened before and spoke after it
  pub taken_through : (a b c d : List (Seat CatalogueState Entry g)) (asks : List (List AskLine)) → AllZip (HasTaken catalogue 0) a b → AllHaveTaken catalogue b c asks → AllZip (HasTaken catalogue 0) c d → AllHaveTaken catalogue a d asks
  taken_through [] [] [] [] [] first middle last = tt
  taken_through (w ∷ a) (x ∷ b) (y ∷ c) (z ∷ d) (one ∷ asks) first middle last = (through (length one) w x y z first.0 middle.0 last.0, taken_through a b c d asks first.1 middle.1 last.1)
  taken_through [] (x ∷ b) c d asks first middle last = absurd first
  taken_through (w ∷ a) [] c d asks first middle last = absurd first
  taken_through [] [] [] (z ∷ d) asks first middle last = absurd last
  taken_through [] [] (y ∷ c) d asks first middle last = absurd middle
  taken_through [] [] [] [] (one ∷ asks) first middle last = absurd middle
  taken_through (w ∷ a) (x ∷ b) [] d asks first middle last = absurd middle
  taken_through (w ∷ a) (x ∷ b) (y ∷ c) [] asks first middle last = absurd last
  taken_through (w ∷ a) (x ∷ b) (y ∷ c) (z ∷ d) [] first middle last = absurd middle

  -- the answers of each, at numbers of publishes from those before the round to those after it
  pub replied_at : (schema : Declarations) (before after : List (List Command)) (olds news : List (Seat CatalogueState Entry g)) (asks : List (List AskLine)) (answers : List (List Answer))
      → AllReplied schema olds news asks answers → AllHaveTaken catalogue olds news asks → AllByRecursion (λ session. IsPrefix before (session_journal session)) olds → AllByRecursion (λ session. IsPrefix (session_journal session) after) news
      → (length answers ≡ length asks) × ((place : ℕ) → place < length asks → AreReplied schema after (length before) (get_or asks place []) (get_or answers place []))
  replied_at schema before after [] [] [] [] are taken told heard = (refl, λ place below. absurd (omega (arith, below)))
  replied_at schema before after (old ∷ olds) (new ∷ news) (one ∷ asks) (first ∷ answers) are taken told heard =
      let rest = replied_at schema before after olds news asks answers are.1 taken.1 told.1 heard.1 in
      let low = length_prefix before (session_journal old) told.0 in
      let high = length_prefix (session_journal old) (session_journal new) taken.0.later in
      let here = replied_later schema (session_journal new) after (length before) one first heard.0 (omega (arith, low, high))
      (replied_lower schema (session_journal new) (length before) (length (session_journal old)) one first low are.0) in
      (ap suc rest.0, λ place below. each here rest.1 place below)
    where
      each : AreReplied schema after (length before) one first
          → ((place : ℕ) → place < length asks → AreReplied schema after (length before) (get_or asks place []) (get_or answers place []))
          → (place : ℕ) → place < length (one ∷ asks) → AreReplied schema after (length before) (get_or (one ∷ asks) place []) (get_or (first ∷ answers) place [])
      each here others zero below = here
      each here others (suc place) below = others place (omega (arith, below))
  replied_at schema before after olds news asks answers are taken told heard = absurd are

  -- idle sessions may ask, and have asked
  pub idle_may : (n : ℕ) (sessions : List (Seat CatalogueState Entry g)) (asks : List (List AskLine)) → AllByRecursion (IsIdle catalogue n) sessions → length asks ≡ length sessions
      → AllByRecursion (λ one. n + length one ≤ 2 ^ 56) asks → AllMayTake catalogue sessions asks
  idle_may n [] [] idle same few = tt
  idle_may n (s ∷ sessions) (one ∷ asks) idle same few =
      (record { of = idle.0.resting.of; rests = idle.0.resting.rests; few = omega (arith, idle.0.few, few.0) }, idle_may n sessions asks idle.1 (omega (arith, same)) few.1)
  idle_may n [] (one ∷ asks) idle same few = absurd (omega (arith, same))
  idle_may n (s ∷ sessions) [] idle same few = absurd (omega (arith, same))

  pub taken_idle : (n more : ℕ) (olds news : List (Seat CatalogueState Entry g)) (asks : List (List AskLine)) → AllByRecursion (IsIdle catalogue n) olds → AllHaveTaken catalogue olds news asks
      → AllByRecursion (λ one. length one ≤ more) asks → AllByRecursion (IsIdle catalogue (n + more + 1)) news × (length news ≡ length olds)
  taken_idle n more [] [] [] idle taken few = (tt, refl)
  taken_idle n more (old ∷ olds) (new ∷ news) (one ∷ asks) idle taken few =
      let rest = taken_idle n more olds news asks idle.1 taken.1 few.1 in (
        (record { resting = record { of = taken.0.of; rests = taken.0.rests }; few = omega (arith, idle.0.few, taken.0.few, few.0) }, rest.0),
        ap suc rest.1,
      )
  taken_idle n more olds news asks idle taken few = absurd taken

-- numbers of compactions from a lower one to a higher one
compacted_within : (low least most high : ℕ) (entries : List ScriptEntry) (answers : List Answer) → low ≤ least → most ≤ high → AreCompacted least most entries answers → AreCompacted low high entries answers
compacted_within low least most high [] [] less more are = tt
compacted_within low least most high (entry ∷ entries) (Compacted line number ∷ answers) less more are =
    (are.0, omega (arith, less, are.1), omega (arith, more, are.2), compacted_within number number most high entries answers (omega arith) more are.3)
compacted_within low least most high (entry ∷ entries) (Memory line ∷ answers) less more are = (are.0, compacted_within low least most high entries answers less more are.1)
compacted_within low least most high entries answers less more are = absurd are

module _ {g : _} (catalogue : Catalogue) (parts : Parts) where
  -- What the seats of a round say of their calls, where all were told before and heard after them, is what the round
  -- says: its feeder stood so before it was told, as it began, as it ended, and after all were heard.
  pub answered_round : (before begun ended after : Feeder) (first last : Compactor) (olds news : List (Seat CatalogueState Entry g)) (answers : RoundAnswers)
      → feed_of begun ≡ feed_of before → feed_of after ≡ feed_of ended
      → IsFed (terms_of catalogue) (feed_of begun) parts.feed answers.fed (feed_of ended)
      → AreCompacted (length (compactor_journal first)) (length (compactor_journal last)) (compact_entries parts.compactions) answers.compacted
      → IsPrefix (feeder_journal before) (compactor_journal first) → IsPrefix (compactor_journal last) (feeder_journal after)
      → AllReplied (settings_of catalogue).schema olds news parts.asks.items answers.asked.items → AllHaveTaken catalogue olds news parts.asks.items
      → AllByRecursion (λ session. IsPrefix (feeder_journal before) (session_journal session)) olds → AllByRecursion (λ session. IsPrefix (session_journal session) (feeder_journal after)) news
      → AreAnswered catalogue parts before after answers
  answered_round before begun ended after first last olds news answers same kept fed compacted told heard replied taken told_all heard_all =
      let each = replied_at catalogue (settings_of catalogue).schema (feeder_journal before) (feeder_journal after) olds news parts.asks.items answers.asked.items replied taken told_all heard_all in
      record {
        fed = subst (λ old. IsFed (terms_of catalogue) old parts.feed answers.fed (feed_of after)) same (subst (λ new. IsFed (terms_of catalogue) (feed_of begun) parts.feed answers.fed new) (sym kept) fed);
        compacted = compacted_within (length (feeder_journal before)) (length (compactor_journal first)) (length (compactor_journal last)) (length (feeder_journal after)) (compact_entries parts.compactions) answers.compacted
            (length_prefix (feeder_journal before) (compactor_journal first) told) (length_prefix (compactor_journal last) (feeder_journal after) heard) compacted;
        count = each.0;
        asked = each.1;
      }

module _ (catalogue : Catalogue) where
  -- a feeder that was told, worked and heard has taken what it worked
  pub fed_through : (n : ℕ) (before begun ended after : Feeder) → feeder_turns begun ≡ feeder_turns before → feeder_sessions begun ≡ feeder_sessions before → feed_of begun ≡ feed_of before
      → HasFed catalogue n begun ended → feeder_turns after ≡ feeder_turns ended → feeder_sessions after ≡ feeder_sessions ended → feed_of after ≡ feed_of ended → IsFeederOf catalogue after
      → HasFed catalogue n before after
  fed_through n before begun ended after turns sessions same fed turns_after sessions_after kept of = record {
    of = of;
    few = omega (arith, turns, fed.few, turns_after);
    sessions = sessions_after ∙ fed.sessions ∙ sessions;
    later = subst (λ old. IsPrefix old (feeder_journal after)) (ap (λ (f : Feed). f.journal) same) (subst (λ new. IsPrefix (feeder_journal begun) new) (sym (ap (λ (f : Feed). f.journal) kept)) fed.later);
  }

  pub compacted_through : (n : ℕ) (before begun ended after : Compactor) → HasCompacted catalogue 0 before begun → HasCompacted catalogue n begun ended → HasCompacted catalogue 0 ended after → HasCompacted catalogue n before after
  compacted_through n before begun ended after told worked heard = record {
    of = heard.of;
    few = omega (arith, told.few, worked.few, heard.few);
    later = prefix_trans (compactor_journal before) (compactor_journal begun) (compactor_journal after) told.later (prefix_trans (compactor_journal begun) (compactor_journal ended) (compactor_journal after) worked.later heard.later);
  }

module _ {g : _} (before after : Feeder) (same : feed_of after ≡ feed_of before) where
  -- a feeder that spoke has seen no other journal
  pub told_by : (sessions : List (Seat CatalogueState Entry g)) → AllByRecursion (λ session. IsPrefix (feeder_journal after) (session_journal session)) sessions → AllByRecursion (λ session. IsPrefix (feeder_journal before) (session_journal session)) sessions
  told_by sessions all = subst (λ (f : Feed). AllByRecursion (λ session. IsPrefix f.journal (session_journal session)) sessions) same all

  pub heard_by : (sessions : List (Seat CatalogueState Entry g)) → AllByRecursion (λ session. IsPrefix (session_journal session) (feeder_journal after)) sessions → AllByRecursion (λ session. IsPrefix (session_journal session) (feeder_journal before)) sessions
  heard_by sessions all = subst (λ (f : Feed). AllByRecursion (λ session. IsPrefix (session_journal session) f.journal) sessions) same all
