-- A round that was worked on and ended is one round more that is served.
use Rattle.std.proofs.Common.{◌≡◌, ◌≤◌, ◌<◌, ◌++◌, ◌∷◌, [], ℕ, zero, suc, List, Bool, length, map, get_or, refl, sym, ap, ◌∙◌, subst, arith}
use mathlib.Core.Logic.{inl, inr, ◌⊎◌}
use Rattle.reply_text.specs.declared.answer.Answer.{Answer}
use Rattle.script_rounds.specs.Entries.{AreItemsOf, Entry}
use Rattle.script_rounds.specs.Fits.{ItemsFit}
use Rattle.script_rounds.specs.RoundReads.{Rise, item_line}
use Rattle.script_rounds.specs.Terms.{Terms}
use Rattle.script_rounds.specs.declared.item.Item.{Item}
use Rattle.version_catalog.specs.Seats.{feeder_journal}
use Rattle.version_catalog.specs.declared.catalogue.Catalogue.{Catalogue}
use Rattle.version_catalog.specs.declared.feeder.Feeder.{Feeder}
use Rattle.session_asks.specs.Replies.{AreReplied}
use Rattle.round_feed.specs.Compacted.{AreCompacted, compact_entries}
use Rattle.round_feed.specs.Fed.{fed_answers, feed_entries}
use Rattle.round_feed.specs.Feeds.{fed_one, made}
use Rattle.round_feed.specs.Seats.{feed_of, terms_of}
use Rattle.round_feed.specs.Steps.{after, given}
use Rattle.unicorn_round.specs.Answers.{Standing}
use Rattle.unicorn_round.specs.Ending.{IsEnded, covers_between}
use Rattle.unicorn_round.specs.Parted.{IsParted, slots_in}
use Rattle.unicorn_round.specs.Queues.{answers_at, shown_by}
use Rattle.unicorn_round.specs.Served.{IsServed}
use Rattle.unicorn_round.specs.Stacks.{due_untidied, tidy, tidy_answers}
use Rattle.unicorn_round.specs.Weaving.{asks_at, compacted_covers, merged}
use Rattle.unicorn_round.specs.Work.{AreAnswered}
use Rattle.unicorn_round.specs.declared.parts.Parts.{Parts}
use Rattle.unicorn_round.specs.declared.round.RoundAnswers.{RoundAnswers}
use Rattle.unicorn_round.specs.declared.stacks.StackCover.{StackCover}
use Rattle.unicorn_round.proofs.PartedLines.{none_past}
use Rattle.unicorn_round.proofs.ServedSteps.{served_more}
use Rattle.unicorn_round.proofs.Weaving.{woven}

under_or_past : (a b : ℕ) → (a < b) ⊎ (b ≤ a)
under_or_past a b = grind arith

-- there is nothing past the end of a list
past : {X : Type 0} (xs : List X) (place : ℕ) (d : X) → length xs ≤ place → get_or xs place d ≡ d
past [] place d under = refl
past (x ∷ xs) zero d under = absurd (omega (arith, under))
past (x ∷ xs) (suc place) d under = past xs place d (omega (arith, under))

pub served_round : (catalogue : Catalogue) (parts : Parts) (answers : RoundAnswers) (old new : Feeder) (covers after_covers : List StackCover) (entries : List Entry) (items : List Item) (rounds : List (List Entry)) (before said : List Answer) (from to : ℕ)
    → AreItemsOf entries items → ItemsFit (terms_of catalogue) items → Rise from to (map item_line items)
    → IsParted (terms_of catalogue).limits.sessions items parts → AreAnswered catalogue parts old new answers → length (feeder_journal old) ≤ length (feeder_journal new)
    → IsEnded (length (feeder_journal new)) (covers_between covers parts answers) after_covers parts answers said
    → IsServed (terms_of catalogue) rounds (feed_of old) covers before
    → IsServed (terms_of catalogue) (rounds ++ entries ∷ []) (feed_of new) after_covers (before ++ said)
served_round catalogue parts answers old new covers after_covers entries items rounds before said from to of fit rise parted answered longer ended served =
    served_more terms rounds entries items lacks answers.fed asked answers.compacted (feed_of old) (feed_of new) covers after_covers ended.tidied.untidied before said served
    (woven terms s end entries items lacks answers.fed asked answers.compacted (made (feed_of old)) from to of fit rise
    (answered.fed.one_each ∙ ap (λ its. length (feed_entries its)) parted.feed)
    (answered.fed.answered ∙ ap (λ its. given (fed_one terms) (fed_answers terms) (feed_of old) (feed_entries its) lacks) parted.feed)
    replied
    (subst (λ its. AreCompacted (made (feed_of old)) (made (feed_of new)) (compact_entries its) answers.compacted) parted.compactions answered.compacted)
    longer)
    (answered.fed.after ∙ ap (λ its. after (fed_one terms) (feed_of old) (feed_entries its) lacks) parted.feed)
    (ended.tidied.due ∙ ap (λ its. due_untidied (made (feed_of new)) ended.tidied.untidied (compacted_covers covers its answers.compacted)) parted.compactions)
    (ended.tidied.covers ∙ ap (λ its. map (tidy (made (feed_of new)) ended.tidied.untidied) (compacted_covers covers its answers.compacted)) parted.compactions)
    (ended.says ∙ ap (λ told. merged (shown_by (made (feed_of new)) after_covers) (slots_in parts) answers.fed asked answers.compacted ++ told) ended.tidied.answers
    ∙ (λ i. merged (shown_by (made (feed_of new)) after_covers) (parted.slots i) answers.fed asked answers.compacted ++ tidy_answers (made (feed_of new)) ended.tidied.untidied (compacted_covers covers (parted.compactions i) answers.compacted)))
  where
    terms : Terms
    terms = terms_of catalogue

    s : Standing
    s = record { feed = feed_of old; covers = covers }

    end : Standing
    end = record { feed = feed_of new; covers = after_covers }

    lacks : List Bool
    lacks = answered.fed.lacks

    asked : ℕ → List Answer
    asked = answers_at answers.asked.items

    count : length answers.asked.items ≡ terms.limits.sessions
    count = answered.count ∙ parted.count

    replied : (place : ℕ) → AreReplied terms.schema (feeder_journal new) (made (feed_of old)) (asks_at place items) (asked place)
    replied place = by (under_or_past place terms.limits.sessions)
      where
        by : (place < terms.limits.sessions) ⊎ (terms.limits.sessions ≤ place) → AreReplied terms.schema (feeder_journal new) (made (feed_of old)) (asks_at place items) (asked place)
        by (inl under) = subst (λ asks. AreReplied terms.schema (feeder_journal new) (made (feed_of old)) asks (asked place)) (parted.asks place under) (answered.asked place (omega (arith, under, parted.count)))
        by (inr over) =
            let none : asked place ≡ [] = past answers.asked.items place [] (omega (arith, over, count)) in
            subst (λ asks. AreReplied terms.schema (feeder_journal new) (made (feed_of old)) asks (asked place)) (sym (none_past terms place items fit over))
            (subst (λ list. AreReplied terms.schema (feeder_journal new) (made (feed_of old)) [] list) (sym none) tt)
