-- How a round ends whose lines were worked on.
use Rattle.std.proofs.Common.{◌≡◌, ◌++◌, ◌+◌, ◌≤◌, ℕ, Bool, List, filter, length, sym, ap, ◌∙◌, subst, arith}
use mathlib.Core.List.{IsPrefix}
use Rattle.uni_schema.specs.Schema.{Declarations}
use Rattle.reply_text.specs.declared.answer.Answer.{Answer}
use Rattle.turn_lock.proofs.Prefixes.{prefix_trans}
use Rattle.version_catalog.specs.Seats.{compactor_journal, feeder_journal}
use Rattle.version_catalog.specs.declared.catalogue.Catalogue.{Catalogue}
use Rattle.version_catalog.specs.declared.compactor.Compactor.{Compactor}
use Rattle.version_catalog.specs.declared.feeder.Feeder.{Feeder}
use Rattle.version_catalog.specs.declared.install.Install.{Install}
use Rattle.session_asks.proofs.Replied.{length_prefix}
use Rattle.round_feed.specs.Feeds.{Feed}
use Rattle.round_feed.specs.Seats.{HasCompacted, feed_of}
use Rattle.unicorn_round.specs.declared.parts.Parts.{Parts}
use Rattle.unicorn_round.specs.declared.round.RoundAnswers.{RoundAnswers}
use Rattle.unicorn_round.specs.declared.stacks.StackCover.{StackCover}
use Rattle.unicorn_round.specs.Ending.{IsEnded, IsTidied}
use Rattle.unicorn_round.specs.Parted.{slots_in}
use Rattle.unicorn_round.specs.Queues.{answers_at, shown_by}
use Rattle.unicorn_round.specs.SchemaStacks.{AreStacks}
use Rattle.unicorn_round.specs.Told.{HasTidied, stacks_told}
use Rattle.unicorn_round.specs.Weaving.{merged}
use Rattle.unicorn_round.proofs.StackLists.{chosen_are}

-- those of some stacks that pass a test
pub due_are : (schema : Declarations) (mid : List StackCover) → AreStacks schema mid → (p : StackCover → Bool) (due list : List StackCover) → list ≡ due → due ≡ filter p mid → AreStacks schema list
due_are schema mid are p due list same chosen = subst (AreStacks schema) (sym (same ∙ chosen)) (chosen_are schema p mid are)

-- a compactor that was told of all publishes before its turns, and has seen no others after them
pub seen_alike : (old told : Feeder) (first last : Compactor) (made : ℕ) → IsPrefix (feeder_journal old) (compactor_journal first) → IsPrefix (compactor_journal first) (compactor_journal last) → IsPrefix (compactor_journal last) (feeder_journal told)
    → feed_of told ≡ feed_of old → made ≡ length (feeder_journal told) → (length (compactor_journal first) ≡ made) × (length (compactor_journal last) ≡ made)
seen_alike old told first last made before between after same count =
    let one = length_prefix (feeder_journal old) (compactor_journal first) before in
    let two = length_prefix (compactor_journal first) (compactor_journal last) between in
    let three = length_prefix (compactor_journal last) (feeder_journal told) after in
    let spoke : length (feeder_journal told) ≡ length (feeder_journal old) = ap (λ (f : Feed). length f.journal) same in
    (omega (arith, one, two, three, spoke, count), omega (arith, one, two, three, spoke, count))

-- a round's answers where its stacks were tidied, as installs tell them that are the same before that and after
pub is_ended : (schema : Declarations) (made number : ℕ) (begun before after end : List Install) (stacks : List StackCover) (told : List Answer) (parts : Parts) (answers : RoundAnswers) (said : List Answer)
    → made ≡ number → begun ≡ before → after ≡ end → HasTidied schema made begun after stacks told
    → said ≡ merged (shown_by made stacks) (slots_in parts) answers.fed (answers_at answers.asked.items) answers.compacted ++ told
    → IsEnded number (stacks_told schema before) (stacks_told schema end) parts answers said
is_ended schema made number begun before after end stacks told parts answers said counted first last tidied says =
    let now : stacks ≡ stacks_told schema end = tidied.stacks ∙ ap (stacks_told schema) last in
    let done : IsTidied number (stacks_told schema before) (stacks_told schema end) told =
    subst (λ n. IsTidied n (stacks_told schema before) (stacks_told schema end) told) counted
    (subst (λ old. IsTidied made old (stacks_told schema end) told) (ap (stacks_told schema) first) (subst (λ new. IsTidied made (stacks_told schema begun) new told) now tidied.tidied)) in
    record {
      told = told;
      tidied = done;
      says = says ∙ (λ i. merged (shown_by (counted i) (now i)) (slots_in parts) answers.fed (answers_at answers.asked.items) answers.compacted ++ told);
    }

-- a compactor that took some turns and then some more
pub turned_through : (catalogue : Catalogue) (a b most : ℕ) (x y z : Compactor) → HasCompacted catalogue a x y → HasCompacted catalogue b y z → a + b ≤ most → HasCompacted catalogue most x z
turned_through catalogue a b most x y z first next fits = record { of = next.of; few = omega (arith, first.few, next.few, fits); later = prefix_trans (compactor_journal x) (compactor_journal y) (compactor_journal z) first.later next.later }
