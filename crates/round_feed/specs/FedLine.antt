-- What a feeder answers to one line of a round.
use Rattle.std.specs.Prelude.{Bool, true, false, ◌≡◌, Option, None, Some, option_to_list}
use Rattle.reply_text.specs.declared.answer.Answer.{Answer}
use Rattle.reply_text.specs.declared.answer.Answer.TheVariants.{Memory}
use Rattle.script_rounds.specs.Entries.{Entry}
use Rattle.script_rounds.specs.Terms.{Terms, under}
use Rattle.version_catalog.specs.Seats.{feeder_table}
use Rattle.version_catalog.specs.declared.feeder.Feeder.{Feeder}
use Rattle.round_feed.specs.Fed.{fed_answers}
use Rattle.round_feed.specs.Feeds.{Feed, fed_one}

-- the limits and the schema of a feeder's table
abbrev pub feeder_terms : Feeder → Terms
feeder_terms feeder = under (feeder_table feeder).limits (feeder_table feeder).schema

-- whether memory was wanting for a line, by its answer
abbrev pub mark_of : Option Answer → Bool
mark_of (Some (Memory line)) = true
mark_of answer = false

-- The line of an entry was taken, with this answer. One that is no line of the feed answers nothing, and has
-- no effect.
abbrev pub IsFedLine : Terms → Feed → Option Entry → Option Answer → Feed → Type 0
IsFedLine terms old None answer new = (answer ≡ None) × (new ≡ old)
IsFedLine terms old (Some entry) answer new =
    (option_to_list answer ≡ fed_answers terms old entry (mark_of answer)) × (new ≡ fed_one terms old entry (mark_of answer))
