-- What a feeder answers to the lines of a round.
use Rattle.std.specs.Prelude.{Bool, true, false, ◌≡◌, List, [], ◌∷◌, length, Option, None, Some}
use Rattle.std.specs.List.{filter_map}
use Rattle.reply_text.specs.declared.answer.Answer.{Answer}
use Rattle.reply_text.specs.declared.answer.Answer.TheVariants.{Memory}
use Rattle.script_rounds.specs.Entries.{Entry, change, publish, line_of}
use Rattle.script_rounds.specs.Terms.{Terms}
use Rattle.script_rounds.specs.declared.item.Item.{Item}
use Rattle.script_rounds.specs.declared.item.Item.TheVariants.{Change, Publish}
use Rattle.round_feed.specs.Feeds.{Feed, fed_one, change_answers, publish_answers}
use Rattle.round_feed.specs.Steps.{after, given}

-- the entry of a line of the feed
abbrev pub feed_entry : Item → Option Entry
feed_entry (Change line command) = Some (change line command)
feed_entry (Publish line) = Some (publish line)
feed_entry item = None

-- those among some lines, in order
abbrev pub feed_entries : List Item → List Entry
feed_entries items = filter_map feed_entry items

-- the answers of an entry of the feed, for which memory was wanting or not: where it was, that is its answer
abbrev pub fed_answers : Terms → Feed → Entry → Bool → List Answer
fed_answers terms feed entry true = Memory (line_of entry) ∷ []
fed_answers terms feed (change line command) false = change_answers terms feed line command
fed_answers terms feed (publish line) false = publish_answers terms feed line
fed_answers terms feed entry false = []

-- the lines of the feed were taken in order, for some of which memory was wanting, and these are their answers
pub record IsFed (terms : Terms) (old : Feed) (items : List Item) (answers : List Answer) (new : Feed) : Type 0 where
  pub lacks : List Bool
  pub one_each : length lacks ≡ length (feed_entries items)
  pub answered : answers ≡ given (fed_one terms) (fed_answers terms) old (feed_entries items) lacks
  pub after : new ≡ after (fed_one terms) old (feed_entries items) lacks
