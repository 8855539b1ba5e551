-- What the lines of the feed make, one after the other.
use Rattle.std.specs.Prelude.{ℕ, Bool, false, if◌then◌else◌, nat_lt, ◌+◌, List, [], ◌∷◌, ◌++◌, length, Option, None, Some, is_some}
use Rattle.std.specs.Option.{option_map_or}
use Rattle.uni_table.specs.declared.command.Command.{Command}
use Rattle.uni_table.specs.declared.refusal.FeedRefusal.{FeedRefusal}
use Rattle.uni_table.specs.Commands.{next, refuses}
use Rattle.uni_table.specs.Contents.{Contents, empty, ended}
use Rattle.uni_table.specs.Refusals.{code_of}
use Rattle.reply_text.specs.declared.answer.Answer.{Answer}
use Rattle.reply_text.specs.declared.answer.Answer.TheVariants.{Published, Refused, Memory}
use Rattle.script_rounds.specs.Entries.{Entry, change, publish}
use Rattle.script_rounds.specs.Terms.{Terms}

-- the batches that were published, the batch that is pending, and the table with what is pending
pub record Feed : Type 0 where
  pub journal : List (List Command)
  pub batch : List Command
  pub table : Contents

abbrev pub opening_feed : Feed
opening_feed = record { journal = []; batch = []; table = empty }

-- how many publishes were made
abbrev pub made : Feed → ℕ
made feed = length feed.journal

-- a change joins the batch, or is refused and has no effect
abbrev pub changed : Terms → Feed → Command → Feed
changed terms feed command =
    if is_some (refuses terms.schema terms.limits feed.table command) then feed
    else record { journal = feed.journal; batch = feed.batch ++ command ∷ []; table = next terms.schema feed.table command }

-- A publish makes the pending batch a part of the journal, and the table loses the edges that end at its
-- number. Where the limit of publishes was made it has no effect.
abbrev pub published : Terms → Feed → Feed
published terms feed =
    if nat_lt (made feed) terms.limits.publishes
    then record { journal = feed.journal ++ feed.batch ∷ []; batch = []; table = ended feed.table (made feed + 1) }
    else feed

-- the feed after an entry, for which memory was wanting or not: where it was, the entry has no effect
abbrev pub fed_one : Terms → Feed → Entry → Bool → Feed
fed_one terms feed (change line command) false = changed terms feed command
fed_one terms feed (publish line) false = published terms feed
fed_one terms feed entry marked = feed

-- what refuses a publish: the limit of publishes was made
abbrev pub too_many_publishes : ℕ
too_many_publishes = 51

-- a change that is refused answers its code, and another nothing
abbrev pub refusal_answers : ℕ → Option FeedRefusal → List Answer
refusal_answers line None = []
refusal_answers line (Some refusal) = option_map_or (λ code. Refused line code ∷ []) (code_of refusal) (Memory line ∷ [])

abbrev pub change_answers : Terms → Feed → ℕ → Command → List Answer
change_answers terms feed line command = refusal_answers line (refuses terms.schema terms.limits feed.table command)

-- a publish answers the number of the version that it makes
abbrev pub publish_answers : Terms → Feed → ℕ → List Answer
publish_answers terms feed line =
    if nat_lt (made feed) terms.limits.publishes then Published line (made feed + 1) ∷ [] else Refused line too_many_publishes ∷ []
