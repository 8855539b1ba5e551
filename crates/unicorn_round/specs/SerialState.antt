-- Answering line by line.
use Rattle.std.specs.Prelude.{ℕ, Bool, true, ◌≡◌, List, [], ◌++◌, map}
use Rattle.uni_table.specs.declared.command.Command.{Command}
use Rattle.uni_table.specs.Contents.{Contents, empty}
use Rattle.uni_table.specs.Journals.{after_commands, accepts_commands, fold_of}
use Rattle.reply_text.specs.declared.answer.Answer.{Answer}
use Rattle.reply_text.specs.declared.answer.Answer.TheVariants.{Stats}
use Rattle.reply_text.specs.Printed.{answers_text}
use Rattle.script_rounds.specs.Entries.{Entry}
use Rattle.script_rounds.specs.Terms.{Terms}
use Rattle.unicorn_round.specs.declared.stacks.StackCover.{StackCover}
use Rattle.unicorn_round.specs.Answers.{Standing, after_entry, after_entries, answers, entry_answers, entries_answers, replies}
use Rattle.round_feed.specs.Feeds.{Feed, made}
use Rattle.unicorn_round.specs.LineByLine.{EntriesDone, RoundsDone}
use Rattle.unicorn_round.specs.Marks.{Mark}
use Rattle.unicorn_round.specs.Plain.{plain_mark}
use Rattle.unicorn_round.specs.Records.{IsMarked}
use Rattle.unicorn_round.specs.Stacks.{opening_stacks, rows_of}

-- where an answering line by line stands: the table with what is pending, the pending batch, the table of
-- the last version with its number, and what each stack covers
pub record SerialState : Type 0 where
  pub terms : Terms
  pub pending : Contents
  pub batch : List Command
  pub published : Contents
  pub publishes : ℕ
  pub covers : List StackCover

abbrev pub opening_serial : Terms → SerialState
opening_serial terms = record { terms = terms; pending = empty; batch = []; published = empty; publishes = 0; covers = opening_stacks terms.schema }

-- what is pending is the last version with the pending batch
abbrev pub IsPending : SerialState → Type 0
IsPending serving = serving.pending ≡ after_commands serving.terms.schema serving.published serving.batch

-- the table of a feed is that of its journal with the pending batch, no command of which is refused at its
-- place
pub record IsFeed (terms : Terms) (feed : Feed) : Type 0 where
  pub table : feed.table ≡ after_commands terms.schema (fold_of terms.schema feed.journal) feed.batch
  pub accepted : accepts_commands terms.schema terms.limits (fold_of terms.schema feed.journal) feed.batch ≡ true

-- an answering stands for a place in a script
pub record StandsFor (serving : SerialState) (s : Standing) : Type 0 where
  pub pending : serving.pending ≡ s.feed.table
  pub batch : serving.batch ≡ s.feed.batch
  pub published : serving.published ≡ fold_of serving.terms.schema s.feed.journal
  pub publishes : serving.publishes ≡ made s.feed
  pub covers : serving.covers ≡ s.covers
  pub feed : IsFeed serving.terms s.feed

-- `stats` shows the stacks as they stand after so many publishes; other answers stay
abbrev pub filled_at : ℕ → List StackCover → Answer → Answer
filled_at publishes covers (Stats line before stacks) = Stats line publishes (rows_of publishes covers)
filled_at publishes covers answer = answer

-- so at a round's end
abbrev pub filled : Standing → Answer → Answer
filled end answer = filled_at (made end.feed) end.covers answer

-- a journal goes on from another
abbrev pub IsLater : List (List Command) → List (List Command) → Type 0
IsLater before after = (more : List (List Command)) × (after ≡ before ++ more)

-- an entry was answered, at the publishes that were made before it or as one for which memory was wanting;
-- whatever the round's end is, its answers are those of the entry
pub record Answered (terms : Terms) (s : Standing) (entry : Entry) (after : SerialState) (drafts : List Answer) : Type 0 where
  pub lacks : Bool
  pub marked : IsMarked entry (plain_mark (made s.feed) entry lacks)
  pub stands : StandsFor after (after_entry terms s entry (plain_mark (made s.feed) entry lacks))
  pub answers : (end : Standing) → IsLater s.feed.journal end.feed.journal
      → map (filled end) drafts ≡ entry_answers terms (replies terms.schema) end s.feed entry (plain_mark (made s.feed) entry lacks)

-- so were entries, one after the other
pub record AllAnswered (terms : Terms) (s : Standing) (entries : List Entry) (after : SerialState) (drafts : List Answer) : Type 0 where
  pub marks : List Mark
  pub done : EntriesDone StandsFor terms s entries marks after
  pub answers : (end : Standing) → IsLater (after_entries terms s entries marks).feed.journal end.feed.journal
      → map (filled end) drafts ≡ entries_answers terms (replies terms.schema) end s entries marks

-- the limits and the schema of its script
abbrev pub serial_terms : SerialState → Terms
serial_terms serving = serving.terms

-- rounds were answered line by line, and a text is that of their answers
abbrev pub RoundsAnswered : Terms → List (List Entry) → SerialState → List ℕ → Type 0
RoundsAnswered = RoundsDone StandsFor serial_terms answers_text

-- it stands behind rounds, which a text answers
abbrev pub SerialStands : SerialState → List (List Entry) → List ℕ → Type 0
SerialStands serving rounds text = RoundsAnswered serving.terms rounds serving text
