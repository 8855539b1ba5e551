-- The answers of a script's rounds.
use Rattle.std.specs.Prelude.{ℕ, List, [], ◌∷◌, ◌++◌, map}
use Rattle.uni_schema.specs.Schema.{Declarations}
use Rattle.uni_table.specs.declared.command.Command.{Command}
use Rattle.uni_table.specs.Journals.{fold_of, first}
use Rattle.query_check.specs.Plan.{Plan}
use Rattle.uni_meaning.specs.Replies.{reply_of}
use Rattle.reply_text.specs.declared.answer.Answer.{Answer}
use Rattle.reply_text.specs.declared.answer.Answer.TheVariants.{Reply, Compacted, Stats, Refused, Fault, QueryFault, Memory}
use Rattle.script_rounds.specs.Entries.{Entry, change, publish, ask, compact, stats, refused, fault, query_fault, line_of}
use Rattle.script_rounds.specs.Terms.{Terms}
use Rattle.unicorn_round.specs.declared.stacks.StackCover.{StackCover}
use Rattle.round_feed.specs.Feeds.{Feed, opening_feed, made, fed_one, change_answers, publish_answers}
use Rattle.unicorn_round.specs.Marks.{Mark, plain, lacking, at, lacks, RoundRecord, Record}
use Rattle.round_feed.specs.Steps.{after, given}
use Rattle.unicorn_round.specs.Stacks.{opening_stacks, covering, tidy, tidy_answers, rows_of}

-- where a script stands between two of its lines: what its feed has made, and what each stack covers
pub record Standing : Type 0 where
  pub feed : Feed
  pub covers : List StackCover

abbrev pub opening_standing : Terms → Standing
opening_standing terms = record { feed = opening_feed; covers = opening_stacks terms.schema }

-- the stacks after an entry: a `compact` that is answered at a number covers so many publishes
abbrev pub covers_after : List StackCover → Entry → Mark → List StackCover
covers_after covers (compact line vertical shard replica) (at number) = covering vertical shard replica number covers
covers_after covers entry mark = covers

abbrev pub after_entry : Terms → Standing → Entry → Mark → Standing
after_entry terms s entry mark = record { feed = fed_one terms s.feed entry (lacks mark); covers = covers_after s.covers entry mark }

-- after the entries of a round, with their marks
abbrev pub after_entries : Terms → Standing → List Entry → List Mark → Standing
after_entries terms s entries marks = after (after_entry terms) s entries marks

-- at a round's end, where the stacks that are due were tidied
abbrev pub at_end : RoundRecord → Standing → Standing
at_end told s = record s { covers = map (tidy (made s.feed) told.untidied) s.covers }

abbrev pub after_round : Terms → Standing → List Entry → RoundRecord → Standing
after_round terms s entries told = at_end told (after_entries terms s entries told.marks)

-- after rounds
abbrev pub after_rounds : Terms → Standing → List (List Entry) → Record → Standing
after_rounds terms s rounds told = after (after_round terms) s rounds told

-- what an `ask` is answered under a journal: its line, viewer, limit and query, at a number of publishes
abbrev pub Asking : Type 0
Asking = List (List Command) → ℕ → ℕ → ℕ → Plan → ℕ → List Answer

-- the reply to a query over the table after the first batches of the journal, as many as the number says
abbrev pub replies : Declarations → Asking
replies schema journal line viewer limit query number =
    Reply line (reply_of schema (fold_of schema (first journal number)) number query viewer limit) ∷ []

-- The answers of one entry, where the feed stands so before it and the script so at its round's end. Where
-- memory was wanting for it, that is all its answer. An `ask` is answered under the journal at the round's
-- end, and `stats` shows the stacks there.
abbrev pub entry_answers : Terms → Asking → Standing → Feed → Entry → Mark → List Answer
entry_answers terms asking end feed entry lacking = Memory (line_of entry) ∷ []
entry_answers terms asking end feed (change line command) mark = change_answers terms feed line command
entry_answers terms asking end feed (publish line) mark = publish_answers terms feed line
entry_answers terms asking end feed (ask line session viewer limit query) (at number) = asking end.feed.journal line viewer limit query number
entry_answers terms asking end feed (ask line session viewer limit query) plain = []
entry_answers terms asking end feed (compact line vertical shard replica) (at number) = Compacted line number ∷ []
entry_answers terms asking end feed (compact line vertical shard replica) plain = []
entry_answers terms asking end feed (stats line) mark = Stats line (made end.feed) (rows_of (made end.feed) end.covers) ∷ []
entry_answers terms asking end feed (refused line code) mark = Refused line code ∷ []
entry_answers terms asking end feed (fault line code) mark = Fault line code ∷ []
entry_answers terms asking end feed (query_fault line code column) mark = QueryFault line code column ∷ []

-- the answers of a round's entries, in the order of their lines
abbrev pub entries_answers : Terms → Asking → Standing → Standing → List Entry → List Mark → List Answer
entries_answers terms asking end s entries marks = given (after_entry terms) (λ now. entry_answers terms asking end now.feed) s entries marks

-- the answers of a round: those of its entries, and then one for each stack that is due
abbrev pub round_answers : Terms → Asking → Standing → List Entry → RoundRecord → List Answer
round_answers terms asking s entries told =
    let last = after_entries terms s entries told.marks in
    entries_answers terms asking (at_end told last) s entries told.marks ++ tidy_answers (made last.feed) told.untidied last.covers

-- the answers of rounds
abbrev pub rounds_answers : Terms → Asking → Standing → List (List Entry) → Record → List Answer
rounds_answers terms asking s rounds told = given (after_round terms) (round_answers terms asking) s rounds told

-- Answers: those of a script's rounds, for a record of them
abbrev pub answers : Terms → List (List Entry) → Record → List Answer
answers terms rounds told = rounds_answers terms (replies terms.schema) (opening_standing terms) rounds told
