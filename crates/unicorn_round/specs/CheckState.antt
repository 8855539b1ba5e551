-- Checking line by line.
use Rattle.std.specs.Prelude.{ℕ, Bool, ◌≡◌, List}
use Rattle.uni_table.specs.Contents.{Contents, empty}
use Rattle.reply_text.specs.declared.answer.Answer.{Answer}
use Rattle.reply_text.specs.Printed.{lines_of_answers}
use Rattle.script_rounds.specs.Entries.{Entry}
use Rattle.script_rounds.specs.Terms.{Terms}
use Rattle.unicorn_round.specs.Answers.{Standing, after_entry, answers, entry_answers, entries_answers, replies}
use Rattle.unicorn_round.specs.Checking.{checked_lines, checked_text}
use Rattle.round_feed.specs.Feeds.{made}
use Rattle.unicorn_round.specs.LineByLine.{EntriesDone, RoundsDone}
use Rattle.unicorn_round.specs.Marks.{Mark}
use Rattle.unicorn_round.specs.Plain.{plain_mark}
use Rattle.unicorn_round.specs.Records.{IsMarked}

-- where a check stands: the table with what is pending, and how many publishes were made
pub record CheckState : Type 0 where
  pub terms : Terms
  pub table : Contents
  pub publishes : ℕ

abbrev pub opening_check : Terms → CheckState
opening_check terms = record { terms = terms; table = empty; publishes = 0 }

-- a check stands for a place in a script
pub record ChecksFor (state : CheckState) (s : Standing) : Type 0 where
  pub table : state.table ≡ s.feed.table
  pub publishes : state.publishes ≡ made s.feed

-- an entry was checked: whatever its round's end is, these are its answers, of those that `check` writes
pub record EntryChecked (terms : Terms) (s : Standing) (entry : Entry) (after : CheckState) (shown : List Answer) : Type 0 where
  pub lacks : Bool
  pub marked : IsMarked entry (plain_mark (made s.feed) entry lacks)
  pub stands : ChecksFor after (after_entry terms s entry (plain_mark (made s.feed) entry lacks))
  pub lines : (end : Standing) → checked_lines terms.schema (entry_answers terms (replies terms.schema) end s.feed entry (plain_mark (made s.feed) entry lacks)) ≡ lines_of_answers terms.schema shown

-- so were entries, one after the other, and a text is that of their lines
pub record EntriesChecked (terms : Terms) (s : Standing) (entries : List Entry) (after : CheckState) (text : List ℕ) : Type 0 where
  pub marks : List Mark
  pub done : EntriesDone ChecksFor terms s entries marks after
  pub writes : (end : Standing) → text ≡ checked_text terms.schema (entries_answers terms (replies terms.schema) end s entries marks)

-- the limits and the schema of its script
abbrev pub check_terms : CheckState → Terms
check_terms state = state.terms

-- so were rounds
abbrev pub RoundsChecked : Terms → List (List Entry) → CheckState → List ℕ → Type 0
RoundsChecked = RoundsDone ChecksFor check_terms checked_text

-- it stands behind rounds, which a text answers
abbrev pub CheckStands : CheckState → List (List Entry) → List ℕ → Type 0
CheckStands state rounds text = RoundsChecked state.terms rounds state text
