-- What a line of a round is.
use Rattle.std.specs.Prelude.{ℕ, Bool, ◌≡◌, nat_lt, nat_le, if◌then◌else◌, List, length, codes, Result, Ok, Err}
use Rattle.uni_base.specs.Fields.{same, fields_of, is_skipped}
use Rattle.feed_reader.specs.declared.line.FeedLine.{FeedLine}
use Rattle.feed_reader.specs.declared.line.FeedLine.TheVariants.{Change, Publish}
use Rattle.feed_reader.specs.declared.fault.LineFault.{LineFault}
use Rattle.feed_reader.specs.Reading.{feed_line_of}
use Rattle.feed_reader.specs.Refusals.{code_of}
use Rattle.script_rounds.specs.declared.item.RoundLine.{RoundLine}
use Rattle.script_rounds.specs.declared.item.RoundLine.TheVariants as lines
use Rattle.script_rounds.specs.Compacts.{compact_entry}
use Rattle.script_rounds.specs.Asks.{first_field, parts_of, ask_entry}
use Rattle.script_rounds.specs.Entries.{Entry, IsItemOf, change, publish, stats, refused, fault}
use Rattle.script_rounds.specs.Terms.{Terms}

-- a line ends its round, is skipped, or counts, as an entry
pub data Role : Type 0 where
  go : Role
  skipped : Role
  counted : Entry → Role

-- a line of the feed: a change, a publish, or 11 or 12
abbrev pub feed_entry : ℕ → Result FeedLine LineFault → Entry
feed_entry number (Ok (Change command)) = change number command
feed_entry number (Ok Publish) = publish number
feed_entry number (Err first) = refused number (code_of first)

-- what a line that counts is by its form: an `ask`, a `compact`, a `stats`, or else a line of the feed
abbrev pub form_entry : Terms → ℕ → List ℕ → Entry
form_entry terms number line =
    let cut = first_field line in
    if same cut.0 (codes "ask") then ask_entry terms number (parts_of cut.1)
    else (if same cut.0 (codes "compact") then compact_entry terms.schema number (fields_of cut.1)
    else (if same line (codes "stats") then stats number
    else feed_entry number (feed_line_of terms.schema line)))

-- a line that counts, where so many of its round did before it: 64 where it is too long, 65 where it is one
-- too many
abbrev pub counted_entry : Terms → ℕ → ℕ → List ℕ → Entry
counted_entry terms number before line =
    if nat_lt terms.limits.line (length line) then fault number 64
    else (if nat_le terms.limits.round before then fault number 65
    else form_entry terms number line)

-- whether a line ends its round
abbrev pub is_go : List ℕ → Bool
is_go line = same line (codes "go")

-- What a line is, by its number in the script and by how many lines of its round counted before it: `go` is
-- its round's end; a line that is empty or begins with # is skipped, and so is each that stands after the
-- first one too many; any other counts.
unfoldable pub role_of : Terms → ℕ → ℕ → List ℕ → Role
role_of terms number before line =
    if is_go line then go
    else (if is_skipped line then skipped
    else (if nat_lt terms.limits.round before then skipped
    else counted (counted_entry terms number before line)))

-- LineIs: the one thing that a line is
abbrev pub LineIs : Terms → ℕ → ℕ → List ℕ → Role → Type 0
LineIs terms number before line role = role_of terms number before line ≡ role

-- what is read off a line is what it is
abbrev pub IsLineOf : Role → RoundLine → Type 0
IsLineOf role lines.Go = role ≡ go
IsLineOf role lines.Skipped = role ≡ skipped
IsLineOf role (lines.Item item) = (entry : Entry) × (role ≡ counted entry) × IsItemOf entry item
